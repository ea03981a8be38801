-- Legal steps of a Map-Server that takes other sites while it runs (RFC 9301 section 8.2).
use Rattle.std.specs.Prelude.{◌≡◌, ℕ, Bool, List, length}
use Rattle.lisp_policy.specs.Site.{SiteValue}
use Rattle.lisp_policy.specs.Extends.{extends}
use Rattle.lisp_model.specs.Context.{Context, its_sites, IsAtServer, Same}

-- it keeps what it holds where the new sites have all that its own had; else it starts anew. Its store isn't used
pub record IsReloaded (t : Context) (server : ℕ) (new : List SiteValue) (kept : Bool) (named count : ℕ) : Type 0 where
  pub acts : IsAtServer t server
  pub names : named ≡ server
  pub counts : count ≡ length new
  pub keeps : extends (its_sites t) new ≡ kept
  pub same : Same t
