-- What sites let in that have all that others have.
use Rattle.std.specs.Prelude.{◌≡◌, ℕ, true, List, Ok}
use Rattle.lisp_records.specs.declared.address.Addr.{Addr}
use Rattle.lisp_messages.specs.Message.{MapRegisterValue}
use Rattle.lisp_policy.specs.Site.{SiteValue}
use Rattle.lisp_policy.specs.Extends.{extends}
use Rattle.lisp_admission.specs.Checks.{secret_under}

-- a Map-Register that passes all checks under the old ones passes them under the new ones, with the same secret
abbrev pub MoreSitesAdmitMore : Type 0
MoreSitesAdmitMore = (old new : List SiteValue) → extends old new ≡ true
    → (from : Addr) (bytes : List ℕ) (m : MapRegisterValue) (secret : List ℕ)
    → secret_under old from bytes m ≡ Ok secret → secret_under new from bytes m ≡ Ok secret
