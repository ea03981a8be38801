-- The keys of a router: which it used, and which it may go over to.
use Rattle.std.specs.Prelude.{◌≢◌, ◌==◌, ℕ, List, [], ◌∷◌, ◌++◌, None, if◌then◌else◌}
use Rattle.std.specs.List.{Contains}
use Rattle.lisp_policy.specs.Configuration.{ConfigValue}
use Rattle.lisp_admission.specs.Checks.{secret_at as known_secret}
use Rattle.lisp_model.specs.declared.event.Event.TheVariants as events
use Rattle.lisp_model.specs.declared.line.Line.TheVariants as lines
use Rattle.lisp_model.specs.Trace.{EventValue, Step, Opening, router_at, Line}

-- the keys that a router was started under or went over to since its store was lost last, the last one first; a start
-- that was refused counts
abbrev pub keys_since_loss_after : EventValue → Line → ℕ → List ℕ → List ℕ
keys_since_loss_after (events.Rotate router key _) (lines.Rotated _ _) r old = if router == r then key ∷ old else old
keys_since_loss_after (events.Lose router key _) _ r old = if router == r then key ∷ [] else old
keys_since_loss_after _ _ r old = old

abbrev pub keys_since_loss : Opening → List Step → ℕ → List ℕ
keys_since_loss o [] r = (router_at o.config r).key_id ∷ []
keys_since_loss o (s ∷ T) r = keys_since_loss_after s.event s.line r (keys_since_loss o T r)

-- and those before that
abbrev pub keys_before_loss_after : EventValue → ℕ → List ℕ → List ℕ → List ℕ
keys_before_loss_after (events.Lose router key _) r since old = if router == r then since ++ old else old
keys_before_loss_after _ r since old = old

abbrev pub keys_before_loss : Opening → List Step → ℕ → List ℕ
keys_before_loss o [] r = []
keys_before_loss o (s ∷ T) r = keys_before_loss_after s.event r (keys_since_loss o T r) (keys_before_loss o T r)

-- all of them
abbrev pub used_keys : Opening → List Step → ℕ → List ℕ
used_keys o T r = keys_since_loss o T r ++ keys_before_loss o T r

-- the router's site has the key
abbrev pub KnowsKey : ConfigValue → ℕ → ℕ → Type 0
KnowsKey c router key = known_secret c.sites (router_at c router).me.site key ≢ None

-- a router may go over to a key of its site that it didn't use before its store was lost last
pub record MayRotate (o : Opening) (T : List Step) (router key : ℕ) : Type 0 where
  pub known : KnowsKey o.config router key
  pub unused : Contains (keys_before_loss o T router) key → ⊥

-- once its store is lost, it may start under a key of its site that it never used
pub record MayStartUnder (o : Opening) (T : List Step) (router key : ℕ) : Type 0 where
  pub known : KnowsKey o.config router key
  pub unused : Contains (used_keys o T router) key → ⊥
