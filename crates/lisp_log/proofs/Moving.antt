-- A router that is heard is where it was heard, and each other one where it was.
use Rattle.std.proofs.Common.{◌≡◌, ◌≢◌, ℕ, Bool, true, false, Some, None, Result, Ok, Err, refl, sym, ap, ◌∙◌, inl, inr}
use Rattle.std.specs.Prelude.{OnOk, OnErr}
use Rattle.std.specs.BTreeMap.{BTreeMap, get, is_at, IsUnchanged, Updates}
use Rattle.std.specs.Cmp.{Equal-is}
use Rattle.lisp_lookup.proofs.Orders.{same_router}
use Rattle.lisp_records.specs.declared.address.Addr.{Addr}
use Rattle.lisp_records.specs.declared.router.RouterId.{RouterId}
use Rattle.lisp_records.specs.Router.{router_cmp}
use Rattle.lisp_log.specs.Moves.{Hears, heard_from}
use Rattle.lisp_log.specs.declared.moves.Whereabouts.{Whereabouts}

-- another router isn't found by this one
not_at : (router other : RouterId) → other ≢ router → is_at (router_cmp router) other ≡ false
not_at router other apart = by (is_at (router_cmp router) other) refl
  where
    by : (b : Bool) → is_at (router_cmp router) other ≡ b → b ≡ false
    by true its = absurd (apart (sym (same_router router other ((Equal-is (router_cmp router other)).0 its))))
    by false its = refl

pub heard : {X E : Type 0} (result : Result X E) (may_refuse : Type 0) (old new : BTreeMap RouterId Whereabouts) (router : RouterId) (from : Addr) (now : ℕ) (at : Whereabouts)
    → at ≡ heard_from (get router_cmp old router) from now
    → OnOk result (Updates router_cmp old new router (Some at)) → OnErr result (get router_cmp old router ≡ None) → OnErr result (IsUnchanged old new) → OnErr result may_refuse
    → Hears may_refuse old.entries new.entries router from now
heard (Ok x) may_refuse old new router from now at is updates absent same refused =
    inl (record { here = updates.1 ∙ ap Some is; others = λ other apart. updates.2 other (not_at router other apart) })
heard (Err e) may_refuse old new router from now at is updates absent same refused = inr (refused, absent, same)
