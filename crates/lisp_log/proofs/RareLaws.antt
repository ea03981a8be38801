-- A move of a router is told a minute after the last one that was.
use Rattle.std.proofs.Common.{◌≡◌, ◌≢◌, ℕ, ◌+◌, ◌-◌, ◌≤◌, ◌&&◌, not, Bool, true, false, List, [], ◌∷◌, Option, Some, None, refl, sym, ap, subst, ◌∙◌, inl, inr, true≢false, arith}
use Rattle.std.specs.Prelude.{IsTrue, if◌then◌else◌}
use Rattle.std.specs.List.{AllByRecursion}
use Rattle.std.specs.Option.{is_some}
use Rattle.std.proofs.lemmas.Bool.{and_parts, leb-true}
use Rattle.lisp_records.specs.declared.address.Addr.{Addr}
use Rattle.lisp_records.specs.declared.router.RouterId.{RouterId}
use Rattle.lisp_records.specs.Address.{addr_eq}
use Rattle.lisp_records.specs.Router.{router_eq}
use Rattle.lisp_records.proofs.RouterLaws.{router_eq-Decides}
use Rattle.lisp_log.specs.Moves.{Hears, heard_from, may_tell, minute, moved_from, told_of, where_is}
use Rattle.lisp_log.specs.Rare.{AreFar, Hearing, IsFar, Leaves, MovedIsRare}
use Rattle.lisp_log.specs.declared.moves.Whereabouts.{Whereabouts}

-- a moment isn't after the one that is noted
abbrev NotAfter : ℕ → Option ℕ → Type 0
NotAfter at (Some last) = at ≤ last
NotAfter at None = ⊥

-- a hearing that was told isn't after the one that is noted of its router
abbrev IsNoted : List (RouterId × Whereabouts) → Hearing → Type 0
IsNoted moves e = IsTrue e.told → NotAfter e.at (told_of (where_is moves e.router))

-- a router that is heard again keeps that
again : (last : Option Whereabouts) (from : Addr) (now at : ℕ) → at ≤ now → NotAfter at (told_of last) → NotAfter at (heard_from last from now).told
again last from now at le was = by (is_some (moved_from last from now))
  where
    by : (b : Bool) → NotAfter at (if b then Some now else told_of last)
    by true = le
    by false = was

module _ (may_refuse : Type 0) (before moves : List (RouterId × Whereabouts)) (h : Hearing) (hears : Hears may_refuse before moves h.router h.from h.at) where
  -- so is each that was noted before
  still_noted : (e : Hearing) → e.at ≤ h.at → IsNoted before e → IsNoted moves e
  still_noted e le was told = by hears
    where
      same : e.router ≡ h.router → where_is moves h.router ≡ Some (heard_from (where_is before h.router) h.from h.at) → NotAfter e.at (told_of (where_is moves e.router))
      same own here =
          let old : NotAfter e.at (told_of (where_is before h.router)) = subst (λ (r : RouterId). NotAfter e.at (told_of (where_is before r))) own (was told) in
          subst (λ (w : Option Whereabouts). NotAfter e.at (told_of w)) (sym (ap (where_is moves) own ∙ here)) (again (where_is before h.router) h.from h.at e.at le old)

      by : Hears may_refuse before moves h.router h.from h.at → NotAfter e.at (told_of (where_is moves e.router))
      by (inl sets) = choose (router_eq e.router h.router) refl
        where
          choose : (b : Bool) → router_eq e.router h.router ≡ b → NotAfter e.at (told_of (where_is moves e.router))
          choose true is = same ((router_eq-Decides e.router h.router).0 is) sets.here
          choose false is =
              let apart : e.router ≢ h.router = λ own. true≢false (sym ((router_eq-Decides e.router h.router).1 own) ∙ is) in
              subst (λ (w : Option Whereabouts). NotAfter e.at (told_of w)) (sym (sets.others e.router apart)) (was told)
      by (inr refused) = subst (λ (m : List (RouterId × Whereabouts)). NotAfter e.at (told_of (where_is m e.router))) (sym refused.2) (was told)

  all_noted : (earlier : List Hearing) → AllByRecursion (λ e. e.at ≤ h.at) earlier → AllByRecursion (IsNoted before) earlier → AllByRecursion (IsNoted moves) earlier
  all_noted [] le was = tt
  all_noted (e ∷ earlier) le was = (still_noted e le.0 was.0, all_noted earlier le.1 was.1)

  module _ (told_is : h.told ≡ is_some (moved_from (where_is before h.router) h.from h.at)) where
    -- and the newest one
    now_noted : IsNoted moves h
    now_noted told = by hears
      where
        moment : (b : Bool) → b ≡ true → NotAfter h.at (if b then Some h.at else told_of (where_is before h.router))
        moment true is = omega arith
        moment false is = absurd (true≢false (sym is))

        by : Hears may_refuse before moves h.router h.from h.at → NotAfter h.at (told_of (where_is moves h.router))
        by (inl sets) = subst (λ (w : Option Whereabouts). NotAfter h.at (told_of w)) (sym sets.here) (moment (is_some (moved_from (where_is before h.router) h.from h.at)) (sym told_is ∙ told))
        by (inr refused) = absurd (true≢false (sym told ∙ told_is ∙ ap (λ (w : Option Whereabouts). is_some (moved_from w h.from h.at)) refused.1))

    -- what was told before is a minute old
    minute_old : (last : Option Whereabouts) (at : ℕ) → is_some (moved_from last h.from h.at) ≡ true → NotAfter at (told_of last) → at + minute ≤ h.at
    minute_old None at moved was = absurd was
    minute_old (Some w) at moved was = by (not (addr_eq w.from h.from) && may_tell w.told h.at) refl
      where
        since : (told : Option ℕ) → may_tell told h.at ≡ true → NotAfter at told → at + minute ≤ h.at
        since None may noted = absurd noted
        since (Some last) may noted = omega (arith, noted, leb-true minute (h.at - last) may)

        by : (b : Bool) → (not (addr_eq w.from h.from) && may_tell w.told h.at) ≡ b → at + minute ≤ h.at
        by true is = since w.told (and_parts (not (addr_eq w.from h.from)) (may_tell w.told h.at) is).1 was
        by false is = absurd (true≢false (sym moved ∙ ap (λ (b : Bool). is_some (if b then Some w.from else None)) is))

    is_far : (e : Hearing) → IsNoted before e → IsFar h e
    is_far e noted now told own =
        minute_old (where_is before h.router) e.at (sym told_is ∙ now) (subst (λ (r : RouterId). NotAfter e.at (told_of (where_is before r))) own (noted told))

    all_far : (earlier : List Hearing) → AllByRecursion (IsNoted before) earlier → AllByRecursion (IsFar h) earlier
    all_far [] noted = tt
    all_far (e ∷ earlier) noted = (is_far e noted.0, all_far earlier noted.1)

both : (may_refuse : Type 0) (hearings : List Hearing) (moves : List (RouterId × Whereabouts)) → Leaves may_refuse hearings moves → AllByRecursion (IsNoted moves) hearings × AreFar hearings
both may_refuse [] moves leaves = (tt, tt)
both may_refuse (h ∷ earlier) moves (before, left, le, hears, told) =
    let so_far = both may_refuse earlier before left in (
      (now_noted may_refuse before moves h hears told, all_noted may_refuse before moves h hears earlier le so_far.0),
      (all_far may_refuse before moves h hears told earlier so_far.0, so_far.1),
    )

pub moved_is_rare : (may_refuse : Type 0) → MovedIsRare may_refuse
moved_is_rare may_refuse hearings moves leaves = (both may_refuse hearings moves leaves).1
