-- How often a move of a router is told.
use Rattle.std.specs.Prelude.{◌≡◌, ℕ, ◌+◌, ◌≤◌, Bool, IsTrue, List, [], ◌∷◌}
use Rattle.std.specs.List.{AllByRecursion}
use Rattle.std.specs.Option.{is_some}
use Rattle.lisp_records.specs.declared.address.Addr.{Addr}
use Rattle.lisp_records.specs.declared.router.RouterId.{RouterId}
use Rattle.lisp_log.specs.Moves.{Hears, minute, moved_from, where_is}
use Rattle.lisp_log.specs.declared.moves.Whereabouts.{Whereabouts}

-- a router is heard from an address at a moment, and whether it is told that it moved
pub record Hearing : Type 0 where
  pub router : RouterId
  pub from : Addr
  pub at : ℕ
  pub told : Bool

-- hearings, the newest first, leave the routers here; none is before an earlier one
abbrev pub Leaves : Type 0 → List Hearing → List (RouterId × Whereabouts) → Type 0
Leaves may_refuse [] moves = moves ≡ []
Leaves may_refuse (h ∷ earlier) moves = (before : List (RouterId × Whereabouts)) × Leaves may_refuse earlier before × AllByRecursion (λ e. e.at ≤ h.at) earlier
    × Hears may_refuse before moves h.router h.from h.at × (h.told ≡ is_some (moved_from (where_is before h.router) h.from h.at))

-- where a move is told, each earlier one of the same router that was told is a minute old
abbrev pub IsFar : Hearing → Hearing → Type 0
IsFar h e = IsTrue h.told → IsTrue e.told → e.router ≡ h.router → e.at + minute ≤ h.at

abbrev pub AreFar : List Hearing → Type 0
AreFar [] = Unit {0}
AreFar (h ∷ earlier) = AllByRecursion (IsFar h) earlier × AreFar earlier

abbrev pub MovedIsRare : Type 0 → Type 0
MovedIsRare may_refuse = (hearings : List Hearing) (moves : List (RouterId × Whereabouts)) → Leaves may_refuse hearings moves → AreFar hearings
