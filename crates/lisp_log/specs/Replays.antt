-- Map-Registers that are refused as replays, in runs of one source address: a run that is three minutes
-- long is told, and at most once in ten.
use Rattle.std.specs.Prelude.{◌≡◌, ◌⊎◌, ℕ, ◌+◌, ◌-◌, ◌^◌, ◌<◌, ◌≤◌, min, max, nat_le, nat_lt, Bool, true, not, ◌&&◌}
use Rattle.std.specs.Prelude.{List, ◌∷◌, [], ◌++◌, length, filter, slice_get, slice_set, Some}
use Rattle.std.specs.List.{All, Contains}
use Rattle.lisp_records.specs.declared.address.Addr.{Addr}
use Rattle.lisp_records.specs.Address.{addr_eq}
use Rattle.lisp_log.specs.declared.replays.Replay.{Replay}
use Rattle.lisp_log.specs.Silences.{patience, again}

-- how many runs there are at most
abbrev pub most_runs : ℕ
most_runs = 64

-- an address has a run
abbrev pub HasRun : List Replay → Addr → Type 0
HasRun runs from = (r : Replay) × Contains runs r × (r.from ≡ from)

abbrev pub HasRunAt : List Replay → Addr → ℕ → Type 0
HasRunAt runs from place = (r : Replay) × (slice_get runs place ≡ Some r) × (r.from ≡ from)

-- a run of one; and a run with one more, which was refused at a moment since this nonce is saved
abbrev pub first_of : Addr → ℕ → ℕ → Replay
first_of from saved now = record { from = from; since = now; at = now; times = 1; saved = saved; next_line = 0 }

abbrev pub one_more : ℕ → ℕ → Replay → Replay
one_more saved now r = record r { at = now; times = min (r.times + 1) (2 ^ 64 - 1); saved = max r.saved saved }

-- a Map-Register from an address is refused as a replay: its run has one more; or one begins, where
-- there is room
abbrev pub GoesOn : List Replay → List Replay → Addr → ℕ → ℕ → Type 0
GoesOn old new from saved now = (place : ℕ) × (r : Replay) × (slice_get old place ≡ Some r) × (r.from ≡ from)
    × (new ≡ slice_set old place (one_more saved now r))

abbrev pub Begins : List Replay → List Replay → Addr → ℕ → ℕ → Type 0
Begins old new from saved now = ((length old < most_runs) × (new ≡ old ++ first_of from saved now ∷ []))
    ⊎ ((most_runs ≤ length old) × (new ≡ old))

abbrev pub Replayed : List Replay → List Replay → Addr → ℕ → ℕ → Type 0
Replayed old new from saved now = GoesOn old new from saved now
    ⊎ ((HasRun old from → ⊥) × Begins old new from saved now)

-- one from an address is accepted: the address has no run any more
abbrev pub without : Addr → List Replay → List Replay
without from runs = filter (λ r. not (addr_eq r.from from)) runs

-- a run ends of which none was refused for three minutes
abbrev pub goes_on : ℕ → Replay → Bool
goes_on now r = nat_lt (now - r.at) patience

abbrev pub ongoing : ℕ → List Replay → List Replay
ongoing now runs = filter (goes_on now) runs

-- it is three minutes long; and goes on
abbrev pub is_long : Replay → Bool
is_long r = nat_le patience (r.at - r.since)

abbrev pub lasts : ℕ → Replay → Bool
lasts now r = is_long r && goes_on now r

-- it is three minutes long, and ten are over since it was told
abbrev pub IsDue : ℕ → Replay → Type 0
IsDue now r = (is_long r ≡ true) × (r.next_line ≤ now)

abbrev pub NoneDue : List Replay → ℕ → Type 0
NoneDue runs now = All (λ r. IsDue now r → ⊥) runs

-- one is told, as it is
pub record TellsReplay (old new : List Replay) (now : ℕ) (told : Replay) : Type 0 where
  pub place : ℕ
  pub there : slice_get old place ≡ Some told
  pub due : IsDue now told
  pub left : new ≡ slice_set old place (record told { next_line = now + again })
