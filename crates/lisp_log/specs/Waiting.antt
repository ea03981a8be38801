-- Lines that wait until they can be written, and how many events aren't told since their lines were dropped.
use Rattle.std.specs.Prelude.{◌≡◌, ◌⊎◌, ℕ, ◌+◌, ◌-◌, ◌^◌, ◌≤◌, ◌==◌, ◌&&◌, min, nat_le, List, [], ◌∷◌, ◌++◌, length, take, codes, Option, if◌then◌else◌}
use Rattle.std.specs.Option.{option_map}
use Rattle.std.specs.Fmt.{decimal}

pub record WaitingState : Type 0 where
  pub bytes : List ℕ
  pub dropped : ℕ

-- how many bytes may wait
abbrev pub room : ℕ
room = 65536

abbrev pub nothing_waits : WaitingState
nothing_waits = record { bytes = []; dropped = 0 }

-- so many events are dropped; and a line that tells one is
abbrev pub drops : WaitingState → ℕ → WaitingState
drops w events = record w { dropped = min (w.dropped + events) (2 ^ 64 - 1) }

abbrev pub drops_one : WaitingState → WaitingState
drops_one w = drops w 1

-- a line that tells so many events waits if none was dropped and there is room; else they are dropped
abbrev pub put_sum : WaitingState → List ℕ → ℕ → WaitingState
put_sum w line events = if w.dropped == 0 && nat_le (length w.bytes + length line) room
    then record w { bytes = w.bytes ++ line }
    else drops w events

-- and one that tells one event
abbrev pub put_line : WaitingState → List ℕ → WaitingState
put_line w line = put_sum w line 1

abbrev pub PutsLine : WaitingState → WaitingState → List ℕ → Type 0
PutsLine old new line = new ≡ put_line old line

-- the line that says how many events were dropped
abbrev pub dropped_text : ℕ → List ℕ
dropped_text n = codes "dropped " ++ decimal n ++ 10 ∷ []

-- a sink took a front of the bytes. `before` and `after` are what it took in all, where that is known
abbrev pub Takes : Option (List ℕ) → Option (List ℕ) → ℕ → List ℕ → Type 0
Takes before after count bytes = after ≡ option_map (λ taken. taken ++ take count bytes) before

-- what a sink took and what waits are what waited; or that and the line that says how many events were dropped
abbrev pub IsOwed : WaitingState → WaitingState → List ℕ → Type 0
IsOwed old new owed = ((owed ≡ old.bytes) × (new.dropped ≡ old.dropped))
    ⊎ ((owed ≡ old.bytes ++ dropped_text old.dropped) × (new.dropped ≡ 0) × (1 ≤ old.dropped))

-- a sink took a front of what waits
pub record Gives (old new : WaitingState) (before after : Option (List ℕ)) : Type 0 where
  pub poured : List ℕ
  pub owed : poured ++ new.bytes ≡ old.bytes
  pub same : new.dropped ≡ old.dropped
  pub taken : after ≡ option_map (λ taken. taken ++ poured) before

-- a sink took a front of what is owed to it, and while events are missing something waits, so that their number is told
pub record Pours (old new : WaitingState) (before after : Option (List ℕ)) : Type 0 where
  pub poured : List ℕ
  pub owed : IsOwed old new (poured ++ new.bytes)
  pub taken : after ≡ option_map (λ taken. taken ++ poured) before
  pub told : 1 ≤ new.dropped → 1 ≤ length new.bytes
