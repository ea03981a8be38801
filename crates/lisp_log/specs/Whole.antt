-- What is written: whole lines, each as it was put, and lines that say how many events are missing.
use Rattle.std.specs.Prelude.{◌≡◌, ◌⊎◌, ℕ, ◌+◌, ◌^◌, ◌<◌, ◌≤◌, List, [], ◌∷◌, ◌++◌, Some}
use Rattle.lisp_log.specs.Waiting.{WaitingState, nothing_waits, put_sum, drops, dropped_text, Pours}

-- what happens to what waits: a line that tells so many events is put, one couldn't be made, or a sink takes what it can
pub data Happening : Type 0 where
  put : List ℕ → ℕ → Happening
  unmade : ℕ → Happening
  pour : Happening

-- how many events they were
abbrev pub events_in : List Happening → ℕ
events_in [] = 0
events_in (put line events ∷ earlier) = events_in earlier + events
events_in (unmade events ∷ earlier) = events_in earlier + events
events_in (pour ∷ earlier) = events_in earlier

-- after these happenings, the newest first, the sink took so much in all, and so much waits
abbrev pub Comes : List Happening → List ℕ → WaitingState → Type 0
Comes [] taken new = (taken ≡ []) × (new ≡ nothing_waits)
Comes (put line events ∷ earlier) taken new = (old : WaitingState) × Comes earlier taken old × (new ≡ put_sum old line events)
Comes (unmade events ∷ earlier) taken new = (old : WaitingState) × Comes earlier taken old × (new ≡ drops old events)
Comes (pour ∷ earlier) taken new = (old : WaitingState) × (before : List ℕ) × Comes earlier before old × Pours old new (Some before) (Some taken)

-- what is written: a line, with how many events it tells, or how many were dropped; the newest first
pub data Written : Type 0 where
  line : List ℕ → ℕ → Written
  dropped : ℕ → Written

abbrev pub texts : List Written → List ℕ
texts [] = []
texts (line bytes events ∷ earlier) = texts earlier ++ bytes
texts (dropped count ∷ earlier) = texts earlier ++ dropped_text count

-- how many events it makes up
abbrev pub events_of : List Written → ℕ
events_of [] = 0
events_of (line bytes events ∷ earlier) = events_of earlier + events
events_of (dropped count ∷ earlier) = events_of earlier + count

-- each line that is put is written behind those before it, or else its events are missing; how many are missing is written
-- before any other line is. The number is how many events are missing since
abbrev pub Accounts : List Happening → List Written → ℕ → Type 0
Accounts [] written missing = (written ≡ []) × (missing ≡ 0)
Accounts (put bytes events ∷ earlier) written missing = ((older : List Written) × (written ≡ line bytes events ∷ older) × (missing ≡ 0) × Accounts earlier older 0)
    ⊎ ((fewer : ℕ) × (missing ≡ fewer + events) × Accounts earlier written fewer)
Accounts (unmade events ∷ earlier) written missing = (fewer : ℕ) × (missing ≡ fewer + events) × Accounts earlier written fewer
Accounts (pour ∷ earlier) written missing = Accounts earlier written missing
    ⊎ ((older : List Written) × (count : ℕ) × (written ≡ dropped count ∷ older) × (1 ≤ count) × (missing ≡ 0) × Accounts earlier older count)

-- what a sink took, followed by what waits, is whole lines; they account for all that were put, and with what is missing since
-- they make up all events
pub record IsWhole (happenings : List Happening) (taken : List ℕ) (state : WaitingState) : Type 0 where
  pub written : List Written
  pub texts_are : taken ++ state.bytes ≡ texts written
  pub accounts : Accounts happenings written state.dropped
  pub none_lost : events_of written + state.dropped ≡ events_in happenings

abbrev pub WrittenIsWhole : Type 0
WrittenIsWhole = (happenings : List Happening) (taken : List ℕ) (state : WaitingState) → Comes happenings taken state → events_in happenings < 2 ^ 64
    → IsWhole happenings taken state
