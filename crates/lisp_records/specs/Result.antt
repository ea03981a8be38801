-- Steps of which each may fail, one after the other.
use Rattle.std.specs.Prelude.{◌≡◌, Result, Ok, Err}

-- the next step, where the last one did not fail
infixl 10 ◌>>=◌
abbrev pub ◌>>=◌ : {A B E : Type 0} → Result A E → (A → Result B E) → Result B E
(Ok x) >>= f = f x
(Err e) >>= f = Err e

-- what a function answers, seen by view, is what reading gives, its fault too
abbrev pub Reads : {X Y E : Type 0} → (X → Y) → Result X E → Result Y E → Type 0
Reads view (Ok x) read = read ≡ Ok (view x)
Reads view (Err e) read = read ≡ Err e

-- a fault of the first answer is the second answer
abbrev pub PassesFault : {X Y E : Type 0} → Result X E → Result Y E → Type 0
PassesFault {E = E} first second = (fault : E) → first ≡ Err fault → second ≡ Err fault
