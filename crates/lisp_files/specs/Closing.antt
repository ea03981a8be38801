-- The line that closes each answer of a node that is asked: without it an answer is cut off.
use Rattle.std.specs.Prelude.{◌≡◌, ◌≢◌, ℕ, ◌-◌, ◌==◌, List, [], ◌∷◌, ◌++◌, length, take, codes, Option, Some, None, if◌then◌else◌}
use Rattle.std.specs.List.{ends_with}

-- no line of an answer's text is it
abbrev pub closing : List ℕ
closing = codes "end\n"

-- the answer with a text
abbrev pub closed : List ℕ → List ℕ
closed text = text ++ closing

-- it ends a text's last line, at a line feed (10)
abbrev pub ending : List ℕ
ending = 10 ∷ closing

-- the lines of an answer that came whole, up to the last one's line feed
abbrev pub whole : List ℕ → Option (List ℕ)
whole answer = if ends_with (λ a b. a == b) answer ending then Some (take (length answer - length ending) answer) else None

-- lines that are closed are whole
abbrev pub ClosedIsWhole : Type 0
ClosedIsWhole = (lines : List ℕ) → whole (closed (lines ++ 10 ∷ [])) ≡ Some lines

-- no line of a text behind the first is the closing line
abbrev pub HasNoClosing : List ℕ → Type 0
HasNoClosing text = (front rest : List ℕ) → text ≢ (front ++ ending) ++ rest

-- an answer that lacks its end isn't whole
abbrev pub CutIsNotWhole : Type 0
CutIsNotWhole = (text front rest : List ℕ) → HasNoClosing text → closed text ≡ front ++ rest → rest ≢ [] → whole front ≡ None
