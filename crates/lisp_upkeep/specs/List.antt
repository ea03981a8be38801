-- What the lines of a list say.
use Rattle.std.specs.Prelude.{◌≡◌, ℕ, ◌+◌, ◌==◌, ◌||◌, not, Bool, false, List, [], ◌∷◌, Option, Some, None, is_some, Result, Ok, Err, Vec, position}
use Rattle.std.specs.List.{filter_map, list_all}
use Rattle.std.specs.Str.Lines.{lines}
use Rattle.lisp_upkeep.specs.declared.accepted_nonce.AcceptedNonce.{AcceptedNonce}
use Rattle.lisp_upkeep.specs.declared.list_fault.ListFault.{ListFault}
use Rattle.lisp_upkeep.specs.declared.list_fault.ListFault.TheVariants.{Line, OutOfMemory}
use Rattle.lisp_upkeep.specs.Line.{nonce_of}

-- a blank line has nothing but spaces (32)
abbrev pub is_blank : List ℕ → Bool
is_blank line = list_all (λ c. c == 32) line

-- a comment begins with '#' (35)
abbrev pub is_comment : List ℕ → Bool
is_comment [] = false
is_comment (c ∷ line) = c == 35

-- a line of a list: that of a nonce, or one that is skipped
abbrev pub is_right : List ℕ → Bool
is_right line = is_some (nonce_of line) || (is_blank line || is_comment line)

-- the nonces of lines, in their order
abbrev pub nonces_of : List (List ℕ) → List AcceptedNonce
nonces_of lines = filter_map nonce_of lines

-- these nonces, unless a line at a place is wrong: then its number, from 1 on
abbrev pub unless_wrong : Option ℕ → List AcceptedNonce → Result (List AcceptedNonce) ℕ
unless_wrong None nonces = Ok nonces
unless_wrong (Some place) nonces = Err (place + 1)

-- what lines say: the nonces of all of them, or the number of the first that is wrong
abbrev pub list_of : List (List ℕ) → Result (List AcceptedNonce) ℕ
list_of lines = unless_wrong (position (λ line. not (is_right line)) lines) (nonces_of lines)

-- what a function answers is what the lines of a text say; memory runs out only where it may
abbrev pub GivesList : {Z : Type 0} → Type 0 → List ℕ → Result (Vec AcceptedNonce Z) ListFault → Type 0
GivesList may text (Ok nonces) = list_of (lines text) ≡ Ok nonces.items
GivesList may text (Err (Line number)) = list_of (lines text) ≡ Err number
GivesList may text (Err OutOfMemory) = may
