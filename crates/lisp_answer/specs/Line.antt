-- The line that answers a line of hexadecimal digits.
use Rattle.std.specs.Prelude.{ℕ, List, ◌++◌, ◌∷◌, [], codes, Option, Some, None, Result, Ok, Err, String, string_bytes, IfOk, IfErr, IfSome, OnOk, IsErrOf, ◌≡◌, ◌≢◌}
use Rattle.std.specs.Fmt.{decimal}
use Rattle.std.specs.Io.BufRead.{first_line}
use Rattle.std.specs.Io.KnownBytes.{Appends, Keeps}
use Rattle.hex.specs.Hex.{decode_of, encode_lower}
use Rattle.hex.specs.declared.error.FromHexError.{FromHexError}
use Rattle.hex.specs.declared.error.FromHexError.TheVariants.{OutOfMemory}
use Rattle.lisp_policy.specs.Site.{SiteValue}
use Rattle.lisp_answer.specs.Setup.{AnswerSetupValue, sites_of}
use Rattle.lisp_answer.specs.Words.{refusal_words}
use Rattle.lisp_answer.specs.Answer.{Answer, Answers}
use Rattle.lisp_answer.specs.declared.fault.AnswerFault.{AnswerFault}
use Rattle.lisp_answer.specs.declared.fault.AnswerFault.TheVariants.{Write}
use Rattle.lisp_lines.specs.Output.{WroteFront}

-- an answer in words: the Map-Notify in digits, or why there is none
abbrev pub answer_words : Answer → List ℕ
answer_words (Ok (Some notify)) = encode_lower notify
answer_words (Ok None) = codes "accepted"
answer_words (Err refused) = refusal_words refused

-- the words for bytes that were decoded, where memory that may be refused may have run out; or for a text that
-- is not hexadecimal
abbrev pub AreWords : Type 0 → List SiteValue → Result (List ℕ) FromHexError → List ℕ → Type 0
AreWords may_refuse sites (Ok bytes) words = (answer : Answer) × Answers may_refuse sites bytes answer × (words ≡ answer_words answer)
AreWords may_refuse sites (Err _) words = words ≡ codes "refused " ++ decimal 94

-- the words for a fault of decoding, which isn't that memory ran out
abbrev pub IsNotHexadecimal : FromHexError → List ℕ → Type 0
IsNotHexadecimal fault words = (fault ≢ OutOfMemory) × (words ≡ codes "refused " ++ decimal 94)

-- at Ok the text is the words for digits
abbrev pub GivesWords : {E Z : Type 0} → Type 0 → List SiteValue → List ℕ → Result (String Z) E → Type 0
GivesWords may_refuse sites digits result = IfOk result (λ words. AreWords may_refuse sites (decode_of digits) (string_bytes words))

-- to what was held, the line was added that answers an input: its first line is read, which ends with a line
-- feed, or a carriage return and a line feed, or the input
abbrev pub Adds : Type 0 → Option (List ℕ) → Option (List ℕ) → AnswerSetupValue → List ℕ → Type 0
Adds may_refuse old new s input = (words : List ℕ) × AreWords may_refuse (sites_of s) (decode_of (first_line input)) words × Appends old new (words ++ 10 ∷ [])

-- these bytes are the line that answers an input
abbrev pub IsLine : Type 0 → AnswerSetupValue → List ℕ → List ℕ → Type 0
IsLine may_refuse s input line = (words : List ℕ) × AreWords may_refuse (sites_of s) (decode_of (first_line input)) words × (line ≡ words ++ 10 ∷ [])

-- to what was held, a proper front of the line that answers an input was added
abbrev pub AddsFront : Type 0 → Option (List ℕ) → Option (List ℕ) → AnswerSetupValue → List ℕ → Type 0
AddsFront may_refuse old new s input = (line : List ℕ) × IsLine may_refuse s input line × WroteFront old new line

-- at Ok the text is the line that answers an input, where that is known
abbrev pub GivesAnswer : {E Z : Type 0} → Type 0 → AnswerSetupValue → Option (List ℕ) → Result (String Z) E → Type 0
GivesAnswer may_refuse s input result = IfOk result (λ line. IfSome input (λ bytes. IsLine may_refuse s bytes (string_bytes line)))

-- In what follows `contents` tells what a writer has, `remaining` what a reader has left.
module _ {X R W : Type 0} where
  -- at Ok the line that answers what the reader had left went out, whole, where that is known
  abbrev pub WritesAnswer : Result X AnswerFault → (W → Option (List ℕ)) → W → W → Type 0 → AnswerSetupValue → (R → Option (List ℕ)) → R → Type 0
  WritesAnswer result contents old new may_refuse s remaining reader = OnOk result (IfSome (remaining reader) (λ input. Adds may_refuse (contents old) (contents new) s input))

  -- where it could not be written, a front of it did, but not the whole
  abbrev pub CutsAnswer : Result X AnswerFault → (W → Option (List ℕ)) → W → W → Type 0 → AnswerSetupValue → (R → Option (List ℕ)) → R → Type 0
  CutsAnswer result contents old new may_refuse s remaining reader = IsErrOf result Write → IfSome (remaining reader) (λ input. AddsFront may_refuse (contents old) (contents new) s input)

-- at any other fault nothing did
abbrev pub KeepsUnlessWrite : {X : Type 0} → Result X AnswerFault → Option (List ℕ) → Option (List ℕ) → Type 0
KeepsUnlessWrite result old new = IfErr result (λ fault. fault ≢ Write → Keeps old new)
