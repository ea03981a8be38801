-- What a line that was read says of an input, where that is known.
use Rattle.std.proofs.Common.{◌≡◌, ℕ, ◌≤◌, List, [], ◌∷◌, ◌++◌, length, Option, Some, None, Result, Ok, Err, IfOk, sym, subst}
use Rattle.std.specs.Prelude.{◌⊎◌, IfSome, String, string_bytes}
use Rattle.std.proofs.Common.{inl, inr}
use Rattle.std.specs.Io.BufRead.{take_through}
use Rattle.std.specs.Io.KnownBytes.{Appends, Consumes}
use Rattle.hex.specs.Hex.{decode_of}
use Rattle.hex.specs.declared.error.FromHexError.{FromHexError}
use Rattle.hex.specs.declared.error.FromHexError.TheVariants.{OutOfMemory}
use Rattle.lisp_policy.specs.Site.{SiteValue}
use Rattle.lisp_answer.specs.Setup.{AnswerSetupValue, sites_of}
use Rattle.lisp_answer.specs.Input.{content}
use Rattle.lisp_answer.specs.Line.{AreWords, GivesWords, IsLine, IsNotHexadecimal, Adds, AddsFront}
use Rattle.lisp_lines.specs.Output.{WroteFront}

-- the words for what the line says, and a line feed, are the line that answers the input
pub answered : (may_refuse : Type 0) (s : AnswerSetupValue) (old : Option (List ℕ)) (line words text : List ℕ) → IfSome old (λ input. line ≡ take_through 10 input) → AreWords may_refuse (sites_of s) (decode_of (content line)) words → text ≡ words ++ 10 ∷ [] → IfSome old (λ input. IsLine may_refuse s input text)
answered may_refuse s None line words text first are ends = tt
answered may_refuse s (Some input) line words text first are ends =
    (words, subst (λ (l : List ℕ). AreWords may_refuse (sites_of s) (decode_of (content l)) words) first are, ends)

-- what was consumed is the first line of the input
pub consumed : (old new : Option (List ℕ)) (line : List ℕ) → IfSome old (λ input. line ≡ take_through 10 input) → Consumes old new line → IfSome old (λ input. Consumes old new (take_through 10 input))
consumed None new line first read = tt
consumed (Some input) new line first read = subst (λ (l : List ℕ). Consumes (Some input) new l) first read

-- it is no longer than the line
pub fits : (n : ℕ) (old : Option (List ℕ)) (line : List ℕ) → IfSome old (λ input. line ≡ take_through 10 input) → length line ≤ n → IfSome old (λ input. length (take_through 10 input) ≤ n)
fits n None line first short = tt
fits n (Some input) line first short = subst (λ (l : List ℕ). length l ≤ n) first short

-- that line was written
pub adds : (may_refuse : Type 0) (s : AnswerSetupValue) (input before after : Option (List ℕ)) (line : List ℕ) → IfSome input (λ i. IsLine may_refuse s i line) → Appends before after line → IfSome input (λ i. Adds may_refuse before after s i)
adds may_refuse s None before after line is wrote = tt
adds may_refuse s (Some input) before after line is wrote = (is.0, is.1, subst (λ (l : List ℕ). Appends before after l) is.2 wrote)

-- a front of it was
pub adds_front : (may_refuse : Type 0) (s : AnswerSetupValue) (input before after : Option (List ℕ)) (line : List ℕ) → IfSome input (λ i. IsLine may_refuse s i line) → WroteFront before after line → IfSome input (λ i. AddsFront may_refuse before after s i)
adds_front may_refuse s None before after line is wrote = tt
adds_front may_refuse s (Some input) before after line is wrote = (line, is, wrote)

-- the words for a line that can't be decoded
pub not_decoded : {E Z : Type 0} (may_refuse : Type 0) (sites : List SiteValue) (digits : List ℕ) (fault : FromHexError) (result : Result (String Z) E)
    → (fault ≡ OutOfMemory) ⊎ (decode_of digits ≡ Err fault) → IfOk result (λ words. IsNotHexadecimal fault (string_bytes words)) → GivesWords may_refuse sites digits result
not_decoded may_refuse sites digits fault (Ok words) (inl out) is = absurd (is.0 out)
not_decoded may_refuse sites digits fault (Ok words) (inr fails) is = subst (λ d. AreWords may_refuse sites d (string_bytes words)) (sym fails) is.1
not_decoded may_refuse sites digits fault (Err e) why is = tt
