-- What is explained: a line that a node prints, whole, with what a log puts in front of it, or from its number on.
use Rattle.std.specs.Prelude.{◌≡◌, ℕ, nat_lt, Bool, true, false, List, [], ◌∷◌, ◌++◌, drop, codes, Option, Some, None, if◌then◌else◌}
use Rattle.std.specs.List.{flat_map, list_all, list_any}
use Rattle.std.specs.Option.{is_some, option_and_then, option_map}
use Rattle.std.specs.Str.{bytes_eq}
use Rattle.lisp_texts.specs.Number.{number_of}
use Rattle.lisp_texts.specs.Reading.{address_of}
use Rattle.lisp_script.specs.Words.{words_of}
use Rattle.lisp_refusals.specs.Numbers.{is_known}
use Rattle.lisp_refusals.specs.Table.{Explains}
use Rattle.lisp_refusals.specs.declared.fault.ExplainFault.TheVariants as explains
use Rattle.lispd_cli.specs.declared.fault.SetupFault.TheVariants.{OutOfMemory}
use Rattle.lispd_cli.specs.declared.fault.ProgramFault.{ProgramFault}
use Rattle.lispd_cli.specs.declared.fault.ProgramFault.TheVariants.{Explain, Setup}

-- words that are given, as one line: a space (32) before each
abbrev pub given : List (List ℕ) → List ℕ
given words = flat_map (λ word. 32 ∷ word) words

-- a word is one of these
abbrev pub is_among : List (List ℕ) → List ℕ → Bool
is_among names word = list_any (λ name. bytes_eq word name) names

-- a number of a refusal or a fault has 16 bits
abbrev pub in_16_bits : ℕ → Option ℕ
in_16_bits number = if nat_lt number 65536 then Some number else None

abbrev pub fault_of : List ℕ → Option ℕ
fault_of word = option_and_then in_16_bits (number_of word)

-- behind a line's number: words before a fault's number, and before a number that is none
abbrev pub fault_words : List (List ℕ)
fault_words = codes "fault" ∷ codes "read" ∷ codes "store" ∷ []

abbrev pub value_words : List (List ℕ)
value_words = codes "age" ∷ codes "latest" ∷ codes "line" ∷ codes "record" ∷ codes "saved" ∷ codes "times" ∷ []

-- where a datagram came from: an address, or several
abbrev pub is_source : List ℕ → Bool
is_source word = if bytes_eq word (codes "others") then true else is_some (address_of word)

-- the kind of the system's error begins with a capital (65 to 90)
abbrev pub is_kind : List ℕ → Bool
is_kind [] = false
is_kind (letter ∷ _) = if nat_lt letter 65 then false else if nat_lt 90 letter then false else true

-- so it is no name of a value behind it
abbrev pub name_of : List ℕ → Option (List ℕ)
name_of word = if is_kind word then None else Some word

-- the faults that a word and the one behind it tell; none where they are no words of a line
abbrev pub none_if : Bool → Option (List ℕ)
none_if is_value = if is_value then Some [] else None

abbrev pub told_by : List ℕ → List ℕ → Option (List ℕ)
told_by word value =
    if is_among fault_words word then option_map (λ n. n ∷ []) (fault_of value)
    else if is_among value_words word then none_if (is_some (number_of value))
    else if bytes_eq word (codes "from") then none_if (is_source value) else None

-- one list behind another, where both are there
abbrev pub both : Option (List ℕ) → Option (List ℕ) → Option (List ℕ)
both None _ = None
both (Some _) None = None
both (Some first) (Some others) = Some (first ++ others)

-- what a reader says of numbers that it added to: these, where it read words of a line
abbrev pub read_as : Bool → List ℕ → Option (List ℕ)
read_as read numbers = if read then Some numbers else None

-- the faults that the words behind a number carry, in their order
unfoldable pub carried_by : List (List ℕ) → Option (List ℕ)
carried_by [] = Some []
carried_by (word ∷ []) = none_if (is_kind word)
carried_by (word ∷ value ∷ words) = if is_kind word then carried_by (value ∷ words) else both (told_by word value) (carried_by words)

-- a line's number, and the words behind it
abbrev pub numbered : List (List ℕ) → Option (ℕ × List (List ℕ))
numbered [] = None
numbered (number ∷ words) = option_map (λ n. (n, words)) (fault_of number)

-- a line by its first word; but for a fault the node's name is the second, and replays are refusals with the number 57. A line of
-- counts, as `counts s1 refused 57 4`, is none
abbrev pub verbs : List (List ℕ)
verbs = codes "counts" ∷ codes "fault" ∷ codes "refused" ∷ codes "replays" ∷ []

abbrev pub of_verb : List ℕ → List (List ℕ) → Option (ℕ × List (List ℕ))
of_verb verb words =
    if bytes_eq verb (codes "fault") then numbered words
    else if bytes_eq verb (codes "refused") then numbered (drop 1 words)
    else if bytes_eq verb (codes "replays") then Some (57, drop 1 words) else None

abbrev pub whole : List (List ℕ) → Option (ℕ × List (List ℕ))
whole [] = None
whole (verb ∷ words) = of_verb verb words

-- the line begins at the first such word
unfoldable pub from_verb : List (List ℕ) → List (List ℕ)
from_verb [] = []
from_verb (word ∷ words) = if is_among verbs word then word ∷ words else from_verb words

-- its number, and those of the faults that it carries
abbrev pub with_carried : Option (ℕ × List (List ℕ)) → Option (List ℕ)
with_carried None = None
with_carried (Some line) = both (Some (line.0 ∷ [])) (carried_by line.1)

abbrev pub or_else : Option (List ℕ) → Option (List ℕ) → Option (List ℕ)
or_else (Some numbers) other = Some numbers
or_else None other = other

-- the numbers of a line that begins with its number, or of a whole one
abbrev pub numbers_of : List (List ℕ) → Option (List ℕ)
numbers_of words = or_else (with_carried (numbered words)) (with_carried (whole (from_verb words)))

-- the numbers that are explained of words: those of their line, where each is that of a refusal or a fault
abbrev pub all_known : List ℕ → Option (List ℕ)
all_known numbers = if list_all is_known numbers then Some numbers else None

abbrev pub explained_of : List (List ℕ) → Option (List ℕ)
explained_of words = option_and_then all_known (numbers_of (words_of (given words)))

-- to what a writer held, the explanations of these numbers were added, one after the other
unfoldable pub ExplainsEach : List ℕ → Option (List ℕ) → Option (List ℕ) → Type 0
ExplainsEach [] old new = new ≡ old
ExplainsEach (number ∷ numbers) old new = (next : Option (List ℕ)) × Explains number old next × ExplainsEach numbers next new

-- and those of all numbers of a line
abbrev pub ExplainsLine : List (List ℕ) → Option (List ℕ) → Option (List ℕ) → Type 0
ExplainsLine words old new = (numbers : List ℕ) × (explained_of words ≡ Some numbers) × ExplainsEach numbers old new

-- why it isn't explained: it is no line, or has another number; writing failed; or memory was refused
abbrev pub unknown : ProgramFault
unknown = Explain explains.Unknown

abbrev pub unwritten : ProgramFault
unwritten = Explain explains.Write

abbrev pub out_of_memory : ProgramFault
out_of_memory = Setup OutOfMemory
