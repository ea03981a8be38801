-- The object of a line (RFC 8259 section 4).
use Rattle.std.specs.Prelude.{◌≡◌, ℕ, ◌==◌, List, [], ◌∷◌, ◌++◌, codes, Option}
use Rattle.std.specs.List.{flat_map, slice_split}
use Rattle.json.specs.Print.{quoted}
use Rattle.lisp_json.specs.Words.{number_in, words_of}
use Rattle.lisp_json.specs.Told.{ExplainedValue, IsExplainedIf, MemberValue, ToldValue, nothing, take_names, told_of}

-- a member behind another one
abbrev pub member_text : MemberValue → List ℕ
member_text member = codes "," ++ quoted member.name ++ codes ":" ++ member.value

-- words, as an array (RFC 8259 section 5); none where there are none
abbrev pub words_text : List (List ℕ) → List ℕ
words_text [] = []
words_text (word ∷ words) = codes ",\"words\":[" ++ quoted word ++ flat_map (λ other. codes "," ++ quoted other) words ++ codes "]"

-- the kind of a line, and what its other words tell
abbrev pub object_text : List ℕ → ToldValue → List ℕ
object_text kind told = codes "{\"line\":" ++ quoted kind ++ flat_map member_text told.members ++ words_text told.words ++ codes "}"

-- that of a line of this kind with these words behind it
abbrev pub IsObjectOfKind : List ℕ → List (List ℕ) → List ℕ → Type 0
IsObjectOfKind kind words text =
    (explained : Option ExplainedValue) × IsExplainedIf (number_in kind (take_names kind words).1) explained × (text ≡ object_text kind (told_of explained (take_names kind words)))

-- that of the words of a line: the first one is its kind
abbrev pub IsObjectOfWords : List (List ℕ) → List ℕ → Type 0
IsObjectOfWords [] text = text ≡ object_text [] nothing
IsObjectOfWords (kind ∷ words) text = IsObjectOfKind kind words text

abbrev pub IsObjectOf : List ℕ → List ℕ → Type 0
IsObjectOf line text = IsObjectOfWords (words_of line) text

-- those of lines, each with a line feed (10) behind it
unfoldable pub AreObjects : List (List ℕ) → List ℕ → Type 0
AreObjects [] text = text ≡ []
AreObjects (line ∷ lines) text = (object : List ℕ) × (others : List ℕ) × IsObjectOf line object × AreObjects lines others × (text ≡ object ++ 10 ∷ others)

abbrev pub AreObjectsOf : List ℕ → List ℕ → Type 0
AreObjectsOf lines text = AreObjects (slice_split (λ b. b == 10) lines) text
