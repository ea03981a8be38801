-- What a line tells, as the members of an object, each with the text of its value, and the words that belong to none.
use Rattle.std.specs.Prelude.{◌≡◌, ℕ, ◌⊎◌, Bool, not, ◌&&◌, fold, List, [], ◌∷◌, ◌++◌, codes, Option, Some, None, if◌then◌else◌}
use Rattle.std.specs.List.{list_any}
use Rattle.std.specs.Str.{bytes_eq}
use Rattle.json.specs.Print.{quoted}
use Rattle.lisp_refusals.specs.Table.{IsToldOf}
use Rattle.lisp_json.specs.Words.{is_among, is_decimal, is_key, nameless, number_keys, paired}

pub record MemberValue : Type 0 where
  pub name : List ℕ
  pub value : List ℕ

abbrev pub text_member : List ℕ → List ℕ → MemberValue
text_member name text = record { name = name; value = quoted text }

abbrev pub number_member : List ℕ → List ℕ → MemberValue
number_member name number = record { name = name; value = number }

-- of a key that has numbers a number, where the word is one
abbrev pub key_member : List ℕ → List ℕ → MemberValue
key_member key word = if is_among number_keys key && is_decimal word then number_member key word else text_member key word

pub record ToldValue : Type 0 where
  pub members : List MemberValue
  pub words : List (List ℕ)

abbrev pub nothing : ToldValue
nothing = record { members = []; words = [] }

abbrev pub with_member : ToldValue → MemberValue → ToldValue
with_member told member = record told { members = told.members ++ member ∷ [] }

abbrev pub with_word : ToldValue → List ℕ → ToldValue
with_word told word = record told { words = told.words ++ word ∷ [] }

-- ---- the first words: names, and a number of a refusal or a fault. With each pair goes what is told, and the words behind

abbrev pub take_name : List ℕ → ToldValue × List (List ℕ) → ToldValue × List (List ℕ)
take_name name (told, []) = (told, [])
take_name name (told, word ∷ words) = (with_member told (text_member name word), words)

abbrev pub take_names : List ℕ → List (List ℕ) → ToldValue × List (List ℕ)
take_names kind words =
    if is_among nameless kind then (nothing, words)
    else if is_among paired kind then take_name (codes "peer") (take_name (codes "node") (nothing, words))
    else take_name (codes "node") (nothing, words)

-- the name of a number in the code, empty where it has none, and its meaning
pub record ExplainedValue : Type 0 where
  pub name : List ℕ
  pub meaning : List ℕ

-- so the table of refusals explains a number; or not at all
abbrev pub IsExplained : ℕ → Option ExplainedValue → Type 0
IsExplained number None = IsToldOf (λ row. row.name.now) number None ⊎ IsToldOf (λ row. row.meaning.now) number None
IsExplained number (Some e) = IsToldOf (λ row. row.name.now) number (Some e.name) × IsToldOf (λ row. row.meaning.now) number (Some e.meaning)

-- where a line has a number
abbrev pub IsExplainedIf : Option ℕ → Option ExplainedValue → Type 0
IsExplainedIf None explained = explained ≡ None
IsExplainedIf (Some number) explained = IsExplained number explained

-- a number that is explained is a member, and so is what explains it
abbrev pub take_number : Option ExplainedValue → ToldValue × List (List ℕ) → ToldValue × List (List ℕ)
take_number None (told, words) = (told, words)
take_number (Some e) (told, []) = (told, [])
take_number (Some e) (told, word ∷ words) = (with_member (with_member (with_member told (number_member (codes "number") word)) (text_member (codes "name") e.name)) (text_member (codes "meaning") e.meaning), words)

-- ---- the other words: keys with their values

-- a name is taken once, so that those of an object are unique (RFC 8259 section 4)
abbrev pub is_free_key : ToldValue → List ℕ → Bool
is_free_key told word = is_key word && not (list_any (λ member. bytes_eq word member.name) told.members)

-- one more word: the value of the key that waits for it; a key, which waits then; or a word of none
abbrev pub take_word : ToldValue × Option (List ℕ) → List ℕ → ToldValue × Option (List ℕ)
take_word (told, Some key) word = (with_member told (key_member key word), None)
take_word (told, None) word = if is_free_key told word then (told, Some word) else (with_word told word, None)

-- a key that gets no value is a word of none
abbrev pub take_end : ToldValue × Option (List ℕ) → ToldValue
take_end (told, Some key) = with_word told key
take_end (told, None) = told

abbrev pub with_words : ToldValue → List (List ℕ) → ToldValue
with_words told words = take_end (fold take_word (told, None) words)

abbrev pub told_of : Option ExplainedValue → ToldValue × List (List ℕ) → ToldValue
told_of explained named = with_words (take_number explained named).0 (take_number explained named).1
