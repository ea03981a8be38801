-- What the types of the code stand for.
use Rattle.std.specs.Prelude.{◌≡◌, ℕ, List, [], ◌∷◌, ◌++◌, map, Option}
use Rattle.std.specs.Option.{option_map}
use Rattle.json.specs.Print.{quoted}
use Rattle.lisp_json.specs.Words.{texts}
use Rattle.lisp_json.specs.Told.{ExplainedValue, MemberValue, ToldValue}
use Rattle.lisp_json.specs.Object.{IsObjectOf}
use Rattle.lisp_json.specs.declared.explained.Explained.{Explained}
use Rattle.lisp_json.specs.declared.told.Value.{Value}
use Rattle.lisp_json.specs.declared.told.Value.TheVariants.{Text, Number}
use Rattle.lisp_json.specs.declared.told.Member.{Member}
use Rattle.lisp_json.specs.declared.told.Told.{Told}
use denote.Ref.{Bor}

abbrev pub explained_view : Explained → ExplainedValue
explained_view e = record { name = e.name.now; meaning = e.meaning.now }

abbrev pub value_view : Value → List ℕ
value_view (Text text) = quoted text.now
value_view (Number digits) = digits.now

abbrev pub member_view : Member → MemberValue
member_view m = record { name = m.name.now; value = value_view m.value }

abbrev pub told_view : {A : Type 0} → Told A → ToldValue
told_view told = record { members = map member_view told.members.items; words = texts told.words.items }

-- the text of a key, if there is one
abbrev pub text_if : Option (Bor (List ℕ)) → Option (List ℕ)
text_if key = option_map (λ k. k.now) key

-- the object of a line and a line feed (10) stand behind what was there
abbrev pub PutsObject : List ℕ → List ℕ → List ℕ → Type 0
PutsObject line old new = (object : List ℕ) × IsObjectOf line object × (new ≡ old ++ object ++ 10 ∷ [])
