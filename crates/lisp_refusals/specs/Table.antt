-- Which rows of a table have a number, and what is written of them; and the document of a table, in Markdown.
use Rattle.std.specs.Prelude.{◌≡◌, ℕ, Bool, List, [], ◌∷◌, ◌++◌, codes, Option, Some, None, Result, OnOk, nat_eq, if◌then◌else◌}
use Rattle.std.specs.Option.{option_map}
use Rattle.std.specs.List.{list_any, find, flat_map}
use Rattle.std.specs.Fmt.{decimal}
use Rattle.std.specs.Io.KnownBytes.{Appends}
use denote.Ref.{Bor}
use Rattle.lisp_refusals.specs.Numbers.{HasNumbers}
use Rattle.lisp_refusals.specs.declared.row.Row.{Row}
use Rattle.lisp_refusals.specs.declared.row.Section.{Section}

-- a row has the number
abbrev pub has_number : ℕ → Row → Bool
has_number number row = nat_eq row.number number

-- a row of the section has it
abbrev pub has_row : ℕ → Section → Bool
has_row number section = list_any (has_number number) section.rows.now

-- a row of the table has it
abbrev pub is_in : ℕ → List Section → Bool
is_in number sections = list_any (has_row number) sections

-- the first row with the number, of the first section that has one
abbrev pub first_of : ℕ → Option Section → Option Row
first_of number None = None
first_of number (Some section) = find (has_number number) section.rows.now

abbrev pub first_in : ℕ → List Section → Option Row
first_in number sections = first_of number (find (has_row number) sections)

-- that is what this row of a table with the numbers tells, where there is one
abbrev pub IsToldOf : {X : Type 0} → (Row → X) → ℕ → Option X → Type 0
IsToldOf tells number told = (sections : List Section) × HasNumbers sections × (told ≡ option_map tells (first_in number sections))

-- a mark, where a text is there
unfoldable pub mark_at : List ℕ → List ℕ → List ℕ
mark_at [] mark = []
mark_at (_ ∷ _) mark = mark

-- the text of a row of a section
unfoldable pub row_text : Section → Row → List ℕ
row_text section row = decimal row.number
    ++ flat_map (λ text. text) (mark_at row.carried.now (codes " ") ∷ row.carried.now ∷ mark_at row.name.now (codes ", ") ∷ row.name.now ∷ codes " (" ∷ section.title.now ∷ codes ")\n  meaning: " ∷ row.meaning.now ∷ mark_at row.status.now (codes "\n  status: ") ∷ row.status.now ∷ codes "\n  what to do: " ∷ row.remedy.now ∷ codes "\n" ∷ [])

-- the entry of a row: its text, where it has the number
abbrev pub entry : ℕ → Section → Row → List ℕ
entry number section row = if has_number number row then row_text section row else []

-- the text of the rows of a section with the number
abbrev pub section_text : ℕ → Section → List ℕ
section_text number section = flat_map (entry number section) section.rows.now

-- the text of all rows with the number
abbrev pub explained : ℕ → List Section → List ℕ
explained number sections = flat_map (section_text number) sections

-- to what a writer held, all that a table with the numbers says of a number was added
abbrev pub Explains : ℕ → Option (List ℕ) → Option (List ℕ) → Type 0
Explains number old new = (sections : List Section) × HasNumbers sections × Appends old new (explained number sections)

-- texts, one after the other
abbrev pub joined : List (Bor (List ℕ)) → List ℕ
joined texts = flat_map (λ text. text.now) texts

-- at Ok the text was added to what a writer held
abbrev pub Writes : {X E W : Type 0} → Result X E → (W → Option (List ℕ)) → W → W → List ℕ → Type 0
Writes result contents old new text = OnOk result (Appends (contents old) (contents new) text)

-- the line of a row
unfoldable pub row_line : Row → List ℕ
row_line row = codes "| "
    ++ decimal row.number
    ++ flat_map (λ text. text) (mark_at row.carried.now (codes " `") ∷ row.carried.now ∷ mark_at row.carried.now (codes "`") ∷ codes " | " ∷ mark_at row.name.now (codes "`") ∷ row.name.now ∷ mark_at row.name.now (codes "`") ∷ codes " | " ∷ row.meaning.now ∷ codes " | " ∷ row.status.now ∷ mark_at row.status.now (codes " | ") ∷ row.remedy.now ∷ codes " |\n" ∷ [])

-- the text before the rows of a section
unfoldable pub section_head : Section → List ℕ
section_head section = flat_map (λ text. text) (codes "\n## " ∷ section.title.now ∷ codes "\n\n" ∷ section.introduction.now ∷ codes "\n\n" ∷ section.header.now ∷ [])

abbrev pub section_document : Section → List ℕ
section_document section = section_head section ++ flat_map row_line section.rows.now

-- the sections, one after the other
abbrev pub body : List Section → List ℕ
body sections = flat_map section_document sections

abbrev pub document : List ℕ → List Section → List ℕ
document opening sections = opening ++ body sections

-- to what a writer held, a document was added whose rows have the numbers
abbrev pub WritesDocument : Option (List ℕ) → Option (List ℕ) → Type 0
WritesDocument old new = (opening : List ℕ) × (sections : List Section) × HasNumbers sections × Appends old new (document opening sections)
