-- The rows of a Map-Server by parts, as text: a node alone has them so.
use Rattle.std.specs.Prelude.{◌≡◌, ℕ, Bool, true, false, List, [], ◌++◌, Some, None, if◌then◌else◌}
use Rattle.std.specs.List.{flat_map}
use Rattle.lisp_policy.specs.Configuration.{ConfigValue}
use Rattle.lisp_records.specs.Row.{RowValue}
use Rattle.lisp_lines.specs.Name.{node_name}
use Rattle.lisp_lines.specs.Query.{held_line, row_text}
use Rattle.lisp_lines.specs.Walk.{LooksAt, Takes}
use Rattle.lisp_lines.specs.declared.wording.Wording.TheVariants.{Node}
use Rattle.lisp_lines.specs.declared.walk.Walk.{Walk}

-- the most rows of a part
abbrev pub most_rows : ℕ
most_rows = 256

-- a text gains the line of the next live row, if there is one
abbrev pub PutsRow : ConfigValue → List RowValue → Walk → Walk → List ℕ → List ℕ → Bool → Type 0
PutsRow c rows old new before after true = (h : RowValue) × LooksAt rows old new (Some h) × (after ≡ before ++ row_text c Node old.moment h)
PutsRow c rows old new before after false = LooksAt rows old new None × (after ≡ before)

-- it gains the lines of the next ones
abbrev pub PutsRows : ConfigValue → List RowValue → Walk → Walk → List ℕ → List ℕ → Bool → Type 0
PutsRows c rows old new before after is_end = (taken : List RowValue) × Takes rows old new most_rows is_end taken × (after ≡ before ++ flat_map (row_text c Node old.moment) taken)

-- after the last row there is a line that says how many came
abbrev pub closing : ConfigValue → ℕ → Walk → Bool → List ℕ
closing c number walk is_end = if is_end then held_line (node_name c number) walk.rows else []

-- a part: the lines of the next live rows, each as where all come at once
abbrev pub ListsRows : ConfigValue → ℕ → List RowValue → Walk → Walk → List ℕ → Bool → Type 0
ListsRows c number rows old new text is_end = (taken : List RowValue) × Takes rows old new most_rows is_end taken × (text ≡ flat_map (row_text c Node old.moment) taken ++ closing c number new is_end)
