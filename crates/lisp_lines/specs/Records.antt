-- The text of the records that a router registers.
use Rattle.std.specs.Prelude.{ℕ, List, [], ◌∷◌, ◌++◌, length, codes}
use Rattle.std.specs.Fmt.{decimal}
use Rattle.std.specs.List.{flat_map}
use Rattle.lisp_records.specs.Record.{MapRecordValue}
use Rattle.lisp_policy.specs.Configuration.{ConfigValue}
use Rattle.lisp_texts.specs.Written.{record_text}
use Rattle.lisp_lines.specs.Name.{node_name}

-- how many, then each
abbrev pub records_head : List ℕ → ℕ → List ℕ
records_head router records = codes "records " ++ router ++ codes " " ++ decimal records ++ 10 ∷ []

abbrev pub record_line : MapRecordValue → List ℕ
record_line m = codes "record " ++ record_text m ++ 10 ∷ []

abbrev pub records_text : ConfigValue → ℕ → List MapRecordValue → List ℕ
records_text c router records = records_head (node_name c router) (length records) ++ flat_map record_line records
