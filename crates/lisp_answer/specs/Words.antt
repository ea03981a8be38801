-- A refusal in words.
use Rattle.std.specs.Prelude.{ℕ, List, ◌++◌, codes}
use Rattle.std.specs.Fmt.{decimal}
use Rattle.lisp_admission.specs.Refused.{refused_number}
use Rattle.lisp_admission.specs.declared.refused.Refused.{Refused}
use Rattle.lisp_lines.specs.Carried.{refused_words}

-- its number, and what it carries
abbrev pub refusal_words : Refused → List ℕ
refusal_words refused = codes "refused " ++ decimal (refused_number refused) ++ refused_words refused
