-- The numbers of the small program's faults, and its exit statuses: 1 where files, streams or memory failed, 2 for what
-- is wrong in the words or in the schedule. They are those of `lispd`.
use Rattle.std.specs.Prelude.{ℕ, Option, None}
use Rattle.lisp_answer.specs.Fault.{fault_number}
use Rattle.lisp_script.specs.PlayFault.{play_fault_number, play_fault_status, play_fault_line}
use Rattle.lispd_answer.specs.declared.fault.SmallFault.{SmallFault}
use Rattle.lispd_answer.specs.declared.fault.SmallFault.TheVariants.{Words, Memory, File, Answer, Play}

abbrev pub small_fault_number : SmallFault → ℕ
small_fault_number Words = 98
small_fault_number Memory = 97
small_fault_number File = 93
small_fault_number (Answer fault) = fault_number fault
small_fault_number (Play fault) = play_fault_number fault

abbrev pub small_fault_status : SmallFault → ℕ
small_fault_status Words = 2
small_fault_status Memory = 1
small_fault_status File = 1
small_fault_status (Answer _) = 1
small_fault_status (Play fault) = play_fault_status fault

-- the faulty line of a script
abbrev pub small_fault_line : SmallFault → Option ℕ
small_fault_line (Play fault) = play_fault_line fault
small_fault_line _ = None
