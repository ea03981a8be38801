-- The numbers of what keeps `answer` from answering.
use Rattle.std.specs.Prelude.{ℕ}
use Rattle.lisp_answer.specs.declared.fault.AnswerFault.{AnswerFault}
use Rattle.lisp_answer.specs.declared.fault.AnswerFault.TheVariants.{Read, Write, TooLong, OutOfMemory}

abbrev pub fault_number : AnswerFault → ℕ
fault_number Read = 87
fault_number Write = 88
fault_number TooLong = 89
fault_number OutOfMemory = 97
