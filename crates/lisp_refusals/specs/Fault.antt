-- The numbers of the faults of `explain`, and its exit statuses: 1 where writing failed, 2 for the word of the command line.
use Rattle.std.specs.Prelude.{ℕ}
use Rattle.lisp_refusals.specs.declared.fault.ExplainFault.{ExplainFault}
use Rattle.lisp_refusals.specs.declared.fault.ExplainFault.TheVariants.{Unknown, Write}

abbrev pub explain_fault_number : ExplainFault → ℕ
explain_fault_number Unknown = 98
explain_fault_number Write = 88

abbrev pub explain_fault_status : ExplainFault → ℕ
explain_fault_status Unknown = 2
explain_fault_status Write = 1
