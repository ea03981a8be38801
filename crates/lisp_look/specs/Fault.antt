-- The numbers of what keeps a look from a positive Map-Reply, and its exit statuses.
use Rattle.std.specs.Prelude.{ℕ}
use Rattle.lisp_look.specs.declared.fault.LookFault.{LookFault}
use Rattle.lisp_look.specs.declared.fault.LookFault.TheVariants.{Write, Receive, Send, Bind, OutOfMemory, NoItrRloc, Silent, Negative, NoNonce}

abbrev pub look_fault_number : LookFault → ℕ
look_fault_number Write = 88
look_fault_number Receive = 90
look_fault_number Send = 91
look_fault_number Bind = 92
look_fault_number OutOfMemory = 97
look_fault_number NoItrRloc = 131
look_fault_number Silent = 132
look_fault_number Negative = 133
look_fault_number NoNonce = 134

-- 2 where a word is missing, 4 for a negative Map-Reply, else 1
abbrev pub look_fault_status : LookFault → ℕ
look_fault_status NoItrRloc = 2
look_fault_status Negative = 4
look_fault_status _ = 1
