-- The numbers of refusals, and of what a network doesn't take.
use Rattle.std.specs.Prelude.{ℕ}
use Rattle.lisp_etr.specs.Faults.{start_fault_number, rotate_fault_number, send_fault_number, notify_fault_number}
use Rattle.lisp_admission.specs.Refused.{refused_number}
use Rattle.lisp_admission.specs.NoticeFault.{notice_fault_number}
use Rattle.lisp_model.specs.declared.refusal.Refusal.{Refusal}
use Rattle.lisp_model.specs.declared.refusal.Refusal.TheVariants as refusals
use Rattle.lisp_model.specs.declared.world_fault.WorldFault.{WorldFault}
use Rattle.lisp_model.specs.declared.world_fault.WorldFault.TheVariants as world_faults

abbrev pub refusal_number : Refusal → ℕ
refusal_number (refusals.Send fault) = send_fault_number fault
refusal_number (refusals.Notify fault) = notify_fault_number fault
refusal_number (refusals.Receive refused) = refused_number refused
refusal_number (refusals.Notice fault) = notice_fault_number fault
refusal_number (refusals.Start fault) = start_fault_number fault
refusal_number (refusals.Rotate fault) = rotate_fault_number fault

abbrev pub world_fault_number : WorldFault → ℕ
world_fault_number world_faults.NoNode = 70
world_fault_number world_faults.WrongKind = 71
world_fault_number world_faults.NoDatagram = 72
world_fault_number world_faults.Clock = 73
world_fault_number world_faults.Repeated = 74
world_fault_number world_faults.OutOfMemory = 75
world_fault_number (world_faults.Start _ _) = 76
world_fault_number world_faults.KeyUsed = 77
world_fault_number world_faults.UnknownKey = 78
