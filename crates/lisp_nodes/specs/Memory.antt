-- Where a node may say that memory was refused.
use Rattle.std.specs.Prelude.{Option, Result, IfSome, IsErrOf}
use Rattle.lisp_nonces.specs.declared.fault.StoreFault.TheVariants as faults
use Rattle.lisp_etr.specs.declared.send_fault.SendFault.{SendFault}
use Rattle.lisp_etr.specs.declared.send_fault.SendFault.TheVariants as send_faults
use Rattle.lisp_etr.specs.declared.rotate_fault.RotateFault.{RotateFault}
use Rattle.lisp_etr.specs.declared.rotate_fault.RotateFault.TheVariants as rotate_faults
use Rattle.lisp_etr.specs.declared.start_fault.StartFault.{StartFault}
use Rattle.lisp_etr.specs.declared.start_fault.StartFault.TheVariants as start_faults
use Rattle.lisp_admission.specs.declared.refused.Refused.{Refused}
use Rattle.lisp_admission.specs.declared.refused.Refused.TheVariants as refuseds
use Rattle.lisp_admission.specs.declared.notice_fault.NoticeFault.{NoticeFault}
use Rattle.lisp_admission.specs.declared.notice_fault.NoticeFault.TheVariants as notice_faults

-- a router that is up refuses for this reason only where that may be
abbrev pub RefusesOnlyIf : {X E : Type 0} → Option (Result X E) → E → Type 0 → Type 0
RefusesOnlyIf result why May = IfSome result (λ answer. IsErrOf answer why → May)

-- the store of a Map-Server was refused memory: for the nonce of a Map-Register that arrived, and for that of a notice
abbrev pub no_store_memory_to_load : Refused
no_store_memory_to_load = refuseds.StoreLoad faults.OutOfMemory

abbrev pub no_store_memory_to_save : Refused
no_store_memory_to_save = refuseds.StoreSave faults.OutOfMemory

abbrev pub no_store_memory_to_load_notice : NoticeFault
no_store_memory_to_load_notice = notice_faults.StoreLoad faults.OutOfMemory

abbrev pub no_store_memory_to_save_notice : NoticeFault
no_store_memory_to_save_notice = notice_faults.StoreSave faults.OutOfMemory

-- the store of a router: for the nonce of a Map-Register to send, for the last nonce under another key, and at its start
abbrev pub no_store_memory_to_send : SendFault
no_store_memory_to_send = send_faults.Store faults.OutOfMemory

abbrev pub no_store_memory_to_rotate : RotateFault
no_store_memory_to_rotate = rotate_faults.Store faults.OutOfMemory

abbrev pub no_store_memory_to_start : StartFault
no_store_memory_to_start = start_faults.Store faults.OutOfMemory
