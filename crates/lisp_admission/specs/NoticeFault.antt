-- Why a Map-Server doesn't send an unsolicited Map-Notify (notice): the numbers, and
-- the faults for want of a store's memory.
use Rattle.std.specs.Prelude.{ℕ}
use Rattle.lisp_nonces.specs.declared.fault.StoreFault.TheVariants as stores
use Rattle.lisp_admission.specs.declared.notice_fault.NoticeFault.{NoticeFault}
use Rattle.lisp_admission.specs.declared.notice_fault.NoticeFault.TheVariants.{NotRegistered, TooLarge, StoreLoad, NonceSpent, OutOfMemory, StoreSave, NotDue}

abbrev pub notice_fault_number : NoticeFault → ℕ
notice_fault_number NotRegistered = 62
notice_fault_number TooLarge = 63
notice_fault_number NonceSpent = 64
notice_fault_number (StoreSave _) = 65
notice_fault_number OutOfMemory = 66
notice_fault_number NotDue = 67
notice_fault_number (StoreLoad _) = 68

-- the store had no memory for the load of the last nonce
abbrev pub notice_load_out_of_memory : NoticeFault
notice_load_out_of_memory = StoreLoad stores.OutOfMemory

-- or for the save of the new one
abbrev pub notice_save_out_of_memory : NoticeFault
notice_save_out_of_memory = StoreSave stores.OutOfMemory
