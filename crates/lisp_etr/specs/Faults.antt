-- A router's faults: their numbers, and those of its store.
use Rattle.std.specs.Prelude.{◌≡◌, ◌≢◌, ◌⊎◌, ℕ}
use Rattle.lisp_nonces.specs.declared.fault.StoreFault.{StoreFault}
use Rattle.lisp_nonces.specs.declared.fault.StoreFault.TheVariants as stores
use Rattle.lisp_messages.specs.declared.fault.ReadFault.{ReadFault}
use Rattle.lisp_messages.specs.declared.fault.ReadFault.TheVariants as reads
use Rattle.lisp_etr.specs.declared.start_fault.StartFault.{StartFault}
use Rattle.lisp_etr.specs.declared.start_fault.StartFault.TheVariants as starts
use Rattle.lisp_etr.specs.declared.rotate_fault.RotateFault.{RotateFault}
use Rattle.lisp_etr.specs.declared.rotate_fault.RotateFault.TheVariants as rotates
use Rattle.lisp_etr.specs.declared.send_fault.SendFault.{SendFault}
use Rattle.lisp_etr.specs.declared.send_fault.SendFault.TheVariants as sends
use Rattle.lisp_etr.specs.declared.notify_fault.NotifyFault.{NotifyFault}
use Rattle.lisp_etr.specs.declared.notify_fault.NotifyFault.TheVariants as notifies

abbrev pub start_fault_number : StartFault → ℕ
start_fault_number (starts.Store _) = 35
start_fault_number starts.OutOfMemory = 36

abbrev pub rotate_fault_number : RotateFault → ℕ
rotate_fault_number rotates.SameKey = 37
rotate_fault_number (rotates.Store _) = 38

abbrev pub send_fault_number : SendFault → ℕ
send_fault_number sends.NoServer = 40
send_fault_number sends.NonceSpent = 41
send_fault_number (sends.Store _) = 42
send_fault_number sends.OutOfMemory = 48
send_fault_number sends.NoPart = 49

abbrev pub notify_fault_number : NotifyFault → ℕ
notify_fault_number (notifies.Read _) = 43
notify_fault_number notifies.NotMine = 44
notify_fault_number notifies.WrongKey = 45
notify_fault_number notifies.BadAuth = 46
notify_fault_number (notifies.Stale _) = 47
notify_fault_number notifies.OutOfMemory = 48

-- the refusal of a message that can't be read; out of memory says nothing of the message
abbrev pub fault_of_read : ReadFault → NotifyFault
fault_of_read reads.OutOfMemory = notifies.OutOfMemory
fault_of_read fault = notifies.Read fault

-- a save for which the store had no memory
abbrev pub store_out_of_memory : SendFault
store_out_of_memory = sends.Store stores.OutOfMemory

-- a save at which the store's device failed
abbrev pub device_failed : SendFault
device_failed = sends.Store stores.Device

-- the fault of a save, which is never Damaged
abbrev pub IsOfSave : SendFault → Type 0
IsOfSave fault = (f : StoreFault) × (fault ≡ sends.Store f) × (f ≢ stores.Damaged)

-- why a send is refused, where memory isn't: no such Map-Server or part, no nonce left, or a device that failed
abbrev pub IsSendReason : SendFault → Type 0
IsSendReason fault =
    (fault ≡ sends.NoServer) ⊎ (fault ≡ sends.NoPart) ⊎ (fault ≡ sends.NonceSpent) ⊎ (fault ≡ device_failed)
