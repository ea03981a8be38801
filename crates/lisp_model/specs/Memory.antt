-- Which lines say out of memory, and that they may only where memory may be refused.
use Rattle.std.specs.Prelude.{◌≡◌, Bool, true, false}
use Rattle.lisp_nonces.specs.declared.fault.StoreFault.TheVariants as stores
use Rattle.lisp_etr.specs.declared.notify_fault.NotifyFault.TheVariants as notifies
use Rattle.lisp_etr.specs.declared.rotate_fault.RotateFault.TheVariants as rotates
use Rattle.lisp_etr.specs.declared.send_fault.SendFault.TheVariants as sends
use Rattle.lisp_etr.specs.declared.start_fault.StartFault.TheVariants as starts
use Rattle.lisp_admission.specs.declared.notice_fault.NoticeFault.TheVariants as notices
use Rattle.lisp_admission.specs.declared.refused.Refused.TheVariants as refuseds
use Rattle.lisp_model.specs.declared.line.Line.{Line}
use Rattle.lisp_model.specs.declared.line.Line.TheVariants as lines
use Rattle.lisp_model.specs.declared.refusal.Refusal.{Refusal}
use Rattle.lisp_model.specs.declared.refusal.Refusal.TheVariants as refusals

-- a refusal says that the node's memory was refused
abbrev pub is_node_memory : Refusal → Bool
is_node_memory (refusals.Send sends.OutOfMemory) = true
is_node_memory (refusals.Notify notifies.OutOfMemory) = true
is_node_memory (refusals.Receive refuseds.OutOfMemory) = true
is_node_memory (refusals.Notice notices.OutOfMemory) = true
is_node_memory (refusals.Start starts.OutOfMemory) = true
is_node_memory _ = false

-- a refusal says that its store's memory was refused
abbrev pub is_store_memory : Refusal → Bool
is_store_memory (refusals.Send (sends.Store stores.OutOfMemory)) = true
is_store_memory (refusals.Receive (refuseds.StoreLoad stores.OutOfMemory)) = true
is_store_memory (refusals.Receive (refuseds.StoreSave stores.OutOfMemory)) = true
is_store_memory (refusals.Notice (notices.StoreLoad stores.OutOfMemory)) = true
is_store_memory (refusals.Notice (notices.StoreSave stores.OutOfMemory)) = true
is_store_memory (refusals.Start (starts.Store stores.OutOfMemory)) = true
is_store_memory (refusals.Rotate (rotates.Store stores.OutOfMemory)) = true
is_store_memory _ = false

-- a line says out of memory only where the node's memory, or its store, may refuse
abbrev pub MayTell : Type 0 → Type 0 → Line → Type 0
MayTell node store (lines.Refused _ why) = (is_node_memory why ≡ true → node) × (is_store_memory why ≡ true → store)
MayTell node store _ = Unit {0}
