-- What a refusal carries, in words behind its number.
use Rattle.std.specs.Prelude.{ℕ, List, [], ◌++◌, codes}
use Rattle.std.specs.Fmt.{decimal}
use Rattle.lisp_records.specs.Fault.{fault_number as record_fault_number}
use Rattle.lisp_messages.specs.Fault.{fault_number as read_fault_number}
use Rattle.lisp_messages.specs.declared.fault.ReadFault.{ReadFault}
use Rattle.lisp_messages.specs.declared.fault.ReadFault.TheVariants as reads
use Rattle.lisp_nonces.specs.Fault.{fault_number as store_fault_number}
use Rattle.lisp_nonces.specs.declared.fault.StoreFault.{StoreFault}
use Rattle.lisp_etr.specs.declared.send_fault.SendFault.TheVariants as sends
use Rattle.lisp_etr.specs.declared.notify_fault.NotifyFault.TheVariants as notifies
use Rattle.lisp_etr.specs.declared.start_fault.StartFault.TheVariants as starts
use Rattle.lisp_etr.specs.declared.rotate_fault.RotateFault.TheVariants as rotates
use Rattle.lisp_admission.specs.declared.limit.Limit.TheVariants as limits
use Rattle.lisp_admission.specs.declared.notice_fault.NoticeFault.TheVariants as notices
use Rattle.lisp_admission.specs.declared.refused.Refused.{Refused}
use Rattle.lisp_admission.specs.declared.refused.Refused.TheVariants as refused
use Rattle.lisp_model.specs.declared.refusal.Refusal.{Refusal}
use Rattle.lisp_model.specs.declared.refusal.Refusal.TheVariants as refusals

-- a number, and what it is
abbrev pub carried : List ℕ → ℕ → List ℕ
carried what number = codes " " ++ what ++ codes " " ++ decimal number

-- the fault of a store
abbrev pub store_words : StoreFault → List ℕ
store_words fault = carried (codes "store") (store_fault_number fault)

-- the fault of a message; for a record its place and fault too
abbrev pub record_words : ℕ → ℕ → ℕ → List ℕ
record_words read place fault = carried (codes "read") read ++ carried (codes "record") place ++ carried (codes "fault") fault

abbrev pub read_words : ReadFault → List ℕ
read_words (reads.Record i f) = record_words (read_fault_number (reads.Record i f)) i (record_fault_number f)
read_words fault = carried (codes "read") (read_fault_number fault)

abbrev pub refused_words : Refused → List ℕ
refused_words (refused.Read fault) = read_words fault
refused_words (refused.NotAllowed place) = carried (codes "record") place
refused_words (refused.Limited _ (limits.Ttl place)) = carried (codes "record") place
refused_words (refused.StoreLoad fault) = store_words fault
refused_words (refused.Replay saved) = carried (codes "saved") saved
refused_words (refused.Jump _ saved) = carried (codes "saved") saved
refused_words (refused.StoreSave fault) = store_words fault
refused_words _ = []

abbrev pub carried_words : Refusal → List ℕ
carried_words (refusals.Send (sends.Store fault)) = store_words fault
carried_words (refusals.Notify (notifies.Read fault)) = read_words fault
carried_words (refusals.Notify (notifies.Stale latest)) = carried (codes "latest") latest
carried_words (refusals.Receive why) = refused_words why
carried_words (refusals.Notice (notices.StoreLoad fault)) = store_words fault
carried_words (refusals.Notice (notices.StoreSave fault)) = store_words fault
carried_words (refusals.Start (starts.Store fault)) = store_words fault
carried_words (refusals.Rotate (rotates.Store fault)) = store_words fault
carried_words _ = []
