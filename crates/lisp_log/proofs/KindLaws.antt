-- All that may repeat is known.
use Rattle.std.proofs.Common.{◌≡◌, true, refl}
use Rattle.std.specs.List.{Contains, list_any}
use Rattle.std.proofs.lemmas.Map.Views.{Contains-from_any}
use Rattle.lisp_etr.specs.declared.notify_fault.NotifyFault.TheVariants as notifies
use Rattle.lisp_etr.specs.declared.rotate_fault.RotateFault.TheVariants as rotates
use Rattle.lisp_etr.specs.declared.send_fault.SendFault.TheVariants as sends
use Rattle.lisp_etr.specs.declared.start_fault.StartFault.TheVariants as starts
use Rattle.lisp_policy.specs.declared.full.Full.TheVariants as fulls
use Rattle.lisp_admission.specs.declared.limit.Limit.TheVariants as limits
use Rattle.lisp_admission.specs.declared.notice_fault.NoticeFault.TheVariants as notices
use Rattle.lisp_admission.specs.declared.refused.Refused.TheVariants as refused
use Rattle.lisp_mapping.specs.declared.outcome.Outcome.TheVariants as outcomes
use Rattle.lisp_model.specs.Faults.{refusal_number}
use Rattle.lisp_model.specs.declared.line.Line.TheVariants as lines
use Rattle.lisp_model.specs.declared.refusal.Refusal.{Refusal}
use Rattle.lisp_model.specs.declared.refusal.Refusal.TheVariants as refusals
use Rattle.lisp_requests.specs.declared.fault.RequestFault.TheVariants as requests
use Rattle.lisp_mapping.specs.Unasked.{unasked_number}
use Rattle.lisp_mapping.specs.declared.unasked.Unasked.{Unasked}
use Rattle.lisp_mapping.specs.declared.unasked.Unasked.TheVariants as unasked
use Rattle.lisp_turns.specs.declared.outside.Printed.TheVariants as printed
use Rattle.lisp_log.specs.declared.repeats.Repeated.{Repeated}
use Rattle.lisp_log.specs.declared.repeats.Repeated.TheVariants.{Refused, Replied, Negative, Forwarded, Unanswered}
use Rattle.lisp_log.specs.Sums.{repeated_eq}
use Rattle.lisp_log.specs.Few.{kinds, KindsAreAll}
use Rattle.lisp_log.proofs.Repeating.{equal_is_same}

-- what the test finds among them
known : (what : Repeated) → list_any (repeated_eq what) kinds ≡ true → Contains kinds what
known what = Contains-from_any (λ one other. (equal_is_same one other).0) what kinds

refusal_known : (what : Refusal) → Contains kinds (Refused (refusal_number what))
refusal_known (refusals.Send sends.NoServer) = known (Refused 40) refl
refusal_known (refusals.Notify notifies.NotMine) = known (Refused 44) refl
refusal_known (refusals.Receive (refused.Limited site limits.Router)) = known (Refused 69) refl
refusal_known (refusals.Receive (refused.Full site fulls.Rows)) = known (Refused 140) refl
refusal_known (refusals.Notice notices.NotDue) = known (Refused 67) refl
refusal_known (refusals.Start starts.OutOfMemory) = known (Refused 36) refl
refusal_known (refusals.Rotate rotates.SameKey) = known (Refused 37) refl
refusal_known what = known (Refused (refusal_number what)) refl

unasked_known : (why : Unasked) → Contains kinds (Refused (unasked_number why))
unasked_known (unasked.Request requests.Short) = known (Refused 110) refl
unasked_known why = known (Refused (unasked_number why)) refl

pub kinds_are_all : KindsAreAll
kinds_are_all (printed.Heard (lines.Refused node what) from) = refusal_known what
kinds_are_all (printed.Unasked from why) = unasked_known why
kinds_are_all (printed.OverBudget from) = known (Refused 135) refl
kinds_are_all (printed.Asked eid to (outcomes.Replied records)) = known Replied refl
kinds_are_all (printed.Asked eid to (outcomes.Negative hole)) = known Negative refl
kinds_are_all (printed.Asked eid to (outcomes.Forwarded router)) = known Forwarded refl
kinds_are_all (printed.Asked eid to outcomes.Silent) = known Unanswered refl
kinds_are_all _ = tt
