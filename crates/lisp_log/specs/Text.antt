-- The texts of lines.
use Rattle.std.specs.Prelude.{ℕ, ◌-◌, ◌==◌, List, [], ◌∷◌, ◌++◌, codes, Option, Some, None, if◌then◌else◌}
use Rattle.std.specs.Fmt.{decimal}
use Rattle.lisp_records.specs.declared.address.Addr.{Addr}
use Rattle.lisp_records.specs.declared.router.RouterId.{RouterId}
use Rattle.lisp_records.specs.Address.{PrefixValue}
use Rattle.lisp_policy.specs.Configuration.{ConfigValue}
use Rattle.lisp_texts.specs.Written.{addr_text, prefix_text}
use Rattle.lisp_nonces.specs.declared.fault.StoreFault.TheVariants.{Device as DeviceFailed}
use Rattle.lisp_etr.specs.declared.send_fault.SendFault.TheVariants as sends
use Rattle.lisp_etr.specs.declared.start_fault.StartFault.TheVariants as starts
use Rattle.lisp_etr.specs.declared.rotate_fault.RotateFault.TheVariants as rotates
use Rattle.lisp_admission.specs.declared.notice_fault.NoticeFault.TheVariants as notices
use Rattle.lisp_admission.specs.declared.refused.Refused.TheVariants as refused
use Rattle.lisp_model.specs.declared.refusal.Refusal.{Refusal}
use Rattle.lisp_model.specs.declared.refusal.Refusal.TheVariants as refusals
use Rattle.lisp_model.specs.declared.line.Line.{Line}
use Rattle.lisp_model.specs.declared.line.Line.TheVariants as lines
use Rattle.lisp_lines.specs.Line.{line_words}
use Rattle.lisp_lines.specs.Name.{node_name, router_word}
use Rattle.lisp_lines.specs.declared.wording.Wording.TheVariants.{Node}
use Rattle.lisp_mapping.specs.declared.outcome.Outcome.{Outcome}
use Rattle.lisp_mapping.specs.declared.outcome.Outcome.TheVariants as outcomes
use Rattle.lisp_mapping.specs.Unasked.{unasked_number}
use Rattle.lisp_turns.specs.declared.outside.Printed.{Printed}
use Rattle.lisp_turns.specs.declared.outside.Printed.TheVariants as printed
use Rattle.lisp_turns.specs.declared.outside.SocketCall.{SocketCall}
use Rattle.lisp_turns.specs.Outside.{call_number}
use Rattle.lisp_log.specs.declared.repeats.Repeat.{Repeat}
use Rattle.lisp_log.specs.declared.repeats.Repeated.{Repeated}
use Rattle.lisp_log.specs.declared.repeats.Repeated.TheVariants as repeated
use Rattle.lisp_log.specs.declared.repeats.Source.{Source}
use Rattle.lisp_log.specs.declared.repeats.Source.TheVariants.{Address, Others}
use Rattle.lisp_log.specs.declared.replays.Replay.{Replay}
use Rattle.lisp_log.specs.declared.text.Device.{Device}
use Rattle.lisp_log.specs.declared.text.Device.TheVariants as devices

-- the device that a refusal says has failed: the store
abbrev pub device_of_refusal : Refusal → Option Device
device_of_refusal (refusals.Send (sends.Store DeviceFailed)) = Some devices.Store
device_of_refusal (refusals.Receive (refused.StoreLoad DeviceFailed)) = Some devices.Store
device_of_refusal (refusals.Receive (refused.StoreSave DeviceFailed)) = Some devices.Store
device_of_refusal (refusals.Notice (notices.StoreLoad DeviceFailed)) = Some devices.Store
device_of_refusal (refusals.Notice (notices.StoreSave DeviceFailed)) = Some devices.Store
device_of_refusal (refusals.Start (starts.Store DeviceFailed)) = Some devices.Store
device_of_refusal (refusals.Rotate (rotates.Store DeviceFailed)) = Some devices.Store
device_of_refusal _ = None

-- and a line: a node restarts where its store couldn't commit
abbrev pub device_of_line : Line → Option Device
device_of_line (lines.Refused node what) = device_of_refusal what
device_of_line (lines.Restarted node) = Some devices.Store
device_of_line _ = None

abbrev pub device_of : Printed → Option Device
device_of (printed.Event line) = device_of_line line
device_of (printed.Heard line from) = device_of_line line
device_of (printed.Expired router eid) = None
device_of (printed.Asked eid to outcome) = None
device_of (printed.Unasked from why) = None
device_of (printed.OverBudget from) = None
device_of (printed.Failed call) = Some devices.Socket

-- the kind of an error, and a source address, behind a line
abbrev pub cause_words : Option (List ℕ) → List ℕ
cause_words (Some cause) = codes " " ++ cause
cause_words None = []

abbrev pub source_words : Addr → List ℕ
source_words from = codes " from " ++ addr_text from

-- the line of an event, and what caused it; and where the datagram came from that brought it about
abbrev pub caused_words : ConfigValue → Option (List ℕ) → Line → List ℕ
caused_words c cause line = line_words c Node line ++ cause_words cause

abbrev pub heard_words : ConfigValue → Option (List ℕ) → Line → Addr → List ℕ
heard_words c cause line from = caused_words c cause line ++ source_words from

-- a row that died, and a call of the socket that failed
abbrev pub expired_words : ConfigValue → List ℕ → RouterId → PrefixValue → List ℕ
expired_words c name router eid = codes "expired " ++ name ++ codes " " ++ router_word c Node router ++ codes " " ++ prefix_text eid

abbrev pub failed_words : List ℕ → SocketCall → List ℕ
failed_words name call = codes "refused " ++ name ++ codes " " ++ decimal (call_number call)

-- what is said of an EID-Prefix that a Map-Request asks for, and where Map-Replies go, or where the Map-Request itself goes on to; behind it
-- how many records a Map-Reply has, or for which prefix nobody is there
abbrev pub replies_words : List ℕ → List ℕ → PrefixValue → Addr → List ℕ
replies_words verb name eid to = verb ++ codes " " ++ name ++ codes " " ++ prefix_text eid ++ codes " to " ++ addr_text to

abbrev pub asked_words : List ℕ → PrefixValue → Addr → Outcome → List ℕ
asked_words name eid to (outcomes.Replied records) = replies_words (codes "replied") name eid to ++ codes " records " ++ decimal records
asked_words name eid to (outcomes.Negative hole) = replies_words (codes "negative") name eid to ++ codes " prefix " ++ prefix_text hole
asked_words name eid to (outcomes.Forwarded router) = replies_words (codes "forwarded") name eid router
asked_words name eid to outcomes.Silent = replies_words (codes "unanswered") name eid to

-- the number of a datagram that is held back since it is over the budget; and what is refused of a Map-Request from an address
abbrev pub over_budget_number : ℕ
over_budget_number = 135

abbrev pub refused_words : List ℕ → ℕ → Addr → List ℕ
refused_words name number from = codes "refused " ++ name ++ codes " " ++ decimal number ++ source_words from

-- what the node with a name tells
abbrev pub told_words : ConfigValue → List ℕ → Option (List ℕ) → Printed → List ℕ
told_words c name cause (printed.Event line) = caused_words c cause line
told_words c name cause (printed.Heard line from) = heard_words c cause line from
told_words c name cause (printed.Expired router eid) = expired_words c name router eid
told_words c name cause (printed.Asked eid to outcome) = asked_words name eid to outcome
told_words c name cause (printed.Unasked from why) = refused_words name (unasked_number why) from
told_words c name cause (printed.OverBudget from) = refused_words name over_budget_number from
told_words c name cause (printed.Failed call) = failed_words name call ++ cause_words cause

abbrev pub told_text : ConfigValue → List ℕ → Option (List ℕ) → Printed → List ℕ
told_text c name cause line = told_words c name cause line ++ 10 ∷ []

-- how many lines of what repeats with a source weren't told: the first word, the node's name, of refusals their number, and what stands in
-- front of the source
abbrev pub repeated_words : List ℕ → Repeated → List ℕ
repeated_words name (repeated.Refused number) = codes "refused " ++ name ++ codes " " ++ decimal number ++ codes " from"
repeated_words name repeated.Replied = codes "replied " ++ name ++ codes " to"
repeated_words name repeated.Negative = codes "negative " ++ name ++ codes " to"
repeated_words name repeated.Forwarded = codes "forwarded " ++ name ++ codes " to"
repeated_words name repeated.Unanswered = codes "unanswered " ++ name ++ codes " to"

abbrev pub source_text : Source → List ℕ
source_text (Address a) = addr_text a
source_text Others = codes "others"

abbrev pub repeat_text : List ℕ → Repeat → List ℕ
repeat_text name r = repeated_words name r.what ++ codes " " ++ source_text r.source ++ codes " times " ++ decimal r.times ++ 10 ∷ []

-- how long a Map-Server hasn't acknowledged
abbrev pub silent_text : ConfigValue → List ℕ → ℕ → ℕ → List ℕ
silent_text c name server ms = codes "silent " ++ name ++ codes " " ++ node_name c server ++ codes " " ++ decimal ms ++ 10 ∷ []

-- Map-Registers that are refused as replays: where they come from, how many, the greatest nonce that was
-- saved, and for how long
abbrev pub run_words : ℕ → Replay → List ℕ
run_words now r = codes " times " ++ decimal r.times ++ codes " saved " ++ decimal r.saved ++ codes " age "
    ++ decimal (now - r.since) ++ 10 ∷ []

abbrev pub replays_words : List ℕ → Addr → List ℕ
replays_words name from = codes "replays " ++ name ++ codes " from " ++ addr_text from

abbrev pub replay_text : List ℕ → Replay → ℕ → List ℕ
replay_text name r now = replays_words name r.from ++ run_words now r

-- a router that moved: the address that it was heard from before, and the one now
abbrev pub moved_text : ConfigValue → List ℕ → RouterId → Addr → Addr → List ℕ
moved_text c name router old new = codes "moved " ++ name ++ codes " " ++ router_word c Node router ++ codes " from " ++ addr_text old
    ++ codes " to " ++ addr_text new ++ 10 ∷ []

-- how many pairs a store keeps
abbrev pub count_text : ℕ → List ℕ
count_text pairs = if pairs == 0 then codes "none" else decimal pairs

abbrev pub started_text : List ℕ → ℕ → List ℕ
started_text name pairs = codes "started " ++ name ++ codes " nonces " ++ count_text pairs ++ 10 ∷ []
