-- Which lines are counted together: those of one first word, and of refusals those of one number.
use Rattle.std.specs.Prelude.{◌≡◌, ℕ, ◌+◌, ◌<◌, List, codes, Option, Some, None}
use Rattle.std.specs.declared.cmp.Ordering.{Ordering}
use Rattle.std.specs.declared.cmp.Ordering.TheVariants.{Less}
use Rattle.lisp_model.specs.Faults.{refusal_number}
use Rattle.lisp_model.specs.declared.line.Line.{Line}
use Rattle.lisp_model.specs.declared.line.Line.TheVariants as lines
use Rattle.lisp_mapping.specs.declared.outcome.Outcome.{Outcome}
use Rattle.lisp_mapping.specs.declared.outcome.Outcome.TheVariants as outcomes
use Rattle.lisp_mapping.specs.Unasked.{unasked_number}
use Rattle.lisp_turns.specs.Outside.{call_number}
use Rattle.lisp_turns.specs.declared.outside.Printed.{Printed}
use Rattle.lisp_turns.specs.declared.outside.Printed.TheVariants as printed
use Rattle.lisp_log.specs.Text.{over_budget_number}
use Rattle.lisp_statistics.specs.declared.kind.LineKind.{LineKind}
use Rattle.lisp_statistics.specs.declared.kind.LineKind.TheVariants as kinds

-- of a datagram that reached no node, of time, and of a store that was lost no node tells that runs
abbrev pub kind_of_line : Line → Option LineKind
kind_of_line (lines.Accepted server router key nonce datagram) = Some kinds.Accepted
kind_of_line (lines.Changed router records) = Some kinds.Changed
kind_of_line (lines.Counted router server part key nonce) = Some kinds.Counted
kind_of_line (lines.Done server router nonce) = Some kinds.Done
kind_of_line (lines.Down router) = Some kinds.Down
kind_of_line (lines.Notice server router key nonce datagram) = Some kinds.Notice
kind_of_line (lines.Noticed router server nonce datagram) = Some kinds.Noticed
kind_of_line (lines.Reloaded server sites) = Some kinds.Reloaded
kind_of_line (lines.Renewed server sites) = Some kinds.Reloaded
kind_of_line (lines.Resent server router datagram) = Some kinds.Resent
kind_of_line (lines.Restarted node) = Some kinds.Restarted
kind_of_line (lines.Rotated router key) = Some kinds.Rotated
kind_of_line (lines.Sent router server part key nonce datagram) = Some kinds.Sent
kind_of_line (lines.Refused node what) = Some (kinds.Refused (refusal_number what))
kind_of_line (lines.Nowhere datagram) = None
kind_of_line (lines.Ticked ms now) = None
kind_of_line (lines.Emptied router key) = None

-- of what is said of an EID-Prefix that a Map-Request asks for
abbrev pub kind_of_outcome : Outcome → LineKind
kind_of_outcome (outcomes.Replied records) = kinds.Replied
kind_of_outcome (outcomes.Negative hole) = kinds.Negative
kind_of_outcome (outcomes.Forwarded router) = kinds.Forwarded
kind_of_outcome outcomes.Silent = kinds.Unanswered

abbrev pub kind_of : Printed → Option LineKind
kind_of (printed.Event line) = kind_of_line line
kind_of (printed.Heard line from) = kind_of_line line
kind_of (printed.Expired router eid) = Some kinds.Expired
kind_of (printed.Asked eid to outcome) = Some (kind_of_outcome outcome)
kind_of (printed.Unasked from why) = Some (kinds.Refused (unasked_number why))
kind_of (printed.OverBudget from) = Some (kinds.Refused over_budget_number)
kind_of (printed.Failed call) = Some (kinds.Refused (call_number call))

-- the first word of its lines
abbrev pub kind_word : LineKind → List ℕ
kind_word kinds.Accepted = codes "accepted"
kind_word kinds.Changed = codes "change"
kind_word kinds.Counted = codes "counted"
kind_word kinds.Done = codes "done"
kind_word kinds.Down = codes "down"
kind_word kinds.Expired = codes "expired"
kind_word kinds.Forwarded = codes "forwarded"
kind_word kinds.Negative = codes "negative"
kind_word kinds.Notice = codes "notice"
kind_word kinds.Noticed = codes "noticed"
kind_word kinds.Reloaded = codes "reloaded"
kind_word kinds.Replied = codes "replied"
kind_word kinds.Resent = codes "resent"
kind_word kinds.Restarted = codes "restarted"
kind_word kinds.Rotated = codes "rotated"
kind_word kinds.Sent = codes "sent"
kind_word kinds.Unanswered = codes "unanswered"
kind_word (kinds.Refused number) = codes "refused"

-- the number of its refusals
abbrev pub kind_number : LineKind → Option ℕ
kind_number (kinds.Refused number) = Some number
kind_number _ = None

-- where a kind stands among those that are told: by its word, and refusals behind all others
abbrev pub kind_place : LineKind → ℕ
kind_place kinds.Accepted = 0
kind_place kinds.Changed = 1
kind_place kinds.Counted = 2
kind_place kinds.Done = 3
kind_place kinds.Down = 4
kind_place kinds.Expired = 5
kind_place kinds.Forwarded = 6
kind_place kinds.Negative = 7
kind_place kinds.Notice = 8
kind_place kinds.Noticed = 9
kind_place kinds.Reloaded = 10
kind_place kinds.Replied = 11
kind_place kinds.Resent = 12
kind_place kinds.Restarted = 13
kind_place kinds.Rotated = 14
kind_place kinds.Sent = 15
kind_place kinds.Unanswered = 16
kind_place (kinds.Refused number) = 17 + number

-- so they are ordered, refusals by their numbers
abbrev pub KindsByWord : (LineKind → LineKind → Ordering) → Type 0
KindsByWord cmp = (one other : LineKind) → kind_place one < kind_place other → cmp one other ≡ Less
