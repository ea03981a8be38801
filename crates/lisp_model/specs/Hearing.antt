-- What comes of a message that arrives at a router (RFC 9301 section 5.7).
use Rattle.std.specs.Prelude.{◌≡◌, ◌⊎◌, ◌≤◌, ℕ, nat_le, true, List, length, Option, Some, None, Result, Ok, Err, if◌then◌else◌}
pub use Rattle.lisp_etr.specs.declared.notify_fault.NotifyFault.{NotifyFault}
use Rattle.lisp_etr.specs.declared.notify_fault.NotifyFault.TheVariants.{Stale, OutOfMemory}
use Rattle.lisp_etr.specs.Hearing.{ServerNotify, first_notice}
use Rattle.lisp_etr.specs.Rounds.{greatest, part_with}
use Rattle.lisp_messages.specs.Reading.{HasHead, HasRecords}
use Rattle.lisp_model.specs.declared.line.Line.TheVariants as lines
use Rattle.lisp_model.specs.declared.refusal.Refusal.TheVariants as refusals
use Rattle.lisp_model.specs.Trace.{etr_config, Line}
use Rattle.lisp_model.specs.Bag.{Arrival, bag}
use Rattle.lisp_model.specs.Counted.{notify_at, latest_nonces}
use Rattle.lisp_model.specs.Context.{Context, IsAtRouter, Same}

-- the router refuses it
abbrev pub refused_with : Context → NotifyFault → Line
refused_with t fault = lines.Refused t.node (refusals.Notify fault)

-- a nonce of the routers: it counts where it is that of the last Map-Register of a part to that server since the start,
-- or since the router went over to its key
abbrev pub counted_line : Context → ServerNotify → List ℕ → Option ℕ → Line
counted_line t h latest (Some part) =
    lines.Counted t.node h.server part (etr_config t.opening t.past t.node).key_id h.message.nonce
counted_line t h latest None = refused_with t (Stale (greatest latest))

abbrev pub counted_or_stale : Context → ServerNotify → List ℕ → Line
counted_or_stale t h latest = counted_line t h latest (part_with h.message.nonce latest)

-- a nonce of the Map-Servers: it is a notice, and a Map-Notify-Ack goes out
abbrev pub heard_line : Context → ServerNotify → Line
heard_line t h =
    if nat_le first_notice h.message.nonce
    then lines.Noticed t.node h.server h.message.nonce (length (bag t.opening t.past))
    else counted_or_stale t h (latest_nonces t.past t.node h.server)

abbrev pub line_of : Context → Result ServerNotify NotifyFault → Line
line_of t (Ok h) = heard_line t h
line_of t (Err fault) = refused_with t fault

-- it is a notice, whose answer takes memory
pub record IsToAnswer (t : Context) (a : Arrival) : Type 0 where
  pub what : ServerNotify
  pub hears : notify_at t.opening t.past t.node a ≡ Ok what
  pub own : first_notice ≤ what.message.nonce

-- what arrives comes to this line at a router that is up; or memory runs out, in reading records or in answering
pub record Hears (t : Context) (a : Arrival) (line : Line) : Type 0 where
  pub acts : IsAtRouter t t.node true
  pub same : Same t
  pub comes : (line ≡ line_of t (notify_at t.opening t.past t.node a))
      ⊎ (HasHead a.bytes × (HasRecords a.bytes ⊎ IsToAnswer t a) × (line ≡ refused_with t OutOfMemory))
