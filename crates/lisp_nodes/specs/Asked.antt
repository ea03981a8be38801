-- What a node that was asked for a message, or to go over to another key or database, makes of it: its line, and the message.
use Rattle.std.specs.Prelude.{◌≡◌, ℕ, Bool, true, false, List, Option, Some, None, Result, Ok, Err}
use Rattle.std.specs.Option.{option_map, option_to_list}
use Rattle.lisp_records.specs.declared.address.Addr.{Addr}
use Rattle.lisp_messages.specs.declared.head.Head.{Head}
use Rattle.lisp_messages.specs.Head.{head_at}
use Rattle.lisp_etr.specs.declared.rotate_fault.RotateFault.{RotateFault}
use Rattle.lisp_etr.specs.declared.send_fault.SendFault.{SendFault}
use Rattle.lisp_admission.specs.declared.notice_fault.NoticeFault.{NoticeFault}
use Rattle.lisp_model.specs.declared.line.Line.{Line}
use Rattle.lisp_model.specs.declared.line.Line.TheVariants as lines
use Rattle.lisp_model.specs.declared.refusal.Refusal.TheVariants as refusals
use Rattle.lisp_refinement.specs.World.{DatagramValue}
use Rattle.lisp_refinement.specs.Events.{rotate_line}

-- a message went out: the line has the Key ID and the nonce that stand in it
pub record SaysMade {X : Type 0} (bytes : List ℕ) (message : X) (line_of : ℕ → ℕ → Line) (said : Line × Option X) : Type 0 where
  pub head : Head
  pub read : head_at bytes ≡ Some head
  pub is : said ≡ (line_of head.key_id head.nonce, Some message)

-- a router was asked for a Map-Register of a part, which is the datagram with a number (RFC 9301 section 5.6); one that is down makes none
abbrev pub SaysSent : (router server part datagram : ℕ) → Option (Result (List ℕ) SendFault) → Line × Option (List ℕ) → Type 0
SaysSent router server part datagram (Some (Ok bytes)) said =
    SaysMade bytes bytes (λ key nonce. lines.Sent router server part key nonce datagram) said
SaysSent router server part datagram (Some (Err fault)) said = said ≡ (lines.Refused router (refusals.Send fault), None)
SaysSent router server part datagram None said = said ≡ (lines.Down router, None)

-- a Map-Server was asked for a notice to a router (section 5.7)
abbrev pub SaysNotice : (server router datagram : ℕ) → Result (Addr × List ℕ) NoticeFault → Line × Option (Addr × List ℕ)
    → Type 0
SaysNotice server router datagram (Ok sent) said =
    SaysMade sent.1 sent (λ key nonce. lines.Notice server router key nonce datagram) said
SaysNotice server router datagram (Err fault) said = said ≡ (lines.Refused server (refusals.Notice fault), None)

-- for one that it sends again
abbrev pub said_resent : (server router datagram : ℕ) → Result (Addr × List ℕ) NoticeFault → Line × Option (Addr × List ℕ)
said_resent server router datagram (Ok sent) = (lines.Resent server router datagram, Some sent)
said_resent server router datagram (Err fault) = (lines.Refused server (refusals.Notice fault), None)

-- a router was given another database, of so many records; it took it where it is up
abbrev pub said_changed : (router records : ℕ) → Bool → Line
said_changed router records true = lines.Changed router records
said_changed router records false = lines.Down router

-- a router was asked to go over to a key
abbrev pub asked_rotate_line : ℕ → ℕ → Option (Result (Unit {0}) RotateFault) → Line
asked_rotate_line router key (Some answer) = rotate_line router key answer
asked_rotate_line router key None = lines.Down router

-- the datagram of a message that goes to an address, if there is one
abbrev pub datagram_of : Addr → Option (Addr × List ℕ) → List DatagramValue
datagram_of from message = option_to_list (option_map (λ m. record { from = from; to = m.0; bytes = m.1 }) message)
