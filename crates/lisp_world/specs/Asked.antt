-- What a network says of a node that was asked for a message, and what it sent.
use Rattle.std.specs.Prelude.{◌≡◌, ℕ, List, [], ◌++◌, Option, Some, None, Result}
use Rattle.lisp_records.specs.declared.address.Addr.{Addr}
use Rattle.lisp_etr.specs.declared.send_fault.SendFault.{SendFault}
use Rattle.lisp_admission.specs.declared.notice_fault.NoticeFault.{NoticeFault}
use Rattle.lisp_model.specs.declared.line.Line.{Line}
use Rattle.lisp_model.specs.declared.line.Line.TheVariants as lines
use Rattle.lisp_refinement.specs.World.{DatagramValue, WorldState}
use Rattle.lisp_refinement.specs.Events.{address_of, SaysSendAnswer, SaysNoticeAnswer, SaysResendAnswer}

-- a router's line and what it sent; one that is down answers nothing
abbrev pub SaysAsked : WorldState → ℕ → ℕ → ℕ → Option (Result (List ℕ) SendFault) → Line → List DatagramValue → Type 0
SaysAsked old router server part (Some answer) line more = SaysSendAnswer old router server part answer line more
SaysAsked old router server part None line more = (line ≡ lines.Down router) × (more ≡ [])

-- in each network that has this bag it grew by what a router sent of a part, from its address to a Map-Server's
abbrev pub BagGrowsBySend : (old new : List DatagramValue) → (from to : Addr) → (router server part : ℕ)
    → Option (Result (List ℕ) SendFault) → Line → Type 0
BagGrowsBySend old new from to router server part answer line = (w : WorldState) → old ≡ w.bag → from ≡ address_of w router
    → to ≡ address_of w server
    → (more : List DatagramValue) × (new ≡ w.bag ++ more) × SaysAsked w router server part answer line more

-- by a notice of a Map-Server, and by one that it sent again
abbrev pub BagGrowsByNotice : (old new : List DatagramValue) → Addr → (server router : ℕ)
    → Result (Addr × List ℕ) NoticeFault → Line → Type 0
BagGrowsByNotice old new from server router notice line = (w : WorldState) → old ≡ w.bag → from ≡ address_of w server
    → (more : List DatagramValue) × (new ≡ w.bag ++ more) × SaysNoticeAnswer w server router notice line more

abbrev pub BagGrowsByResend : (old new : List DatagramValue) → Addr → (server router : ℕ)
    → Result (Addr × List ℕ) NoticeFault → Line → Type 0
BagGrowsByResend old new from server router notice line = (w : WorldState) → old ≡ w.bag → from ≡ address_of w server
    → (more : List DatagramValue) × (new ≡ w.bag ++ more) × SaysResendAnswer w server router notice line more
