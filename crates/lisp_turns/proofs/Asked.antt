-- The acts of a node that was asked for a message, from what the node made of it.
use Rattle.std.proofs.Common.{◌≡◌, ℕ, List, Option, Some, Result, Ok, Err, ap, ◌∙◌}
use Rattle.lisp_records.specs.declared.address.Addr.{Addr}
use Rattle.lisp_policy.specs.Configuration.{ConfigValue}
use Rattle.lisp_etr.specs.declared.send_fault.SendFault.{SendFault}
use Rattle.lisp_admission.specs.declared.notice_fault.NoticeFault.{NoticeFault}
use Rattle.lisp_model.specs.declared.line.Line.{Line}
use Rattle.lisp_model.specs.declared.line.Line.TheVariants as lines
use Rattle.lisp_model.specs.Trace.{address_at}
use Rattle.lisp_nodes.specs.Asked.{SaysSent, SaysNotice, said_resent}
use Rattle.lisp_turns.specs.Act.{ActValue}
use Rattle.lisp_turns.specs.Serving.{answer_act, SendAct, NoticeAct, resend_act}

pub send_act : (config : ConfigValue) (number server part : ℕ) (to : Addr) (answer : Result (List ℕ) SendFault) (said : Line × Option (List ℕ)) (act : ActValue)
    → SaysSent number server part 0 (Some answer) said → act ≡ answer_act said.0 to said.1 → to ≡ address_at config server → SendAct config number server part answer act
send_act config number server part to (Ok bytes) said act says is there = record {
  head = says.head;
  read = says.read;
  is = is ∙ ap (λ (s : Line × Option (List ℕ)). answer_act s.0 to s.1) says.is
      ∙ ap (λ (at : Addr). record { line = lines.Sent number server part says.head.key_id says.head.nonce 0; message = Some (at, bytes) }) there;
}
send_act config number server part to (Err fault) said act says is there = is ∙ ap (λ (s : Line × Option (List ℕ)). answer_act s.0 to s.1) says

abbrev act_of : Line × Option (Addr × List ℕ) → ActValue
act_of said = record { line = said.0; message = said.1 }

pub notice_act : (number router : ℕ) (answer : Result (Addr × List ℕ) NoticeFault) (said : Line × Option (Addr × List ℕ)) (act : ActValue)
    → SaysNotice number router 0 answer said → act ≡ act_of said → NoticeAct number router answer act
notice_act number router (Ok sent) said act says is = record { head = says.head; read = says.read; is = is ∙ ap act_of says.is }
notice_act number router (Err fault) said act says is = is ∙ ap act_of says

pub resent_act : (number router : ℕ) (answer : Result (Addr × List ℕ) NoticeFault) (said : Line × Option (Addr × List ℕ)) (act : ActValue)
    → said ≡ said_resent number router 0 answer → act ≡ act_of said → act ≡ resend_act number router answer
resent_act number router (Ok sent) said act says is = is ∙ ap act_of says
resent_act number router (Err fault) said act says is = is ∙ ap act_of says
