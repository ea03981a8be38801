-- What a node makes of the answers of its calls: acts.
use Rattle.std.specs.Prelude.{◌≡◌, ℕ, ◌+◌, List, length, position, Option, Some, Result, Ok, Err}
use Rattle.std.specs.Option.{option_map, unwrap_or}
use Rattle.lisp_records.specs.declared.address.Addr.{Addr}
use Rattle.lisp_records.specs.declared.router.RouterId.{RouterId}
use Rattle.lisp_records.specs.Router.{router_eq}
use Rattle.lisp_messages.specs.declared.head.Head.{Head}
use Rattle.lisp_messages.specs.Head.{head_at}
use Rattle.lisp_policy.specs.Configuration.{ConfigValue}
use Rattle.lisp_etr.specs.declared.send_fault.SendFault.{SendFault}
use Rattle.lisp_admission.specs.declared.notice_fault.NoticeFault.{NoticeFault}
use Rattle.lisp_model.specs.declared.line.Line.{Line}
use Rattle.lisp_model.specs.declared.line.Line.TheVariants as lines
use Rattle.lisp_model.specs.declared.refusal.Refusal.TheVariants as refusals
use Rattle.lisp_model.specs.Trace.{address_at}
use Rattle.lisp_turns.specs.Act.{ActValue, refused_act}

-- bytes arrived from an address, and their answer, if there is one, goes back there
abbrev pub answer_act : Line → Addr → Option (List ℕ) → ActValue
answer_act line from reply = record { line = line; message = option_map (λ bytes. (from, bytes)) reply }

-- the number of the router with an identity; one that no node has where it isn't configured
abbrev pub number_of : ConfigValue → RouterId → ℕ
number_of config me = length config.servers + unwrap_or (position (λ r. router_eq r.me me) config.routers) (length config.routers)

-- a router sent a Map-Register, whose Key ID and nonce are told, to the address of its Map-Server
pub record SentAct (config : ConfigValue) (number server part : ℕ) (bytes : List ℕ) (act : ActValue) : Type 0 where
  pub head : Head
  pub read : head_at bytes ≡ Some head
  pub is : act ≡ record {
    line = lines.Sent number server part head.key_id head.nonce 0;
    message = Some (address_at config server, bytes);
  }

-- or it refused to
abbrev pub SendAct : ConfigValue → ℕ → ℕ → ℕ → Result (List ℕ) SendFault → ActValue → Type 0
SendAct config number server part (Ok bytes) act = SentAct config number server part bytes act
SendAct config number server part (Err fault) act = act ≡ refused_act number (refusals.Send fault)

-- a Map-Server sent a router's notice again, or it refused to
abbrev pub resend_act : ℕ → ℕ → Result (Addr × List ℕ) NoticeFault → ActValue
resend_act number router (Ok sent) = record { line = lines.Resent number router 0; message = Some sent }
resend_act number router (Err fault) = refused_act number (refusals.Notice fault)

-- a Map-Server sent a router a notice, whose Key ID and nonce are told
pub record NoticeSentAct (number router : ℕ) (sent : Addr × List ℕ) (act : ActValue) : Type 0 where
  pub head : Head
  pub read : head_at sent.1 ≡ Some head
  pub is : act ≡ record { line = lines.Notice number router head.key_id head.nonce 0; message = Some sent }

-- or it refused to
abbrev pub NoticeAct : ℕ → ℕ → Result (Addr × List ℕ) NoticeFault → ActValue → Type 0
NoticeAct number router (Ok sent) act = NoticeSentAct number router sent act
NoticeAct number router (Err fault) act = act ≡ refused_act number (refusals.Notice fault)
