-- What the layout of a Map-Reply says in plain numbers is what is told of the Map-Reply that is read.
use Rattle.std.proofs.Common.{◌≡◌, ℕ, List, refl, sym, ap, Err}
use Rattle.lisp_requests.specs.declared.fault.RequestFault.{RequestFault}
use Rattle.lisp_requests.specs.declared.reply_parts.ReplyLayout.{ReplyLayout}
use Rattle.lisp_requests.specs.Fault.{fault_number}
use Rattle.lisp_requests.specs.Reply.{reply_at}
use Rattle.lisp_requests.specs.ReplyLayout.{IsReplyLayout, with_records}
use Rattle.lisp_records.specs.Record.{bit}
use Rattle.lisp_registration.specs.declared.requests.PlainReply.{PlainReply}
use Rattle.lisp_registration.specs.Plain.{plain_layout, plain_reply}
use Rattle.lisp_registration.specs.Told.{RecordsStand, told}

module _ (bytes : List ℕ) (layout : ReplyLayout) (is : IsReplyLayout bytes layout) where
  as_read : plain_layout layout ≡ plain_reply (with_records layout is.records)
  as_read = λ i. record { nonce = layout.nonce; probe = bit layout.probe; echo_nonce = bit layout.echo_nonce; sec = bit layout.sec; record_count = sym is.count i; records_at = is.place i }

  pub layout_told : (old : PlainReply) → ◌≡◌ {A = ℕ × PlainReply} (0, plain_layout layout) (told plain_reply fault_number (reply_at bytes) old)
  layout_told old = rw is.read (ap (λ (p : PlainReply). (0, p)) as_read)

  pub records_stand : RecordsStand bytes (plain_layout layout) (reply_at bytes)
  records_stand = rw is.read is.each

pub fault_told : (bytes : List ℕ) (e : RequestFault) (old : PlainReply) → reply_at bytes ≡ Err e → ◌≡◌ {A = ℕ × PlainReply} (fault_number e, old) (told plain_reply fault_number (reply_at bytes) old)
fault_told bytes e old fails = rw fails refl

pub none_stand : (bytes : List ℕ) (e : RequestFault) (old : PlainReply) → reply_at bytes ≡ Err e → RecordsStand bytes old (reply_at bytes)
none_stand bytes e old fails = rw fails tt
