-- What a node makes of an event: a line, and a message.
use Rattle.std.specs.Prelude.{ℕ, List, Option, None}
use Rattle.std.specs.Option.{option_map}
use Rattle.lisp_records.specs.declared.address.Addr.{Addr}
use Rattle.lisp_model.specs.declared.line.Line.{Line}
use Rattle.lisp_model.specs.declared.refusal.Refusal.{Refusal}
use Rattle.lisp_model.specs.declared.line.Line.TheVariants as lines

-- the line of an event, and the message that goes out, to an address
pub record ActValue : Type 0 where
  pub line : Line
  pub message : Option (Addr × List ℕ)

-- the line with this number for its datagram, where it has one
abbrev pub numbered : ℕ → Line → Line
numbered n (lines.Sent router server part key nonce datagram) = lines.Sent router server part key nonce n
numbered n (lines.Accepted server router key nonce datagram) = lines.Accepted server router key nonce (option_map (λ _. n) datagram)
numbered n (lines.Noticed router server nonce datagram) = lines.Noticed router server nonce n
numbered n (lines.Notice server router key nonce datagram) = lines.Notice server router key nonce n
numbered n (lines.Resent server router datagram) = lines.Resent server router n
numbered n line = line

-- a line alone; a node with a number refused
abbrev pub line_act : Line → ActValue
line_act line = record { line = line; message = None }

abbrev pub refused_act : ℕ → Refusal → ActValue
refused_act node what = line_act (lines.Refused node what)
