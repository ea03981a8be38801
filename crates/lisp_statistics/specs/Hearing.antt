-- Which router a line says that a Map-Server heard: one of which it accepted a Map-Register.
use Rattle.std.specs.Prelude.{ℕ, Option, Some, None}
use Rattle.lisp_records.specs.declared.router.RouterId.{RouterId}
use Rattle.lisp_model.specs.declared.line.Line.TheVariants as lines
use Rattle.lisp_turns.specs.declared.outside.Printed.{Printed}
use Rattle.lisp_turns.specs.declared.outside.Printed.TheVariants as printed
use Rattle.lisp_statistics.specs.declared.hearing.Hearing.{Hearing}

abbrev pub heard_in : Printed → ℕ → Option (RouterId × Hearing)
heard_in (printed.Heard (lines.Accepted server router key nonce datagram) from) at = Some (router, record { from = from; key = key; nonce = nonce; at = at })
heard_in _ at = None
