-- Reply: what a Map-Server sends for a Map-Request (RFC 9301 sections 8.3 and 8.4).
use Rattle.std.specs.Prelude.{ℕ, List}
use Rattle.lisp_records.specs.Address.{PrefixValue}
use Rattle.lisp_replies.specs.declared.reply.Reply.{Reply}
use Rattle.lisp_replies.specs.Reply.{IsReply, is_starting}
use Rattle.lisp_model.specs.Trace.{Step, Opening, sites, clock}
use Rattle.lisp_model.specs.Held.{rows}
use Rattle.lisp_model.specs.Bag.{since_start}
use Rattle.lisp_model.specs.Life.{began}

-- a server replies by the rows that it holds now; its life is starting for so many ms
abbrev pub IsReplyOf : {A : Type 0} → Opening → List Step → ℕ → PrefixValue → ℕ → Reply A → Type 0
IsReplyOf o T server asked quiet reply = IsReply (rows (since_start o T server) (clock T)) (sites o T server) asked (is_starting (began T server) quiet (clock T)) (clock T) reply
