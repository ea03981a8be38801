-- The text of what a Map-Server sends for an EID-Prefix that a Map-Request asks for (RFC 9301 sections 8.3 and 8.4).
use Rattle.std.specs.Prelude.{ℕ, List, [], ◌∷◌, ◌++◌, length, codes, Option, Some, None}
use Rattle.std.specs.Fmt.{decimal}
use Rattle.std.specs.List.{flat_map}
use Rattle.lisp_records.specs.declared.address.Addr.{Addr}
use Rattle.lisp_records.specs.Address.{PrefixValue}
use Rattle.lisp_records.specs.Record.{MapRecordValue}
use Rattle.lisp_replies.specs.declared.reply.Reply.{Reply}
use Rattle.lisp_replies.specs.declared.reply.Reply.TheVariants.{Records, Negative, Forward, Silent}
use Rattle.lisp_policy.specs.Configuration.{ConfigValue}
use Rattle.lisp_texts.specs.Written.{addr_text, prefix_text}
use Rattle.lisp_lines.specs.Name.{node_name}
use Rattle.lisp_lines.specs.Records.{record_line}

-- where a Map-Reply goes: to an ITR-RLOC, where one is named
abbrev pub to_text : Option Addr → List ℕ
to_text None = []
to_text (Some rloc) = codes " to " ++ addr_text rloc

-- a negative one, with the minutes for which it may be kept
abbrev pub negative_words : Option Addr → PrefixValue → ℕ → List ℕ
negative_words from eid ttl = codes "negative " ++ prefix_text eid ++ codes " " ++ decimal ttl ++ to_text from

-- what is sent: a Map-Reply of so many records, or a negative one; the Map-Request, which goes on; or nothing
abbrev pub reply_words : {A : Type 0} → Option Addr → Reply A → List ℕ
reply_words from (Records records) = codes "reply " ++ decimal (length records) ++ to_text from
reply_words from (Negative hole) = negative_words from hole.eid hole.ttl
reply_words from (Forward to) = codes "forwarded " ++ addr_text to
reply_words from Silent = codes "silent starting"

-- the records of a Map-Reply, a line each
abbrev pub records_of : {A : Type 0} → Reply A → List MapRecordValue
records_of (Records records) = records
records_of _ = []

-- by a Map-Server for an EID-Prefix, to an ITR
abbrev pub request_head : List ℕ → PrefixValue → List ℕ → List ℕ
request_head server asked words = codes "request " ++ server ++ codes " " ++ prefix_text asked ++ codes " " ++ words ++ 10 ∷ []

abbrev pub request_text : {A : Type 0} → ConfigValue → ℕ → PrefixValue → Option Addr → Reply A → List ℕ
request_text c server asked from reply = request_head (node_name c server) asked (reply_words from reply) ++ flat_map record_line (records_of reply)
