-- The text of what is asked of a node.
use Rattle.std.specs.Prelude.{ℕ, ◌+◌, ◌-◌, ◌==◌, List, [], ◌∷◌, ◌++◌, length, codes, Option, Some, None, if◌then◌else◌}
use Rattle.std.specs.Fmt.{decimal}
use Rattle.std.specs.List.{flat_map}
use Rattle.lisp_records.specs.declared.address.Addr.{Addr}
use Rattle.lisp_records.specs.declared.router.RouterId.{RouterId}
use Rattle.lisp_records.specs.Row.{RowValue}
use Rattle.lisp_lookup.specs.declared.answer.Answer.{Answer}
use Rattle.lisp_lookup.specs.declared.answer.Answer.TheVariants.{NoSite, NotRegistered, Reply, Forward}
use Rattle.lisp_policy.specs.Configuration.{ConfigValue}
use Rattle.lisp_texts.specs.Written.{addr_text, record_text}
use Rattle.lisp_lines.specs.declared.wording.Wording.{Wording}
use Rattle.lisp_lines.specs.Name.{node_name, router_word}
use Rattle.lisp_lines.specs.Line.{pair_text, keyed_text, part_text}

-- the rows that a Map-Server holds at a moment: how many, then each with its age in ms
abbrev pub row_text : ConfigValue → Wording → ℕ → RowValue → List ℕ
row_text c wording now h = codes "row " ++ router_word c wording h.router ++ codes " " ++ record_text h.mapping ++ keyed_text h.key h.nonce ++ codes " age " ++ decimal (now - h.accepted) ++ 10 ∷ []

abbrev pub hold_head : List ℕ → ℕ → List ℕ
hold_head server rows = codes "hold " ++ server ++ codes " " ++ decimal rows ++ 10 ∷ []

abbrev pub hold_text : ConfigValue → Wording → ℕ → ℕ → List RowValue → List ℕ
hold_text c wording server now rows = hold_head (node_name c server) (length rows) ++ flat_map (row_text c wording now) rows

-- the rows by parts: the line before them; and the one after them, which says how many came
abbrev pub hold_by_parts : List ℕ → List ℕ
hold_by_parts server = codes "hold " ++ server ++ codes " by parts\n"

abbrev pub held_line : List ℕ → ℕ → List ℕ
held_line server rows = codes "held " ++ server ++ codes " " ++ decimal rows ++ 10 ∷ []

-- what a router counted last from a Map-Server
abbrev pub counted_words : Option (ℕ × ℕ) → List ℕ
counted_words None = codes " none"
counted_words (Some pair) = keyed_text pair.0 pair.1

-- of a part of its database
abbrev pub ack_line : ConfigValue → ℕ → ℕ → ℕ → Option (ℕ × ℕ) → List ℕ
ack_line c router server part counted = codes "acks " ++ pair_text (node_name c router) (node_name c server) ++ part_text part ++ counted_words counted ++ 10 ∷ []

-- of the first part always, of another one where something was counted
abbrev pub ack_of_part : ConfigValue → ℕ → ℕ → ℕ → Option (ℕ × ℕ) → List ℕ
ack_of_part c router server part None = if part == 0 then ack_line c router server part None else []
ack_of_part c router server part (Some pair) = ack_line c router server part (Some pair)

-- of these parts, from a number on
abbrev pub acks_from : ConfigValue → ℕ → ℕ → ℕ → List (Option (ℕ × ℕ)) → List ℕ
acks_from c router server part [] = []
acks_from c router server part (counted ∷ more) = ack_of_part c router server part counted ++ acks_from c router server (part + 1) more

-- of all parts
abbrev pub ack_text : ConfigValue → ℕ → ℕ → List (Option (ℕ × ℕ)) → List ℕ
ack_text c router server counted = acks_from c router server 0 counted

-- who answers for an address: the negative answers with their minutes
abbrev pub answer_words : {A : Type 0} → Answer A → List ℕ
answer_words NoSite = codes "nosite 15"
answer_words NotRegistered = codes "unregistered 1"
answer_words (Reply entry) = codes "reply " ++ record_text entry.now
answer_words (Forward addr) = codes "forward " ++ addr_text addr

abbrev pub ask_text : {A : Type 0} → ConfigValue → ℕ → Addr → Answer A → List ℕ
ask_text c server addr answer = codes "ask " ++ node_name c server ++ codes " " ++ addr_text addr ++ codes " " ++ answer_words answer ++ 10 ∷ []

-- which Map-Server is due to a router, which router a notice of a Map-Server
abbrev pub due_text : ConfigValue → ℕ → List ℕ → List ℕ
due_text c node whom = codes "due " ++ pair_text (node_name c node) whom ++ 10 ∷ []

-- a Map-Server, and the part of the router's database that is due there
abbrev pub due_server : ConfigValue → Option (ℕ × ℕ) → List ℕ
due_server c None = codes "none"
due_server c (Some due) = node_name c due.0 ++ part_text due.1

abbrev pub due_router : ConfigValue → Wording → Option RouterId → List ℕ
due_router c wording None = codes "none"
due_router c wording (Some router) = router_word c wording router
