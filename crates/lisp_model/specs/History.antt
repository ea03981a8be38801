-- History: what the routers sent (RFC 9301 section 5.6).
use Rattle.std.specs.Prelude.{ℕ, List, [], ◌∷◌, ◌++◌, length, Option}
use Rattle.lisp_records.specs.Address.{PrefixValue}
use Rattle.lisp_records.specs.Database.{record_for}
use Rattle.lisp_records.specs.Parts.{part_at}
use Rattle.lisp_records.specs.Record.{MapRecordValue}
use Rattle.lisp_policy.specs.Configuration.{ConfigValue}
use Rattle.lisp_messages.specs.Message.{MapRegisterValue}
use Rattle.lisp_etr.specs.Sending.{map_register_of}
use Rattle.lisp_model.specs.declared.line.Line.TheVariants as lines
use Rattle.lisp_model.specs.Trace.{Step, Opening, router_at, etr_config_of, database, Line}

-- a Map-Register that was sent: by whom, under which key and nonce, to which server; the database then, and which part
-- of it; and after how many steps
pub record SentRegister : Type 0 where
  pub router : ℕ
  pub key : ℕ
  pub nonce : ℕ
  pub server : ℕ
  pub database : List MapRecordValue
  pub part : ℕ
  pub position : ℕ

-- the records of its message: those of that part
abbrev pub sent_records : SentRegister → List MapRecordValue
sent_records e = part_at e.database e.part

-- its message: these fields and these records, P and T by the router's configuration, I and M set
abbrev pub message_of : ConfigValue → SentRegister → MapRegisterValue
message_of c e =
    map_register_of (record (etr_config_of c (router_at c e.router)) { key_id = e.key }) (sent_records e) e.nonce

-- the record that its database, as a whole, has for a prefix
abbrev pub record_in : SentRegister → PrefixValue → Option MapRecordValue
record_in e eid = record_for e.database eid

abbrev pub sent_registers_in : Opening → List Step → Line → List SentRegister
sent_registers_in o T (lines.Sent router server part key nonce _) = record { router = router; key = key; nonce = nonce; server = server; database = database o T router; part = part; position = length T } ∷ []
sent_registers_in o T _ = []

-- the entries, the last one first
abbrev pub history : Opening → List Step → List SentRegister
history o [] = []
history o (s ∷ T) = sent_registers_in o T s.line ++ history o T
