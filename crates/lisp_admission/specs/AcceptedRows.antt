-- The rows that an accepted Map-Register sets: whose they are, and how long they live (RFC 9301 sections 5.6 and
-- 8.2).
use Rattle.std.specs.Prelude.{ℕ, ◌*◌, ◌==◌, Bool, List, map, if◌then◌else◌}
use Rattle.lisp_records.specs.declared.address.Addr.{Addr}
use Rattle.lisp_records.specs.Record.{MapRecordValue}
use Rattle.lisp_records.specs.Row.{RowValue}
use Rattle.lisp_messages.specs.Message.{MapRegisterValue}
use Rattle.lisp_admission.specs.Pairs.{router_of}

-- three minutes, in ms
abbrev pub three_minutes : ℕ
three_minutes = 180000

-- the life in ms: none where the TTL is 0; three minutes where it is 0xffffffff, or bit T is clear; else
-- the TTL, which counts minutes
abbrev pub life_of : Bool → ℕ → ℕ
life_of use_ttl ttl = if ttl == 0 then 0 else (if ttl == 0xffffffff then three_minutes else (if use_ttl then ttl * 60000 else three_minutes))

-- what is held of one record of a Map-Register from an address that is accepted at a time
abbrev pub row_value : MapRegisterValue → Addr → ℕ → MapRecordValue → RowValue
row_value m from now r = record {
  router = router_of m;
  key = m.key_id;
  nonce = m.nonce;
  mapping = r;
  accepted = now;
  life = life_of m.use_ttl r.ttl;
  proxy = m.proxy;
  from = from;
}

-- what is held of all of them
abbrev pub row_values : MapRegisterValue → Addr → ℕ → List RowValue
row_values m from now = map (row_value m from now) m.records
