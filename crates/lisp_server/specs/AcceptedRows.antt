-- What all rows of a Map-Register have alike, and the row of one of its records.
use Rattle.std.specs.Prelude.{ℕ}
use Rattle.lisp_records.specs.declared.address.Addr.{Addr}
use Rattle.lisp_records.specs.Record.{MapRecordValue}
use Rattle.lisp_records.specs.Row.{RowValue}
use Rattle.lisp_messages.specs.Message.{MapRegisterValue}
use Rattle.lisp_admission.specs.AcceptedRows.{life_of}
use Rattle.lisp_admission.specs.Pairs.{router_of}
use Rattle.lisp_server.specs.declared.accepted_rows.Origin.{Origin}

abbrev pub origin_of : MapRegisterValue → Addr → ℕ → Origin
origin_of m from now = record {
  router = router_of m;
  key = m.key_id;
  nonce = m.nonce;
  accepted = now;
  use_ttl = m.use_ttl;
  proxy = m.proxy;
  from = from;
}

abbrev pub row_of : Origin → MapRecordValue → RowValue
row_of o r = record {
  router = o.router;
  key = o.key;
  nonce = o.nonce;
  mapping = r;
  accepted = o.accepted;
  life = life_of o.use_ttl r.ttl;
  proxy = o.proxy;
  from = o.from;
}
