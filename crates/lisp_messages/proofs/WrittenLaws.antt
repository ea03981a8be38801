-- The written spelling of a message is one of its spellings.
use Rattle.std.proofs.Common.{◌≡◌, ℕ, ◌+◌, ◌*◌, ◌/◌, ◌%◌, ◌<◌, List, [], ◌++◌, length, Ok, inl, refl, sym, append-nil, arith}
use Rattle.std.specs.Int.{w64, to_be_bytes}
use Rattle.lisp_records.specs.Record.{bit}
use Rattle.lisp_records.proofs.Fields.{bit_below}
use Rattle.lisp_messages.specs.Message.{MapRegisterValue, IsMapRegister, Registers, MapNotifyValue, IsMapNotify, Notifies, MessageValue, IsMessage}
use Rattle.lisp_messages.specs.Spelling.{notify_type, Spells}
use Rattle.lisp_messages.specs.Written.{written_records, written_notify_head, written_notify, register_kind, register_flags, written_register_head, written_register, written}
use Rattle.lisp_messages.specs.Reading.{message_at}
use Rattle.lisp_messages.proofs.MessageLaws.{regrouped, message_again}
use Rattle.lisp_messages.proofs.RecordsLaws.{records_spelled}

-- the written spelling of a Map-Notify or Map-Notify-Ack is one of its spellings
pub written_notify_spells : (m : MapNotifyValue) (auth : List ℕ) → IsMapNotify m → length auth ≡ 16 → Spells (written_notify m auth) (Notifies m)
unfolding written_notify
written_notify_spells m auth i wide = record {
  kind = notify_type m.ack * 16;
  reserved = 0;
  flags = 0;
  auth = auth;
  records = written_records m.records;
  tail = [];
  parts = sym (append-nil (written_notify_head m auth ++ written_records m.records));
  notify = omega arith;
  nonce = i.nonce;
  auth_length = wide;
  each = records_spelled m.records i.records.1;
  ends = inl refl;
}

-- the flags of a Map-Register are where they are read
register_bits : (a b c d : ℕ) → a < 2 → b < 2 → c < 2 → d < 2 → ((a * 16 + b * 8 + c * 4 + d) / 16 % 2 ≡ a) × ((a * 16 + b * 8 + c * 4 + d) / 8 % 2 ≡ b) × ((a * 16 + b * 8 + c * 4 + d) / 4 % 2 ≡ c) × ((a * 16 + b * 8 + c * 4 + d) % 2 ≡ d)
register_bits a b c d la lb lc ld = (omega arith, omega arith, omega arith, omega arith)

-- and so are its type, P, S and I
register_kinds : (a b : ℕ) → a < 2 → b < 2 → ((48 + a * 8 + b * 4 + 2) / 16 ≡ 3) × ((48 + a * 8 + b * 4 + 2) / 8 % 2 ≡ a) × ((48 + a * 8 + b * 4 + 2) / 4 % 2 ≡ b) × ((48 + a * 8 + b * 4 + 2) / 2 % 2 ≡ 1)
register_kinds a b la lb = (omega arith, omega arith, omega arith, omega arith)

-- the written spelling of a Map-Register is one of its spellings
pub written_register_spells : (m : MapRegisterValue) (auth : List ℕ) → IsMapRegister m → length auth ≡ 16 → Spells (written_register m auth) (Registers m)
unfolding written_register
written_register_spells m auth i wide =
    let kinds = register_kinds (bit m.proxy) (bit m.sec) (bit_below m.proxy) (bit_below m.sec) in
    let bits = register_bits (bit m.eid_notify) (bit m.use_ttl) (bit m.merge) (bit m.want_notify) (bit_below m.eid_notify) (bit_below m.use_ttl) (bit_below m.merge) (bit_below m.want_notify) in
    record {
      kind = register_kind m;
      reserved = 0;
      flags = register_flags m;
      auth = auth;
      records = written_records m.records;
      parts = sym (regrouped (written_register_head m auth) (written_records m.records) m.xtr (to_be_bytes w64 m.site));
      register = kinds.0;
      proxy = kinds.1;
      sec = kinds.2;
      ids = kinds.3;
      eid_notify = bits.0;
      use_ttl = bits.1;
      merge = bits.2;
      want_notify = bits.3;
      nonce = i.nonce;
      auth_length = wide;
      each = records_spelled m.records i.records.1;
      xtr = i.xtr;
      site = i.site;
    }

-- the written spelling of any message is one of its spellings
pub written_spells : (x : MessageValue) (auth : List ℕ) → IsMessage x → length auth ≡ 16 → Spells (written x auth) x
written_spells (Registers m) auth i wide = written_register_spells m auth i wide
written_spells (Notifies m) auth i wide = written_notify_spells m auth i wide

-- and is read back
pub reads_back : (x : MessageValue) (auth : List ℕ) → IsMessage x → length auth ≡ 16 → message_at (written x auth) ≡ Ok x
reads_back x auth i wide = message_again (written x auth) x (written_spells x auth i wide)
