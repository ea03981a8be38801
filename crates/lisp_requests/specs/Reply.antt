-- The Map-Reply (RFC 9301 sections 5.4 and 5.5): what it says, which bytes spell it, how it is read and written.
use Rattle.std.specs.Prelude.{◌≡◌, ◌≢◌, ℕ, ◌+◌, ◌*◌, ◌/◌, ◌%◌, ◌^◌, ◌<◌, ◌==◌, Bool, List, ◌∷◌, ◌++◌, length, Result, Ok, Err, slice_index}
use Rattle.std.specs.Int.{w64, to_be_bytes}
use Rattle.std.specs.List.{AllByRecursion, flat_map}
use Rattle.lisp_records.specs.Record.{MapRecordValue, IsMapRecord, bit}
use Rattle.lisp_records.specs.Result.{◌>>=◌}
use Rattle.lisp_records.specs.Reading.{is_set, record_at}
use Rattle.lisp_records.specs.Spelling.{Spells as SpellsMapRecord}
use Rattle.lisp_records.specs.Written.{written as written_record}
use Rattle.lisp_requests.specs.declared.fault.RequestFault.{RequestFault}
use Rattle.lisp_requests.specs.declared.fault.RequestFault.TheVariants as faults
use Rattle.lisp_requests.specs.Format.{SpellsEach}
use Rattle.lisp_requests.specs.Reading.{after, require, lifted, items_at}
use Rattle.lisp_requests.specs.Request.{nonce_of}

-- what a Map-Reply says: P, E, S, nonce, records
pub record MapReplyValue : Type 0 where
  pub probe : Bool
  pub echo_nonce : Bool
  pub sec : Bool
  pub nonce : ℕ
  pub records : List MapRecordValue

-- a Map-Reply that has a spelling: each number fits its place
pub record IsMapReply (m : MapReplyValue) : Type 0 where
  pub nonce : m.nonce < 2 ^ 64
  pub count : length m.records < 256
  pub records : AllByRecursion IsMapRecord m.records

-- a Map-Reply: an equation for the whole list, then one for each field. Bits that stand in no equation are free
pub record SpellsReply (bytes : List ℕ) (m : MapReplyValue) : Type 0 where
  pub kind : ℕ
  pub reserved : ℕ
  pub more : ℕ
  pub records : List ℕ
  pub parts : bytes ≡ kind ∷ reserved ∷ more ∷ length m.records ∷ to_be_bytes w64 m.nonce ++ records
  pub reply : kind / 16 ≡ 2
  pub probe : kind / 8 % 2 ≡ bit m.probe
  pub echo_nonce : kind / 4 % 2 ≡ bit m.echo_nonce
  pub sec : kind / 2 % 2 ≡ bit m.sec
  pub nonce : m.nonce < 2 ^ 64
  pub each : SpellsEach SpellsMapRecord records m.records

-- ---- how it is read

-- one record of a Map-Reply
abbrev pub reply_record_at : List ℕ → Result (MapRecordValue × List ℕ) RequestFault
reply_record_at bytes = lifted (record_at bytes)

-- the bytes after the first 12, where these are as they must be
unfoldable pub reply_head_at : List ℕ → Result (List ℕ) RequestFault
reply_head_at bytes = do
  rest ← after 12 bytes
  _ ← require faults.Kind (slice_index bytes 0 / 16 == 2)
  Ok rest

abbrev pub map_reply_of : List ℕ → List MapRecordValue → MapReplyValue
map_reply_of bytes records = record {
  probe = is_set (slice_index bytes 0) 8;
  echo_nonce = is_set (slice_index bytes 0) 4;
  sec = is_set (slice_index bytes 0) 2;
  nonce = nonce_of bytes;
  records = records;
}

unfoldable pub reply_at : List ℕ → Result MapReplyValue RequestFault
reply_at bytes = do
  rest ← reply_head_at bytes
  records ← items_at reply_record_at (slice_index bytes 3) rest
  _ ← require faults.Trailing (length records.1 == 0)
  Ok (map_reply_of bytes records.0)

-- the bytes before the records have no fault, and there are records: only then reading takes memory
abbrev pub TakesMemory : List ℕ → Type 0
TakesMemory bytes = ((fault : RequestFault) → reply_head_at bytes ≢ Err fault) × (0 < slice_index bytes 3)

-- ---- how it is written: each free bit 0

abbrev pub written_records : List MapRecordValue → List ℕ
written_records records = flat_map written_record records

-- the first byte: type 2, P, E and S
abbrev pub reply_kind : MapReplyValue → ℕ
reply_kind m = 32 + bit m.probe * 8 + bit m.echo_nonce * 4 + bit m.sec * 2

-- the 12 bytes before the records
abbrev pub written_reply_head : MapReplyValue → List ℕ
written_reply_head m = reply_kind m ∷ 0 ∷ 0 ∷ length m.records ∷ to_be_bytes w64 m.nonce

unfoldable pub written_reply : MapReplyValue → List ℕ
written_reply m = written_reply_head m ++ written_records m.records
