-- What the three messages say (RFC 9301 sections 5.6 and 5.7).
use Rattle.std.specs.Prelude.{◌≡◌, ℕ, ◌^◌, ◌<◌, Bool, List, length}
use Rattle.std.specs.List.{AllByRecursion}
use Rattle.lisp_records.specs.Record.{MapRecordValue, IsMapRecord}

-- a Map-Register: P, S, E, T, a, M, nonce, Key ID, records, xTR-ID and Site-ID
pub record MapRegisterValue : Type 0 where
  pub proxy : Bool
  pub sec : Bool
  pub eid_notify : Bool
  pub use_ttl : Bool
  pub merge : Bool
  pub want_notify : Bool
  pub nonce : ℕ
  pub key_id : ℕ
  pub records : List MapRecordValue
  pub xtr : List ℕ
  pub site : ℕ

-- a Map-Notify, or where ack is set a Map-Notify-Ack
pub record MapNotifyValue : Type 0 where
  pub ack : Bool
  pub nonce : ℕ
  pub key_id : ℕ
  pub records : List MapRecordValue

-- what a message says
pub data MessageValue : Type 0 where
  Registers : MapRegisterValue → MessageValue
  Notifies : MapNotifyValue → MessageValue

-- records that fit one message: their count is one byte
abbrev pub AreRecords : List MapRecordValue → Type 0
AreRecords rs = (length rs < 256) × AllByRecursion IsMapRecord rs

-- the nonce, the Key ID and the count of the records fit their places in a message
abbrev pub FitMessage : ℕ → ℕ → List MapRecordValue → Type 0
FitMessage nonce key_id rs = (nonce < 2 ^ 64) × (key_id < 256) × (length rs < 256)

-- a Map-Register that has a spelling: each number fits its place, and the xTR-ID has 16 bytes
pub record IsMapRegister (m : MapRegisterValue) : Type 0 where
  pub nonce : m.nonce < 2 ^ 64
  pub key : m.key_id < 256
  pub records : AreRecords m.records
  pub xtr : length m.xtr ≡ 16
  pub xtr_bytes : AllByRecursion (λ n. n < 256) m.xtr
  pub site : m.site < 2 ^ 64

-- a Map-Notify or Map-Notify-Ack that has a spelling: each number fits its place
pub record IsMapNotify (m : MapNotifyValue) : Type 0 where
  pub nonce : m.nonce < 2 ^ 64
  pub key : m.key_id < 256
  pub records : AreRecords m.records

-- a message that has a spelling
abbrev pub IsMessage : MessageValue → Type 0
IsMessage (Registers m) = IsMapRegister m
IsMessage (Notifies m) = IsMapNotify m

-- what holds of each message that has a spelling, with any 16 bytes of Authentication Data
abbrev pub ForEachMessage : (MessageValue → List ℕ → Type 0) → Type 0
ForEachMessage P = (x : MessageValue) (auth : List ℕ) → IsMessage x → length auth ≡ 16 → P x auth
