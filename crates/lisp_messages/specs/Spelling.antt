-- Which bytes spell a message (RFC 9301 sections 5.6 and 5.7): an equation for the whole list, then
-- one for each field. Bits that stand in no equation are free, as the reserved ones are, and so is
-- the Authentication Data.
use Rattle.std.specs.Prelude.{◌≡◌, ℕ, ◌/◌, ◌%◌, ◌^◌, ◌<◌, ◌⊎◌, Bool, true, false, List, [], ◌∷◌, ◌++◌, length}
use Rattle.std.specs.Int.{w16, w64, to_be_bytes}
use Rattle.lisp_records.specs.Record.{MapRecordValue, bit}
use Rattle.lisp_records.specs.Spelling.{Spells as SpellsRecord}
use Rattle.lisp_messages.specs.Message.{MapRegisterValue, MapNotifyValue, MessageValue, Registers, Notifies}

-- records, one after the other
abbrev pub SpellsRecords : List ℕ → List MapRecordValue → Type 0
SpellsRecords bytes [] = bytes ≡ []
SpellsRecords bytes (r ∷ rs) = (first : List ℕ) × (others : List ℕ) × (bytes ≡ first ++ others) × SpellsRecord first r × SpellsRecords others rs

-- what all messages have from the Record Count to the Authentication Data: Algorithm ID 2, which is
-- HMAC-SHA-256-128-None, and 16 bytes of Authentication Data
abbrev pub common : ℕ → ℕ → ℕ → List ℕ → List ℕ
common count nonce key_id auth = count ∷ to_be_bytes w64 nonce ++ key_id ∷ 2 ∷ to_be_bytes w16 16 ++ auth

-- a Map-Register: type 3, bit I set, and after the records xTR-ID and Site-ID
pub record SpellsRegister (bytes : List ℕ) (m : MapRegisterValue) : Type 0 where
  pub kind : ℕ
  pub reserved : ℕ
  pub flags : ℕ
  pub auth : List ℕ
  pub records : List ℕ
  pub parts : bytes ≡ kind ∷ reserved ∷ flags ∷ common (length m.records) m.nonce m.key_id auth ++ records ++ m.xtr ++ to_be_bytes w64 m.site
  pub register : kind / 16 ≡ 3
  pub proxy : kind / 8 % 2 ≡ bit m.proxy
  pub sec : kind / 4 % 2 ≡ bit m.sec
  pub ids : kind / 2 % 2 ≡ 1
  pub eid_notify : flags / 16 % 2 ≡ bit m.eid_notify
  pub use_ttl : flags / 8 % 2 ≡ bit m.use_ttl
  pub merge : flags / 4 % 2 ≡ bit m.merge
  pub want_notify : flags % 2 ≡ bit m.want_notify
  pub nonce : m.nonce < 2 ^ 64
  pub auth_length : length auth ≡ 16
  pub each : SpellsRecords records m.records
  pub xtr : length m.xtr ≡ 16
  pub site : m.site < 2 ^ 64

-- the type of a Map-Notify and of a Map-Notify-Ack
abbrev pub notify_type : Bool → ℕ
notify_type false = 4
notify_type true = 5

-- a Map-Notify or Map-Notify-Ack: after the records nothing, or any 24 bytes
pub record SpellsNotify (bytes : List ℕ) (m : MapNotifyValue) : Type 0 where
  pub kind : ℕ
  pub reserved : ℕ
  pub flags : ℕ
  pub auth : List ℕ
  pub records : List ℕ
  pub tail : List ℕ
  pub parts : bytes ≡ kind ∷ reserved ∷ flags ∷ common (length m.records) m.nonce m.key_id auth ++ records ++ tail
  pub notify : kind / 16 ≡ notify_type m.ack
  pub nonce : m.nonce < 2 ^ 64
  pub auth_length : length auth ≡ 16
  pub each : SpellsRecords records m.records
  pub ends : (length tail ≡ 0) ⊎ (length tail ≡ 24)

abbrev pub Spells : List ℕ → MessageValue → Type 0
Spells bytes (Registers m) = SpellsRegister bytes m
Spells bytes (Notifies m) = SpellsNotify bytes m
