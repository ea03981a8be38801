-- What a router sends, and what its store keeps then (RFC 9301 sections 5.6 and 8.2).
use Rattle.std.specs.Prelude.{◌≡◌, ℕ, ◌+◌, ◌-◌, ◌<◌, ◌≤◌, ◌^◌, ◌⊎◌, min, max, nat_le, List, [], ◌∷◌, length, Option, Some, true, false, slice_set, if◌then◌else◌}
use Rattle.lisp_records.specs.Parts.{part_count, part_at}
use Rattle.lisp_records.specs.Record.{MapRecordValue}
use Rattle.lisp_messages.specs.Message.{MapRegisterValue}
use Rattle.lisp_messages.specs.Authentic.{signed}
use Rattle.lisp_messages.specs.Written.{written_register}
use Rattle.lisp_nonces.specs.Kept.{InDoubt}
use Rattle.lisp_etr.specs.Config.{EtrConfigValue}
use Rattle.lisp_etr.specs.Rounds.{rounds_at, rounds_after_send}
use Rattle.lisp_etr.specs.Etr.{EtrState}

-- the last nonce of a router; those from 2^63 on are a Map-Server's own
abbrev pub last_nonce : ℕ
last_nonce = 2 ^ 63 - 1

-- the Map-Register of these records: I and M set, S, E and a clear
abbrev pub map_register_of : EtrConfigValue → List MapRecordValue → ℕ → MapRegisterValue
map_register_of c records nonce = record {
  proxy = c.proxy;
  sec = false;
  eid_notify = false;
  use_ttl = c.use_ttl;
  merge = false;
  want_notify = true;
  nonce = nonce;
  key_id = c.key_id;
  records = records;
  xtr = c.me.xtr;
  site = c.me.site;
}

-- its bytes, authentic under the router's secret
abbrev pub datagram_of : EtrConfigValue → List MapRecordValue → ℕ → List ℕ
datagram_of c records nonce = signed c.secret (written_register (map_register_of c records nonce))

-- the bytes are those
abbrev pub IsDatagram : EtrConfigValue → List MapRecordValue → ℕ → List ℕ → Type 0
IsDatagram c records nonce bytes = bytes ≡ datagram_of c records nonce

-- a router's next Map-Register: of a part of its present database, under the nonce after the last
abbrev pub next_register : EtrState → ℕ → MapRegisterValue
next_register e part = map_register_of e.config (part_at e.database part) (e.last + 1)

-- its bytes
abbrev pub next_datagram : EtrState → ℕ → List ℕ
next_datagram e part = datagram_of e.config (part_at e.database part) (e.last + 1)

-- no Map-Server has the number
abbrev pub NoServerAt : EtrState → ℕ → Type 0
NoServerAt e server = length e.config.servers ≤ server

-- a Map-Server has it, but no part of the database
abbrev pub NoPartFor : EtrState → ℕ → ℕ → Type 0
NoPartFor e server part = (server < length e.config.servers) × (part_count e.database ≤ part)

-- both are there, but no nonce is left
abbrev pub NoNonceFor : EtrState → ℕ → ℕ → Type 0
NoNonceFor e server part = (server < length e.config.servers) × (part < part_count e.database) × (last_nonce ≤ e.last)

-- a configured block counts as one of 1 to 1,024 nonces
abbrev pub block_size : ℕ → ℕ
block_size block = max 1 (min block 1024)

-- the last nonce of a block that begins with this one; none goes past the last nonce
abbrev pub block_end : ℕ → ℕ → ℕ
block_end nonce block = min (nonce + (block_size block - 1)) last_nonce

-- what is saved once a nonce may be used: what was, where the nonce isn't above it, or the end of its block
abbrev pub safe_after : ℕ → ℕ → ℕ → ℕ
safe_after safe nonce block = if nat_le nonce safe then safe else block_end nonce block

-- what a send of a part with the next nonce to a Map-Server makes of the router
pub record EtrSends (old new : EtrState) (server part now : ℕ) : Type 0 where
  pub config : new.config ≡ old.config
  pub database : new.database ≡ old.database
  pub last : new.last ≡ old.last + 1
  pub safe : new.safe ≡ safe_after old.safe (old.last + 1) old.config.nonce_block
  pub rounds : new.rounds ≡ slice_set old.rounds server (rounds_after_send part (old.last + 1) now (rounds_at old.rounds server))

-- between these is the end of each block: no lower than its nonce, less than 1,024 above it, and up to the last one
pub record IsBound (nonce last bound : ℕ) : Type 0 where
  pub least : nonce ≤ bound
  pub near : bound < nonce + 1024
  pub most : bound ≤ last

-- so it is for the end of each block
abbrev pub BlocksAreBounds : Type 0
BlocksAreBounds = (nonce block : ℕ) → nonce ≤ last_nonce → IsBound nonce last_nonce (block_end nonce block)

-- what using a nonce leaves of its pair: the values as they were, or the end of its block alone
abbrev pub Settles : List (Option ℕ) → List (Option ℕ) → ℕ → ℕ → Type 0
Settles old new nonce block = (new ≡ old) ⊎ (new ≡ Some (block_end nonce block) ∷ [])

-- what a refused send with a nonce leaves of the pair: its values as they were, or with the end of its block added
abbrev pub LeavesPair : List (Option ℕ) → List (Option ℕ) → ℕ → ℕ → Type 0
LeavesPair old new nonce block = InDoubt old new (block_end nonce block)
