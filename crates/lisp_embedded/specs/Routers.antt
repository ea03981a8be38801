-- A router over the nonce that its program keeps (RFC 9301 sections 5.6 and 8.2).
use Rattle.std.specs.Prelude.{◌≡◌, ℕ, ◌+◌, ◌<◌, nat_le, List, Option, Some, None, length, slice_get, if◌then◌else◌}
use Rattle.lisp_records.specs.Parts.{part_count}
use Rattle.lisp_records.specs.Record.{MapRecordValue}
use Rattle.lisp_messages.specs.Message.{IsMapRegister}
use Rattle.lisp_nonces.specs.Kept.{number}
use Rattle.lisp_etr.specs.Config.{EtrConfigValue}
use Rattle.lisp_etr.specs.Etr.{EtrState, etr_started}
use Rattle.lisp_etr.specs.Sending.{EtrSends, NoNonceFor, NoPartFor, NoServerAt, block_end, last_nonce, next_datagram, next_register}
use Rattle.lisp_etr.specs.declared.send_fault.SendFault.{SendFault}
use Rattle.lisp_etr.specs.declared.send_fault.SendFault.TheVariants.{NoServer, NoPart, NonceSpent, OutOfMemory, Store}
use Rattle.lisp_embedded.specs.declared.router_send.HostedRegister.{HostedRegister}

-- a router that starts at a time and goes on from what was passed
abbrev pub started_from : EtrConfigValue → List MapRecordValue → Option ℕ → ℕ → EtrState
started_from config database kept now = etr_started config database (number kept) now

-- what has to be saved before the next Map-Register is sent: the end of the block that begins with its nonce, or nothing where that
-- nonce is safe
abbrev pub saved_first : EtrState → Option ℕ
saved_first e = if nat_le (e.last + 1) e.safe then None else Some (block_end (e.last + 1) e.config.nonce_block)

-- a Map-Register of a part of the database to a Map-Server, by its number; it fits the format
pub record SendsKept {A : Type 0} (old new : EtrState) (server part now : ℕ) (register : HostedRegister A) : Type 0 where
  pub sends : EtrSends old new server part now
  pub datagram : register.bytes.items ≡ next_datagram old part
  pub fits : IsMapRegister (next_register old part)
  pub address : slice_get old.config.servers server ≡ Some register.to
  pub saves : register.save ≡ saved_first old

-- there are such a Map-Server and such a part, and a nonce is left
abbrev pub CanSend : EtrState → ℕ → ℕ → Type 0
CanSend e server part = (server < length e.config.servers) × (part < part_count e.database) × (e.last < last_nonce)

-- why none is sent
abbrev pub RefusesKeptSend : EtrState → ℕ → ℕ → SendFault → Type 0
RefusesKeptSend e server part NoServer = NoServerAt e server
RefusesKeptSend e server part NoPart = NoPartFor e server part
RefusesKeptSend e server part NonceSpent = NoNonceFor e server part
RefusesKeptSend e server part OutOfMemory = CanSend e server part
RefusesKeptSend e server part (Store fault) = ⊥
