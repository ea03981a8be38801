-- What a Map-Server holds: a record that a router registered, for as long as it lives (RFC 9301 section 8.2).
use Rattle.std.specs.Prelude.{ℕ, ◌-◌, ◌<◌, nat_lt, Bool}
use Rattle.lisp_records.specs.declared.address.Addr.{Addr}
use Rattle.lisp_records.specs.declared.router.RouterId.{RouterId}
use Rattle.lisp_records.specs.Record.{MapRecordValue}

-- the record, who registered it, under which key and nonce, when, for how long, and from where
pub record RowValue : Type 0 where
  pub router : RouterId
  pub key : ℕ
  pub nonce : ℕ
  pub mapping : MapRecordValue
  pub accepted : ℕ
  pub life : ℕ
  pub proxy : Bool
  pub from : Addr

-- its age, which is 0 before it was accepted, is below its life
abbrev pub IsAlive : RowValue → ℕ → Type 0
IsAlive h now = now - h.accepted < h.life

-- the same as a test
abbrev pub is_alive : RowValue → ℕ → Bool
is_alive h now = nat_lt (now - h.accepted) h.life
