-- A record where it lies among bytes: what it says but its locators, and where these are (RFC 9301 section 5.4).
use Rattle.std.specs.Prelude.{◌≡◌, ℕ, ◌≤◌, List, [], length, drop, Result, Ok, Err}
use Rattle.lisp_records.specs.declared.fault.RecordFault.{RecordFault}
use Rattle.lisp_records.specs.declared.layout.RecordLayout.{RecordLayout}
use Rattle.lisp_records.specs.declared.locator.Locator.{Locator}
use Rattle.lisp_records.specs.Record.{MapRecordValue}
use Rattle.lisp_records.specs.Reading.{locators_at, record_at}

-- a record with these locators in place of its own
abbrev pub with_locators : MapRecordValue → List Locator → MapRecordValue
with_locators m ls = record { ttl = m.ttl; act = m.act; authoritative = m.authoritative; version = m.version; eid = m.eid; locators = ls }

-- the layout of the record that is read at a place: the locators stand where it says, and both end alike
pub record IsLayout {A : Type 0} (bytes : List ℕ) (at : ℕ) (layout : RecordLayout A) : Type 0 where
  pub locators : List Locator
  pub read : record_at (drop at bytes) ≡ Ok (with_locators layout.fields locators, drop layout.end bytes)
  pub each : locators_at layout.locator_count (drop layout.locators_at bytes) ≡ Ok (locators, drop layout.end bytes)
  pub bare : layout.fields.locators ≡ []
  pub begins : at ≤ layout.locators_at
  pub ends : layout.locators_at ≤ layout.end
  pub within : layout.end ≤ length bytes

-- what is answered is the layout of the record at a place, or the fault that reading it meets
abbrev pub LaysOut : {A : Type 0} → List ℕ → ℕ → Result (RecordLayout A) RecordFault → Type 0
LaysOut bytes at (Ok layout) = IsLayout bytes at layout
LaysOut bytes at (Err e) = record_at (drop at bytes) ≡ Err e

-- what is answered, seen by view, is what reading leaves behind some items, or the fault that it meets
abbrev pub Skips : {X Item E : Type 0} → (X → List ℕ) → Result X E → Result (List Item × List ℕ) E → Type 0
Skips {Item = Item} view (Ok x) read = (items : List Item) × (read ≡ Ok (items, view x))
Skips view (Err e) read = read ≡ Err e
