-- The written spelling of a record: each free bit is 0.
use Rattle.std.specs.Prelude.{ℕ, ◌+◌, ◌*◌, ◌/◌, ◌%◌, List, [], ◌∷◌, ◌++◌, length}
use Rattle.std.specs.List.{flat_map}
use Rattle.std.specs.Int.{w16, w32, to_be_bytes}
use Rattle.lisp_records.specs.declared.address.Addr.{Addr}
use Rattle.lisp_records.specs.declared.locator.Locator.{Locator}
use Rattle.lisp_records.specs.Address.{afi, family, octets}
use Rattle.lisp_records.specs.Record.{MapRecordValue, bit}

-- the AFI of an address
abbrev pub written_afi : Addr → List ℕ
written_afi a = to_be_bytes w16 (afi (family a))

-- an AFI, and its address
abbrev pub written_address : Addr → List ℕ
written_address a = written_afi a ++ octets a

-- the flags L, p and R of a locator, byte 5
abbrev pub written_flags : Locator → ℕ
written_flags l = bit l.local * 4 + bit l.probe * 2 + bit l.reachable

-- the 8 bytes of a locator before its address
abbrev pub written_locator_head : Locator → List ℕ
written_locator_head l = l.priority ∷ l.weight ∷ l.m_priority ∷ l.m_weight ∷ 0 ∷ written_flags l ∷ written_afi l.addr

abbrev pub written_locator : Locator → List ℕ
written_locator l = written_locator_head l ++ octets l.addr

abbrev pub written_locators : List Locator → List ℕ
written_locators ls = flat_map written_locator ls

-- the Locator Count, the mask length, ACT and A, a reserved byte, and the Map-Version
abbrev pub written_counts : MapRecordValue → List ℕ
written_counts m = length m.locators ∷ m.eid.mask_len ∷ (m.act * 32 + bit m.authoritative * 16) ∷ 0 ∷ (m.version / 256) ∷ m.version % 256 ∷ []

-- what stands before the EID-Prefix-AFI
abbrev pub written_head : MapRecordValue → List ℕ
written_head m = to_be_bytes w32 m.ttl ++ written_counts m

-- the bytes of a record before its locators
abbrev pub written_front : MapRecordValue → List ℕ
written_front m = (written_head m ++ written_afi m.eid.addr) ++ octets m.eid.addr

unfoldable pub written : MapRecordValue → List ℕ
written m = written_head m ++ (written_address m.eid.addr ++ written_locators m.locators)
