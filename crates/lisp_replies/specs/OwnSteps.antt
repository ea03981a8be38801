-- The steps by which a router's reply is found.
use Rattle.std.specs.Prelude.{◌≡◌, ◌↔◌, ℕ, ◌<◌, ◌≤◌, Bool, true, false, nat_lt, List, ◌∷◌, Option, Some, None}
use Rattle.lisp_records.specs.declared.address.Addr.{Addr}
use Rattle.lisp_records.specs.Address.{PrefixValue, covers, max_len, prefix_around}
use Rattle.lisp_records.specs.Parts.{fits_message}
use Rattle.lisp_records.specs.Record.{MapRecordValue}
use Rattle.lisp_replies.specs.Own.{IsOwnNarrowed, own_inside}

-- a record's prefix is longer than that of another one, where there is one
abbrev pub is_longer : Option MapRecordValue → MapRecordValue → Bool
is_longer None other = true
is_longer (Some one) other = nat_lt one.eid.mask_len other.eid.mask_len

-- one message can carry the records for a prefix as configured; so it can what is sent of them, which is of the same size
abbrev pub own_fit : List MapRecordValue → MapRecordValue → PrefixValue → Bool
own_fit database longest eid = fits_message (longest ∷ own_inside database eid)

-- the prefix is the widest one for which it can, from that of the longest record to the one that was asked for
pub record IsWidestFit (database : List MapRecordValue) (longest : MapRecordValue) (asked eid : PrefixValue) : Type 0 where
  pub narrowed : IsOwnNarrowed asked longest eid
  pub fit : own_fit database longest eid ≡ true
  pub widest : (n : ℕ) → longest.eid.mask_len ≤ n → n < eid.mask_len → own_fit database longest (prefix_around asked.addr n) ≡ false

-- for none it can
abbrev pub FitsNowhere : List MapRecordValue → MapRecordValue → PrefixValue → Type 0
FitsNowhere database longest asked = (n : ℕ) → longest.eid.mask_len ≤ n → n ≤ asked.mask_len → own_fit database longest (prefix_around asked.addr n) ≡ false

-- of the prefixes around an address, of a length or longer ones, those of another length and longer ones have no other prefix in them
abbrev pub IsLeastWithout : PrefixValue → Addr → ℕ → ℕ → Type 0
IsLeastWithout other addr from least = (n : ℕ) → n ≤ max_len addr → ((from ≤ n) × (covers (prefix_around addr n) other ≡ false)) ↔ (least ≤ n)
