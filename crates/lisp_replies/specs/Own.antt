-- What a router sends over its database for an EID-Prefix that a Map-Request asks for (RFC 9301 sections 5.5, 7.1 and 8.2).
use Rattle.std.specs.Prelude.{◌≡◌, ◌⊎◌, ℕ, ◌<◌, ◌≤◌, true, false, if◌then◌else◌, List, ◌∷◌, map, Option, Some, None}
use Rattle.std.specs.List.{Contains, filter}
use Rattle.lisp_records.specs.declared.address.Addr.{Addr}
use Rattle.lisp_records.specs.declared.locator.Locator.{Locator}
use Rattle.lisp_records.specs.Address.{PrefixValue, addr_eq, covers, max_len, prefix_around}
use Rattle.lisp_records.specs.Parts.{fits_message}
use Rattle.lisp_records.specs.Record.{MapRecordValue}
use Rattle.lisp_lookup.specs.Covering.{alone}
use Rattle.lisp_lookup.specs.Inside.{is_inside}
use Rattle.lisp_replies.specs.declared.reply.Reply.{Reply}
use Rattle.lisp_replies.specs.declared.reply.Reply.TheVariants.{Records, Negative, Forward, Silent}

-- ---- the records of a database for a prefix

-- the record is that of the longest prefix of those that cover the one asked for
pub record IsLongestFor (database : List MapRecordValue) (asked : PrefixValue) (m : MapRecordValue) : Type 0 where
  pub held : Contains database m
  pub over : covers m.eid asked ≡ true
  pub longest : (other : MapRecordValue) → Contains database other → covers other.eid asked ≡ true → other.eid.mask_len ≤ m.eid.mask_len

-- no record's prefix covers it
abbrev pub NoneIsFor : List MapRecordValue → PrefixValue → Type 0
NoneIsFor database asked = (m : MapRecordValue) → Contains database m → covers m.eid asked ≡ false

abbrev pub IsLongestForOf : List MapRecordValue → PrefixValue → Option MapRecordValue → Type 0
IsLongestForOf database asked (Some m) = IsLongestFor database asked m
IsLongestForOf database asked None = NoneIsFor database asked

-- the records of longer prefixes inside a prefix, in the database's order
abbrev pub own_inside : List MapRecordValue → PrefixValue → List MapRecordValue
own_inside database eid = filter (λ m. is_inside eid m.eid) database

-- ---- what is sent of them

-- the locator of the address that was probed has the probe bit, any other one is as configured
abbrev pub own_locator : Option Addr → Locator → Locator
own_locator None l = l
own_locator (Some probed) l = if addr_eq l.addr probed then (record l { probe = true }) else l

-- a record as configured, but authoritative and for this TTL and prefix
abbrev pub own_record : Option Addr → ℕ → PrefixValue → MapRecordValue → MapRecordValue
own_record probed ttl eid m = record m { ttl = ttl; authoritative = true; eid = eid; locators = map (own_locator probed) m.locators }

-- the least TTL of some records
pub record IsLeastOwnTtl (ms : List MapRecordValue) (ttl : ℕ) : Type 0 where
  pub its : MapRecordValue
  pub held : Contains ms its
  pub is : its.ttl ≡ ttl
  pub least : (m : MapRecordValue) → Contains ms m → ttl ≤ m.ttl

-- the records for a prefix: the longest record's for this prefix, then those inside; all with one TTL, the least
pub record AreOwnRecords (database : List MapRecordValue) (probed : Option Addr) (eid : PrefixValue) (longest : MapRecordValue) (records : List MapRecordValue) : Type 0 where
  pub ttl : ℕ
  pub least : IsLeastOwnTtl (longest ∷ own_inside database eid) ttl
  pub is : records ≡ own_record probed ttl eid longest ∷ map (λ m. own_record probed ttl m.eid m) (own_inside database eid)

-- ---- narrowing

-- a prefix from that of the longest record to the one that was asked for
pub record IsOwnNarrowed (asked : PrefixValue) (longest : MapRecordValue) (eid : PrefixValue) : Type 0 where
  pub around : eid ≡ prefix_around asked.addr eid.mask_len
  pub from : longest.eid.mask_len ≤ eid.mask_len
  pub to : eid.mask_len ≤ asked.mask_len

-- one message can't carry the records for a prefix
abbrev pub OwnFitNot : List MapRecordValue → Option Addr → PrefixValue → MapRecordValue → Type 0
OwnFitNot database probed eid longest = (records : List MapRecordValue) → AreOwnRecords database probed eid longest records → fits_message records ≡ false

-- for none of these prefixes it can
abbrev pub OwnFitNowhere : List MapRecordValue → Option Addr → PrefixValue → MapRecordValue → Type 0
OwnFitNowhere database probed asked longest = (eid : PrefixValue) → IsOwnNarrowed asked longest eid → OwnFitNot database probed eid longest

-- the records of a reply: those for the widest such prefix for which it can
pub record OwnRepliesWith (database : List MapRecordValue) (asked : PrefixValue) (probed : Option Addr) (records : List MapRecordValue) : Type 0 where
  pub longest : MapRecordValue
  pub is_longest : IsLongestFor database asked longest
  pub eid : PrefixValue
  pub narrowed : IsOwnNarrowed asked longest eid
  pub are : AreOwnRecords database probed eid longest records
  pub fit : fits_message records ≡ true
  pub widest : (wider : PrefixValue) → IsOwnNarrowed asked longest wider → wider.mask_len < eid.mask_len → OwnFitNot database probed wider longest

-- ---- an address that no record has

-- no record's prefix lies in a prefix, nor over it
abbrev pub IsFreeOf : List MapRecordValue → PrefixValue → Type 0
IsFreeOf database eid = (m : MapRecordValue) → Contains database m → (covers eid m.eid ≡ false) × (covers m.eid eid ≡ false)

-- the widest prefix around the address that is so
pub record IsOwnHole (database : List MapRecordValue) (addr : Addr) (eid : PrefixValue) : Type 0 where
  pub around : (eid.mask_len ≤ max_len addr) × (eid ≡ prefix_around addr eid.mask_len)
  pub free : IsFreeOf database eid
  pub widest : (wider : ℕ) → wider < eid.mask_len → IsFreeOf database (prefix_around addr wider) → ⊥

-- an ITR may keep its negative Map-Reply for one minute, as where a site has the address, whose router may come back
abbrev pub own_negative_ttl : ℕ
own_negative_ttl = 1

-- ---- what is sent for any prefix

-- for one that a record's prefix covers, its records
abbrev pub OwnRepliesFor : {A : Type 0} → List MapRecordValue → PrefixValue → Option Addr → Reply A → Type 0
OwnRepliesFor database asked probed (Records records) = OwnRepliesWith database asked probed records
OwnRepliesFor database asked probed (Negative hole) = ⊥
OwnRepliesFor database asked probed (Forward to) = ⊥
OwnRepliesFor database asked probed Silent = ⊥

-- for an address that no record has, a negative reply
abbrev pub OwnRepliesNone : {A : Type 0} → List MapRecordValue → Addr → Reply A → Type 0
OwnRepliesNone database addr (Records records) = ⊥
OwnRepliesNone database addr (Negative hole) = IsOwnHole database addr hole.eid × (hole.ttl ≡ own_negative_ttl)
OwnRepliesNone database addr (Forward to) = ⊥
OwnRepliesNone database addr Silent = ⊥

-- the longest record has too much, however the prefix is narrowed
abbrev pub IsOwnTooLarge : List MapRecordValue → PrefixValue → Option Addr → Type 0
IsOwnTooLarge database asked probed = (longest : MapRecordValue) × IsLongestFor database asked longest × OwnFitNowhere database probed asked longest

-- no record is for the prefix, or one with too much
abbrev pub IsOwnUnanswered : List MapRecordValue → PrefixValue → Option Addr → Type 0
IsOwnUnanswered database asked probed = NoneIsFor database asked ⊎ IsOwnTooLarge database asked probed

-- then its address alone is answered
abbrev pub IsOwnReply : {A : Type 0} → List MapRecordValue → PrefixValue → Option Addr → Reply A → Type 0
IsOwnReply database asked probed reply = OwnRepliesFor database asked probed reply
    ⊎ (IsOwnUnanswered database asked probed × (OwnRepliesFor database (alone asked.addr) probed reply ⊎ OwnRepliesNone database asked.addr reply))
