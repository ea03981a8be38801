-- The records of a Map-Reply by proxy for an EID-Prefix, which an ITR may keep (RFC 9301 sections 5.4, 5.5 and 8.3).
use Rattle.std.specs.Prelude.{◌≡◌, ℕ, ◌<◌, ◌≤◌, true, false, if◌then◌else◌, List, [], ◌∷◌, map}
use Rattle.std.specs.List.{Contains}
use Rattle.lisp_records.specs.declared.address.Addr.{Addr}
use Rattle.lisp_records.specs.declared.locator.Locator.{Locator}
use Rattle.lisp_records.specs.Address.{PrefixValue, holds, prefix_around}
use Rattle.lisp_records.specs.Parts.{fits_message}
use Rattle.lisp_records.specs.Record.{MapRecordValue}
use Rattle.lisp_records.specs.Row.{RowValue}
use Rattle.lisp_policy.specs.Site.{SiteValue, is_configured}
use Rattle.lisp_lookup.specs.Answer.{IsBest, NoneAnswers}
use Rattle.lisp_lookup.specs.Covering.{IsBestFor}
use Rattle.lisp_lookup.specs.Hole.{IsHole}
use Rattle.lisp_lookup.specs.Inside.{AreInside}

-- a locator is not of the one that replies
abbrev pub not_local : Locator → Locator
not_local l = record l { local = false }

-- ACT 2, Send-Map-Request: the ITR asks again when it needs the prefix
abbrev pub send_map_request : ℕ
send_map_request = 2

-- the record of a row for a prefix: as registered where its router asked for proxy replies, but not authoritative, and no locator local; else
-- without locators, so that the ITR asks again
abbrev pub record_of : ℕ → PrefixValue → RowValue → MapRecordValue
record_of ttl eid h = if h.proxy then (record h.mapping { ttl = ttl; authoritative = false; eid = eid; locators = map not_local h.mapping.locators }) else (record {
  ttl = ttl;
  act = send_map_request;
  authoritative = false;
  version = 0;
  eid = eid;
  locators = [];
})

-- the least TTL of some rows
pub record IsLeastTtl (rows : List RowValue) (ttl : ℕ) : Type 0 where
  pub its : RowValue
  pub held : Contains rows its
  pub is : its.mapping.ttl ≡ ttl
  pub least : (h : RowValue) → Contains rows h → ttl ≤ h.mapping.ttl

-- the records for a prefix for which a row answers: of that row for this prefix, then of the best row of each longer prefix inside; all with
-- one TTL, the least
pub record AreRecords (rows : List RowValue) (eid : PrefixValue) (now : ℕ) (best : RowValue) (records : List MapRecordValue) : Type 0 where
  pub inside : List RowValue
  pub are : AreInside rows eid now inside
  pub ttl : ℕ
  pub least : IsLeastTtl (best ∷ inside) ttl
  pub is : records ≡ record_of ttl eid best ∷ map (λ h. record_of ttl h.mapping.eid h) inside

-- a prefix from that of the row that answers to the one that was asked for
pub record IsNarrowed (asked : PrefixValue) (best : RowValue) (eid : PrefixValue) : Type 0 where
  pub around : eid ≡ prefix_around asked.addr eid.mask_len
  pub from : best.mapping.eid.mask_len ≤ eid.mask_len
  pub to : eid.mask_len ≤ asked.mask_len

-- the records of a reply: those for the widest such prefix for which they fit one message
pub record RepliesWith (rows : List RowValue) (asked : PrefixValue) (now : ℕ) (records : List MapRecordValue) : Type 0 where
  pub best : RowValue
  pub is_best : IsBestFor rows asked now best
  pub proxy : best.proxy ≡ true
  pub eid : PrefixValue
  pub narrowed : IsNarrowed asked best eid
  pub are : AreRecords rows eid now best records
  pub fit : fits_message records ≡ true
  pub widest : (wider : PrefixValue) (more : List MapRecordValue) → IsNarrowed asked best wider → wider.mask_len < eid.mask_len → AreRecords rows wider now best more → fits_message more ≡ false

-- ---- what an ITR that keeps them says of an address

-- the record of the longest prefix that has it
pub record IsLongest (records : List MapRecordValue) (addr : Addr) (r : MapRecordValue) : Type 0 where
  pub kept : Contains records r
  pub has : holds r.eid addr ≡ true
  pub longest : (other : MapRecordValue) → Contains records other → holds other.eid addr ≡ true → other.eid.mask_len ≤ r.eid.mask_len

-- it is that of the row that answers for the address
abbrev pub IsAnswered : List RowValue → Addr → ℕ → MapRecordValue → Type 0
IsAnswered rows addr now r = (h : RowValue) × IsBest rows addr now h × (r ≡ record_of r.ttl r.eid h)

-- so for each address of the prefix
abbrev pub CachedIsAnswered : List RowValue → Type 0
CachedIsAnswered rows = (asked : PrefixValue) (now : ℕ) (best : RowValue) (eid : PrefixValue) (records : List MapRecordValue) → IsBestFor rows asked now best → IsNarrowed asked best eid → AreRecords rows eid now best records
    → (addr : Addr) → holds eid addr ≡ true → (r : MapRecordValue) → IsLongest records addr r → IsAnswered rows addr now r

-- for each address of a hole no row answers, and a site has it where one has the address that was asked for
abbrev pub HoleIsAnswered : List RowValue → List SiteValue → Type 0
HoleIsAnswered rows sites = (asked : Addr) (now : ℕ) (eid : PrefixValue) → IsHole rows sites asked now eid
    → (addr : Addr) → holds eid addr ≡ true → NoneAnswers rows addr now × (is_configured sites addr ≡ is_configured sites asked)
