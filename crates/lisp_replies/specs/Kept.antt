-- What an ITR that keeps a reply says of an address (RFC 9301 section 5.5).
use Rattle.std.specs.Prelude.{◌≡◌, ◌↔◌, ℕ, Bool, true, List, ◌∷◌}
use Rattle.std.specs.List.{Contains}
use Rattle.lisp_records.specs.declared.address.Addr.{Addr}
use Rattle.lisp_records.specs.Address.{PrefixValue, holds}
use Rattle.lisp_records.specs.Record.{MapRecordValue}
use Rattle.lisp_records.specs.Row.{RowValue, is_alive}
use Rattle.lisp_policy.specs.Site.{SiteValue, is_configured}
use Rattle.lisp_lookup.specs.Answer.{NoneAnswers}
use Rattle.lisp_lookup.specs.Inside.{AreInside}
use Rattle.lisp_lookup.specs.Replies.{IsLongest, IsAnswered}
use Rattle.lisp_lookup.specs.Table.{OneEach}
use Rattle.lisp_replies.specs.Reply.{IsReply, negative_ttl}
use Rattle.lisp_replies.specs.declared.reply.Reply.{Reply}
use Rattle.lisp_replies.specs.declared.reply.Reply.TheVariants.{Records, Negative, Forward, Silent}

-- rows, one for each router and prefix, have one list of the prefixes inside
abbrev pub HaveOneInside : List RowValue → Type 0
HaveOneInside rows = OneEach rows → (outer : PrefixValue) (now : ℕ) (one other : List RowValue) → AreInside rows outer now one → AreInside rows outer now other → one ≡ other

-- for each address of the first record's prefix one record is the longest that has it, and it is that of the row that answers for the address
pub record IsKept (rows : List RowValue) (asked : Addr) (now : ℕ) (records : List MapRecordValue) : Type 0 where
  pub first : MapRecordValue
  pub rest : List MapRecordValue
  pub is : records ≡ first ∷ rest
  pub has : holds first.eid asked ≡ true
  pub one : (addr : Addr) → holds first.eid addr ≡ true → (r : MapRecordValue) × IsLongest records addr r
  pub answered : (addr : Addr) → holds first.eid addr ≡ true → (r : MapRecordValue) → IsLongest records addr r → IsAnswered rows addr now r

-- of a negative reply, for each address of its prefix no row answers, and it is kept as long as that of the address
pub record IsKeptNone (rows : List RowValue) (sites : List SiteValue) (asked : Addr) (now : ℕ) (eid : PrefixValue) (ttl : ℕ) : Type 0 where
  pub has : holds eid asked ≡ true
  pub none : (addr : Addr) → holds eid addr ≡ true → NoneAnswers rows addr now
  pub as_long : (addr : Addr) → holds eid addr ≡ true → ttl ≡ negative_ttl (is_configured sites addr)

abbrev pub MayBeKept : {A : Type 0} → List RowValue → List SiteValue → Addr → ℕ → Reply A → Type 0
MayBeKept rows sites asked now (Records records) = IsKept rows asked now records
MayBeKept rows sites asked now (Negative hole) = IsKeptNone rows sites asked now hole.eid hole.ttl
MayBeKept rows sites asked now (Forward to) = Unit {0}
MayBeKept rows sites asked now Silent = Unit {0}

-- so of every reply
abbrev pub RepliesMayBeKept : Type 0 → List RowValue → List SiteValue → Type 0
RepliesMayBeKept A rows sites = (asked : PrefixValue) (starting : Bool) (now : ℕ) (reply : Reply A) → IsReply rows sites asked starting now reply → MayBeKept rows sites asked.addr now reply

-- two lists have the same rows that are alive
abbrev pub SameLive : List RowValue → List RowValue → ℕ → Type 0
SameLive one other now = (h : RowValue) → is_alive h now ≡ true → Contains one h ↔ Contains other h

-- they have the same replies
abbrev pub ReplyAlike : Type 0 → List RowValue → List RowValue → List SiteValue → Type 0
ReplyAlike A one other sites = (asked : PrefixValue) (starting : Bool) (now : ℕ) (reply : Reply A) → SameLive one other now → IsReply one sites asked starting now reply → IsReply other sites asked starting now reply
