-- What an ITR that keeps a router's reply says of an address (RFC 9301 section 5.5).
use Rattle.std.specs.Prelude.{◌≡◌, ℕ, true, false, List, ◌∷◌, Option}
use Rattle.std.specs.List.{Contains}
use Rattle.lisp_records.specs.declared.address.Addr.{Addr}
use Rattle.lisp_records.specs.Address.{PrefixValue, holds}
use Rattle.lisp_records.specs.Record.{MapRecordValue}
use Rattle.lisp_lookup.specs.Replies.{IsLongest}
use Rattle.lisp_replies.specs.Own.{IsOwnReply, own_record}
use Rattle.lisp_replies.specs.declared.reply.Reply.{Reply}
use Rattle.lisp_replies.specs.declared.reply.Reply.TheVariants.{Records, Negative, Forward, Silent}

-- a record is the longest one that the database has for an address, but authoritative and for this TTL
abbrev pub IsOwnAnswered : List MapRecordValue → Option Addr → ℕ → Addr → MapRecordValue → Type 0
IsOwnAnswered database probed ttl addr r = (m : MapRecordValue) × IsLongest database addr m × (r ≡ own_record probed ttl r.eid m)

-- for each address of the first record's prefix one record is the longest that has it, and it is the longest one of the database
pub record IsOwnKept (database : List MapRecordValue) (probed : Option Addr) (asked : Addr) (records : List MapRecordValue) : Type 0 where
  pub first : MapRecordValue
  pub rest : List MapRecordValue
  pub is : records ≡ first ∷ rest
  pub has : holds first.eid asked ≡ true
  pub one : (addr : Addr) → holds first.eid addr ≡ true → (r : MapRecordValue) × IsLongest records addr r
  pub answered : (addr : Addr) → holds first.eid addr ≡ true → (r : MapRecordValue) → IsLongest records addr r → IsOwnAnswered database probed first.ttl addr r

-- of a negative reply, for each address of its prefix the database has no record
pub record IsOwnKeptNone (database : List MapRecordValue) (asked : Addr) (eid : PrefixValue) : Type 0 where
  pub has : holds eid asked ≡ true
  pub none : (addr : Addr) → holds eid addr ≡ true → (m : MapRecordValue) → Contains database m → holds m.eid addr ≡ false

abbrev pub OwnMayBeKept : {A : Type 0} → List MapRecordValue → Option Addr → Addr → Reply A → Type 0
OwnMayBeKept database probed asked (Records records) = IsOwnKept database probed asked records
OwnMayBeKept database probed asked (Negative hole) = IsOwnKeptNone database asked hole.eid
OwnMayBeKept database probed asked (Forward to) = ⊥
OwnMayBeKept database probed asked Silent = ⊥

-- so of every reply
abbrev pub OwnRepliesMayBeKept : Type 0 → List MapRecordValue → Type 0
OwnRepliesMayBeKept A database = (asked : PrefixValue) (probed : Option Addr) (reply : Reply A) → IsOwnReply database asked probed reply → OwnMayBeKept database probed asked.addr reply
