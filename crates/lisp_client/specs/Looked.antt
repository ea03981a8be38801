-- What a client is promised of what a Map-Server sent for a Map-Request, and why it may have got nothing (RFC 9301 sections
-- 5.4, 5.5, 8.3 and 8.4). It is spelt out over the steps of the trace, so that a weaker promise below would fail here.
use Rattle.std.specs.Prelude.{◌≡◌, ◌⊎◌, ℕ, ◌-◌, ◌<◌, ◌≤◌, true, false, List, [], ◌∷◌, map, reverse}
use Rattle.std.specs.FinMap.{empty}
use Rattle.std.specs.List.{Contains}
use Rattle.lisp_records.specs.declared.address.Addr.{Addr}
use Rattle.lisp_records.specs.declared.locator.Locator.{Locator}
use Rattle.lisp_records.specs.Address.{PrefixValue, holds}
use Rattle.lisp_records.specs.Record.{MapRecordValue}
use Rattle.lisp_records.specs.Row.{RowValue, IsAlive}
use Rattle.lisp_policy.specs.Configuration.{ConfigValue}
use Rattle.lisp_replies.specs.declared.reply.Reply.{Reply}
use Rattle.lisp_replies.specs.declared.reply.Reply.TheVariants.{Records, Negative, Forward, Silent}
use Rattle.lisp_model.specs.declared.event.Event.{Event}
use Rattle.lisp_model.specs.Trace.{EventValue, event_value, Step, Opening, shown_store, clock, is_server}
use Rattle.lisp_model.specs.Held.{rows}
use Rattle.lisp_model.specs.Bag.{since_start}
use Rattle.lisp_model.specs.Life.{began}
use Rattle.lisp_model.specs.Clean.{Clean}
use Rattle.lisp_model.specs.Legal.{LegalTrace}
use Rattle.lisp_refinement.specs.World.{WorldState}
use Rattle.lisp_client.specs.Promised.{WasRegistered}
use Rattle.lisp_client.specs.Answers.{HasRun, HasNotRun}

-- ---- the rows that a Map-Server holds at the end of a trace

-- one of them, which is alive, has the address
pub record HasAddress (o : Opening) (T : List Step) (server : ℕ) (addr : Addr) (row : RowValue) : Type 0 where
  pub held : Contains (rows (since_start o T server) (clock T)) row
  pub alive : IsAlive row (clock T)
  pub has : holds row.mapping.eid addr ≡ true

-- and none that has it has a longer prefix
pub record IsLongestRow (o : Opening) (T : List Step) (server : ℕ) (addr : Addr) (row : RowValue) : Type 0 where
  pub its : HasAddress o T server addr row
  pub longest : (other : RowValue) → HasAddress o T server addr other
      → other.mapping.eid.mask_len ≤ row.mapping.eid.mask_len

-- ---- the records of a Map-Reply

-- a locator with L clear: it isn't local to the one that replies
abbrev pub remote : Locator → Locator
remote l = record l { local = false }

-- a record says what a row has: where its router asked for proxy replies the row's record, but for its TTL and prefix, not
-- authoritative and with no locator local; else to ask again (ACT 2), without locators
abbrev pub SaysOf : MapRecordValue → RowValue → Type 0
SaysOf r row = ((row.proxy ≡ true)
    × (r ≡ record row.mapping { ttl = r.ttl; authoritative = false; eid = r.eid; locators = map remote row.mapping.locators }))
    ⊎ ((row.proxy ≡ false) × (r.act ≡ 2) × (r.locators ≡ []))

-- of the records it is the one with the longest prefix that has the address
pub record IsLongestRecord (records : List MapRecordValue) (addr : Addr) (r : MapRecordValue) : Type 0 where
  pub among : Contains records r
  pub has : holds r.eid addr ≡ true
  pub longest : (other : MapRecordValue) → Contains records other → holds other.eid addr ≡ true
      → other.eid.mask_len ≤ r.eid.mask_len

-- it says what the row of the longest prefix that has the address has, which was registered
pub record SaysOfLongest (o : Opening) (T : List Step) (server : ℕ) (addr : Addr) (r : MapRecordValue) : Type 0 where
  pub row : RowValue
  pub longest : IsLongestRow o T server addr row
  pub says : SaysOf r row
  pub registered : WasRegistered o T server row

-- the first record's prefix has the address that was asked for. For each address of it there is a longest record, which
-- says so where nobody outside knows a secret
pub record AreLooked (o : Opening) (T : List Step) (server : ℕ) (asked : Addr) (records : List MapRecordValue) : Type 0 where
  pub first : MapRecordValue
  pub rest : List MapRecordValue
  pub are : records ≡ first ∷ rest
  pub has : holds first.eid asked ≡ true
  pub one : (addr : Addr) → holds first.eid addr ≡ true → (r : MapRecordValue) × IsLongestRecord records addr r
  pub each : Clean o T → (addr : Addr) → holds first.eid addr ≡ true → (r : MapRecordValue)
      → IsLongestRecord records addr r → SaysOfLongest o T server addr r

-- ---- what else may be sent

-- a negative reply: its prefix has the address that was asked for, and no row has an address of it
pub record IsNegative (o : Opening) (T : List Step) (server : ℕ) (asked : Addr) (eid : PrefixValue) : Type 0 where
  pub has : holds eid asked ≡ true
  pub none : (addr : Addr) → holds eid addr ≡ true → (row : RowValue) → HasAddress o T server addr row → ⊥

-- the Map-Request goes on to the source of a row that has the address that was asked for, whose router asked for no proxy
-- replies, and which was registered
pub record IsSentOn (o : Opening) (T : List Step) (server : ℕ) (asked to : Addr) : Type 0 where
  pub row : RowValue
  pub its : HasAddress o T server asked row
  pub no_proxy : row.proxy ≡ false
  pub source : to ≡ row.from
  pub registered : WasRegistered o T server row

-- the Map-Server's life began less than so many ms ago
abbrev pub IsYoung : List Step → ℕ → ℕ → Type 0
IsYoung T server quiet = clock T - began T server < quiet

-- ---- all of it

abbrev pub SaysSo : {A : Type 0} → Opening → List Step → ℕ → Addr → ℕ → Reply A → Type 0
SaysSo o T server asked quiet (Records records) = AreLooked o T server asked records
SaysSo o T server asked quiet (Negative hole) = IsNegative o T server asked hole.eid × (IsYoung T server quiet → ⊥)
SaysSo o T server asked quiet (Forward to) = Clean o T → IsSentOn o T server asked to
SaysSo o T server asked quiet Silent = IsYoung T server quiet

-- there is a legal trace of the client's events, over stores that began with nothing, by which it is so
pub record IsLooked {A : Type 0} (c : ConfigValue) (events : List EventValue) (server : ℕ) (asked : Addr) (quiet : ℕ)
    (reply : Reply A) : Type 0 where
  pub opening : Opening
  pub config : opening.config ≡ c
  pub nothing_kept : (node : ℕ) → (shown_store opening [] node).kept ≡ empty
  pub trace : List Step
  pub legal : LegalTrace opening trace
  pub events_are : map (λ s. s.event) trace ≡ reverse events
  pub says : SaysSo opening trace server asked quiet reply

-- all events are taken, and then no Map-Server has the number
pub record IsNoServer (c : ConfigValue) (events : List EventValue) (server : ℕ) : Type 0 where
  pub network : WorldState
  pub ran : HasRun c events network
  pub missing : is_server c server ≡ false

-- what a client of a network's events is promised of what was sent
abbrev pub LooksPromised : {A E : Type 0} → ConfigValue → List (Event E) → ℕ → PrefixValue → ℕ → Reply A → Type 0
LooksPromised c events server asked quiet reply = IsLooked c (map event_value events) server asked.addr quiet reply

-- and why it gets nothing
abbrev pub LooksInVain : {E : Type 0} → Type 0 → ConfigValue → List (Event E) → ℕ → Type 0
LooksInVain memory c events server =
    HasNotRun memory c (map event_value events) ⊎ IsNoServer c (map event_value events) server
