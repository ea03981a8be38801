-- What every legal trace promises; and what a clean one of a network promises too: of nodes with distinct
-- addresses, and routers with distinct identities that list servers.
use Rattle.std.specs.Prelude.{◌≡◌, ◌≢◌, ℕ, ◌<◌, ◌≤◌, Bool, true, false, List, [], ◌∷◌, ◌++◌, Some, ◌==◌, if◌then◌else◌}
use Rattle.std.specs.List.{Contains}
use Rattle.lisp_records.specs.Address.{PrefixValue}
use Rattle.lisp_records.specs.Parts.{part_count}
use Rattle.lisp_records.specs.Row.{RowValue}
use Rattle.lisp_records.specs.declared.router.RouterId.{RouterId}
use Rattle.lisp_policy.specs.Configuration.{ConfigValue}
use Rattle.lisp_policy.specs.Site.{SiteValue}
use Rattle.lisp_nonces.specs.declared.pair.Pair.{Pair}
use Rattle.lisp_lookup.specs.Growth.{AtMost, HasRow, HasRouter}
use Rattle.lisp_admission.specs.Checks.{most_routers_at, most_rows_at}
use Rattle.lisp_admission.specs.Pairs.{pair_of}
use Rattle.lisp_admission.specs.AcceptedRows.{row_value}
use Rattle.lisp_admission.specs.declared.refused.Refused.TheVariants.{Replay}
use Rattle.lisp_model.specs.declared.event.Event.TheVariants as events
use Rattle.lisp_model.specs.declared.line.Line.TheVariants as lines
use Rattle.lisp_model.specs.declared.refusal.Refusal.TheVariants.{Receive}
use Rattle.lisp_model.specs.Trace.{EventValue, Step, Opening, shown_store, clock, is_up, is_server, is_router, key, sites, database, address_at, router_at, Line}
use Rattle.lisp_model.specs.History.{SentRegister, message_of, record_in, history}
use Rattle.lisp_model.specs.Held.{Acceptance, held_row, held_rows}
use Rattle.lisp_model.specs.Timers.{round, Notice, notices, last_notice}
use Rattle.lisp_model.specs.Bag.{Item, since_start, bag}
use Rattle.lisp_model.specs.Life.{began}
use Rattle.lisp_model.specs.Accepted.{acceptances, acceptances_in_step, nonces_of, tried_nonces}
use Rattle.lisp_model.specs.Counted.{latest_nonce, Acknowledged, counted_nonces, acked}
use Rattle.lisp_model.specs.Sending.{last_sent, start_values}
use Rattle.lisp_model.specs.Keys.{keys_since_loss, keys_before_loss}
use Rattle.lisp_model.specs.Change.{NoChange}

-- each number is above all that come behind it
abbrev pub Falls : List ℕ → Type 0
Falls [] = Unit {0}
Falls (n ∷ ns) = ((m : ℕ) → Contains ns m → m < n) × Falls ns

-- the nonces that a server accepts of a pair rise, over its restarts too; the last one stands first
abbrev pub NoncesRise : Opening → List Step → Type 0
NoncesRise o T = (server : ℕ) (pair : Pair) → Falls (nonces_of pair (acceptances o T server))

-- a replay is refused with a number that the server tried before, or that its store kept at the opening
abbrev pub ReplaysAreTried : Opening → List Step → Step → Type 0
ReplaysAreTried o T s = (server saved : ℕ) → s.line ≡ lines.Refused server (Receive (Replay saved)) → (a : Acceptance)
    → Contains (acceptances_in_step o T s) a → Contains (tried_nonces o T server (pair_of a.message)) saved

-- time doesn't pass
abbrev pub is_timeless : EventValue → Bool
is_timeless (events.Tick _) = false
is_timeless _ = true

-- a server's part of the trace is as it was
pub record SameServer (o : Opening) (T U : List Step) (server : ℕ) : Type 0 where
  pub shown : shown_store o U server ≡ shown_store o T server
  pub accepted : acceptances o U server ≡ acceptances o T server
  pub since : since_start o U server ≡ since_start o T server
  pub notices : notices o U server ≡ notices o T server
  pub last_notice : last_notice U server ≡ last_notice T server
  pub began : began U server ≡ began T server
  pub sites : sites o U server ≡ sites o T server

-- and a router's
pub record SameRouter (o : Opening) (T U : List Step) (router : ℕ) : Type 0 where
  pub shown : shown_store o U router ≡ shown_store o T router
  pub is_up : is_up U router ≡ is_up T router
  pub key : key o U router ≡ key o T router
  pub keys_since_loss : keys_since_loss o U router ≡ keys_since_loss o T router
  pub keys_before_loss : keys_before_loss o U router ≡ keys_before_loss o T router
  pub database : database o U router ≡ database o T router
  pub last_sent : last_sent U router ≡ last_sent T router
  pub start_values : start_values o U router ≡ start_values o T router
  pub round : (server part : ℕ) → round U router server part ≡ round T router server part
  pub latest : (server part : ℕ) → latest_nonce U router server part ≡ latest_nonce T router server part
  pub acked : (server part : ℕ) → acked U router server part ≡ acked T router server part

-- a step leaves the part of each node that doesn't act as it was; the clock moves in a tick alone, and the
-- datagrams that were sent stay
pub record LeavesOthers (o : Opening) (T : List Step) (s : Step) : Type 0 where
  pub server : (k : ℕ) → is_server o.config k ≡ true → k ≢ s.actor → SameServer o T (s ∷ T) k
  pub router : (k : ℕ) → is_router o.config k ≡ true → k ≢ s.actor → SameRouter o T (s ∷ T) k
  pub time : is_timeless s.event ≡ true → clock (s ∷ T) ≡ clock T
  pub sent : (more : List Item) × (bag o (s ∷ T) ≡ bag o T ++ more)

-- the message of an entry that was sent to a server, and the only entry of that router, key and nonce
pub record IsOf (o : Opening) (T : List Step) (server : ℕ) (a : Acceptance) (e : SentRegister) : Type 0 where
  pub sent : Contains (history o T) e
  pub whom : e.server ≡ server
  pub message : a.message ≡ message_of o.config e
  pub from : a.from ≡ address_at o.config e.router
  pub only : (f : SentRegister) → Contains (history o T) f → f.router ≡ e.router → f.key ≡ e.key → f.nonce ≡ e.nonce
      → f ≡ e

-- each accepted message is that of one entry
abbrev pub AcceptedWasSent : Opening → List Step → Type 0
AcceptedWasSent o T = (server : ℕ) (a : Acceptance) → Contains (acceptances o T server) a
    → (e : SentRegister) × IsOf o T server a e

-- a row is of an entry
pub record IsRowOf (c : ConfigValue) (h : RowValue) (e : SentRegister) : Type 0 where
  pub router : h.router ≡ (router_at c e.router).me
  pub key : h.key ≡ e.key
  pub nonce : h.nonce ≡ e.nonce

-- a row was made of a message that the server accepted since its start, and that is the message of an entry
pub record IsMadeOf (o : Opening) (T : List Step) (server : ℕ) (h : RowValue) (e : SentRegister) : Type 0 where
  pub acceptance : Acceptance
  pub taken : Contains (since_start o T server) acceptance
  pub message : IsOf o T server acceptance e
  pub row : h ≡ row_value acceptance.message acceptance.from acceptance.moment h.mapping

-- what is held for a prefix is the record that an entry's database has for it
abbrev pub HeldWasSent : Opening → List Step → Type 0
HeldWasSent o T = (server : ℕ) (router : RouterId) (eid : PrefixValue) (h : RowValue)
    → held_row (since_start o T server) router eid (clock T) ≡ Some h
    → (e : SentRegister) × Contains (history o T) e × (e.server ≡ server) × IsRowOf o.config h e
    × (record_in e eid ≡ Some h.mapping) × IsMadeOf o T server h e

-- servers that hold a prefix of a router from entries with no change between hold equal records
abbrev pub HeldAgree : Opening → List Step → Type 0
HeldAgree o T = (one other : ℕ) (router : RouterId) (eid : PrefixValue) (g h : RowValue) (d e : SentRegister)
    → held_row (since_start o T one) router eid (clock T) ≡ Some g
    → held_row (since_start o T other) router eid (clock T) ≡ Some h
    → Contains (history o T) d → Contains (history o T) e → IsRowOf o.config g d → IsRowOf o.config h e → NoChange T d e
    → g.mapping ≡ h.mapping

-- a counted nonce is that of an entry that the server accepted
pub record WasAccepted (o : Opening) (T : List Step) (router server part key nonce : ℕ) : Type 0 where
  pub entry : SentRegister
  pub sent : Contains (history o T) entry
  pub who : entry.router ≡ router
  pub whom : entry.server ≡ server
  pub of : entry.part ≡ part
  pub under : entry.key ≡ key
  pub number : entry.nonce ≡ nonce
  pub acceptance : Acceptance
  pub taken : Contains (acceptances o T server) acceptance
  pub message : acceptance.message ≡ message_of o.config entry

abbrev pub CountedWasAccepted : Opening → List Step → Type 0
CountedWasAccepted o T = (router server : ℕ) (counted : Acknowledged) → Contains (counted_nonces T router server) counted
    → WasAccepted o T router server counted.part counted.key counted.nonce

-- a part that the database of a router that is up doesn't have has no sends in its round, so that a Map-Notify that
-- counts for it moves no timer
abbrev pub AbsentPartsRest : Opening → List Step → Type 0
AbsentPartsRest o T = (router server part : ℕ) → is_up T router ≡ true → part_count (database o T router) ≤ part
    → (round T router server part).moments ≡ []

-- a notice that is done was noticed before
abbrev pub DoneWasNoticed : Opening → List Step → Step → Type 0
DoneWasNoticed o T s = (server nonce : ℕ) (router : RouterId) → s.line ≡ lines.Done server router nonce
    → (before : Step) × (node datagram : ℕ) × Contains T before
    × (before.line ≡ lines.Noticed node server nonce datagram) × ((router_at o.config node).me ≡ router)

-- the nonces of a server's notices, the last one first
abbrev pub notice_nonces_after : Line → ℕ → List ℕ → List ℕ
notice_nonces_after (lines.Notice server _ _ nonce _) k old = if server == k then nonce ∷ old else old
notice_nonces_after _ k old = old

abbrev pub notice_nonces : List Step → ℕ → List ℕ
notice_nonces [] server = []
notice_nonces (s ∷ T) server = notice_nonces_after s.line server (notice_nonces T server)

-- they rise, over its restarts too
abbrev pub NoticeNoncesRise : List Step → Type 0
NoticeNoncesRise T = (server : ℕ) → Falls (notice_nonces T server)

-- no two standing notices of a server have one nonce
abbrev pub NoticesDiffer : Opening → List Step → Type 0
NoticesDiffer o T = (server : ℕ) (m n : Notice) → Contains (notices o T server) m → Contains (notices o T server) n
    → m.nonce ≡ n.nonce → m ≡ n

-- who accepted these holds no more live rows of a site, and of no more of its routers, than the site may have
pub record IsWithin (sites : List SiteValue) (since : List Acceptance) (now site : ℕ) : Type 0 where
  pub routers : (most : ℕ) → most_routers_at sites site ≡ Some most → AtMost (HasRouter (held_rows since now) site) most
  pub rows : (most : ℕ) → most_rows_at sites site ≡ Some most → AtMost (HasRow (held_rows since now) site) most

-- so does each server of each site
abbrev pub SitesStayWithin : Opening → List Step → Type 0
SitesStayWithin o T = (server site : ℕ) → IsWithin (sites o T server) (since_start o T server) (clock T) site
