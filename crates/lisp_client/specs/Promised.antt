-- What a client is promised of a network's trace (RFC 9301 sections 5.6, 5.7, 8.2 and 8.3). Each promise is spelt out
-- over the lines and steps of the trace, so that a weaker one below would fail here.
use Rattle.std.specs.Prelude.{◌≡◌, ℕ, ◌<◌, List, Option, Some}
use Rattle.std.specs.List.{Contains}
use Rattle.lisp_records.specs.declared.router.RouterId.{RouterId}
use Rattle.lisp_records.specs.Database.{record_for}
use Rattle.lisp_records.specs.Row.{RowValue}
use Rattle.lisp_admission.specs.declared.refused.Refused.TheVariants.{Replay, StoreSave}
use Rattle.lisp_model.specs.declared.line.Line.{Line}
use Rattle.lisp_model.specs.declared.line.Line.TheVariants as lines
use Rattle.lisp_model.specs.declared.refusal.Refusal.TheVariants.{Receive}
use Rattle.lisp_model.specs.Trace.{Step, Opening, database, router_at}
use Rattle.lisp_client.specs.Steps.{IsIn, Arrives, WasSent, IsAcceptedIn, IsSentIn, UnchangedBetween}

-- of two Map-Registers of a router under a key that a Map-Server accepted, the later one has the greater nonce,
-- whatever stands between, restarts included
abbrev pub NoncesRise : List Step → Type 0
NoncesRise T = (s t : Step) (earlier between : List Step) → IsIn T t between → IsIn between s earlier
    → (server : ℕ) (router : RouterId) (key m n : ℕ) (c d : Option ℕ)
    → s.line ≡ lines.Accepted server router key m c → t.line ≡ lines.Accepted server router key n d → m < n

-- the Map-Server accepted what arrived, or couldn't save its nonce
abbrev pub Tries : ℕ → Line → Type 0
Tries server (lines.Accepted node _ _ _ _) = node ≡ server
Tries server (lines.Refused node (Receive (StoreSave _))) = node ≡ server
Tries server _ = ⊥

-- a Map-Register of that router, key and nonce arrived, and the Map-Server accepted it or couldn't save its nonce
pub record WasTried (o : Opening) (T : List Step) (server : ℕ) (router : RouterId) (key nonce : ℕ) : Type 0 where
  pub step : Step
  pub before : List Step
  pub there : IsIn T step before
  pub arrived : Arrives o step before router key nonce
  pub tried : Tries server step.line

-- a replay is told with a nonce that the Map-Server tried before, of the same router under the same key
abbrev pub ReplaysAreTried : Opening → List Step → Type 0
ReplaysAreTried o T = (s : Step) (before : List Step) → IsIn T s before
    → (server saved : ℕ) → s.line ≡ lines.Refused server (Receive (Replay saved))
    → (router : RouterId) (key nonce : ℕ) → Arrives o s before router key nonce
    → WasTried o before server router key saved

-- each Map-Register that a Map-Server accepted was sent
abbrev pub AcceptedWereSent : Opening → List Step → Type 0
AcceptedWereSent o T = (t : Step) (before : List Step) → IsIn T t before
    → (server : ℕ) (router : RouterId) (key nonce : ℕ) (reply : Option ℕ)
    → t.line ≡ lines.Accepted server router key nonce reply
    → (arrived : Arrives o t before router key nonce)
    → (node : ℕ) × (s : Step) × (before_s : List Step)
    × WasSent o T server arrived.message arrived.arrival.from node s before_s

-- a row was accepted, and what it was made of was sent: its record is the one that the router's database had then for
-- its prefix
pub record WasRegistered (o : Opening) (T : List Step) (server : ℕ) (row : RowValue) : Type 0 where
  pub accepting : Step
  pub before_accepting : List Step
  pub accepted : IsAcceptedIn o T server row accepting before_accepting
  pub node : ℕ
  pub sending : Step
  pub before_sending : List Step
  pub sent : WasSent o T server accepted.arrived.message accepted.arrived.arrival.from node sending before_sending
  pub record_of : record_for (database o before_sending node) row.mapping.eid ≡ Some row.mapping

-- rows of one router and prefix at two Map-Servers, sent in steps with no change between, have equal records
abbrev pub RowsAgree : Opening → List Step → (one other : ℕ) → (listed listed_by_other : List RowValue) → Type 0
RowsAgree o T one other listed listed_by_other = (g h : RowValue) → Contains listed g → Contains listed_by_other h
    → g.router ≡ h.router → g.mapping.eid ≡ h.mapping.eid
    → (node : ℕ) (s t : Step) (before_s before_t : List Step)
    → IsSentIn o T one g node s before_s → IsSentIn o T other h node t before_t
    → UnchangedBetween T node before_s before_t → g.mapping ≡ h.mapping

-- what a router counted of a part was sent of that part to the Map-Server, which accepted it
pub record CountedWasAccepted (o : Opening) (T : List Step) (node server part key nonce : ℕ) : Type 0 where
  pub accepting : Step
  pub before_accepting : List Step
  pub there : IsIn T accepting before_accepting
  pub reply : Option ℕ
  pub line : accepting.line ≡ lines.Accepted server (router_at o.config node).me key nonce reply
  pub arrived : Arrives o accepting before_accepting (router_at o.config node).me key nonce
  pub sending : Step
  pub before_sending : List Step
  pub sent : WasSent o T server arrived.message arrived.arrival.from node sending before_sending
  pub of : sent.part ≡ part

-- so was each that a router ever counted
abbrev pub CountedWereAccepted : Opening → List Step → Type 0
CountedWereAccepted o T = (s : Step) (before : List Step) → IsIn T s before
    → (node server part key nonce : ℕ) → s.line ≡ lines.Counted node server part key nonce
    → CountedWasAccepted o T node server part key nonce

-- a notice that is done was noticed before by the router that it was for, with that nonce, from that Map-Server
pub record WasNoticed (o : Opening) (T : List Step) (server nonce : ℕ) (router : RouterId) : Type 0 where
  pub step : Step
  pub before : Contains T step
  pub node : ℕ
  pub who : (router_at o.config node).me ≡ router
  pub datagram : ℕ
  pub line : step.line ≡ lines.Noticed node server nonce datagram

abbrev pub DoneWasNoticed : Opening → List Step → Type 0
DoneWasNoticed o T = (s : Step) (before : List Step) → IsIn T s before
    → (server nonce : ℕ) (router : RouterId) → s.line ≡ lines.Done server router nonce
    → WasNoticed o before server nonce router

-- of two notices that a Map-Server sent, the later one has the greater nonce, restarts included
abbrev pub NoticeNoncesRise : List Step → Type 0
NoticeNoncesRise T = (s t : Step) (earlier between : List Step) → IsIn T t between → IsIn between s earlier
    → (server one other j k m n c d : ℕ)
    → s.line ≡ lines.Notice server one j m c → t.line ≡ lines.Notice server other k n d → m < n
