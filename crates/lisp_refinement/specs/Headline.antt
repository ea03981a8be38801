-- The headline: after any schedule of changes, sends, deliveries, losses, repeats, failed saves and restarts, what the
-- nodes of a running network tell is what its routers sent and its Map-Servers accepted (RFC 9301 sections 5.6, 5.7
-- and 8.2).
use Rattle.std.specs.Prelude.{◌≡◌, ℕ, List, [], ◌∷◌, slice_get, Some}
use Rattle.std.specs.List.{Contains}
use Rattle.lisp_records.specs.Row.{RowValue}
use Rattle.lisp_lookup.specs.Table.{IsHeld}
use Rattle.lisp_etr.specs.Etr.{EtrState}
use Rattle.lisp_etr.specs.Rounds.{acked_at}
use Rattle.lisp_server.specs.Server.{ServerState}
use Rattle.lisp_model.specs.Trace.{Step, Opening, router_at, clock}
use Rattle.lisp_model.specs.History.{SentRegister, record_in, history}
use Rattle.lisp_model.specs.Held.{held_row, rows}
use Rattle.lisp_model.specs.Bag.{since_start}
use Rattle.lisp_model.specs.Change.{NoChange}
use Rattle.lisp_model.specs.Clean.{Clean}
use Rattle.lisp_model.specs.Promises.{NoncesRise, ReplaysAreTried, NoticeNoncesRise, AcceptedWasSent, IsRowOf, IsMadeOf, CountedWasAccepted, WasAccepted, DoneWasNoticed}
use Rattle.lisp_refinement.specs.World.{WorldState}
use Rattle.lisp_refinement.specs.Nodes.{server_at, etr_at}
use Rattle.lisp_refinement.specs.Stands.{Stands}

-- the rows that a running Map-Server lists at the network's clock
pub record Lists (w : WorldState) (server : ℕ) (listed : List RowValue) : Type 0 where
  pub core : ServerState
  pub running : server_at w server ≡ Some core
  pub held : IsHeld core.rows w.clock listed

-- the Key ID and nonce that a running router counted last of a part from the Map-Server at a place of its list
pub record Counts (w : WorldState) (router place part key nonce : ℕ) : Type 0 where
  pub core : EtrState
  pub running : etr_at w router ≡ Some core
  pub counted : slice_get (acked_at core.rounds place) part ≡ Some (Some (key, nonce))

-- a row is the one that is held for its router and prefix; its record is the one that the router's database had for
-- that prefix at a send to this Map-Server; and it was made of that send's message, which was accepted since the start
pub record IsSentRow (o : Opening) (T : List Step) (server : ℕ) (row : RowValue) (e : SentRegister) : Type 0 where
  pub latest : held_row (since_start o T server) row.router row.mapping.eid (clock T) ≡ Some row
  pub sent : Contains (history o T) e
  pub whom : e.server ≡ server
  pub of : IsRowOf o.config row e
  pub record_of : record_in e row.mapping.eid ≡ Some row.mapping
  pub made : IsMadeOf o T server row e

-- so is each row that is listed
abbrev pub ListedWasSent : WorldState → Opening → List Step → Type 0
ListedWasSent w o T = (server : ℕ) (listed : List RowValue) → Lists w server listed
    → (row : RowValue) → Contains listed row → (e : SentRegister) × IsSentRow o T server row e

-- two Map-Servers that list rows of one router and prefix, from sends with no change between them, list equal records
abbrev pub ListedAgree : WorldState → Opening → List Step → Type 0
ListedAgree w o T = (one other : ℕ) (listed listed' : List RowValue) → Lists w one listed → Lists w other listed'
    → (g h : RowValue) → Contains listed g → Contains listed' h → g.router ≡ h.router → g.mapping.eid ≡ h.mapping.eid
    → (d e : SentRegister) → IsSentRow o T one g d → IsSentRow o T other h e → NoChange T d e → g.mapping ≡ h.mapping

-- what a running router counted last of a part is a send of that part of its own to that Map-Server, which accepted it
abbrev pub CountsAreAccepted : WorldState → Opening → List Step → Type 0
CountsAreAccepted w o T = (router place part key nonce server : ℕ)
    → slice_get (router_at o.config router).servers place ≡ Some server
    → Counts w router place part key nonce → WasAccepted o T router server part key nonce

-- it holds of each step and the steps before it
abbrev pub OfEachStep : (List Step → Step → Type 0) → List Step → Type 0
OfEachStep P [] = Unit {0}
OfEachStep P (s ∷ T) = P T s × OfEachStep P T

-- nobody outside knows a secret, then
pub record OverClean (w : WorldState) (o : Opening) (T : List Step) : Type 0 where
  pub accepted_was_sent : AcceptedWasSent o T
  pub listed_was_sent : ListedWasSent w o T
  pub listed_agree : ListedAgree w o T
  pub counted_was_accepted : CountedWasAccepted o T
  pub counts_are_accepted : CountsAreAccepted w o T
  pub done_was_noticed : OfEachStep (DoneWasNoticed o) T

-- the headline, of a network and a trace
pub record Headline (w : WorldState) (o : Opening) (T : List Step) : Type 0 where
  pub nonces_rise : NoncesRise o T
  pub replays_are_tried : OfEachStep (ReplaysAreTried o) T
  pub notice_nonces_rise : NoticeNoncesRise T
  pub listed_is_held : (server : ℕ) (listed : List RowValue) → Lists w server listed
      → listed ≡ rows (since_start o T server) (clock T)
  pub over_clean : Clean o T → OverClean w o T

-- it holds of every trace that the network stands for
abbrev pub Promises : WorldState → Type 0
Promises w = (o : Opening) (T : List Step) → Stands w o T → Headline w o T
