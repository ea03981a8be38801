-- Steps of a trace: where they stand, and what arrived, was sent and was accepted in them. Lists of steps have the last
-- one first.
use Rattle.std.specs.Prelude.{◌≡◌, ◌≢◌, ◌⊎◌, ℕ, ◌<◌, List, ◌∷◌, ◌++◌, length, Option, Some, Ok}
use Rattle.std.specs.List.{Contains}
use Rattle.lisp_records.specs.Parts.{part_at}
use Rattle.lisp_records.specs.declared.address.Addr.{Addr}
use Rattle.lisp_records.specs.declared.router.RouterId.{RouterId}
use Rattle.lisp_records.specs.Record.{MapRecordValue}
use Rattle.lisp_records.specs.Row.{RowValue}
use Rattle.lisp_messages.specs.Message.{MapRegisterValue, Registers}
use Rattle.lisp_etr.specs.Sending.{map_register_of}
use Rattle.lisp_admission.specs.AcceptedRows.{row_value}
use Rattle.lisp_admission.specs.Pairs.{router_of}
use Rattle.lisp_model.specs.declared.event.Event.TheVariants as events
use Rattle.lisp_model.specs.declared.line.Line.{Line}
use Rattle.lisp_model.specs.declared.line.Line.TheVariants as lines
use Rattle.lisp_model.specs.Trace.{EventValue, Step, Opening, database, address_at, router_at, etr_config_of, clock}
use Rattle.lisp_model.specs.Bag.{Arrival, arrival_in, bag}

-- a step of a trace, and those before it
pub record IsIn (T : List Step) (s : Step) (before : List Step) : Type 0 where
  pub after : List Step
  pub splits : T ≡ after ++ s ∷ before

-- a Map-Register arrives in the step: it names that router, key and nonce
pub record Arrives (o : Opening) (s : Step) (before : List Step) (router : RouterId) (key nonce : ℕ) : Type 0 where
  pub arrival : Arrival
  pub comes : arrival_in (bag o before) s.event ≡ Some arrival
  pub message : MapRegisterValue
  pub read : arrival.read ≡ Ok (Registers message)
  pub who : router_of message ≡ router
  pub under : message.key_id ≡ key
  pub number : message.nonce ≡ nonce

-- a Map-Register was sent in the step: by that router, from its address, to that Map-Server; its records are those of a
-- part of the database that the router had then
pub record WasSent (o : Opening) (T : List Step) (server : ℕ) (message : MapRegisterValue) (from : Addr) (node : ℕ)
    (s : Step) (before : List Step) : Type 0 where
  pub there : IsIn T s before
  pub part : ℕ
  pub datagram : ℕ
  pub line : s.line ≡ lines.Sent node server part message.key_id message.nonce datagram
  pub source : from ≡ address_at o.config node
  pub message_is : message
      ≡ map_register_of (record (etr_config_of o.config (router_at o.config node)) { key_id = message.key_id })
      (part_at (database o before node) part) message.nonce

-- by the line the Map-Server starts anew: it was restarted, or took sites that lack something that its own had
abbrev pub StartsAnew : Line → ℕ → Type 0
StartsAnew (lines.Restarted node) server = node ≡ server
StartsAnew (lines.Renewed node _) server = node ≡ server
StartsAnew _ server = ⊥

-- what a row was accepted in: a step since the Map-Server's last start in which a Map-Register arrived, and the row was
-- made of it
pub record IsAcceptedIn (o : Opening) (T : List Step) (server : ℕ) (row : RowValue) (t : Step) (before : List Step)
    : Type 0 where
  pub there : IsIn T t before
  pub arrived : Arrives o t before row.router row.key row.nonce
  pub reply : Option ℕ
  pub line : t.line ≡ lines.Accepted server row.router row.key row.nonce reply
  pub made : row ≡ row_value arrived.message arrived.arrival.from (clock before) row.mapping
  pub no_start : (r : Step) → Contains there.after r → StartsAnew r.line server → ⊥

-- a row's router sent in the step to that Map-Server, under the row's key and nonce
pub record IsSentIn (o : Opening) (T : List Step) (server : ℕ) (row : RowValue) (node : ℕ) (s : Step)
    (before : List Step) : Type 0 where
  pub there : IsIn T s before
  pub who : (router_at o.config node).me ≡ row.router
  pub part : ℕ
  pub datagram : ℕ
  pub line : s.line ≡ lines.Sent node server part row.key row.nonce datagram

-- the event gives the router no database
abbrev pub GivesNoDatabase : EventValue → ℕ → Type 0
GivesNoDatabase event node = ((db : List MapRecordValue) → event ≢ events.Change node db)
    × ((pick : ℕ) (db : List MapRecordValue) → event ≢ events.Restart node pick (Some db))
    × ((key : ℕ) (db : List MapRecordValue) → event ≢ events.Lose node key (Some db))

-- no event of a step between the two gives the router a database; each step is named by those before it
abbrev pub UnchangedBetween : List Step → ℕ → List Step → List Step → Type 0
UnchangedBetween T node one other = (r : Step) (before : List Step) → IsIn T r before
    → ((length one < length before) × (length before < length other))
    ⊎ ((length other < length before) × (length before < length one))
    → GivesNoDatabase r.event node
