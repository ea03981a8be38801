-- What a Map-Register that arrived makes of a Map-Server's tables and its store (RFC 9301 section 8.2).
use Rattle.std.specs.Prelude.{◌≡◌, ℕ, List, length, Option, Result, MatchResult}
use Rattle.lisp_records.specs.Row.{RowValue}
use Rattle.lisp_messages.specs.Message.{MapRegisterValue}
use Rattle.lisp_policy.specs.Site.{SiteValue}
use Rattle.lisp_nonces.specs.declared.pair.Pair.{Pair}
use Rattle.lisp_nonces.specs.Store.{StoreState}
use Rattle.lisp_admission.specs.AcceptedRows.{row_values}
use Rattle.lisp_admission.specs.Refused.{load_out_of_memory, save_out_of_memory}
use Rattle.lisp_admission.specs.declared.refused.Refused.{Refused}
use Rattle.lisp_admission.specs.declared.refused.Refused.TheVariants.{Full, OutOfMemory}
use Rattle.lisp_server.specs.declared.arrival.Arrival.{Arrival}
use Rattle.lisp_server.specs.declared.tables.Tables.{Tables}
use Rattle.lisp_server.specs.declared.took.Took.{Took}
use Rattle.lisp_server.specs.Checks.{register_checked, reply_of}
use Rattle.lisp_lookup.specs.Growth.{live_rows, live_rows_with, Fits, IsFull}
use Rattle.lisp_admission.specs.Checks.{most_routers_at, most_rows_at}
use Rattle.lisp_server.specs.Receiving.{Accepts, RefusesRegister}
use Rattle.lisp_server.specs.Server.{SameTables, HasRoom, state_of}

-- the rows and the Map-Notify of a Map-Register that is to be accepted, and room for what it leaves
abbrev pub IsPrepared : {T : Type 0} → List ℕ → Arrival → MapRegisterValue → Tables T → Pair → List RowValue → Option (List ℕ) → Type 0
IsPrepared secret arrival m tables pair rows reply =
    (rows ≡ row_values m arrival.from arrival.now) × (reply ≡ reply_of secret m) × HasRoom tables (length rows) pair

-- the limits of a site on what is held let given rows in
abbrev pub LetsIn : List SiteValue → List RowValue → List RowValue → ℕ → ℕ → Type 0
LetsIn sites rows given site now = Fits (most_routers_at sites site) (most_rows_at sites site) site (live_rows rows now) (live_rows_with rows given now)

-- why they don't, or that it couldn't be reckoned
abbrev pub KeepsOut : List SiteValue → List RowValue → List RowValue → ℕ → ℕ → Refused → Type 0
KeepsOut sites rows given site now (Full its full) = (its ≡ site) × IsFull (most_routers_at sites site) (most_rows_at sites site) site (live_rows rows now) (live_rows_with rows given now) full
KeepsOut sites rows given site now OutOfMemory = Unit {0}
KeepsOut sites rows given site now _ = ⊥

-- memory that ran out is the node's own, or its store's
abbrev pub IsOfMemory : Type 0 → Type 0 → Refused → Type 0
IsOfMemory memory store why = (why ≡ OutOfMemory → memory) × (why ≡ load_out_of_memory → store) × (why ≡ save_out_of_memory → store)

-- it is accepted; or it is refused, and of the tables only the room changed
abbrev pub AnswersRegister : {T A : Type 0} → Type 0 → Type 0 → List SiteValue → Tables T → Tables T → StoreState → StoreState → Arrival → MapRegisterValue → Result (Took A) Refused → Type 0
AnswersRegister memory store sites old new before after arrival m answer = MatchResult answer
    (λ took. Accepts (register_checked sites arrival.from arrival.bytes.now m) (state_of sites old) (state_of sites new) before after arrival.from arrival.now took)
    (λ why. IsOfMemory memory store why × RefusesRegister (register_checked sites arrival.from arrival.bytes.now m) (state_of sites old) before after arrival.from arrival.now why × SameTables old new)
