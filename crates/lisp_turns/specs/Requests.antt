-- What a node does for the Map-Requests that wait in a turn (RFC 9301 sections 5.2 to 5.5, 8.2 and 8.3): what it says of each, and which
-- datagrams go out.
use Rattle.std.specs.Prelude.{◌≡◌, ◌⊎◌, ℕ, ◌≤◌, Bool, true, false, List, [], ◌∷◌, ◌++◌, length, Option, Some, None, Result, Ok, Err}
use Rattle.std.specs.Global.{Global}
use Rattle.lisp_budget.specs.Budget.{BudgetState, message, takes, after_take}
use Rattle.lisp_budget.specs.Sent.{SentValue}
use Rattle.lisp_etr.specs.Etr.{EtrState}
use Rattle.lisp_mapping.specs.Handling.{HandledValue, Handles, probed}
use Rattle.lisp_mapping.specs.declared.outcome.Outcome.{Outcome}
use Rattle.lisp_policy.specs.Configuration.{ConfigValue, ServerEntryValue, RouterEntryValue}
use Rattle.lisp_records.specs.declared.address.Addr.{Addr}
use Rattle.lisp_records.specs.Address.{PrefixValue, family}
use Rattle.lisp_refinement.specs.Nodes.{up_in}
use Rattle.lisp_refinement.specs.World.{ServerNodeState}
use Rattle.lisp_replies.specs.Own.{IsOwnReply}
use Rattle.lisp_replies.specs.Reply.{IsReply, is_starting}
use Rattle.lisp_mapping.specs.Asked.{encapsulated_asked, router_asked}
use Rattle.lisp_mapping.specs.Sends.{DatagramValue}
use Rattle.lisp_mapping.specs.declared.replier.Replier.TheVariants.{MapServer}
use Rattle.lisp_mapping.specs.declared.unasked.Unasked.{Unasked}
use Rattle.lisp_sites.specs.Numbers.{NodeValue, node_at}
use Rattle.lisp_sites.specs.Numbers as nodes
use Rattle.lisp_turns.specs.Node.{NodeState, Server, Router}
use Rattle.lisp_turns.specs.Outside.{CameValue, Call, Prints, Requests, Replies}
use Rattle.lisp_turns.specs.declared.outside.Printed.TheVariants as printed
use Rattle.lisp_turns.specs.declared.outside.SocketCall.TheVariants as calls

-- ---- what a node makes of one

-- a Map-Server, where its life is starting for so many ms, by its rows at a moment
abbrev pub ServerMakes : ServerEntryValue → ServerNodeState → (quiet now : ℕ) → List ℕ → Result HandledValue Unasked → Type 0
ServerMakes entry n quiet now bytes made =
    Handles {A = Global} (λ _ eid reply. IsReply n.core.rows n.core.sites eid (is_starting n.started quiet now) now reply) bytes
    (encapsulated_asked MapServer entry.resolve (family entry.address) bytes) made

-- a router, by its database
abbrev pub RouterMakes : RouterEntryValue → EtrState → (port : ℕ) → List ℕ → Result HandledValue Unasked → Type 0
RouterMakes entry etr port bytes made =
    Handles {A = Global} (λ asked eid reply. IsOwnReply etr.database eid (probed asked entry.address) reply) bytes (router_asked entry.resolve (family entry.address) port bytes) made

-- what the node with an entry of a configuration makes of a Map-Request that came: nothing, where it is a router that is down
abbrev pub MakesAs : Option NodeValue → NodeState → (quiet now : ℕ) → CameValue → Option (Result HandledValue Unasked) → Type 0
MakesAs (Some (nodes.Server entry)) (Server n) quiet now came (Some made) = ServerMakes entry n quiet now came.bytes made
MakesAs (Some (nodes.Server entry)) (Server n) quiet now came None = ⊥
MakesAs (Some (nodes.Router entry)) (Router n) quiet now came (Some made) = (etr : EtrState) × (up_in n.core ≡ Some etr) × RouterMakes entry etr came.port came.bytes made
MakesAs (Some (nodes.Router entry)) (Router n) quiet now came None = up_in n.core ≡ None
MakesAs _ _ quiet now came made = made ≡ None

abbrev pub Makes : ConfigValue → ℕ → NodeState → (quiet now : ℕ) → CameValue → Option (Result HandledValue Unasked) → Type 0
Makes config number node quiet now came made = MakesAs (node_at config number) node quiet now came made

-- ---- which datagrams go out

-- a datagram is held back, since it is over the budget; or it is sent, and the socket takes it or not
pub data Passage : Type 0 where
  Held : Passage
  Sent : Bool → Passage

abbrev pub is_sent : Passage → Bool
is_sent Held = false
is_sent (Sent taken) = true

-- a datagram counts for the budget with its bytes
abbrev pub counted : DatagramValue → ℕ → SentValue
counted d now = message d.to (length d.bytes) now

-- those go out that the budget lets go, one after the other
abbrev pub PassesEach : ℕ → List DatagramValue → List Passage → BudgetState → BudgetState → Type 0
PassesEach now [] passages old new = (passages ≡ []) × (new ≡ old)
PassesEach now (d ∷ ds) passages old new = (first : Passage) × (rest : List Passage) × (passages ≡ first ∷ rest)
    × (is_sent first ≡ takes old (counted d now)) × PassesEach now ds rest (after_take old (counted d now)) new

abbrev pub PassesOf : ℕ → Option (Result HandledValue Unasked) → List Passage → BudgetState → BudgetState → Type 0
PassesOf now (Some (Ok handled)) passages old new = PassesEach now handled.datagrams passages old new
PassesOf now _ passages old new = (passages ≡ []) × (new ≡ old)

-- ---- what is asked outside for it, the newest first

-- a datagram that is held back is a line, and so is a socket that fails
abbrev pub passage_calls : Addr → DatagramValue → Passage → List Call
passage_calls from d Held = Prints (printed.OverBudget from) ∷ []
passage_calls from d (Sent true) = Replies d true ∷ []
passage_calls from d (Sent false) = Prints (printed.Failed calls.Send) ∷ Replies d false ∷ []

abbrev pub passages_calls : Addr → List DatagramValue → List Passage → List Call
passages_calls from [] passages = []
passages_calls from (d ∷ ds) [] = []
passages_calls from (d ∷ ds) (passage ∷ passages) = passages_calls from ds passages ++ passage_calls from d passage

-- a line for each EID-Prefix, with the address to which Map-Replies go
abbrev pub outcome_calls : Addr → List PrefixValue → List Outcome → List Call
outcome_calls to [] outcomes = []
outcome_calls to (eid ∷ eids) [] = []
outcome_calls to (eid ∷ eids) (outcome ∷ outcomes) = outcome_calls to eids outcomes ++ Prints (printed.Asked eid to outcome) ∷ []

-- a Map-Request that came, what the node makes of it, and what becomes of each datagram
pub record RequestDeed : Type 0 where
  pub came : CameValue
  pub made : Option (Result HandledValue Unasked)
  pub passages : List Passage

abbrev pub made_calls : Addr → Option (Result HandledValue Unasked) → List Passage → List Call
made_calls from None passages = []
made_calls from (Some (Err why)) passages = Prints (printed.Unasked from why) ∷ []
made_calls from (Some (Ok handled)) passages =
    passages_calls from handled.datagrams passages ++ outcome_calls handled.asked.to handled.asked.eids handled.outcomes

abbrev pub deed_calls : RequestDeed → List Call
deed_calls deed = made_calls deed.came.from deed.made deed.passages ++ Requests (Some deed.came) ∷ []

abbrev pub deeds_calls : List RequestDeed → List Call
deeds_calls [] = []
deeds_calls (deed ∷ earlier) = deed_calls deed ++ deeds_calls earlier

-- behind them, it may be that none waits
abbrev pub end_calls : Bool → List Call
end_calls true = Requests None ∷ []
end_calls false = []

abbrev pub answered_calls : Bool → List RequestDeed → List Call
answered_calls ended deeds = end_calls ended ++ deeds_calls deeds

-- ---- in a turn

-- how a node answers: for how many ms of its life a Map-Server is starting, and its budget
pub record ResolvingValue : Type 0 where
  pub quiet : ℕ
  pub budget : BudgetState

pub record DoesRequest (config : ConfigValue) (number : ℕ) (node : NodeState) (quiet now : ℕ) (deed : RequestDeed) (old new : BudgetState) : Type 0 where
  pub makes : Makes config number node quiet now deed.came deed.made
  pub passes : PassesOf now deed.made deed.passages old new

-- each of them, the newest first
abbrev pub DoesRequests : ConfigValue → ℕ → NodeState → (quiet now : ℕ) → List RequestDeed → BudgetState → BudgetState → Type 0
DoesRequests config number node quiet now [] old new = new ≡ old
DoesRequests config number node quiet now (deed ∷ earlier) old new = (between : BudgetState) × DoesRequests config number node quiet now earlier old between
    × DoesRequest config number node quiet now deed between new

-- a node answers the Map-Requests that wait, so many at most, until none does: nothing of its state changes
pub record AnswersRequests (config : ConfigValue) (number places : ℕ) (node : NodeState) (now : ℕ) (old new : ResolvingValue) (deeds : List RequestDeed) (ended : Bool)
    : Type 0 where
  pub few : length deeds ≤ places
  pub all : (ended ≡ true) ⊎ (length deeds ≡ places)
  pub does : DoesRequests config number node old.quiet now deeds old.budget new.budget
  pub same : new.quiet ≡ old.quiet
