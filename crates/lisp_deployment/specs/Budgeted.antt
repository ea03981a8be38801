-- What a node gives to its socket for Map-Requests over all its turns, and that it keeps the node's budget.
use Rattle.std.specs.Prelude.{◌≡◌, ℕ, List, [], ◌∷◌, ◌++◌}
use Rattle.lisp_budget.specs.Budget.{unused}
use Rattle.lisp_budget.specs.Sent.{SentValue, KeepsBudget}
use Rattle.lisp_policy.specs.Configuration.{ConfigValue}
use Rattle.lisp_turns.specs.Outside.{Call, Reads, Replies, logged}
use Rattle.lisp_turns.specs.Requests.{counted}
use Rattle.lisp_turns.specs.Turn.{TurnState, UncutTurns}

-- the last moment that was read, of what was asked outside, the newest first; `start` where none was
abbrev pub moment_in : ℕ → List Call → ℕ
moment_in start [] = start
moment_in start (Reads now ∷ earlier) = now
moment_in start (_ ∷ earlier) = moment_in start earlier

-- what was given to the socket for Map-Requests, the oldest first, each at the moment that was read last
abbrev pub replied : ℕ → List Call → List SentValue
replied start [] = []
replied start (Replies d taken ∷ earlier) = replied start earlier ++ counted d (moment_in start earlier) ∷ []
replied start (_ ∷ earlier) = replied start earlier

-- however many turns a node takes whose budget was unused before: in no second more bytes go out for Map-Requests to one destination, or
-- to all, than the budget allows
abbrev pub RepliesKeepTheBudget : Type 0 → Type 0
RepliesKeepTheBudget A = (config : ConfigValue) (number places count : ℕ) (s t : TurnState) → UncutTurns A config number places count s t
    → (each all : ℕ) → s.resolving.budget ≡ unused each all
    → (calls : List Call) × (t.outside.log ≡ logged calls s.outside.log) × KeepsBudget (replied s.outside.moment calls) each all
