-- Examples: what was given to the socket for Map-Requests in two turns, and what is too much.
use Rattle.std.proofs.Common.{◌≡◌, ◌≤◌, ℕ, true, false, List, [], ◌∷◌, refl, arith}
use Rattle.lisp_records.specs.declared.address.Addr.TheVariants.{V4}
use Rattle.lisp_records.specs.Address.{masked}
use Rattle.lisp_budget.specs.Budget.{destination}
use Rattle.lisp_budget.specs.Sent.{KeepsBudget}
use Rattle.lisp_policy.specs.Configuration.{ConfigValue}
use Rattle.lisp_mapping.specs.Sends.{DatagramValue}
use Rattle.lisp_turns.specs.Outside.{Nothing, Call, Receives, Reads, Prints, Replies}
use Rattle.lisp_turns.specs.Requests.{counted}
use Rattle.lisp_turns.specs.Turn.{UncutTurns}
use Rattle.lisp_turns.specs.declared.outside.Printed.TheVariants as printed
use Rattle.lisp_turns.specs.declared.outside.SocketCall.TheVariants as socket
use Rattle.lisp_turns.proofs.Examples.{before, after, silent_turn}
use Rattle.lisp_deployment.specs.Budgeted.{replied}

-- three bytes at 5 ms, and three at 900 ms, which the socket refuses
abbrev reply : DatagramValue
reply = record { to = V4 (192 ∷ 0 ∷ 2 ∷ 1 ∷ []); port = 4342; bytes = 1 ∷ 2 ∷ 3 ∷ [] }

abbrev asked : List Call
asked = Prints (printed.Failed socket.Send) ∷ Replies reply false ∷ Reads 900 ∷ Receives Nothing ∷ Replies reply true ∷ Reads 5 ∷ Receives Nothing ∷ []

each_at_its_moment : replied 0 asked ≡ counted reply 5 ∷ counted reply 900 ∷ []
each_at_its_moment = refl

-- where the clock wasn't read yet
at_the_start : replied 7 (Replies reply true ∷ []) ≡ counted reply 7 ∷ []
at_the_start = refl

-- a budget of four bytes that began anew in each turn would let both go
too_much_to_one : KeepsBudget (replied 0 asked) 4 100 → ⊥
unfolding masked
too_much_to_one keeps = absurd (let most : 6 ≤ 4 = keeps.of_each (destination reply.to) 5 in omega arith)

too_much_to_all : KeepsBudget (replied 0 asked) 100 4 → ⊥
too_much_to_all keeps = absurd (let most : 6 ≤ 4 = keeps.of_all 5 in omega arith)

-- there are turns of a node whose budget was unused before
one_turn : (A : Type 0) (config : ConfigValue) (places : ℕ) → UncutTurns A config 0 places 1 before after
one_turn A config places = (before, refl, tt, silent_turn A config places)
