-- What a router answers at a moment, as text.
use Rattle.std.specs.Prelude.{◌≡◌, ℕ, List, slice_get, Option, Some}
use Rattle.std.specs.List.{flat_map}
use Rattle.std.specs.Option.{option_and_then, option_map}
use Rattle.lisp_policy.specs.Configuration.{ConfigValue}
use Rattle.lisp_etr.specs.Etr.{EtrState, due_at}
use Rattle.lisp_etr.specs.Rounds.{acked_at}
use Rattle.lisp_lines.specs.Query.{ack_text, due_text, due_server}
use Rattle.lisp_lines.specs.Records.{records_text}
use Rattle.lisp_lines.specs.declared.router.RouterQuestion.{RouterQuestion}
use Rattle.lisp_lines.specs.declared.router.RouterQuestion.TheVariants.{Acks, Due, Records}

-- what it counted last of each part from each of its Map-Servers, by its rounds
abbrev pub CountedFrom : EtrState → List ℕ → (ℕ → List (Option (ℕ × ℕ))) → Type 0
CountedFrom etr servers counted = (place server : ℕ) → slice_get servers place ≡ Some server → acked_at etr.rounds place ≡ counted server

-- the lines of this for each of them
abbrev pub ListsCounts : ConfigValue → ℕ → List ℕ → EtrState → List ℕ → Type 0
ListsCounts c number servers etr text = (counted : ℕ → List (Option (ℕ × ℕ))) → CountedFrom etr servers counted → text ≡ flat_map (λ server. ack_text c number server (counted server)) servers

-- the Map-Server at a place of a list, and the part that is due there
abbrev pub due_of : List ℕ → Option (ℕ × ℕ) → Option (ℕ × ℕ)
due_of servers due = option_and_then (λ d. option_map (λ server. (server, d.1)) (slice_get servers d.0)) due

-- the Map-Server that is due first at a moment, and the part
abbrev pub due_in : EtrState → List ℕ → ℕ → Option (ℕ × ℕ)
due_in etr servers now = due_of servers (due_at etr now)

-- what it answers to a question
abbrev pub TellsRouter : ConfigValue → ℕ → List ℕ → EtrState → RouterQuestion → ℕ → List ℕ → Type 0
TellsRouter c number servers etr Acks now text = ListsCounts c number servers etr text
TellsRouter c number servers etr Due now text = text ≡ due_text c number (due_server c (due_in etr servers now))
TellsRouter c number servers etr Records now text = text ≡ records_text c number etr.database
