-- What a Map-Server answers at a moment, as text (RFC 9301 section 8.3).
use Rattle.std.specs.Prelude.{◌≡◌, ℕ, List, Option}
use Rattle.lisp_records.specs.declared.address.Addr.{Addr}
use Rattle.lisp_records.specs.declared.router.RouterId.{RouterId}
use Rattle.lisp_records.specs.Row.{RowValue}
use Rattle.lisp_lookup.specs.declared.answer.Answer.{Answer}
use Rattle.lisp_lookup.specs.Answer.{Answers}
use Rattle.lisp_lookup.specs.Table.{OneEach, IsHeld}
use Rattle.lisp_policy.specs.Configuration.{ConfigValue}
use Rattle.lisp_server.specs.Notices.{OneForEach, IsDueRouter}
use Rattle.lisp_server.specs.Server.{ServerState}
use Rattle.lisp_lines.specs.Query.{hold_text, ask_text, due_text, due_router}
use Rattle.lisp_lines.specs.declared.wording.Wording.{Wording}
use Rattle.lisp_lines.specs.declared.server.ServerQuestion.{ServerQuestion}
use Rattle.lisp_lines.specs.declared.server.ServerQuestion.TheVariants.{Hold, Ask, Due}

-- the rows that it holds
abbrev pub TellsHeld : ConfigValue → Wording → ℕ → ServerState → ℕ → List ℕ → Type 0
TellsHeld c wording number core now text = (rows : List RowValue) × IsHeld core.rows now rows × (text ≡ hold_text c wording number now rows)

-- who answers for an address
abbrev pub TellsAnswer : Type 0 → ConfigValue → ℕ → ServerState → Addr → ℕ → List ℕ → Type 0
TellsAnswer A c number core addr now text = (answer : Answer A) × OneEach core.rows × Answers core.rows core.sites addr now answer × (text ≡ ask_text c number addr answer)

-- to which router a notice is due
abbrev pub TellsDueRouter : ConfigValue → Wording → ℕ → ServerState → ℕ → List ℕ → Type 0
TellsDueRouter c wording number core now text = (router : Option RouterId) × OneForEach core.notices × IsDueRouter core.notices now router × (text ≡ due_text c number (due_router c wording router))

-- what it answers to a question
abbrev pub TellsServer : Type 0 → ConfigValue → Wording → ℕ → ServerState → ServerQuestion → ℕ → List ℕ → Type 0
TellsServer A c wording number core Hold now text = TellsHeld c wording number core now text
TellsServer A c wording number core (Ask addr) now text = TellsAnswer A c number core addr now text
TellsServer A c wording number core Due now text = TellsDueRouter c wording number core now text
