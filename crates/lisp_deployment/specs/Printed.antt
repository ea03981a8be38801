-- What the nodes of a deployment print over all their lives.
use Rattle.std.specs.Prelude.{ℕ, ◌<◌, ◌==◌, ◌&&◌, List, [], ◌∷◌, ◌++◌, Option, if◌then◌else◌}
use Rattle.std.specs.List.{Contains}
use Rattle.lisp_records.specs.declared.router.RouterId.{RouterId}
use Rattle.lisp_records.specs.Router.{router_eq}
use Rattle.lisp_policy.specs.Configuration.{ConfigValue}
use Rattle.lisp_nonces.specs.Store.{StoreState}
use Rattle.lisp_model.specs.declared.line.Line.{Line}
use Rattle.lisp_model.specs.declared.line.Line.TheVariants as lines
use Rattle.lisp_model.specs.Network.{IsNetwork}
use Rattle.lisp_model.specs.Promises.{Falls}
use Rattle.lisp_turns.specs.Acts.{TurnAct, acts_calls}
use Rattle.lisp_turns.specs.Part.{lines_of}
use Rattle.lisp_deployment.specs.Deeds.{Deed, Turn, Life, DoDeeds}
use Rattle.lisp_deployment.specs.Deployment.{DeploymentState}
use Rattle.lisp_deployment.specs.Opening.{DeploymentBegins}

-- the events' lines that were printed in a deed, and in deeds, the newest first
abbrev pub lines_in : Deed → List Line
lines_in (Turn number calls) = lines_of calls
lines_in (Life number told) = lines_of (acts_calls told)

abbrev pub all_lines : List Deed → List Line
all_lines [] = []
all_lines (deed ∷ earlier) = lines_in deed ++ all_lines earlier

-- the nonce that a line says a Map-Server accepted of a router under a key; and those of several lines
abbrev pub accepted_nonce : ℕ → RouterId → ℕ → Line → List ℕ
accepted_nonce server router key (lines.Accepted node who under nonce reply) =
    if (node == server) && (router_eq who router && (under == key)) then nonce ∷ [] else []
accepted_nonce server router key _ = []

abbrev pub accepted_nonces : ℕ → RouterId → ℕ → List Line → List ℕ
accepted_nonces server router key [] = []
accepted_nonces server router key (line ∷ earlier) = accepted_nonce server router key line ++ accepted_nonces server router key earlier

-- those that were printed rise, over all lives of the Map-Server
abbrev pub PrintedNoncesRise : Type 0 → Type 0
PrintedNoncesRise A = (config : ConfigValue) (stores : ℕ → StoreState) (begun d : DeploymentState) (deeds : List Deed)
    → IsNetwork config → DeploymentBegins config stores begun → DoDeeds A config deeds begun d
    → (server : ℕ) (router : RouterId) (key : ℕ) → Falls (accepted_nonces server router key (all_lines deeds))

-- a Map-Server that was killed accepts no replay: what it prints as accepted afterwards, in all its lives, of a router under a key has a
-- greater nonce than each that it printed before
abbrev pub KilledServersAcceptNoReplays : Type 0 → Type 0
KilledServersAcceptNoReplays A = (config : ConfigValue) (stores : ℕ → StoreState) (begun d : DeploymentState) (later earlier : List Deed)
    (server : ℕ) (told : List TurnAct) → IsNetwork config → DeploymentBegins config stores begun
    → DoDeeds A config (later ++ Life server told ∷ earlier) begun d
    → (router : RouterId) (key before after : ℕ) (reply other : Option ℕ)
    → Contains (all_lines (Life server told ∷ earlier)) (lines.Accepted server router key before reply)
    → Contains (all_lines later) (lines.Accepted server router key after other) → before < after
