-- What a node that runs prints.
use Rattle.std.specs.Prelude.{◌≡◌, ◌⊎◌, ℕ, List, [], ◌∷◌, ◌++◌, codes, Option}
use Rattle.std.specs.Fmt.{decimal}
use Rattle.std.specs.Io.KnownBytes.{Appends}
use Rattle.lisp_policy.specs.Configuration.{ConfigValue}
use Rattle.lisp_lines.specs.Line.{line_text}
use Rattle.lisp_lines.specs.declared.wording.Wording.TheVariants.{Node}
use Rattle.lisp_script.specs.RunFault.{numbered}
use Rattle.lisp_script.specs.declared.run_fault.RunFault.{RunFault}
use Rattle.lisp_turns.specs.declared.outside.Printed.{Printed}
use Rattle.lisp_turns.specs.declared.outside.Printed.TheVariants as printed
use Rattle.lisp_turns.specs.declared.outside.SocketCall.{SocketCall}
use Rattle.lisp_turns.specs.Outside.{call_number}
use Rattle.lisp_upkeep.specs.Printing.{WroteSome}

-- its line, by the node's name
abbrev pub failed_text : List ℕ → SocketCall → List ℕ
failed_text name call = codes "refused " ++ name ++ codes " " ++ decimal (call_number call) ++ 10 ∷ []

-- the line of an event, or of a socket that failed; of a row that died and of Map-Requests nothing
abbrev pub printed_text : ConfigValue → List ℕ → Printed → List ℕ
printed_text config name (printed.Event line) = line_text config Node line
printed_text config name (printed.Heard line from) = line_text config Node line
printed_text config name (printed.Expired router eid) = []
printed_text config name (printed.Asked eid to outcome) = []
printed_text config name (printed.Unasked from why) = []
printed_text config name (printed.OverBudget from) = []
printed_text config name (printed.Failed call) = failed_text name call

-- a datagram didn't arrive
abbrev pub lost_text : ℕ → List ℕ
lost_text datagram = codes "lost " ++ decimal datagram ++ 10 ∷ []

-- a line can't be written, or there is no memory for it
abbrev pub IsPrintingFault : RunFault → Type 0
IsPrintingFault fault = (fault ≡ numbered 88) ⊎ (fault ≡ numbered 97)

-- a text of which something holds went out; or a front of such a text
abbrev pub WritesTold : {W : Type 0} → (W → Option (List ℕ)) → W → W → (List ℕ → Type 0) → Type 0
WritesTold contents before after Told = (text : List ℕ) × Told text × Appends (contents before) (contents after) text

abbrev pub CutsTold : {W : Type 0} → (W → Option (List ℕ)) → W → W → (List ℕ → Type 0) → Type 0
CutsTold contents before after Told = (text : List ℕ) × Told text × WroteSome (contents before) (contents after) text
