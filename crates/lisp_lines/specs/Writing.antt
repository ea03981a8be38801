-- Writing the line of an event: what a writer has then, by what `contents` tells of it.
use Rattle.std.specs.Prelude.{ℕ, List, Option, Result, IsErrOf}
use Rattle.lisp_policy.specs.Configuration.{ConfigValue}
use Rattle.lisp_model.specs.declared.line.Line.{Line}
use Rattle.lisp_lines.specs.Output.{Writes, WroteFront}
use Rattle.lisp_script.specs.declared.play_fault.PlayFault.{PlayFault}
use Rattle.lisp_script.specs.declared.play_fault.PlayFault.TheVariants.{Write}
use Rattle.lisp_lines.specs.declared.datagram_place.DatagramPlace.{DatagramPlace}
use Rattle.lisp_lines.specs.declared.wording.Wording.TheVariants.{Schedule}
use Rattle.lisp_lines.specs.Line.{line_text}

module _ {X W : Type 0} where
  -- at Ok the line, whole
  abbrev pub WritesLine : Result X PlayFault → (W → Option (List ℕ)) → W → W → ConfigValue → DatagramPlace → Line → Type 0
  WritesLine result contents before after c place line = Writes result contents before after (line_text c (Schedule place) line)

  -- where the writer failed, a front of it, but not the whole
  abbrev pub CutsLine : Result X PlayFault → (W → Option (List ℕ)) → W → W → ConfigValue → DatagramPlace → Line → Type 0
  CutsLine result contents before after c place line = IsErrOf result Write → WroteFront (contents before) (contents after) (line_text c (Schedule place) line)
