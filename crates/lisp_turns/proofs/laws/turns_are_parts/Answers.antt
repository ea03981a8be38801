use Rattle.lisp_turns.proofs.Parts.{turns_are_parts}
use Rattle.lisp_turns.proofs.laws.turns_are_parts.Goals as goal

pub returns : goal.returns
returns g c = turns_are_parts _
