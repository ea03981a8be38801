use Rattle.std.proofs.Common.{◌≡◌, map, Ok}
use Rattle.lisp_script.specs.Command.{command_value}
use Rattle.lisp_script.specs.Spelling.{in_lines}
use Rattle.lisp_lemmas.proofs.NumberedLines.{texts}
use Rattle.lisp_script.proofs.script.parse_script.Given as goal

-- the commands so far are those of the lines so far
abbrev pub invariant-loop-place : goal.invariant-loop-place
invariant-loop-place g l = in_lines l.config 1 (texts l.yielded) ≡ Ok (map command_value l.commands.items)
