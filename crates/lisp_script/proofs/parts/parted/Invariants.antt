use Rattle.std.proofs.Common.{length}
use denote.Text.{Utf8}
use denote.Shadow.{shadow}
use Rattle.lisp_script.proofs.PartsLemmas.{GoesOn}
use Rattle.lisp_script.proofs.parts.parted.Given as goal

-- no line so far parts the text; each `&str` that the loop changes is text
abbrev pub invariant-loop-line : goal.invariant-loop-line
invariant-loop-line l = shadow (Utf8 l.rest) × GoesOn l.fn.text l.rest

-- each line makes the rest shorter
abbrev pub decreases-loop-line : goal.decreases-loop-line
decreases-loop-line l = length l.rest
