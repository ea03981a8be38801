use Rattle.std.proofs.Common.{◌≡◌}
use Rattle.lisp_texts.proofs.record_text.pieces.Given as goal

abbrev pub invariant-loop-piece : goal.invariant-loop-piece
invariant-loop-piece g l = l.pieces.items ≡ l.yielded
