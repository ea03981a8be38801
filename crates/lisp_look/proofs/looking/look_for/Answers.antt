use Rattle.std.proofs.Common.{List, ℕ, Some, subst, ◌∙◌}
use Rattle.std.specs.Io.KnownBytes.{Appends}
use Rattle.lisp_look.proofs.looking.look_for.Goals as goal

pub returns-clause-looks : goal.returns-clause-looks
returns-clause-looks g c = record {
  outcome = Some c.in-Some.answer;
  asks = rw c.in-Some.is at c.in_ok-answer.ensures.asks;
  prints = (
    subst (λ (t : List ℕ). Appends (g.W.Write.contents c.args.writer.now) (g.W.Write.contents c.print.new.writer) t) (c.deref.ensures ∙ c.in_ok-text.ensures.text) c.in_ok-print.ensures.text,
    rw (← c.look.view_is, ← c.answer.view_is) c.is_positive.ensures,
  );
}
