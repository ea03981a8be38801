use Rattle.std.proofs.Common.{◌≡◌, ◌<◌, ◌^◌, not, ap, ◌∙◌, rules, arith}
use Rattle.lisp_lines.proofs.Walking.{none_taken, one_taken, no_more, all_taken, no_row, a_row}
use Rattle.lisp_lines.proofs.walk.Walk.skip.Goals as goal

pub loop-count-init : goal.loop-count-init
loop-count-init g c = let few : c.args.self.now.rows < 2 ^ 64 = search rules in (_, none_taken c.args.core.now.rows c.args.self.now few)

pub returns-then-is_none : goal.returns-then-is_none
returns-then-is_none g c =
    (_, no_more _ _ _ _ _ _ _ c.loop-count.invariant.1 c.loop-count-test.true (no_row _ _ _ (λ row. row.now) c.next.result (c.is_none.ensures ∙ ap not c.if-is_none.true) c.next.ensures))

pub loop-count-preserved : goal.loop-count-preserved
loop-count-preserved g c =
    let row = a_row _ _ _ (λ row. row.now) c.next.result (c.is_none.ensures ∙ ap not c.if-is_none.false) c.next.ensures in
    (_, one_taken _ _ _ _ _ row.0 _ c.loop-count.invariant.1 row.1)

pub returns : goal.returns
returns g c = (_, all_taken _ _ _ _ _ _ c.loop-count.invariant.1 (omega (arith, c.loop-count-test.false, c.loop-count.auto._count-end)))
