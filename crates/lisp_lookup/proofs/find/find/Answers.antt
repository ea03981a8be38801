use Rattle.std.proofs.Common.{◌+◌, ◌-◌, ◌/◌, length, sym, arith}
use Rattle.lisp_lookup.proofs.IndexLaws.{cost_look, before_too, after_too}
use Rattle.lisp_lookup.proofs.find.find.Goals as goal

pub loop-size-preserved-then-is_after : goal.loop-size-preserved-then-is_after
loop-size-preserved-then-is_after g c =
    let within = c.loop-size.invariant.within in
    let left = c.loop-size.size - (c.loop-size.size / 2 + 1) in
    record {
      within = omega (arith, within, c.loop-size-test.true);
      before = λ i d lt. before_too c.args.probe.now c.args.rows.now.rows c.args.rows.now.numbers (c.loop-size.low + c.loop-size.size / 2) c.look.result.now (omega (arith, within, c.loop-size-test.true)) c.requires.falls c.look.ensures.row (sym c.if-is_after.ensures) i d (omega (arith, lt));
      after = λ i d le lt. c.loop-size.invariant.after i d (omega (arith, le, c.loop-size-test.true)) lt;
      grown = omega (arith, c.look.ensures.step, c.loop-size.invariant.grown);
      cost = cost_look c.args.steps.now c.loop-size.steps c.look.new.steps c.loop-size.size left (length c.args.rows.now.numbers) c.look.ensures.step c.loop-size.invariant.grown c.loop-size.invariant.cost c.loop-size-test.true (omega arith);
    }

pub loop-size-preserved : goal.loop-size-preserved
loop-size-preserved g c =
    let within = c.loop-size.invariant.within in
    record {
      within = omega (arith, within, c.loop-size-test.true);
      before = c.loop-size.invariant.before;
      after = λ i d le lt. after_too c.args.probe.now c.args.rows.now.rows c.args.rows.now.numbers (c.loop-size.low + c.loop-size.size / 2) c.look.result.now (omega (arith, within, c.loop-size-test.true)) c.requires.falls c.look.ensures.row (sym c.if-is_after.ensures) i d le lt;
      grown = omega (arith, c.look.ensures.step, c.loop-size.invariant.grown);
      cost = cost_look c.args.steps.now c.loop-size.steps c.look.new.steps c.loop-size.size (c.loop-size.size / 2) (length c.args.rows.now.numbers) c.look.ensures.step c.loop-size.invariant.grown c.loop-size.invariant.cost c.loop-size-test.true (omega arith);
    }
