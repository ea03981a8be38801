use Rattle.std.proofs.Common.{◌+◌, ◌-◌, ◌/◌, sym, ap, ◌∙◌, arith}
use Rattle.lisp_records.specs.Address.{PrefixValue}
use Rattle.lisp_replies.proofs.OwnHoleLaws.{few_bits, nowhere_is, some_inside, wider_next}
use Rattle.lisp_replies.proofs.own_narrowing.widest_that_fits.Goals as goal

pub overflow_add-low : goal.overflow_add-low
overflow_add-low g c = omega (arith, few_bits c.args.longest.now.eid c.args.asked.now c.requires.over c.addr-addr.ensures.block, c.mask_len-widest.ensures, ap (λ (b : PrefixValue). b.mask_len) c.eid_ref.ensures)

pub returns-then-not-fit_around-clause-nowhere : goal.returns-then-not-fit_around-clause-nowhere
returns-then-not-fit_around-clause-nowhere g c = λ _. nowhere_is c.args.records.now c.args.longest.now c.args.asked.now c.mask_len-high.result c.mask_len-high.ensures (sym c.fit_around-2.ensures.fit ∙ c.if-not-fit_around.true)

pub returns-then-not-fit_around-clause-some : goal.returns-then-not-fit_around-clause-some
returns-then-not-fit_around-clause-some g c = λ _ none. some_inside c.args.records.now c.args.longest.now c.args.asked.now c.mask_len-high.result c.fit_around-2.result c.mask_len-high.ensures c.addr-addr.ensures.block c.fit_around-2.ensures.some c.if-not-fit_around.true none

pub loop-low-preserved : goal.loop-low-preserved
loop-low-preserved g c =
    let middle = c.loop-low.low + (c.loop-low.high - c.loop-low.low) / 2 in
    record {
      order = omega (arith, c.loop-low-test.true);
      from = omega (arith, c.loop-low.invariant.from);
      within = c.loop-low.invariant.within;
      fit = c.loop-low.invariant.fit;
      wider = wider_next c.args.records.now c.args.longest.now c.args.asked.now middle (sym c.fit_around-in-loop-low.ensures.fit ∙ c.if-fit_around-2.false);
    }
