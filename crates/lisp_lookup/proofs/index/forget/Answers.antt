use Rattle.std.proofs.Common.{◌-◌}
use Rattle.lisp_lookup.proofs.IndexLaws.{without_last, without}
use Rattle.lisp_lookup.proofs.index.forget.Goals as goal

pub returns-then-number-last : goal.returns-then-number-last
returns-then-number-last g c = record {
  index = λ d. without c.args.rows.now c.args.number d c.requires.within c.args.order c.args.numbers.now.items c.requires.index c.leave-last.new.numbers.items c.rename.new.numbers.items c.if-number-last.true c.leave-last.ensures.left c.rename.ensures.renamed;
}

pub returns-else-number-last : goal.returns-else-number-last
returns-else-number-last g c = record {
  index = λ d. without_last c.args.rows.now c.args.number d c.requires.within c.args.order c.args.numbers.now.items c.requires.index c.leave-last.new.numbers.items c.if-number-last.false c.leave-last.ensures.left;
}
