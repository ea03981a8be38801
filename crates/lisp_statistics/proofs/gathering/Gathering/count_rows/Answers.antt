use Rattle.std.proofs.Common.{◌<◌, ◌^◌, Bool, subst, rules, arith}
use Rattle.lisp_statistics.specs.Gathering.{CountsNext}
use Rattle.lisp_statistics.proofs.Gathered.{none_counted, one_counted, last_counted, all_counted}
use Rattle.lisp_statistics.proofs.gathering.Gathering.count_rows.Goals as goal

pub loop-count-init : goal.loop-count-init
loop-count-init g c =
    let few : c.args.self.now.walk.rows < 2 ^ 64 = search rules in
    none_counted c.args.core.now.rows c.args.self.now few

pub returns-then-not-branch-clause-counts : goal.returns-then-not-branch-clause-counts
returns-then-not-branch-clause-counts g c =
    last_counted c.args.core.now.rows c.args.self.now c.loop-count.self c.count_next.new.self c.loop-count._count c.loop-count.invariant c.loop-count-test.true
    (subst (λ (is_row : Bool). CountsNext c.args.core.now.rows c.loop-count.self c.count_next.new.self is_row) c.if-not-branch.true c.in_ok-count_next.ensures.counts)

pub loop-count-preserved : goal.loop-count-preserved
loop-count-preserved g c =
    one_counted c.args.core.now.rows c.args.self.now c.loop-count.self c.count_next.new.self c.loop-count._count c.loop-count.invariant
    (subst (λ (is_row : Bool). CountsNext c.args.core.now.rows c.loop-count.self c.count_next.new.self is_row) c.if-not-branch.false c.in_ok-count_next.ensures.counts)

pub returns-clause-counts : goal.returns-clause-counts
returns-clause-counts g c =
    all_counted c.args.core.now.rows c.args.self.now c.loop-count.self c.loop-count._count c.loop-count.invariant (omega (arith, c.loop-count-test.false, c.loop-count.auto._count-end))
