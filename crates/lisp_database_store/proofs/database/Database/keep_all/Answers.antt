use Rattle.std.proofs.Common.{arith}
use Rattle.lisp_database_store.proofs.EachNonce.{step, ends}
use Rattle.lisp_database_store.proofs.database.Database.keep_all.Goals as goal

pub loop-kept-preserved : goal.loop-kept-preserved
loop-kept-preserved g c = (
  c.loop-kept.invariant.0,
  c.loop-kept.invariant.1,
  step g.T.Table.means c.loop-kept.invariant.0 c.loop-kept.self.table c.keep_greatest.new.self.table c.args.found.now c.loop-kept.kept-index _ (omega (arith, c.loop-kept-test.true))
      c.loop-kept.invariant.2 c.in_ok-keep_greatest.ensures.greatest,
)

pub returns : goal.returns
returns g c =
    ends g.T.Table.means c.commit.result c.args.self.now.table c.loop-kept.self.table c.commit.new.self.table c.args.found.now c.loop-kept.kept-index (omega (arith, c.loop-kept-test.false))
    c.loop-kept.invariant c.commit.ensures.committed c.commit.ensures.settled
