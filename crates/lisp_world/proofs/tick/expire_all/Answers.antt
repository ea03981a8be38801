use Rattle.std.proofs.Common.{length, arith}
use Rattle.std.proofs.lemmas.Option.{slice_get_within}
use borrow.Author.Rules.{scaled_Fits}
use Rattle.lisp_refinement.specs.Events.{ExpiresNode}
use Rattle.lisp_world.proofs.Taking.{done_more, same_more}
use Rattle.lisp_world.proofs.tick.expire_all.Goals as goal

-- a node's size is a long term, over which a search takes seconds: the lemma and its facts are named
pub offset_bounds-servers-server-index : goal.offset_bounds-servers-server-index
offset_bounds-servers-server-index g c = scaled_Fits _ (length c.args.servers.now) _ c.loop-server-test.true c.well_formed.0.1

pub loop-server-preserved : goal.loop-server-preserved
loop-server-preserved g c =
    let l = c.loop-server in
    record {
      done = done_more c.args.servers.now l.servers l.server-index c.server-item.result c.expire.new.self (λ old new. ExpiresNode old new c.args.now)
          (omega (arith, c.loop-server-test.true, l.auto.servers)) c.expire.ensures.expires l.invariant.others l.invariant.done;
      others = same_more c.args.servers.now l.servers l.server-index c.server-item.result c.expire.new.self l.invariant.others;
    }

pub returns-clause-each : goal.returns-clause-each
returns-clause-each g c k n m was is =
    c.loop-server.invariant.done k n m (omega (arith, slice_get_within c.args.servers.now k n was, c.loop-server-test.false)) was is

pub returns-clause-count : goal.returns-clause-count
returns-clause-count g c = c.loop-server.auto.servers
