use Rattle.std.proofs.Common.{◌<◌, length, arith, refl, sym, subst}
use borrow.Author.Rules.{scaled_Fits}
use Rattle.lisp_refinement.specs.World.{RouterNodeState}
use Rattle.lisp_world.specs.Making.{HasStarted, IsUnstarted}
use Rattle.lisp_world.proofs.Making.{started_to_none, next_was, started_more, started_before, all_started}
use Rattle.lisp_world.proofs.new.start_all.Goals as goal

pub loop-i-init : goal.loop-i-init
loop-i-init g c = started_to_none c.args.routers.now

pub returns-in-Err-clause-faults : goal.returns-in-Err-clause-faults
returns-in-Err-clause-faults g c =
    let low : c.loop-i.i < length c.loop-i.routers = omega (arith, c.loop-i-test.true, c.loop-i.auto.routers) in
    record {
      place = c.loop-i.i;
      node = c.index-routers-i.result;
      there = next_was c.args.routers.now c.loop-i.routers c.loop-i.i c.loop-i.invariant c.index-routers-i.result low c.index-routers-i.is;
      earlier = started_before c.args.routers.now c.loop-i.routers c.loop-i.i c.loop-i.invariant c.start.new.router low;
      why = c.in-Err.fault;
      is = refl;
      after = c.start.new.router.store;
      unstarted = subst (λ (m : RouterNodeState). IsUnstarted m.store c.start.new.router.store c.in-Err.fault g.A.Memory.may_refuse g.S.NonceStore.may_refuse) (sym c.index-routers-i.is) c.in-Err.ensures.unstarted;
    }

pub loop-i-preserved : goal.loop-i-preserved
loop-i-preserved g c =
    let low : c.loop-i.i < length c.loop-i.routers = omega (arith, c.loop-i-test.true, c.loop-i.auto.routers) in
    started_more c.args.routers.now c.loop-i.routers c.loop-i.i c.loop-i.invariant c.index-routers-i.result c.start.new.router low c.index-routers-i.is
    (subst (λ (m : RouterNodeState). HasStarted m c.start.new.router) (sym c.index-routers-i.is) c.in_default.ensures.started)

pub returns-clause-started : goal.returns-clause-started
returns-clause-started g c =
    all_started c.args.routers.now c.loop-i.routers c.loop-i.i c.loop-i.invariant (omega (arith, c.loop-i-test.false, c.loop-i.auto.routers))

-- a node's size is a long term, over which a search takes seconds: the lemma and its facts are named
pub offset_bounds-routers-i : goal.offset_bounds-routers-i
offset_bounds-routers-i g c = scaled_Fits _ (length c.args.routers.now) _ (omega (arith, c.loop-i-test.true)) c.well_formed.1.0.1
