use Rattle.std.proofs.Common.{[], ◌∷◌}
use Rattle.lisp_log.proofs.Due.{fewer}
use Rattle.lisp_log.proofs.log.Log.tell_replays.Goals as goal

pub loop-smaller : goal.loop-smaller
loop-smaller g c =
    let one = c.tell_replay.ensures.told c.loop-test.true in
    fewer c.loop.self.replays c.tell_replay.new.self.replays c.args.now one.0 one.1.replay

pub loop-preserved : goal.loop-preserved
loop-preserved g c = λ end others rest.
    let one = c.tell_replay.ensures.told c.loop-test.true in
    c.loop.invariant end (one.0 ∷ others) (c.tell_replay.new.self, one.1, rest)

pub returns : goal.returns
returns g c = c.loop.invariant c.tell_replay.new.self [] (c.tell_replay.ensures.none c.loop-test.false)
