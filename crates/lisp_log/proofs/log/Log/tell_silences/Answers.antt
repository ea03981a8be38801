use Rattle.std.proofs.Common.{[], ◌∷◌}
use Rattle.lisp_log.proofs.Silent.{fewer}
use Rattle.lisp_log.proofs.log.Log.tell_silences.Goals as goal

pub loop-smaller : goal.loop-smaller
loop-smaller g c =
    let one = c.tell_silence.ensures.told c.loop-test.true in
    fewer c.loop.self.silences c.tell_silence.new.self.silences c.args.now one.0 one.1.silence

pub loop-preserved : goal.loop-preserved
loop-preserved g c = λ end others rest.
    let one = c.tell_silence.ensures.told c.loop-test.true in
    c.loop.invariant end (one.0 ∷ others) (c.tell_silence.new.self, one.1, rest)

pub returns : goal.returns
returns g c = c.loop.invariant c.tell_silence.new.self [] (c.tell_silence.ensures.none c.loop-test.false)
