use Rattle.std.proofs.Common.{refl}
use Rattle.lisp_log.proofs.Telling.{puts}
use Rattle.lisp_log.proofs.log.Log.tell_replay.Goals as goal

-- that it is due is put into words, which wait
pub returns-clause-told : goal.returns-clause-told
returns-clause-told g c =
    rw (← c.self.view_is) (λ _. (
      c.in-Some.told,
      record {
        replay = c.in-Some.ensures.told;
        waiting = puts g.A.Memory.may_refuse c.replay_text-text.result c.self.inside.waiting c.put_text.new.waiting _ c.put_text.ensures.text c.put_text.ensures.none c.replay_text-text.ensures.text c.replay_text-text.ensures.memory;
        rest = refl;
      },
    ))
