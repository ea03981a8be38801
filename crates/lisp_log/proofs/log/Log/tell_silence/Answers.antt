use Rattle.std.proofs.Common.{refl}
use Rattle.lisp_log.proofs.Telling.{puts}
use Rattle.lisp_log.proofs.log.Log.tell_silence.Goals as goal

-- that it is silent is put into words, which wait
pub returns-clause-told : goal.returns-clause-told
returns-clause-told g c =
    rw (← c.self.view_is) (λ _. (
      c.in-Some.told,
      record {
        silence = c.in-Some.ensures.told;
        waiting = puts g.A.Memory.may_refuse c.silent_text-text.result c.self.inside.waiting c.put_text.new.waiting _ c.put_text.ensures.text c.put_text.ensures.none c.silent_text-text.ensures.text c.silent_text-text.ensures.memory;
        rest = refl;
      },
    ))
