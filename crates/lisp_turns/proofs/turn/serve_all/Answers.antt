use Rattle.std.proofs.Common.{[], refl, sym, ap, rules, arith}
use Rattle.std.proofs.lemmas.Bool.{false≢true}
use Rattle.lisp_turns.proofs.Duties.{act_told, served_more, ends_told, ends_untold}
use Rattle.lisp_turns.proofs.turn.serve_all.Goals as goal
use Rattle.lisp_turns.proofs.turn.serve_all.Goals.{then-fail, else-fail}

-- nothing was done yet
pub loop-init : goal.loop-init
loop-init g c =
    record {
      placed = c.requires.placed;
      served = record {
        served = [];
        counted = refl;
        did = refl;
        duties = tt;
        due = tt;
        none_came = λ other due. due;
        notices_due = tt;
        no_notice_came = λ other due. due;
        once = λ i j d less within. absurd (omega (arith, within));
        spent = search rules;
        done = tt;
        asked = search rules;
      };
      same = refl;
    }

pub returns-then-is_refused-clause-serves : goal.returns-then-is_refused-clause-serves
returns-then-is_refused-clause-serves g c =
    let refused = c.if-is_refused.ensures.0 refl in
    rw (sym c.loop.invariant.same)
    (elim c.if-fail.branch [
      | then-fail w ↦ ends_told _ _ _ _ _ _ _ _ _ _ _ _ c.loop.invariant.served c.in-Some.ensures.does _ _ _ _ _ _ _ refused c.fail.ensures.told w.if-fail.true c.fail.ensures.pause (rw w.outside-is (act_told c.act.view_is w.tell.ensures))
      | else-fail w ↦ ends_untold _ _ _ _ _ _ _ _ _ _ _ _ c.loop.invariant.served c.in-Some.ensures.does _ _ _ _ _ _ _ refused c.fail.ensures.told w.if-fail.false c.fail.ensures.pause (ap g.O.Outside.seen w.outside-is)
    ])

pub loop-preserved : goal.loop-preserved
loop-preserved g c =
    record {
      placed = c.in-Some.ensures.placed;
      served = served_more _ _ _ _ _ _ _ _ _ _ _ _ c.loop.invariant.served c.in-Some.ensures.does (λ refused. absurd (false≢true (c.if-is_refused.ensures.1 refused))) (act_told c.act.view_is c.tell-in-loop.ensures);
      same = c.loop.invariant.same;
    }
