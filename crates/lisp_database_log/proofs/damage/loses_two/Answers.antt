use Rattle.std.proofs.Common.{◌≤◌, IsTrue, false, refl}
use Rattle.lisp_database_log.proofs.Ends.{two_found, end_known, no_two_next}
use Rattle.lisp_database_log.proofs.damage.loses_two.Goals as goal

pub returns-then-is_second : goal.returns-then-is_second
returns-then-is_second c =
    let known = c.is_second.ensures.0 c.if-is_second.true in
    (λ _. two_found c.args.log.now c.args.front c.loop-number.number (c.loop-number.invariant.0.0 known.0) known.1 known.2, λ _. refl)

pub loop-number-preserved : goal.loop-number-preserved
loop-number-preserved c =
    let low : c.args.front ≤ c.loop-number.number = c.loop-number.auto.number in (
      end_known c.args.log.now c.args.front c.loop-number.number (IsTrue c.loop-number.has_end) (IsTrue c.leads_on-has_end.result) low
          c.loop-number.invariant.0 c.leads_on-has_end.ensures,
      no_two_next c.args.log.now c.args.front c.loop-number.number c.loop-number.invariant.1
          (λ has goes commits. let never : IsTrue false = c.if-is_second.ensures.1 (c.loop-number.invariant.0.1 has, goes, commits) in cc),
    )
