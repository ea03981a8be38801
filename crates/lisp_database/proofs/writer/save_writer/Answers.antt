use Rattle.std.proofs.Common.{refl, arith}
use Rattle.sqlite.specs.State.{HasCleanDisk}
use Rattle.sqlite.specs.Held.{state}
use Rattle.lisp_database.proofs.writer.save_writer.Goals as goal

pub returns-in_ok-put-2 : goal.returns-in_ok-put-2
returns-in_ok-put-2 g c clean =
    let clean_between : HasCleanDisk (state g.S.Store c.put.new.connection) = omega (arith, clean, c.put-then-branch-eq0.ensures.survives.clean) in
    record {
      changed = c.in_ok-put.field-0;
      between = c.put.new.connection;
      changes = c.in_ok-put.ensures.runs clean_between;
      some = λ some. absurd (omega (arith, some, c.if-branch-eq0.true));
      none = λ _. (c.in_ok-put-2.field-0, c.in_ok-put-2.ensures.runs clean);
    }

pub returns-else-branch-eq0 : goal.returns-else-branch-eq0
returns-else-branch-eq0 g c clean = record {
  changed = c.in_ok-put.field-0;
  between = c.put.new.connection;
  changes = c.in_ok-put.ensures.runs clean;
  some = λ _. refl;
  none = λ none. absurd (omega (arith, none, c.if-branch-eq0.false));
}
