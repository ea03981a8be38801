use Rattle.std.proofs.Common.{ap, sym, ◌∙◌}
use Rattle.std.proofs.lemmas.Result.{IfOk-weaker}
use Rattle.lisp_script.specs.Parts.{parted}
use Rattle.lisp_script.proofs.Scheduled.{no_text, no_parts, no_orders, no_lines_of_text, lines_there, as_many_orders}
use Rattle.lisp_script.proofs.line_numbers.schedule_lines.Goals as goal

pub returns-in_default-clause-lines : goal.returns-in_default-clause-lines
returns-in_default-clause-lines g c = rw c.new.ensures.items (no_lines_of_text c.args.input.now c.in_default.ensures.cases.0)

pub returns-in_default-clause-counts : goal.returns-in_default-clause-counts
returns-in_default-clause-counts g c = no_orders c.args.input.now _ _ (no_text c.args.input.now c.in_default.ensures.cases.0)

pub returns-in-Some-clause-lines : goal.returns-in-Some-clause-lines
returns-in-Some-clause-lines g c =
    let parts = ap parted (sym c.in-Ok.ensures.cases.0) ∙ sym c.in-Some.ensures in
    IfOk-weaker c.command_lines.result _ _ (λ numbers is. lines_there c.args.input.now c.in-Ok.ensures.cases.1 c.in-Some.field-0-0.now c.in-Some.script.now parts numbers.items is) c.command_lines.ensures.lines

pub returns-in-Some-clause-counts : goal.returns-in-Some-clause-counts
returns-in-Some-clause-counts g c =
    let parts = ap parted (sym c.in-Ok.ensures.cases.0) ∙ sym c.in-Some.ensures in
    IfOk-weaker c.command_lines.result _ _ (λ numbers many. as_many_orders c.args.input.now c.in-Ok.ensures.cases.1 c.in-Some.field-0-0.now c.in-Some.script.now parts numbers.items many) c.command_lines.ensures.counts

pub returns-in-None-clause-counts : goal.returns-in-None-clause-counts
returns-in-None-clause-counts g c =
    no_orders c.args.input.now _ _ (no_parts c.args.input.now c.in-Ok.ensures.cases.1 (ap parted (sym c.in-Ok.ensures.cases.0) ∙ sym c.in-None.ensures))
