use Rattle.std.proofs.Common.{map}
use Rattle.std.proofs.lemmas.Iterator.Consumers.{YieldsList-at, YieldsList-from_enumerate, YieldsList-so_far, YieldsList-turn, YieldsList-end}
use Rattle.std.proofs.lemmas.Iterator.Splits.{YieldsList-from_lines}
use Rattle.std.proofs.lemmas.Result.{err_from_is_err_and}
use Rattle.std.specs.Str.Lines.{lines}
use Rattle.lisp_script.specs.Command.{command_value}
use Rattle.lisp_script.specs.Words.{words_of}
use Rattle.lisp_script.specs.Answers.{MayRunOutIn}
use Rattle.lisp_lemmas.proofs.NumberedLines.{next_line, all_yielded}
use Rattle.lisp_script.proofs.Lines.{in_none, goes_on, stops, runs_out, of_script, reaches}
use Rattle.lisp_script.proofs.script.parse_script.Goals as goal

pub loop-place-init : goal.loop-place-init
loop-place-init g c = rw c.new-commands.ensures.items (in_none c.args.config.now 1)

pub loop-place-preserved : goal.loop-place-preserved
loop-place-preserved g c =
    goes_on (MayRunOutIn g.A.Memory.may_refuse (words_of c.in-Some.line.now)) c.args.config.now c.loop-place.yielded (c.in-Some.place, c.in-Some.line) (map command_value c.loop-place.commands.items) (map command_value c.read_line.new.commands.items) _ c.read_line.result
    c.loop-place.invariant c.read_line.ensures.gives c.in_ok-at_line.ensures

pub returns-in_err-at_line-clause-fault : goal.returns-in_err-at_line-clause-fault
returns-in_err-at_line-clause-fault g c =
    let numbered = YieldsList-at c.into_iter-place-iterator.ensures.into_iter_gives (YieldsList-from_enumerate (YieldsList-at c.enumerate-place-items.ensures.source (YieldsList-from_lines c.args.text.now c.lines.ensures.rest)) c.enumerate-place-items.ensures.count) in
    let turn = YieldsList-turn numbered c.loop-place.yielded _ c.loop-place.yielded_by _ _ (c.in-Some.place, c.in-Some.line) c.in-Some.is c.next.ensures.steps in
    let next = next_line (lines c.args.text.now) c.loop-place.yielded (c.in-Some.place, c.in-Some.line) (YieldsList-so_far numbered c.loop-place.yielded _ c.loop-place.yielded_by) turn in
    let p = err_from_is_err_and c.from_residual.result c.from_residual.ensures.1 in
    rw (p.1, p.2) (stops (MayRunOutIn g.A.Memory.may_refuse (words_of c.in-Some.line.now)) c.args.config.now (lines c.args.text.now) c.loop-place.yielded (c.in-Some.place, c.in-Some.line) (map command_value c.loop-place.commands.items) (map command_value c.read_line.new.commands.items) c.in_err-at_line.field-0.0 c.read_line.result
    c.loop-place.invariant c.read_line.ensures.gives c.in_err-at_line.ensures next)

pub returns-in_err-at_line-clause-memory : goal.returns-in_err-at_line-clause-memory
returns-in_err-at_line-clause-memory g c =
    let numbered = YieldsList-at c.into_iter-place-iterator.ensures.into_iter_gives (YieldsList-from_enumerate (YieldsList-at c.enumerate-place-items.ensures.source (YieldsList-from_lines c.args.text.now c.lines.ensures.rest)) c.enumerate-place-items.ensures.count) in
    let turn = YieldsList-turn numbered c.loop-place.yielded _ c.loop-place.yielded_by _ _ (c.in-Some.place, c.in-Some.line) c.in-Some.is c.next.ensures.steps in
    let next = next_line (lines c.args.text.now) c.loop-place.yielded (c.in-Some.place, c.in-Some.line) (YieldsList-so_far numbered c.loop-place.yielded _ c.loop-place.yielded_by) turn in
    let p = err_from_is_err_and c.from_residual.result c.from_residual.ensures.1 in
    rw (p.1, p.2) (λ e. of_script g.A.Memory.may_refuse c.args.text.now c.loop-place.yielded (c.in-Some.place, c.in-Some.line) next
    (runs_out (MayRunOutIn g.A.Memory.may_refuse (words_of c.in-Some.line.now)) c.args.config.now c.in-Some.line.now (map command_value c.loop-place.commands.items) (map command_value c.read_line.new.commands.items) _ c.in_err-at_line.field-0.0 c.read_line.result c.read_line.ensures.gives c.in_err-at_line.ensures e))

pub returns-in_err-at_line-clause-reached : goal.returns-in_err-at_line-clause-reached
returns-in_err-at_line-clause-reached g c =
    let numbered = YieldsList-at c.into_iter-place-iterator.ensures.into_iter_gives (YieldsList-from_enumerate (YieldsList-at c.enumerate-place-items.ensures.source (YieldsList-from_lines c.args.text.now c.lines.ensures.rest)) c.enumerate-place-items.ensures.count) in
    let turn = YieldsList-turn numbered c.loop-place.yielded _ c.loop-place.yielded_by _ _ (c.in-Some.place, c.in-Some.line) c.in-Some.is c.next.ensures.steps in
    let next = next_line (lines c.args.text.now) c.loop-place.yielded (c.in-Some.place, c.in-Some.line) (YieldsList-so_far numbered c.loop-place.yielded _ c.loop-place.yielded_by) turn in
    let p = err_from_is_err_and c.from_residual.result c.from_residual.ensures.1 in
    rw (p.1, p.2) (reaches c.args.config.now c.args.text.now c.loop-place.yielded (c.in-Some.place, c.in-Some.line) (map command_value c.loop-place.commands.items) c.in_err-at_line.field-0.0 c.read_line.result
    c.loop-place.invariant c.read_line.ensures.asked c.in_err-at_line.ensures next)

pub returns-clause-commands : goal.returns-clause-commands
returns-clause-commands g c =
    let numbered = YieldsList-at c.into_iter-place-iterator.ensures.into_iter_gives (YieldsList-from_enumerate (YieldsList-at c.enumerate-place-items.ensures.source (YieldsList-from_lines c.args.text.now c.lines.ensures.rest)) c.enumerate-place-items.ensures.count) in
    let all = all_yielded (lines c.args.text.now) c.loop-place.yielded (YieldsList-end numbered c.loop-place.yielded _ c.loop-place.yielded_by _ _ c.in-None.is c.next.ensures.steps).0 in
    rw all at c.loop-place.invariant

pub returns-in_err-at_line-clause-commands : goal.returns-in_err-at_line-clause-commands
returns-in_err-at_line-clause-commands g c = let p = err_from_is_err_and c.from_residual.result c.from_residual.ensures.1 in rw p.1 tt

pub returns-clause-fault : goal.returns-clause-fault
returns-clause-fault g c = tt

pub returns-clause-memory : goal.returns-clause-memory
returns-clause-memory g c = tt

pub returns-clause-reached : goal.returns-clause-reached
returns-clause-reached g c = tt
