use Rattle.std.proofs.Common.{map, inl, refl}
use Rattle.std.proofs.lemmas.Result.{err_from_is_err_and}
use Rattle.lisp_script.specs.Command.{command_value}
use Rattle.lisp_script.proofs.Commands.{one_more, no_more, no_command}
use Rattle.lisp_script.proofs.script.read_words.Goals as goal

pub returns-clause-gives : goal.returns-clause-gives
returns-clause-gives g c = one_more c.args.config.now c.args.commands.now.items c.try_push.new.self.items c.in_ok-command.field-0 c.args.words.now _ c.in-len1-up.len_at_least c.in_ok-command.ensures c.in_ok-try_push.ensures.items

pub returns-in_default-clause-gives : goal.returns-in_default-clause-gives
returns-in_default-clause-gives g c = no_more c.args.config.now c.args.commands.now.items c.args.words.now c.in_default.len_below

pub returns-in_err-command-clause-gives : goal.returns-in_err-command-clause-gives
returns-in_err-command-clause-gives g c =
    let p = err_from_is_err_and c.from_residual.result c.from_residual.ensures.1 in
    rw (p.1, p.2) (no_command g.A.Memory.may_refuse c.args.config.now (map command_value c.args.commands.now.items) c.args.words.now _ c.in_err-command.field-0.0 c.in-len1-up.len_at_least c.in_err-command.ensures)

pub returns-in_err-try_push-clause-gives : goal.returns-in_err-try_push-clause-gives
returns-in_err-try_push-clause-gives g c =
    let p = err_from_is_err_and c.from_residual-in_err-try_push.result c.from_residual-in_err-try_push.ensures.1 in
    rw (p.1, p.2) (inl (inl c.in_err-try_push.ensures.refused, refl))
