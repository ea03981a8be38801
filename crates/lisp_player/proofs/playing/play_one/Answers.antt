use Rattle.std.proofs.Common.{inr}
use Rattle.std.specs.String.{string_bytes}
use Rattle.lisp_script.specs.Command.{command_value}
use Rattle.lisp_player.proofs.Leading.{only_write, of_err}
use Rattle.lisp_player.proofs.Taking.{at_ok, text_leads}
use Rattle.lisp_player.proofs.playing.play_one.Goals as goal

pub returns-clause-plays : goal.returns-clause-plays
returns-clause-plays g c = at_ok c.write_text.result _ _ (λ wrote. record { text = string_bytes c.in_ok-text.field-0.text; written = rw c.deref-2.ensures at wrote; turns = text_leads g.row.A.Denot g.A.Memory.may_refuse g.S.NonceStore.may_refuse _ _ _ (command_value c.args.command.now) (string_bytes c.in_ok-text.field-0.text) c.in_ok-text.field-0.line c.in_ok-text.ensures.turns }) c.write_text.ensures.ok

pub returns-clause-breaks : goal.returns-clause-breaks
returns-clause-breaks g c = λ is.
    let written = rw c.deref-2.ensures at (of_err c.write_text.result is c.write_text.ensures.front) in
    record { text = string_bytes c.in_ok-text.field-0.text; turns = text_leads g.row.A.Denot g.A.Memory.may_refuse g.S.NonceStore.may_refuse _ _ _ (command_value c.args.command.now) (string_bytes c.in_ok-text.field-0.text) c.in_ok-text.field-0.line c.in_ok-text.ensures.turns; written = written }

pub returns-clause-keeps : goal.returns-clause-keeps
returns-clause-keeps g c = only_write _ c.write_text.ensures.fault

pub returns-clause-lost : goal.returns-clause-lost
returns-clause-lost g c = only_write _ c.write_text.ensures.fault

pub returns-clause-memory : goal.returns-clause-memory
returns-clause-memory g c = only_write _ c.write_text.ensures.fault

pub returns-in_err-add_untaken-clause-lost : goal.returns-in_err-add_untaken-clause-lost
returns-in_err-add_untaken-clause-lost g c = λ is. inr (string_bytes c.in_ok-text.field-0.text, text_leads g.row.A.Denot g.A.Memory.may_refuse g.S.NonceStore.may_refuse _ _ _ (command_value c.args.command.now) (string_bytes c.in_ok-text.field-0.text) c.in_ok-text.field-0.line c.in_ok-text.ensures.turns)
