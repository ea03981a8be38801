use Rattle.std.proofs.Common.{List, Result, sym, ap, subst, ◌∙◌}
use Rattle.lisp_records.specs.Result.{◌>>=◌}
use Rattle.lisp_script.specs.Command.{CommandValue}
use Rattle.lisp_script.specs.Fault.{Gives}
use Rattle.lisp_script.specs.Spelling.{script_of}
use Rattle.lisp_script.specs.declared.fault.ScriptWhat.{ScriptWhat}
use Rattle.lisp_control.specs.Question.{question_of, what_of, only}
use Rattle.lisp_control.specs.declared.question.Question.{Question}
use Rattle.lisp_control.proofs.Asking.{gives_same}
use Rattle.lisp_control.proofs.line.question_in_script.Goals as goal

pub returns : goal.returns
returns c =
    let text = c.as_str.ensures.value ∙ c.in_ok-text.ensures.text in
    let asks = λ (r : Result CommandValue ScriptWhat). r >>= question_of c.args.config.now c.args.number in
    let commands = λ (r : Result (List CommandValue) ScriptWhat). r >>= λ cs. asks (only cs) in
    subst (Gives _ (λ (q : Question). q) c.from_command.result)
    (sym (ap (λ t. commands (what_of (script_of c.args.config.now t))) (sym text) ∙ ap commands c.in_ok-commands.ensures ∙ ap asks c.in_ok-only.ensures))
    (gives_same _ c.from_command.result _ c.from_command.ensures)
