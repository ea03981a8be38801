use Rattle.std.proofs.Common.{◌≡◌, ◌⊎◌, inr}
use Rattle.lisp_script.specs.Command.{command_value}
use Rattle.lisp_script.specs.Words.{texts}
use Rattle.lisp_script.specs.Spelling.{spelt}
use Rattle.lisp_script.specs.declared.verb.Verb.TheVariants as verbs
use Rattle.lisp_script.proofs.Faults.{gives_or, gives_so}
use Rattle.lisp_script.proofs.spelling.of_verb.Goals as goal

pub returns-in-Change : goal.returns-in-Change
returns-in-Change g c = rw c.in-Change.is (gives_or g.A.Memory.may_refuse (verbs.Change ≡ verbs.Reload) command_value c.change.result (spelt c.args.config.now verbs.Change (texts c.args.words.now)) c.change.ensures)

pub returns-in-Restart : goal.returns-in-Restart
returns-in-Restart g c = rw c.in-Restart.is (gives_or g.A.Memory.may_refuse (verbs.Restart ≡ verbs.Reload) command_value c.restart.result (spelt c.args.config.now verbs.Restart (texts c.args.words.now)) c.restart.ensures)

pub returns-in-Lose : goal.returns-in-Lose
returns-in-Lose g c = rw c.in-Lose.is (gives_or g.A.Memory.may_refuse (verbs.Lose ≡ verbs.Reload) command_value c.lose.result (spelt c.args.config.now verbs.Lose (texts c.args.words.now)) c.lose.ensures)

pub returns-in-Reload : goal.returns-in-Reload
returns-in-Reload g c = gives_so (g.A.Memory.may_refuse ⊎ (c.args.verb ≡ verbs.Reload)) command_value c.reload.result (spelt c.args.config.now c.args.verb (texts c.args.words.now)) (inr c.in-Reload.is) (rw c.in-Reload.is c.reload.ensures)
