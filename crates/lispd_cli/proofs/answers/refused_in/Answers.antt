use Rattle.lispd_cli.proofs.Numbers.{obeyed}
use Rattle.lispd_cli.proofs.answers.refused_in.Goals as goal

pub returns-in_default : goal.returns-in_default
returns-in_default c = (let other = c.in_default in obeyed c.args.lines.now c.first_word.result.now c.first_word.ensures other.not-fault other.not-refused other.not-down)
