use Rattle.std.proofs.Common.{inr}
use Rattle.lisp_script.specs.Command.{command_value}
use Rattle.lisp_script.specs.Spelling.{spelt}
use Rattle.lisp_script.specs.declared.verb.Verb.TheVariants as verbs
use Rattle.lisp_script.proofs.Counts.{by_two, lose_none, lose_more}
use Rattle.lisp_script.proofs.spelling.lose.Goals as goal

pub returns-in-empty : goal.returns-in-empty
returns-in-empty g c = inr (lose_none c.args.config.now c.args.words.now c.in-empty.len_below)

pub returns-in-len2 : goal.returns-in-len2
unfolding spelt
returns-in-len2 g c = by_two g.A.Memory.may_refuse command_value c.emptied.result (spelt c.args.config.now verbs.Lose) c.args.words.now _ c.in-len2.len_at_least c.in-len2.len_below c.emptied.ensures

pub returns-in-len2-up : goal.returns-in-len2-up
returns-in-len2-up g c = lose_more g.A.Memory.may_refuse command_value c.emptied_with.result c.args.config.now c.args.words.now _ c.in-len2-up.len_at_least c.emptied_with.ensures
