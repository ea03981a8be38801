use Rattle.std.proofs.Common.{inr}
use Rattle.lisp_script.specs.Command.{command_value}
use Rattle.lisp_script.specs.Spelling.{spelt}
use Rattle.lisp_script.specs.declared.verb.Verb.TheVariants as verbs
use Rattle.lisp_script.proofs.Counts.{by_two, restart_none, restart_more}
use Rattle.lisp_script.proofs.spelling.restart.Goals as goal

pub returns-in-empty : goal.returns-in-empty
returns-in-empty g c = inr (restart_none c.args.config.now c.args.words.now c.in-empty.len_below)

pub returns-in-len2 : goal.returns-in-len2
unfolding spelt
returns-in-len2 g c = by_two g.A.Memory.may_refuse command_value c.restarted.result (spelt c.args.config.now verbs.Restart) c.args.words.now _ c.in-len2.len_at_least c.in-len2.len_below c.restarted.ensures

pub returns-in-len2-up : goal.returns-in-len2-up
returns-in-len2-up g c = restart_more g.A.Memory.may_refuse command_value c.restarted_with.result c.args.config.now c.args.words.now _ c.in-len2-up.len_at_least c.restarted_with.ensures
