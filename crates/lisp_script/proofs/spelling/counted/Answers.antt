use Rattle.std.proofs.Common.{inr, arith}
use Rattle.lisp_script.specs.Command.{command_value}
use Rattle.lisp_script.specs.Spelling.{spelt}
use Rattle.lisp_script.proofs.Counts.{by_one, by_two, by_three, by_four, by_five, miscounted}
use Rattle.lisp_script.proofs.spelling.counted.Goals as goal

pub returns-in-len1 : goal.returns-in-len1
returns-in-len1 g c change restart lose reload = by_one g.A.Memory.may_refuse command_value c.with_one.result (spelt c.args.config.now c.args.verb) c.args.words.now _ c.in-len1.len_at_least c.in-len1.len_below c.with_one.ensures

pub returns-in-len2 : goal.returns-in-len2
returns-in-len2 g c change restart lose reload = by_two g.A.Memory.may_refuse command_value c.with_two.result (spelt c.args.config.now c.args.verb) c.args.words.now _ c.in-len2.len_at_least c.in-len2.len_below (c.with_two.ensures change restart lose reload)

pub returns-in-len3 : goal.returns-in-len3
returns-in-len3 g c change restart lose reload = by_three g.A.Memory.may_refuse command_value c.with_three.result (spelt c.args.config.now c.args.verb) c.args.words.now _ c.in-len3.len_at_least c.in-len3.len_below (c.with_three.ensures change restart lose reload)

pub returns-in-len4 : goal.returns-in-len4
returns-in-len4 g c change restart lose reload = by_four g.A.Memory.may_refuse command_value c.with_four.result (spelt c.args.config.now c.args.verb) c.args.words.now _ c.in-len4.len_at_least c.in-len4.len_below (c.with_four.ensures change restart lose reload)

pub returns-in-len5 : goal.returns-in-len5
returns-in-len5 g c change restart lose reload = by_five g.A.Memory.may_refuse command_value c.with_five.result (spelt c.args.config.now c.args.verb) c.args.words.now _ c.in-len5.len_at_least c.in-len5.len_below (c.with_five.ensures change restart lose reload)

pub returns-in_default : goal.returns-in_default
returns-in_default g c change restart lose reload = inr (miscounted c.args.config.now c.args.verb c.args.words.now (λ some. grind (arith, some)) change restart lose reload)
