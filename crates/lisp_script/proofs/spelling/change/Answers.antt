use Rattle.std.proofs.Common.{inr}
use Rattle.lisp_script.specs.Command.{command_value}
use Rattle.lisp_script.proofs.Counts.{change_none, change_more}
use Rattle.lisp_script.proofs.spelling.change.Goals as goal

pub returns-in-empty : goal.returns-in-empty
returns-in-empty g c = inr (change_none c.args.config.now c.args.words.now c.in-empty.len_below)

pub returns-in-len1-up : goal.returns-in-len1-up
returns-in-len1-up g c = change_more g.A.Memory.may_refuse command_value c.changed.result c.args.config.now c.args.words.now _ c.in-len1-up.len_at_least c.changed.ensures
