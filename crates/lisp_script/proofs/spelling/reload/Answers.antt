use Rattle.std.proofs.Common.{inr}
use Rattle.lisp_script.specs.Command.{command_value}
use Rattle.lisp_script.proofs.Counts.{reload_none, reload_more}
use Rattle.lisp_script.proofs.spelling.reload.Goals as goal

pub returns-in-empty : goal.returns-in-empty
returns-in-empty g c = inr (reload_none c.args.config.now c.args.words.now c.in-empty.len_below)

pub returns-in-len2-up : goal.returns-in-len2-up
returns-in-len2-up g c = reload_more (Unit {0}) command_value c.reloaded.result c.args.config.now c.args.words.now _ c.in-len2-up.len_at_least c.reloaded.ensures
