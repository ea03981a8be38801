use Rattle.std.proofs.Common.{length, ap, ◌∙◌}
use Rattle.lisp_nodes.proofs.RouterCalls.{changed_line}
use Rattle.lisp_turns.specs.Act.{line_act}
use Rattle.lisp_turns.proofs.ObeyingNodes.{change_does_one}
use Rattle.lisp_turns.proofs.router.change.Goals as goal

pub returns-clause-does : goal.returns-clause-does
returns-clause-does g c =
    change_does_one c.args.place.now.config.now c.args.place.now.number c.args.now c.args.router.now c.change-is_up.new.self c.args.db c.line.result c.records-records.ensures.fits c.change-is_up.ensures.0
    (c.line.ensures ∙ ap line_act (c.changed.ensures
    ∙ changed_line c.args.place.now.number (length c.records-records.result.now) c.args.db c.args.router.now.core c.change-is_up.result (ap length c.records-records.ensures.value) c.change-is_up.ensures.1))
    c.requires.placed
