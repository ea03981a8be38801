use Rattle.std.proofs.Common.{length, ap, ◌∙◌}
use Rattle.lisp_refinement.specs.Events.{reload_line}
use Rattle.lisp_turns.specs.Act.{line_act}
use Rattle.lisp_turns.proofs.ObeyingNodes.{reload_does_one}
use Rattle.lisp_turns.proofs.server.reload.Goals as goal

pub returns-clause-does : goal.returns-clause-does
returns-clause-does g c =
    reload_does_one c.args.place.now.config.now c.args.place.now.number c.args.now c.args.server.now c.reload-kept.new.self c.args.sites c.line.result c.reload-kept.ensures.reloads
    (c.line.ensures ∙ ap line_act (c.reloaded.ensures ∙ (λ i. reload_line c.args.place.now.number (c.reload-kept.ensures.kept i) (length (c.as_slice-count.ensures i)))))
    c.requires.placed
