use Rattle.std.proofs.Common.{ap, ◌∙◌, rules}
use Rattle.lisp_turns.specs.Act.{line_act}
use Rattle.lisp_turns.proofs.ObeyingNodes.{rotate_does_one}
use Rattle.lisp_turns.proofs.router.rotate.Goals as goal

pub returns-clause-does : goal.returns-clause-does
returns-clause-does g c =
    rotate_does_one c.args.place.now.config.now c.args.place.now.number c.args.now c.args.key c.ranges.key.fits c.args.router.now c.rotate-answer.new.self c.line.result
    (record {
      secret = c.in-Some.secret.now;
      known = search rules;
      unused = search rules;
      answer = c.rotate-answer.result;
      up = search rules;
      down = c.rotate-answer.ensures.down;
      said = c.line.ensures ∙ ap line_act c.rotated.ensures;
    })
    c.requires.placed
