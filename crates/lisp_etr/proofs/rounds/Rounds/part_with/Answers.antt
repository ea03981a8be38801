use Rattle.std.proofs.Common.{◌∙◌}
use Rattle.lisp_etr.specs.Rounds.{is_latest}
use Rattle.lisp_etr.specs.declared.round.Round.{Round}
use Rattle.lisp_etr.proofs.RoundsLaws.{position_map}
use Rattle.lisp_etr.proofs.rounds.Rounds.part_with.Goals as goal

pub returns-clause-part : goal.returns-clause-part
returns-clause-part c = c.place_of.ensures.place ∙ position_map (λ (r : Round). r.latest) (λ l. is_latest c.args.nonce l) c.args.self.now.parts
