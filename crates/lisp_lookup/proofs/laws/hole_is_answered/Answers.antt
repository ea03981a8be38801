use Rattle.lisp_lookup.proofs.CachedLaws.{hole_is_answered}
use Rattle.lisp_lookup.proofs.laws.hole_is_answered.Goals as goal

pub returns : goal.returns
returns c = hole_is_answered
