use Rattle.lisp_lookup.proofs.CachedLaws.{cached_is_answered}
use Rattle.lisp_lookup.proofs.laws.cached_is_answered.Goals as goal

pub returns : goal.returns
returns c = cached_is_answered
