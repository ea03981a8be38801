use Rattle.std.proofs.Common.{◌↔◌, IsTrue, subst}
use Rattle.lisp_records.specs.Address.{PrefixValue}
use Rattle.lisp_lookup.specs.Hole.{IsEmptyIn}
use Rattle.lisp_lookup.proofs.hole.is_empty_around.Goals as goal

pub returns-in-Some : goal.returns-in-Some
returns-in-Some g c = subst (λ (b : PrefixValue). IsTrue c.is_empty_in.result ↔ IsEmptyIn c.args.rows.now b c.args.now) c.in-Some.ensures.value c.is_empty_in.ensures
