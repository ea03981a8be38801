use Rattle.std.proofs.Common.{ℕ, List, refl, rules, subst, sym, arith}
use Rattle.std.proofs.lemmas.List.{nil_from_length}
use Rattle.lispd_cli.specs.PrintedLine.{ExplainsEach}
use Rattle.lispd_cli.proofs.Numbers.{explains_first}
use Rattle.lispd_cli.proofs.explanation.explain_each.Goals as goal

pub loop-rest-init : goal.loop-rest-init
loop-rest-init g c = λ new explains. explains

pub loop-rest-preserved : goal.loop-rest-preserved
loop-rest-preserved g c = λ new explains.
    c.loop-rest.invariant new (explains_first c.explain.result c.loop-rest.rest.now _ _ _ new c.in-len1-up.len_at_least (search rules) c.explain.ensures.ok explains)

pub returns-clause-ok : goal.returns-clause-ok
unfolding ExplainsEach
returns-clause-ok g c =
    let none = nil_from_length c.loop-rest.rest.now (omega (arith, c.in_default.len_below)) in
    c.loop-rest.invariant _ (subst (λ (ns : List ℕ). ExplainsEach ns (g.W.Write.contents c.loop-rest.writer) (g.W.Write.contents c.loop-rest.writer)) (sym none) refl)
