use Rattle.std.proofs.Common.{arith, Some, sym, ap, ◌∙◌}
use Rattle.lisp_policy.proofs.IndexLaws.{at_index, in_list, not_indexed}
use Rattle.lisp_policy.proofs.site.Site.key_under.Goals as goal

pub index-requires : goal.index-requires
index-requires g c = grind (arith, in_list)

pub returns-in-Some : goal.returns-in-Some
returns-in-Some g c = rw (← c.self.view_is) (ap Some c.index.ensures ∙ sym (at_index (λ k. k.id) c.self.inside.by_id _ c.args.key_id _ c.index.result.now c.self.invariant (sym (rw c.from.ensures at c.in-Some.ensures))))

pub returns-in-None : goal.returns-in-None
returns-in-None g c = rw (← c.self.view_is) (sym (not_indexed (λ k. k.id) c.self.inside.by_id _ c.args.key_id c.self.invariant (sym (rw c.from.ensures at c.in-None.ensures))))
