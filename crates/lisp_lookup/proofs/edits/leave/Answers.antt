use Rattle.std.proofs.Common.{List, ℕ, ◌<◌, length, refl, sym, ◌∙◌, subst, arith}
use Rattle.std.proofs.lemmas.List.{get_or_read}
use Rattle.lisp_lookup.specs.Index.{IsTakenOut}
use Rattle.lisp_lookup.proofs.IndexLaws.{left_at, taken}
use Rattle.lisp_lookup.proofs.edits.leave.Goals as goal

pub returns-in-Some-clause-left : goal.returns-in-Some-clause-left
returns-in-Some-clause-left g c =
    let some : 0 < length c.args.numbers.now.items = omega (arith, c.in-Some.ensures.variant.0 refl, c.args.numbers.now.ok.0) in
    subst (λ (new : List ℕ). IsTakenOut c.args.order c.args.rows.now c.args.numbers.now.items new c.args.number) (sym c.pop_front.ensures.rest) (left_at c.args.order c.args.rows.now c.args.numbers.now.items c.args.number 0 c.requires.rises c.requires.row some (sym (get_or_read c.args.numbers.now.items 0 c.in-Some.first.now some c.in-Some.ensures.lookup 0) ∙ c.if-first-number.true))

pub returns-in_default-clause-left : goal.returns-in_default-clause-left
returns-in_default-clause-left g c =
    subst (λ (new : List ℕ). IsTakenOut c.args.order c.args.rows.now c.args.numbers.now.items new c.args.number) (sym (taken c.remove.result c.remove.ensures.items (c.remove.ensures.variant.1 (omega (arith, c.place_of-place.ensures.within, c.args.numbers.now.ok.0))))) (left_at c.args.order c.args.rows.now c.args.numbers.now.items c.args.number c.place_of-place.result c.requires.rises c.requires.row c.place_of-place.ensures.within c.place_of-place.ensures.here)
