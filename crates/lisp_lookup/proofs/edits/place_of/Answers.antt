use Rattle.std.proofs.Common.{refl}
use Rattle.lisp_lookup.specs.Index.{order_cmp}
use Rattle.lisp_lookup.proofs.IndexLaws.{order_total, falls, found_place}
use Rattle.lisp_lookup.proofs.edits.place_of.Goals as goal

pub place-requires-clause-falls : goal.place-requires-clause-falls
place-requires-clause-falls g c = falls (order_cmp c.args.order) (order_total c.args.order) c.index-rows-number.result c.args.rows.now c.args.numbers.now.items c.requires.rises

pub returns-in_default-clause-within : goal.returns-in_default-clause-within
returns-in_default-clause-within g c = (found_place c.args.order c.args.rows.now c.args.numbers.now.items c.args.number c.index-rows-number.result c.requires.rises _ c.place.result (λ h. refl) c.place.ensures.bound c.requires.held c.index-rows-number.is).0

pub returns-in_default-clause-here : goal.returns-in_default-clause-here
returns-in_default-clause-here g c = (found_place c.args.order c.args.rows.now c.args.numbers.now.items c.args.number c.index-rows-number.result c.requires.rises _ c.place.result (λ h. refl) c.place.ensures.bound c.requires.held c.index-rows-number.is).1
