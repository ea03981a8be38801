use Rattle.std.proofs.Common.{[], ◌∷◌, ◌++◌, ap, ◌∙◌}
use Rattle.std.proofs.lemmas.List.{get_or_default}
use Rattle.std.specs.Prelude.{slice_index_or}
use Rattle.lisp_records.specs.declared.address.Addr.{Addr, TheVariants.V4}
use Rattle.lisp_sites.proofs.Mapped.{more_mapped}
use Rattle.lisp_world.proofs.Making.{each_at}
use Rattle.lisp_world.proofs.new.each_address.Goals as goal

pub bounds-addresses-place : goal.bounds-addresses-place
bounds-addresses-place g c = each_at _ c.args.places.now c.loop-place.place-index 0 c.requires c.loop-place-test.true

pub loop-place-preserved : goal.loop-place-preserved
loop-place-preserved g c =
    let places = c.args.places.now in
    let within = each_at _ places c.loop-place.place-index 0 c.requires c.loop-place-test.true in
    more_mapped [] (λ place. slice_index_or c.args.addresses.now place (V4 [])) places _ _ c.loop-place.place-index _ c.loop-place-test.true
    (get_or_default places c.loop-place.place-index 0 _ c.loop-place-test.true) c.loop-place.invariant
    (c.in_ok-try_push.ensures.items ∙ ap (λ (a : Addr). c.loop-place.found.items ++ a ∷ []) (get_or_default c.args.addresses.now _ _ (V4 []) within))
