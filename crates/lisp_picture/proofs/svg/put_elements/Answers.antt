use Rattle.std.proofs.Common.{[], string_bytes, sym, ap, ◌∙◌}
use Rattle.std.proofs.lemmas.List.{get_or-map}
use Rattle.lisp_player.specs.declared.outcome.Outcome.{Outcome}
use Rattle.lisp_picture.specs.declared.drawing.Form.TheVariants.{Svg}
use Rattle.lisp_picture.specs.Picture.{texts_of}
use Rattle.lisp_picture.proofs.Elements.{elements_next}
use Rattle.lisp_picture.proofs.svg.put_elements.Goals as goal

pub loop-place-preserved : goal.loop-place-preserved
loop-place-preserved g c =
    let place = c.loop-place.place in
    let outcome = c.outcome-item.result in
    let text = rw c.deref-outcome-items.ensures.value at (ap (λ (o : Outcome _). string_bytes o.text) c.outcome-item.is ∙ sym (get_or-map (λ (o : Outcome _). string_bytes o.text) c.deref-outcome-items.result.now place outcome [] c.loop-place-test.true)) in
    elements_next Svg (texts_of c.args.history.now.outcomes.items) place (string_bytes outcome.text) _ (string_bytes c.loop-place.text) (string_bytes c.put_element.new.text) c.loop-place.invariant text
    (rw c.deref.ensures at c.in_ok-put_element.ensures.element)
