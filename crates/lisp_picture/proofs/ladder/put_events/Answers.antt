use Rattle.std.proofs.Common.{[], string_bytes, refl, sym, ap, ◌∙◌}
use Rattle.std.proofs.lemmas.List.{get_or-map}
use Rattle.lisp_player.specs.declared.outcome.Outcome.{Outcome}
use Rattle.lisp_picture.specs.declared.drawing.Form.TheVariants.{Text}
use Rattle.lisp_picture.specs.Picture.{NoLine, texts_of}
use Rattle.lisp_picture.proofs.Elements.{elements_next, lines_then}
use Rattle.lisp_picture.proofs.ladder.put_events.Goals as goal

pub loop-place-init : goal.loop-place-init
loop-place-init g c = (refl, NoLine _)

pub loop-place-preserved : goal.loop-place-preserved
loop-place-preserved g c =
    let place = c.loop-place.place in
    let outcome = c.outcome-item.result in
    let text = rw c.deref-outcome-items.ensures.value at (ap (λ (o : Outcome _). string_bytes o.text) c.outcome-item.is ∙ sym (get_or-map (λ (o : Outcome _). string_bytes o.text) c.deref-outcome-items.result.now place outcome [] c.loop-place-test.true)) in
    let event = c.in_ok-put_event.ensures in (
      elements_next Text (texts_of c.args.history.now.outcomes.items) place (string_bytes outcome.text) _ (string_bytes c.loop-place.text) (string_bytes c.put_event.new.text) c.loop-place.invariant.0 text
          (event.element (string_bytes outcome.text)),
      lines_then _ _ _ c.loop-place.invariant.1 event.lines,
    )
