use Rattle.std.proofs.Common.{ℕ, [], string_bytes, sym, subst, append-nil}
use Rattle.std.proofs.lemmas.List.{length-map}
use Rattle.lisp_player.specs.declared.outcome.Outcome.{Outcome}
use Rattle.lisp_picture.specs.declared.drawing.Form.TheVariants.{Text}
use Rattle.lisp_picture.specs.Picture.{AddsElements, texts_of}
use Rattle.lisp_picture.proofs.Elements.{lines_then}
use Rattle.lisp_picture.proofs.ladder.ladder_text.Goals as goal

pub returns-clause-picture : goal.returns-clause-picture
returns-clause-picture g c =
    let outcomes = c.args.history.now.outcomes.items in
    let above = string_bytes c.put_lines.new.text in
    let text = string_bytes c.put_events.new.text in record {
      above = above;
      before_end = text;
      elements = subst (λ (n : ℕ). AddsElements Text (texts_of outcomes) n above text) (sym (length-map outcomes (λ (o : Outcome _). string_bytes o.text))) c.in_ok-put_events.ensures.elements;
      end = [];
      said = sym (append-nil text);
    }

pub returns-clause-lines : goal.returns-clause-lines
returns-clause-lines g c = lines_then _ _ _ (rw c.new-text.ensures.bytes at c.in_ok-put_lines.ensures.lines) c.in_ok-put_events.ensures.lines
