use Rattle.std.proofs.Common.{ℕ, List, [], ◌++◌, string_bytes, sym, ap, subst, ◌∙◌}
use Rattle.std.specs.Prelude.{codes}
use Rattle.std.proofs.lemmas.List.{length-map}
use Rattle.lisp_player.specs.declared.outcome.Outcome.{Outcome}
use Rattle.lisp_picture.specs.declared.drawing.Form.TheVariants.{Svg}
use Rattle.lisp_picture.specs.Picture.{AddsElements, texts_of}
use Rattle.lisp_picture.proofs.Elements.{elements_behind}
use Rattle.lisp_picture.proofs.svg.svg_text.Goals as goal

pub returns-clause-picture : goal.returns-clause-picture
returns-clause-picture g c =
    let texts = texts_of c.args.history.now.outcomes.items in
    let above = string_bytes c.in_ok-text.text in
    let elements = string_bytes c.put_elements.new.text in
    let all : AddsElements Svg texts _ [] elements = subst (λ (n : ℕ). AddsElements Svg texts n [] elements) (sym (length-map c.args.history.now.outcomes.items (λ (o : Outcome _). string_bytes o.text))) (rw c.new-elements.ensures.bytes at c.in_ok-put_elements.ensures.elements) in
    record {
      above = above ++ [];
      before_end = above ++ elements;
      elements = elements_behind Svg texts _ above [] elements all;
      end = codes "</svg>\n";
      said = c.in_ok-try_write-2.ensures.bytes ∙ ap (λ (t : List ℕ). t ++ codes "</svg>\n") (rw c.as_str.ensures.value at c.in_ok-try_write.ensures.bytes);
    }
