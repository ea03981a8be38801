use Rattle.std.proofs.Common.{◌++◌, string_bytes, ap, ◌∙◌}
use Rattle.std.specs.Prelude.{codes, ℕ, List}
use Rattle.lisp_picture.proofs.svg.put_element.Goals as goal

pub returns-clause-element : goal.returns-clause-element
returns-clause-element g c =
    let rest = c.args.shapes.now ++ codes "</g>\n" in
    (rest, c.in_ok-try_write.ensures.bytes ∙ ap (λ (t : List ℕ). t ++ rest) c.in_ok-put_opening.ensures.text)
