use Rattle.std.proofs.Common.{◌≡◌, ◌≤◌, ◌++◌, length, ap, ◌∙◌, arith}
use Rattle.std.specs.Prelude.{ℕ, List}
use Rattle.std.specs.Fmt.{decimal}
use Rattle.std.proofs.lemmas.Fmt.{length-decimal-le}
use Rattle.lisp_picture.specs.Picture.{line_text}
use Rattle.lisp_picture.proofs.cells.put_numbered.Goals as goal

pub returns-clause-line : goal.returns-clause-line
returns-clause-line g c =
    let written = c.as_str-digits.ensures.value ∙ c.in_ok-digits.ensures.ok in
    let digits : length c.as_str-digits.result.now ≡ length (decimal c.args.number) = ap length written in
    let few : length (decimal c.args.number) ≤ 20 = length-decimal-le 20 c.args.number (omega arith) (omega (arith, c.ranges.number.fits)) c.ranges.number.fits in
    let line = c.behind.result.now in
    record {
      line = line;
      short = omega (arith, digits, c.behind.ensures.short (omega (arith, digits, few)));
      said = c.in_ok-put_line.ensures.text ∙ ap (λ (t : List ℕ). t ++ line_text line) (rw written at c.in_ok-try_write.ensures.bytes);
    }
