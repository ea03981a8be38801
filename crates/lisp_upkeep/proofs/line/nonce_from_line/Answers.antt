use Rattle.std.proofs.Common.{◌++◌, ◌∙◌, Bool, List, ℕ, ap}
use Rattle.std.specs.Bool.{then_some}
use Rattle.lisp_upkeep.specs.declared.line.LineWord.TheVariants.{Kept}
use Rattle.lisp_upkeep.specs.Line.{line_text}
use Rattle.lisp_upkeep.proofs.Lines.{none_found, tested}
use Rattle.lisp_upkeep.proofs.line.nonce_from_line.Goals as goal

pub returns-in_default-clause-found : goal.returns-in_default-clause-found
returns-in_default-clause-found g c = none_found c.args.line.now c.in_default.ensures

pub returns-clause-found : goal.returns-clause-found
returns-clause-found g c =
    let spelled = c.as_str.ensures.value ∙ c.in_ok-put_line.ensures.text ∙ ap (λ (t : List ℕ). t ++ line_text Kept c.in-Some.nonce) c.new-again.ensures.bytes in
    c.then_some.ensures
    ∙ ap (λ (b : Bool). then_some b c.in-Some.nonce) c.eq.ensures
    ∙ tested c.args.line.now c.as_str.result.now c.in-Some.nonce c.in-Some.ensures c.put_line.ensures.known spelled
