use Rattle.std.proofs.Common.{Some, None, sym, arith}
use Rattle.std.proofs.lemmas.Str.Pattern.{split_parts}
use Rattle.lisp_picture.proofs.Lines.{first_before, first_alone}
use Rattle.lisp_picture.proofs.svg.first_line.Goals as goal

pub returns-in-Some : goal.returns-in-Some
returns-in-Some c =
    let parts = split_parts 10 c.args.text.now (Some (c.in-Some.line, c.in-Some._behind)) c.in-Some.ensures.cases (omega arith) in
    sym (first_before c.args.text.now c.in-Some.line.now _ parts.0 parts.1)

pub returns-in-None : goal.returns-in-None
returns-in-None c = sym (first_alone c.args.text.now (split_parts 10 c.args.text.now None c.in-None.ensures.cases (omega arith)))
