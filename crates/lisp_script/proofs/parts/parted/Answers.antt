use Rattle.std.proofs.lemmas.Str.Pattern.{split_parts}
use Rattle.std.proofs.Common.{◌∙◌, sym, Some, None, rules, arith}
use Rattle.lisp_script.proofs.PartsLemmas.{mark_found, line_passed, last_line, told_where}
use Rattle.lisp_script.proofs.parts.parted.Goals as goal

pub returns-then-is_mark : goal.returns-then-is_mark
returns-then-is_mark c =
    let parts = split_parts 10 c.loop-line.rest.now (Some (c.in-Some.line, c.in-Some.behind)) c.in-Some.ensures.cases (omega arith) in
    mark_found _ _ _ _ _ c.loop-line.invariant.1 parts.0 parts.1 (sym c.is_mark.ensures ∙ c.if-is_mark.true) c.before-then-is_mark.ensures

pub loop-line-preserved : goal.loop-line-preserved
loop-line-preserved c =
    let parts = split_parts 10 c.loop-line.rest.now (Some (c.in-Some.line, c.in-Some.behind)) c.in-Some.ensures.cases (omega arith) in
    (search rules, line_passed _ _ _ _ c.loop-line.invariant.1 parts.0 parts.1 (sym c.is_mark.ensures ∙ c.if-is_mark.false))

pub returns : goal.returns
returns c =
    let no_feed = split_parts 10 c.loop-line.rest.now None c.in_default.ensures.cases (omega arith) in
    let last = last_line _ _ _ c.loop-line.invariant.1 no_feed c.before-2.ensures in
    rw (c.then_some.ensures, last, c.is_mark-2.ensures) (told_where (λ p. (p.0.now, p.1.now)) _ _)
