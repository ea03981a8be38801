use Rattle.std.proofs.Common.{List, ℕ, ◌≤◌, length, subst, ap, ◌∙◌, arith}
use Rattle.std.specs.String.{string_bytes}
use Rattle.hex.specs.Hex.{decode_of}
use Rattle.lisp_policy.specs.Site.{SiteValue}
use Rattle.lisp_answer.specs.Input.{content, most_bytes}
use Rattle.lisp_answer.specs.Line.{AreWords}
use Rattle.lisp_answer.proofs.AnsweringLemmas.{answered, consumed, fits}
use Rattle.lisp_answer.proofs.answering.answer_line.Goals as goal

pub returns-clause-line : goal.returns-clause-line
unfolding lib.Utf8.encode
returns-clause-line g c =
    let are = subst (λ (x : List SiteValue × List ℕ). AreWords g.A.Memory.may_refuse x.0 (decode_of x.1) (string_bytes c.in_ok-text.text)) (λ i. (c.in_ok-sites.ensures.value i, (c.content.ensures ∙ ap content c.deref.ensures.value) i)) c.in_ok-text.ensures in
    answered _ _ _ c.in_ok-line.line.items (string_bytes c.in_ok-text.text) _ c.in_ok-line.ensures.line are c.in_ok-try_push.ensures.bytes

pub returns-clause-consumed : goal.returns-clause-consumed
returns-clause-consumed g c =
    consumed _ _ c.in_ok-line.line.items c.in_ok-line.ensures.line c.in_ok-line.ensures.rest

pub returns-clause-fits : goal.returns-clause-fits
returns-clause-fits g c =
    let short : length c.in_ok-line.line.items ≤ most_bytes = omega (arith, c.in_ok-line.line.ok, c.in_ok-line.ensures.short) in
    fits most_bytes _ c.in_ok-line.line.items c.in_ok-line.ensures.line short
