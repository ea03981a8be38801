use Rattle.std.proofs.Common.{List, ℕ, ap, ◌∙◌}
use Rattle.lisp_requests.specs.Checksum.{words, sum_from}
use Rattle.lisp_requests.proofs.InnerLemmas.{v4_sum}
use Rattle.lisp_requests.proofs.inner.ipv4_sum.Goals as goal

pub returns : goal.returns
returns c =
    v4_sum c.args.source c.args.destination c.ipv4_head.result c.args.len c.sum_from-sum.result c.sum_from.result c.sum_from-2.result c.octets.ensures.whole c.ipv4_head.ensures c.sum_from-sum.ensures
    (c.sum_from.ensures ∙ ap (λ (t : List ℕ). sum_from c.sum_from-sum.result (words t)) c.octets.ensures.octets)
    (c.sum_from-2.ensures ∙ ap (λ (t : List ℕ). sum_from c.sum_from.result (words t)) c.octets-2.ensures.octets)
