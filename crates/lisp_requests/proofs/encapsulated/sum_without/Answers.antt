use Rattle.std.proofs.Common.{List, ℕ, ap, ◌∙◌}
use Rattle.lisp_requests.specs.Checksum.{words, sum_from}
use Rattle.lisp_requests.specs.Meaning.{encapsulated_value}
use Rattle.lisp_requests.proofs.InnerLemmas.{bare_parts}
use Rattle.lisp_requests.proofs.encapsulated.sum_without.Goals as goal

pub returns : goal.returns
returns c =
    bare_parts (encapsulated_value c.args.request.now) c.args.len c.pseudo_sum-sum.result c.sum_from-sum.result c.sum_from.result c.requires c.pseudo_sum-sum.ensures
    (c.sum_from-sum.ensures ∙ ap (λ (t : List ℕ). sum_from c.pseudo_sum-sum.result (words t)) c.udp_header.ensures.header)
    c.sum_from.ensures
