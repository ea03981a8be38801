use Rattle.std.proofs.Common.{ℕ, List, ◌++◌, ap, ◌∙◌}
use Rattle.std.proofs.lemmas.Result.{on_ok_weaker}
use Rattle.lisp_requests.proofs.InnerLemmas.{v4_head, where_ok}
use Rattle.lisp_requests.proofs.inner.put_head.Goals as goal

pub returns-in-V4-clause-head : goal.returns-in-V4-clause-head
returns-in-V4-clause-head g c =
    let head = v4_head c.args.source c.args.destination c.in-V4.field-0 c.ipv4_head.result c.args.len c.ipv4_sum-checksum.result c.in-V4.is c.ipv4_sum-checksum.ensures c.ipv4_head.ensures in
    on_ok_weaker c.try_extend_from_slice.result (λ is. is ∙ ap (λ (t : List ℕ). c.args.out.now.items ++ t) head) (where_ok c.try_extend_from_slice.result c.try_extend_from_slice.new.self.items _ _ c.try_extend_from_slice.ensures.items)
