use Rattle.std.proofs.Common.{ℕ, ◌<◌, List, ◌++◌, All, ap, subst, ◌∙◌, append_assoc}
use Rattle.std.proofs.lemmas.Result.{on_ok_weaker}
use Rattle.std.proofs.lemmas.List.Elements.{recursion_from_All}
use Rattle.lisp_messages.proofs.WrittenLemmas.{All-part, where_ok}
use Rattle.lisp_messages.proofs.register.put_ids.Goals as goal

pub returns-clause-ids : goal.returns-clause-ids
returns-clause-ids g c =
    let old = c.args.out.now.items in
    on_ok_weaker c.try_extend_from_slice-2.result
    (λ last. last ∙ ap (λ (t : List ℕ). t ++ c.to_be_bytes.result) c.in_ok-try_extend_from_slice.ensures.items ∙ append_assoc old c.args.xtr c.to_be_bytes.result ∙ ap (λ (t : List ℕ). old ++ (c.args.xtr ++ t)) c.to_be_bytes.ensures)
    (where_ok c.try_extend_from_slice-2.result c.try_extend_from_slice-2.new.self.items _ _ c.try_extend_from_slice-2.ensures.items)

-- the xTR-ID is a part of the buffer, which holds bytes
pub returns-clause-bytes : goal.returns-clause-bytes
returns-clause-bytes g c =
    let old = c.args.out.now.items in
    on_ok_weaker c.try_extend_from_slice-2.result
    (λ last. let parts = last ∙ ap (λ (t : List ℕ). t ++ c.to_be_bytes.result) c.in_ok-try_extend_from_slice.ensures.items in
    recursion_from_All (λ n. n < 256) c.args.xtr (All-part (λ n. n < 256) old c.args.xtr c.to_be_bytes.result (subst (All (λ n. n < 256)) parts c.type_inv.out)))
    (where_ok c.try_extend_from_slice-2.result c.try_extend_from_slice-2.new.self.items _ _ c.try_extend_from_slice-2.ensures.items)
