use Rattle.std.proofs.Common.{List, ℕ, ◌++◌, ap, ◌∙◌}
use Rattle.std.proofs.lemmas.Result.{on_ok_weaker}
use Rattle.lisp_requests.specs.Request.{written_rlocs, written_eids}
use Rattle.lisp_requests.proofs.WrittenLemmas.{request_put}
use Rattle.lisp_requests.proofs.request.put_request.Goals as goal

pub returns-clause-written : goal.returns-clause-written
returns-clause-written g c =
    on_ok_weaker c.put_eids.result
    (λ last. request_put _ c.args.request.now c.args.out.now.items c.try_extend_from_slice.new.self.items c.put_source.new.out.items c.put_rlocs.new.out.items c.put_eids.new.out.items c.request.view_is c.requires
    (c.in_ok-try_extend_from_slice.ensures.items ∙ ap (λ (t : List ℕ). c.args.out.now.items ++ t) c.head_of.ensures.head)
    c.in_ok-put_source.ensures.source
    (c.in_ok-put_rlocs.ensures.rlocs ∙ ap (λ (t : List _). c.put_source.new.out.items ++ written_rlocs t) c.deref.ensures.value)
    (last ∙ ap (λ (t : List _). c.put_rlocs.new.out.items ++ written_eids t) c.deref-2.ensures.value))
    c.put_eids.ensures.eids
