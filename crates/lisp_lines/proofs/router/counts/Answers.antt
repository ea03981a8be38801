use Rattle.std.proofs.Common.{ℕ, ◌++◌, List, Option, get_or, ap, ◌∙◌}
use Rattle.std.specs.List.{flat_map}
use Rattle.std.specs.String.{string_bytes}
use Rattle.std.proofs.lemmas.List.{take_all}
use Rattle.std.proofs.lemmas.Option.{slice_get-get_or}
use Rattle.lisp_lines.specs.Query.{ack_text}
use Rattle.lisp_lines.proofs.Counting.{counted_more}
use Rattle.lisp_lines.proofs.router.counts.Goals as goal

pub loop-place-preserved : goal.loop-place-preserved
loop-place-preserved g c = λ counted from.
    let server = get_or c.args.servers.now c.loop-place.place 0 in
    let its = c.acked.ensures ∙ from c.loop-place.place server (slice_get-get_or c.args.servers.now c.loop-place.place 0 c.loop-place-test.true) in
    counted_more (λ server. ack_text c.args.config.now c.args.number server (counted server)) c.args.servers.now c.loop-place.place _ _ c.loop-place-test.true (c.loop-place.invariant counted from)
    (c.in_ok-put_acks.ensures.text ∙ ap (λ (a : List (Option (ℕ × ℕ))). string_bytes c.loop-place.text ++ ack_text c.args.config.now c.args.number server a) its)

pub returns-clause-told : goal.returns-clause-told
returns-clause-told g c = λ counted from.
    c.loop-place.invariant counted from ∙ ap (flat_map (λ server. ack_text c.args.config.now c.args.number server (counted server))) (take_all c.loop-place.place c.args.servers.now c.loop-place-test.false)
