use Rattle.std.proofs.Common.{◌<◌, ◌≤◌, length, slice_index, refl, sym, ap, ◌∙◌, subst, arith, true≢false}
use Rattle.std.specs.List.{Contains}
use Rattle.lisp_records.specs.Address.{PrefixValue, IsWhole, holds}
use Rattle.lisp_records.specs.Row.{RowValue}
use Rattle.lisp_lookup.specs.Index.{row_prefix_cmp}
use Rattle.lisp_lookup.proofs.IndexLaws.{falls_prefix, row_read}
use Rattle.lisp_lookup.proofs.InsideLaws.{empty_in, in_run, is_live_in, none_sought, not_empty_in, one_more, stopped}
use Rattle.lisp_lookup.proofs.hole.is_empty_in.Goals as goal

pub place-first-requires-clause-falls : goal.place-first-requires-clause-falls
place-first-requires-clause-falls g c = falls_prefix c.args.eid.now c.args.rows.now c.args.by_prefix.now.items c.requires.index.rises

pub loop-place-preserved : goal.loop-place-preserved
loop-place-preserved g c =
    let lt : c.loop-place.place < length c.args.by_prefix.now.items = omega (arith, c.loop-place-test.true, c.args.by_prefix.now.ok.0) in
    let known = row_read row_prefix_cmp c.args.rows.now c.args.by_prefix.now.items c.loop-place.place c.index.result.now c.index-rows-index.result c.requires.index.rises lt c.index.ensures c.index-rows-index.is in
    one_more c.args.rows.now c.args.by_prefix.now.items (is_live_in c.args.eid.now c.args.now) c.args.eid.now c.place-first.result (in_run c.args.rows.now c.args.by_prefix.now.items c.args.eid.now c.args.now c.place-first.result c.requires.index c.place-first.ensures.bound)
    c.loop-place.place c.index-rows-index.result known (sym c.is_live_in.ensures ∙ c.if-is_live_in.false) c.loop-place.invariant

pub returns-then-not-contains : goal.returns-then-not-contains
returns-then-not-contains g c =
    let lt : c.loop-place.place < length c.args.by_prefix.now.items = omega (arith, c.loop-place-test.true, c.args.by_prefix.now.ok.0) in
    let known = row_read row_prefix_cmp c.args.rows.now c.args.by_prefix.now.items c.loop-place.place c.index.result.now c.index-rows-index.result c.requires.index.rises lt c.index.ensures c.index-rows-index.is in
    let own = c.eid_ref.ensures ∙ ap (λ (h : RowValue). h.mapping.eid) c.row.view_is in
    let whole = subst (λ (b : PrefixValue). IsWhole b.addr) own c.addr-addr.ensures.whole in
    let outside = ap (λ (b : PrefixValue). holds c.args.eid.now b.addr) (sym own) ∙ ap (holds c.args.eid.now) (sym c.addr-addr.ensures.addr) ∙ sym c.contains.ensures.test ∙ c.if-not-contains.true in
    let none = stopped c.args.rows.now c.args.by_prefix.now.items (is_live_in c.args.eid.now c.args.now) c.args.eid.now c.place-first.result (in_run c.args.rows.now c.args.by_prefix.now.items c.args.eid.now c.args.now c.place-first.result c.requires.index c.place-first.ensures.bound)
    c.addr-first.ensures.whole c.loop-place.place c.index-rows-index.result c.loop-place.auto.place lt known whole outside c.loop-place.invariant in
    (λ is. empty_in c.args.rows.now c.args.eid.now c.args.now none, λ empty. refl)

pub returns-then-is_live_in : goal.returns-then-is_live_in
returns-then-is_live_in g c =
    let lt : c.loop-place.place < length c.args.by_prefix.now.items = omega (arith, c.loop-place-test.true, c.args.by_prefix.now.ok.0) in
    let known = row_read row_prefix_cmp c.args.rows.now c.args.by_prefix.now.items c.loop-place.place c.index.result.now c.index-rows-index.result c.requires.index.rises lt c.index.ensures c.index-rows-index.is in
    let held : Contains c.args.rows.now c.index-rows-index.result = (slice_index c.args.by_prefix.now.items c.loop-place.place, c.requires.index.rises.below c.loop-place.place lt, sym (known c.index-rows-index.result)) in
    (λ is. absurd (true≢false (sym is)), λ empty. absurd (not_empty_in c.args.rows.now c.args.eid.now c.args.now c.index-rows-index.result held (sym c.is_live_in.ensures ∙ c.if-is_live_in.true) empty))

pub returns : goal.returns
returns g c =
    let all : length c.args.by_prefix.now.items ≤ c.loop-place.place = omega (arith, c.loop-place-test.false, c.len-place-end.ensures, c.args.by_prefix.now.ok.0) in
    let none = none_sought c.args.rows.now c.args.by_prefix.now.items (is_live_in c.args.eid.now c.args.now) c.args.eid.now c.place-first.result (in_run c.args.rows.now c.args.by_prefix.now.items c.args.eid.now c.args.now c.place-first.result c.requires.index c.place-first.ensures.bound)
    (λ k d low lt. c.loop-place.invariant k d low (omega (arith, all, lt))) in
    (λ is. empty_in c.args.rows.now c.args.eid.now c.args.now none, λ empty. refl)
