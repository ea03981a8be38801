use Rattle.std.proofs.Common.{◌<◌, ◌≤◌, length, Some, None, sym, ap, ◌∙◌, subst, arith}
use Rattle.lisp_records.specs.Address.{PrefixValue, IsPrefix, IsWhole, holds}
use Rattle.lisp_records.specs.declared.address.Addr.{Addr}
use Rattle.lisp_records.specs.Row.{RowValue}
use Rattle.lisp_lookup.specs.{Answer.IsBestOfPrefix, Index.row_prefix_cmp}
use Rattle.lisp_lookup.proofs.IndexLaws.{row_read}
use Rattle.lisp_lookup.proofs.InsideLaws.{found_inside, inside_run, is_hit, none_hit, none_sought, one_more, own_best, stopped, walk_goes}
use Rattle.lisp_lookup.proofs.inside.next_from.Goals as goal

pub returns-then-not-contains-clause-next : goal.returns-then-not-contains-clause-next
returns-then-not-contains-clause-next g c =
    let lt : c.loop-place.place < length c.args.by_prefix.now.items = omega (arith, c.loop-place-test.true, c.args.by_prefix.now.ok.0) in
    let known = row_read row_prefix_cmp c.args.rows.now c.args.by_prefix.now.items c.loop-place.place c.index.result.now c.index-rows-index.result c.requires.walk.index.rises lt c.index.ensures c.index-rows-index.is in
    let own = c.eid_ref-eid.ensures ∙ ap (λ (h : RowValue). h.mapping.eid) c.row.view_is in
    let whole = subst (λ (b : PrefixValue). IsWhole b.addr) own c.addr-addr.ensures.whole in
    let outside = ap (λ (b : PrefixValue). holds c.args.outer.now b.addr) (sym own) ∙ ap (holds c.args.outer.now) (sym c.addr-addr.ensures.addr) ∙ sym c.contains.ensures.test ∙ c.if-not-contains.true in
    none_hit c.args.rows.now c.args.outer.now c.args.after.now c.args.now (stopped c.args.rows.now c.args.by_prefix.now.items (is_hit c.args.outer.now c.args.after.now c.args.now) c.args.outer.now c.args.from (inside_run c.args.rows.now c.args.by_prefix.now.items c.args.outer.now c.args.after.now c.args.now c.args.from c.requires.walk)
    c.addr-first.ensures.whole c.loop-place.place c.index-rows-index.result c.loop-place.auto.place lt known whole outside c.loop-place.invariant)

pub returns-then-is_next-clause-next : goal.returns-then-is_next-clause-next
returns-then-is_next-clause-next g c =
    let lt : c.loop-place.place < length c.args.by_prefix.now.items = omega (arith, c.loop-place-test.true, c.args.by_prefix.now.ok.0) in
    let known = row_read row_prefix_cmp c.args.rows.now c.args.by_prefix.now.items c.loop-place.place c.index.result.now c.index-rows-index.result c.requires.walk.index.rises lt c.index.ensures c.index-rows-index.is in
    let own = c.eid_ref-eid.ensures ∙ ap (λ (h : RowValue). h.mapping.eid) c.row.view_is in
    let block = subst IsPrefix own c.addr-addr.ensures.block in
    let of_own = subst (λ (b : PrefixValue). IsBestOfPrefix c.args.rows.now b b.addr c.args.now (Some c.in-Some.best.now)) own (subst (λ (a : Addr). IsBestOfPrefix c.args.rows.now c.eid_ref-eid.result.now a c.args.now (Some c.in-Some.best.now)) c.addr-addr.ensures.addr c.in-Some.ensures) in
    found_inside c.args.rows.now c.args.by_prefix.now.items c.args.outer.now c.args.after.now c.args.now c.args.from (inside_run c.args.rows.now c.args.by_prefix.now.items c.args.outer.now c.args.after.now c.args.now c.args.from c.requires.walk)
    c.loop-place.place c.index-rows-index.result c.loop-place.auto.place lt known c.loop-place.invariant block (sym c.is_next.ensures ∙ c.if-is_next.true) (Some c.in-Some.best.now) of_own

pub returns-in_default-clause-next : goal.returns-in_default-clause-next
returns-in_default-clause-next g c =
    let lt : c.loop-place.place < length c.args.by_prefix.now.items = omega (arith, c.loop-place-test.true, c.args.by_prefix.now.ok.0) in
    let known = row_read row_prefix_cmp c.args.rows.now c.args.by_prefix.now.items c.loop-place.place c.index.result.now c.index-rows-index.result c.requires.walk.index.rises lt c.index.ensures c.index-rows-index.is in
    let own = c.eid_ref-eid.ensures ∙ ap (λ (h : RowValue). h.mapping.eid) c.row.view_is in
    let block = subst IsPrefix own c.addr-addr.ensures.block in
    let of_own = subst (λ (b : PrefixValue). IsBestOfPrefix c.args.rows.now b b.addr c.args.now None) own (subst (λ (a : Addr). IsBestOfPrefix c.args.rows.now c.eid_ref-eid.result.now a c.args.now None) c.addr-addr.ensures.addr c.in_default.ensures) in
    found_inside c.args.rows.now c.args.by_prefix.now.items c.args.outer.now c.args.after.now c.args.now c.args.from (inside_run c.args.rows.now c.args.by_prefix.now.items c.args.outer.now c.args.after.now c.args.now c.args.from c.requires.walk)
    c.loop-place.place c.index-rows-index.result c.loop-place.auto.place lt known c.loop-place.invariant block (sym c.is_next.ensures ∙ c.if-is_next.true) None of_own

pub returns-then-is_next-clause-walk : goal.returns-then-is_next-clause-walk
returns-then-is_next-clause-walk g c =
    let lt : c.loop-place.place < length c.args.by_prefix.now.items = omega (arith, c.loop-place-test.true, c.args.by_prefix.now.ok.0) in
    let known = row_read row_prefix_cmp c.args.rows.now c.args.by_prefix.now.items c.loop-place.place c.index.result.now c.index-rows-index.result c.requires.walk.index.rises lt c.index.ensures c.index-rows-index.is in
    let own = c.eid_ref-eid.ensures ∙ ap (λ (h : RowValue). h.mapping.eid) c.row.view_is in
    walk_goes c.args.rows.now c.args.by_prefix.now.items c.args.outer.now c.args.after.now c.args.now c.args.from c.requires.walk c.loop-place.place c.index-rows-index.result c.loop-place.auto.place lt known c.in-Some.best.now.mapping.eid (own_best c.args.rows.now c.eid_ref-eid.result.now c.addr-addr.result c.args.now c.in-Some.best.now c.in-Some.ensures ∙ own)

pub loop-place-preserved : goal.loop-place-preserved
loop-place-preserved g c =
    let lt : c.loop-place.place < length c.args.by_prefix.now.items = omega (arith, c.loop-place-test.true, c.args.by_prefix.now.ok.0) in
    let known = row_read row_prefix_cmp c.args.rows.now c.args.by_prefix.now.items c.loop-place.place c.index.result.now c.index-rows-index.result c.requires.walk.index.rises lt c.index.ensures c.index-rows-index.is in
    one_more c.args.rows.now c.args.by_prefix.now.items (is_hit c.args.outer.now c.args.after.now c.args.now) c.args.outer.now c.args.from (inside_run c.args.rows.now c.args.by_prefix.now.items c.args.outer.now c.args.after.now c.args.now c.args.from c.requires.walk)
    c.loop-place.place c.index-rows-index.result known (sym c.is_next.ensures ∙ c.if-is_next.false) c.loop-place.invariant

pub returns-clause-next : goal.returns-clause-next
returns-clause-next g c =
    let all : length c.args.by_prefix.now.items ≤ c.loop-place.place = omega (arith, c.loop-place-test.false, c.len-place-end.ensures, c.args.by_prefix.now.ok.0) in
    none_hit c.args.rows.now c.args.outer.now c.args.after.now c.args.now (none_sought c.args.rows.now c.args.by_prefix.now.items (is_hit c.args.outer.now c.args.after.now c.args.now) c.args.outer.now c.args.from (inside_run c.args.rows.now c.args.by_prefix.now.items c.args.outer.now c.args.after.now c.args.now c.args.from c.requires.walk)
    (λ k d low lt. c.loop-place.invariant k d low (omega (arith, all, lt))))
