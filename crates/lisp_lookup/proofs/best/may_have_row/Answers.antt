use Rattle.std.proofs.Common.{◌<◌, length, sym, ap, ◌∙◌, subst, arith}
use Rattle.lisp_records.specs.Address.{PrefixValue, IsPrefix, IsWhole, covers}
use Rattle.lisp_records.specs.Row.{RowValue}
use Rattle.lisp_lookup.specs.Index.{row_prefix_cmp}
use Rattle.lisp_lookup.proofs.InsideLaws.{none_before, none_first}
use Rattle.lisp_lookup.proofs.IndexLaws.{below_most, number_within, row_read}
use Rattle.lisp_lookup.proofs.best.may_have_row.Goals as goal

pub bounds-rows-index : goal.bounds-rows-index
bounds-rows-index g c = number_within row_prefix_cmp c.args.rows.now c.args.by_prefix.now.items c.in-Some.before c.index.result.now c.requires.index.rises (omega (arith, c.in-Some.ensures, c.requires.within)) c.index.ensures

pub offset_bounds-rows-index : goal.offset_bounds-rows-index
offset_bounds-rows-index g c = below_most c.index.result.now (length c.args.rows.now) (number_within row_prefix_cmp c.args.rows.now c.args.by_prefix.now.items c.in-Some.before c.index.result.now c.requires.index.rises (omega (arith, c.in-Some.ensures, c.requires.within)) c.index.ensures)

pub returns-in_default : goal.returns-in_default
returns-in_default g c = λ _ longer inside bound. none_first c.args.rows.now c.args.by_prefix.now.items c.requires.index c.args.prefix.now longer c.addr-first.ensures.whole inside c.args.place bound (omega (arith, c.in_default.ensures))

pub returns : goal.returns
returns g c = λ not_in longer inside bound.
    (let lt : c.in-Some.before < length c.args.by_prefix.now.items = omega (arith, c.in-Some.ensures, c.requires.within) in
    let known = row_read row_prefix_cmp c.args.rows.now c.args.by_prefix.now.items c.in-Some.before c.index.result.now c.index-rows-index.result c.requires.index.rises lt c.index.ensures c.index-rows-index.is in
    let own = c.eid_ref-eid.ensures ∙ ap (λ (h : RowValue). h.mapping.eid) c.row.view_is in
    none_before c.args.rows.now c.args.by_prefix.now.items c.requires.index c.args.prefix.now longer c.addr-first.ensures.whole inside c.args.place bound c.in-Some.before (omega (arith, c.in-Some.ensures)) c.requires.within c.index-rows-index.result known
    (subst IsPrefix own c.addr-first-2.ensures.block) (subst (λ (b : PrefixValue). IsWhole b.addr) own c.addr-first-2.ensures.whole)
    (ap (covers c.args.prefix.now) (sym own) ∙ sym c.covers.ensures.test ∙ not_in))
