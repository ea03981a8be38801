use Rattle.std.proofs.Common.{List, refl, sym, ap, ◌∙◌, subst}
use Rattle.lisp_records.specs.Row.{RowValue}
use Rattle.lisp_lookup.specs.Table.{TableState}
use Rattle.lisp_lookup.specs.Index.{row_prefix_cmp, own_number, IsIndex}
use Rattle.lisp_lookup.proofs.IndexLaws.{prefix_total, falls}
use Rattle.lisp_lookup.proofs.PutLaws.{settled}
use Rattle.lisp_lookup.proofs.table.Table.number_of.Goals as goal

pub place-place-requires-clause-falls : goal.place-place-requires-clause-falls
place-place-requires-clause-falls g c = falls row_prefix_cmp prefix_total c.args.row.now c.deref-rows.result.now c.self.inside.by_prefix.items (subst (λ (rows : List RowValue). IsIndex row_prefix_cmp rows c.self.inside.by_prefix.items) (sym c.deref-rows.ensures.value) c.self.invariant.by_prefix).rises

pub returns : goal.returns
returns g c =
    let index = subst (λ (rows : List RowValue). IsIndex row_prefix_cmp rows c.self.inside.by_prefix.items) (sym c.deref-rows.ensures.value) c.self.invariant.by_prefix in
    settled c.deref-rows.result.now c.self.inside.by_prefix.items c.args.row.now _ c.place-place.result (λ h. refl) index c.place-place.ensures.bound c.number_at-2.result c.number_at-2.ensures.found c.number_at-2.ensures.other
    ∙ ap (λ (rows : List RowValue). own_number rows c.args.row.now) c.deref-rows.ensures.value
    ∙ ap (λ (s : TableState). own_number s.rows c.args.row.now) c.self.view_is
