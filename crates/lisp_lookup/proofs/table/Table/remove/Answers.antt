use Rattle.std.proofs.Common.{◌∷◌, List, sym, ap, ◌∙◌, subst, ◌<◌, length}
use Rattle.std.proofs.lemmas.List.Elements.{All-tail}
use Rattle.std.proofs.lemmas.List.Sorted.{IsPermutation-swap_remove, All-permutation}
use Rattle.std.specs.List.{All, swap_remove}
use Rattle.std.specs.List.Sorted.{IsPermutation}
use Rattle.lisp_records.specs.{Address.IsPrefix, Row.RowValue}
use Rattle.lisp_lookup.specs.Table.{TableState}
use Rattle.lisp_lookup.specs.Index.{row_prefix_cmp, row_deadline_cmp, IsIndex, IsRemoved}
use Rattle.lisp_lookup.proofs.table.Table.remove.Goals as goal

pub invariant_of-self : goal.invariant_of-self
invariant_of-self g c =
    let within = subst (λ (s : TableState). c.args.number < length s.rows) (sym c.self.view_is) c.requires in
    record {
      eids = subst (All (λ h. IsPrefix h.mapping.eid)) (sym c.swap_remove.ensures.items) (All-tail (λ h. IsPrefix h.mapping.eid) c.swap_remove.result (swap_remove c.self.inside.items.items c.args.number c.swap_remove.result) (All-permutation (λ h. IsPrefix h.mapping.eid) c.self.inside.items.items (c.swap_remove.result ∷ swap_remove c.self.inside.items.items c.args.number c.swap_remove.result) (IsPermutation-swap_remove c.self.inside.items.items c.args.number c.swap_remove.result within c.swap_remove.ensures.value) c.self.invariant.eids));
      by_prefix = subst (λ (rows : List RowValue). IsIndex row_prefix_cmp rows c.forget.new.numbers.items) (ap (λ (rows : List RowValue). swap_remove rows c.args.number c.swap_remove.result) c.deref.ensures.value ∙ sym c.swap_remove.ensures.items) (c.forget.ensures.index c.swap_remove.result);
      by_deadline = subst (λ (rows : List RowValue). IsIndex row_deadline_cmp rows c.forget-2.new.numbers.items) (ap (λ (rows : List RowValue). swap_remove rows c.args.number c.swap_remove.result) c.deref-2.ensures.value ∙ sym c.swap_remove.ensures.items) (c.forget-2.ensures.index c.swap_remove.result);
    }

pub returns : goal.returns
returns g c =
    let within = subst (λ (s : TableState). c.args.number < length s.rows) (sym c.self.view_is) c.requires in
    subst (λ (s : TableState). IsRemoved s.rows c.swap_remove.new.self.items c.args.number) c.self.view_is (record {
      row = c.swap_remove.result;
      was = c.swap_remove.ensures.value;
      moved = subst (λ (rows : List RowValue). IsPermutation c.self.inside.items.items (c.swap_remove.result ∷ rows)) (sym c.swap_remove.ensures.items) (IsPermutation-swap_remove c.self.inside.items.items c.args.number c.swap_remove.result within c.swap_remove.ensures.value);
    })
