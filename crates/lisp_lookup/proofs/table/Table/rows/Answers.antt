use Rattle.std.proofs.Common.{rules, true≢false, sym, ap, ◌∙◌, subst, List}
use Rattle.std.proofs.lemmas.List.Sorted.{answers_always, ranks_by}
use Rattle.std.specs.List.{filter}
use Rattle.std.specs.List.Sorted.{IsPermutation}
use Rattle.std.specs.Ordering.{is_lt}
use Rattle.lisp_records.specs.Row.{RowValue, is_alive}
use Rattle.lisp_lookup.specs.Table.{TableState, row_key, row_cmp}
use Rattle.lisp_lookup.proofs.Orders.{key_total}
use Rattle.lisp_lookup.proofs.TableLaws.{is_held}
use Rattle.lisp_lookup.proofs.PutLaws.{one_each}
use Rattle.lisp_lookup.proofs.table.Table.rows.Goals as goal

pub returns-clause-held : goal.returns-clause-held
returns-clause-held g c =
    let moved = subst (λ (rows : List RowValue). IsPermutation rows c.sort_unstable_by.new.self.items) (c.in_ok-live.ensures.live ∙ ap (filter (λ h. is_alive h c.args.now)) c.deref.ensures.value) c.sort_unstable_by.ensures.permutation in
    let sorted = c.sort_unstable_by.ensures.sorted (λ a b. is_lt (row_cmp a b)) (ranks_by key_total row_key) (answers_always _ _ _ (λ f a r q k. search rules)) in
    rw (← c.self.view_is) (is_held c.self.inside.items.items c.sort_unstable_by.new.self.items c.args.now (one_each c.self.inside.items.items c.self.inside.by_prefix.items c.self.invariant.by_prefix) moved sorted)

pub returns-in_err-live-clause-none_alive : goal.returns-in_err-live-clause-none_alive
returns-in_err-live-clause-none_alive g c = λ none. absurd (true≢false (sym (c.in_err-live.ensures.none_alive (ap (filter (λ h. is_alive h c.args.now)) c.deref.ensures.value ∙ ap (λ (s : TableState). filter (λ h. is_alive h c.args.now) s.rows) c.self.view_is ∙ none))))
