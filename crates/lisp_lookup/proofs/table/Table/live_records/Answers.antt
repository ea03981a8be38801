use Rattle.std.proofs.Common.{rules, ap, ◌∙◌, subst, List}
use Rattle.std.proofs.lemmas.List.Sorted.{answers_always, ranks_by}
use Rattle.std.specs.List.Sorted.{IsPermutation}
use Rattle.std.specs.Ordering.{is_lt}
use Rattle.lisp_records.specs.{Address.prefix_cmp, Record.MapRecordValue}
use Rattle.lisp_lookup.specs.Records.{live_of}
use Rattle.lisp_lookup.proofs.Orders.{block_total}
use Rattle.lisp_lookup.proofs.LiveLaws.{by_prefix}
use Rattle.lisp_lookup.proofs.PutLaws.{one_each}
use Rattle.lisp_lookup.proofs.table.Table.live_records.Goals as goal

pub returns-clause-records : goal.returns-clause-records
returns-clause-records g c =
    let moved = subst (λ (records : List MapRecordValue). IsPermutation records c.sort_unstable_by.new.self.items) (c.in_ok-records.ensures.records ∙ ap (λ rows. live_of rows c.args.router.now c.args.now) c.deref.ensures.value) c.sort_unstable_by.ensures.permutation in
    let sorted = c.sort_unstable_by.ensures.sorted (λ a b. is_lt (prefix_cmp a.eid b.eid)) (ranks_by block_total (λ m. m.eid)) (answers_always _ _ _ (λ f a r q k. search rules)) in
    rw (← c.self.view_is) (by_prefix c.self.inside.items.items c.args.router.now c.args.now c.sort_unstable_by.new.self.items (one_each c.self.inside.items.items c.self.inside.by_prefix.items c.self.invariant.by_prefix) moved sorted)
