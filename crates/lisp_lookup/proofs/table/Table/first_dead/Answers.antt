use Rattle.std.proofs.Common.{◌≡◌, true, ap, slice_index_or, subst, arith}
use Rattle.std.proofs.lemmas.List.{get_or_read}
use Rattle.std.specs.List.{All}
use Rattle.lisp_records.specs.Row.{is_alive}
use Rattle.lisp_lookup.specs.Table.{TableState}
use Rattle.lisp_lookup.specs.Index.{deadline, IsDeadAt}
use Rattle.lisp_lookup.proofs.IndexLaws.{first_within}
use Rattle.lisp_lookup.proofs.PutLaws.{dead, all_alive}
use Rattle.lisp_lookup.proofs.table.Table.first_dead.Goals as goal

pub returns-in-Some-clause-dead : goal.returns-in-Some-clause-dead
returns-in-Some-clause-dead g c =
    let within = first_within _ _ _ c.in-Some.number.now c.self.invariant.by_deadline.rises c.in-Some.ensures.item.3.0 c.in-Some.ensures.lookup in
    subst (λ (s : TableState). IsDeadAt s.rows c.args.now c.in-Some.number.now) c.self.view_is
    (within, λ d. dead (slice_index_or c.self.inside.items.items c.in-Some.number.now d) c.args.now (omega (arith, c.deadline.ensures, c.if-deadline-now.true, ap deadline (get_or_read c.self.inside.items.items c.in-Some.number.now c.index.result.now within c.index.ensures d))) c.requires)

pub returns-in_default-clause-alive : goal.returns-in_default-clause-alive
returns-in_default-clause-alive g c = λ none. subst (λ (s : TableState). All (λ h. is_alive h c.args.now ≡ true) s.rows) c.self.view_is (all_alive c.self.inside.items.items c.self.inside.by_deadline.items c.self.invariant.by_deadline c.in-Some.number.now c.in-Some.ensures.item.3.0 c.in-Some.ensures.lookup c.args.now c.index.result.now c.index.ensures (omega (arith, c.deadline.ensures, c.if-deadline-now.false)))
