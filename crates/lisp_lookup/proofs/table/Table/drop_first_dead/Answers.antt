use Rattle.std.proofs.Common.{◌≡◌, false, slice_index_or, ap, sym, ◌∙◌, subst}
use Rattle.std.proofs.lemmas.List.{get_or_default}
use Rattle.lisp_records.specs.Address.{PrefixValue}
use Rattle.lisp_records.specs.Row.{RowValue, is_alive}
use Rattle.lisp_records.specs.declared.router.RouterId.{RouterId}
use Rattle.lisp_lookup.specs.Table.{TableState, OneEach, DropsDead, row_key}
use Rattle.lisp_lookup.proofs.PutLaws.{one_each, drops_dead, one_each_left}
use Rattle.lisp_lookup.proofs.table.Table.drop_first_dead.Goals as goal

pub returns-in_err-number-clause-one_each : goal.returns-in_err-number-clause-one_each
returns-in_err-number-clause-one_each g c = subst (λ (s : TableState). OneEach s.rows) c.self.view_is (one_each c.self.inside.items.items c.self.inside.by_prefix.items c.self.invariant.by_prefix)

pub returns-clause-dropped : goal.returns-clause-dropped
returns-clause-dropped g c =
    let removed = c.remove.ensures in
    let apart : OneEach c.args.self.now.rows = subst (λ (s : TableState). OneEach s.rows) c.self.view_is (one_each c.self.inside.items.items c.self.inside.by_prefix.items c.self.invariant.by_prefix) in
    let is : is_alive removed.row c.args.now ≡ false = ap (λ (h : RowValue). is_alive h c.args.now) removed.was ∙ c.in_ok-number.ensures.dead.1 removed.row in
    let read : c.index.result.now ≡ slice_index_or c.args.self.now.rows c.in_ok-number.number c.index.result.now = subst (λ (s : TableState). c.index.result.now ≡ slice_index_or s.rows c.in_ok-number.number c.index.result.now) c.self.view_is c.index.ensures in
    let same : removed.row ≡ c.index.result.now = removed.was ∙ get_or_default c.args.self.now.rows c.in_ok-number.number removed.row c.index.result.now c.in_ok-number.ensures.dead.0 ∙ sym read in
    subst (λ (key : RouterId × PrefixValue). DropsDead c.args.self.now.rows c.remove.new.self.rows c.args.now key) (ap row_key same ∙ sym c.key_of-key.ensures)
    (drops_dead c.args.self.now.rows c.remove.new.self.rows c.args.now removed.row apart removed.moved is)

pub returns-clause-one_each : goal.returns-clause-one_each
returns-clause-one_each g c =
    let removed = c.remove.ensures in
    let apart : OneEach c.args.self.now.rows = subst (λ (s : TableState). OneEach s.rows) c.self.view_is (one_each c.self.inside.items.items c.self.inside.by_prefix.items c.self.invariant.by_prefix) in
    let is : is_alive removed.row c.args.now ≡ false = ap (λ (h : RowValue). is_alive h c.args.now) removed.was ∙ c.in_ok-number.ensures.dead.1 removed.row in
    one_each_left c.args.self.now.rows c.remove.new.self.rows c.args.now removed.row apart removed.moved is
