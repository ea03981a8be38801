use Rattle.std.proofs.Common.{◌≡◌, ◌++◌, ◌∷◌, [], List, ℕ, length, sym, ap, ◌∙◌, subst, arith}
use Rattle.std.proofs.lemmas.List.Elements.{All-push}
use Rattle.std.specs.List.{All}
use Rattle.lisp_records.specs.{Address.IsPrefix, Row.RowValue}
use Rattle.lisp_lookup.specs.declared.order.Order.TheVariants.{ByPrefix, ByDeadline}
use Rattle.lisp_lookup.specs.Room.{vec_room, deque_room}
use Rattle.lisp_lookup.specs.Table.{TableState}
use Rattle.lisp_lookup.specs.Index.{row_prefix_cmp, row_deadline_cmp, own_number, Rises, IsIndex, IsFresh, IsPutIn}
use Rattle.lisp_lookup.proofs.PutLaws.{rises_more, fresh_more, index_more, room_less}
use Rattle.lisp_lookup.proofs.table.Table.add.Goals as goal

pub enter-requires-clause-rises : goal.enter-requires-clause-rises
enter-requires-clause-rises g c = subst (λ (rows : List RowValue). Rises row_prefix_cmp rows c.self.inside.by_prefix.items) (sym (c.deref.ensures.value ∙ c.push_reserved.ensures.items)) (rises_more ByPrefix c.self.inside.items.items c.self.inside.by_prefix.items c.args.row c.self.invariant.by_prefix)

pub enter-requires-clause-fresh : goal.enter-requires-clause-fresh
enter-requires-clause-fresh g c =
    let none = ap (λ (s : TableState). own_number s.rows c.args.row) c.self.view_is ∙ c.requires.none in
    subst (λ (rows : List RowValue). IsFresh rows c.self.inside.by_prefix.items c.len-number.result) (sym (c.deref.ensures.value ∙ c.push_reserved.ensures.items)) (subst (λ (n : ℕ). IsFresh (c.self.inside.items.items ++ c.args.row ∷ []) c.self.inside.by_prefix.items n) (omega (arith, c.len-number.ensures, c.self.inside.items.ok.0)) (fresh_more ByPrefix c.self.inside.items.items c.self.inside.by_prefix.items c.args.row c.self.invariant.by_prefix none))

pub enter-requires-2-clause-rises : goal.enter-requires-2-clause-rises
enter-requires-2-clause-rises g c = subst (λ (rows : List RowValue). Rises row_deadline_cmp rows c.self.inside.by_deadline.items) (sym (c.deref-2.ensures.value ∙ c.push_reserved.ensures.items)) (rises_more ByDeadline c.self.inside.items.items c.self.inside.by_deadline.items c.args.row c.self.invariant.by_deadline)

pub enter-requires-2-clause-fresh : goal.enter-requires-2-clause-fresh
enter-requires-2-clause-fresh g c =
    let none = ap (λ (s : TableState). own_number s.rows c.args.row) c.self.view_is ∙ c.requires.none in
    subst (λ (rows : List RowValue). IsFresh rows c.self.inside.by_deadline.items c.len-number.result) (sym (c.deref-2.ensures.value ∙ c.push_reserved.ensures.items)) (subst (λ (n : ℕ). IsFresh (c.self.inside.items.items ++ c.args.row ∷ []) c.self.inside.by_deadline.items n) (omega (arith, c.len-number.ensures, c.self.inside.items.ok.0)) (fresh_more ByDeadline c.self.inside.items.items c.self.inside.by_deadline.items c.args.row c.self.invariant.by_deadline none))

pub invariant_of-self : goal.invariant_of-self
invariant_of-self g c =
    let number : c.len-number.result ≡ length c.self.inside.items.items = omega (arith, c.len-number.ensures, c.self.inside.items.ok.0) in
    let places = subst (λ (n : ℕ). IsPutIn ByPrefix (c.self.inside.items.items ++ c.args.row ∷ []) c.self.inside.by_prefix.items c.enter.new.numbers.items n) number (subst (λ (rows : List RowValue). IsPutIn ByPrefix rows c.self.inside.by_prefix.items c.enter.new.numbers.items c.len-number.result) (c.deref.ensures.value ∙ c.push_reserved.ensures.items) c.enter.ensures.entered) in
    let deadlines = subst (λ (n : ℕ). IsPutIn ByDeadline (c.self.inside.items.items ++ c.args.row ∷ []) c.self.inside.by_deadline.items c.enter-2.new.numbers.items n) number (subst (λ (rows : List RowValue). IsPutIn ByDeadline rows c.self.inside.by_deadline.items c.enter-2.new.numbers.items c.len-number.result) (c.deref-2.ensures.value ∙ c.push_reserved.ensures.items) c.enter-2.ensures.entered) in
    record {
      eids = subst (All (λ h. IsPrefix h.mapping.eid)) (sym c.push_reserved.ensures.items) (All-push (λ h. IsPrefix h.mapping.eid) c.self.inside.items.items c.args.row c.self.invariant.eids c.requires.block);
      by_prefix = subst (λ (rows : List RowValue). IsIndex row_prefix_cmp rows c.enter.new.numbers.items) (sym c.push_reserved.ensures.items) (index_more ByPrefix c.self.inside.items.items c.self.inside.by_prefix.items c.args.row c.self.invariant.by_prefix c.enter.new.numbers.items places);
      by_deadline = subst (λ (rows : List RowValue). IsIndex row_deadline_cmp rows c.enter-2.new.numbers.items) (sym c.push_reserved.ensures.items) (index_more ByDeadline c.self.inside.items.items c.self.inside.by_deadline.items c.args.row c.self.invariant.by_deadline c.enter-2.new.numbers.items deadlines);
    }

pub returns-clause-room : goal.returns-clause-room
returns-clause-room g c = room_less (vec_room c.self.inside.items) (deque_room c.self.inside.by_prefix) (deque_room c.self.inside.by_deadline) c.args.self.now.spare (vec_room c.push_reserved.new.self) (deque_room c.enter.new.numbers) (deque_room c.enter-2.new.numbers) (ap (λ (s : TableState). s.spare) c.self.view_is) (omega (arith, c.push_reserved.ensures.len, c.push_reserved.ensures.capacity)) c.enter.ensures.room c.enter-2.ensures.room
