use Rattle.std.proofs.Common.{ℕ, ◌<◌, ◌∷◌, [], List, length, sym, ap, ◌∙◌, subst, arith}
use Rattle.std.proofs.lemmas.List.{length-set}
use Rattle.std.proofs.lemmas.List.Elements.{All-set}
use Rattle.lisp_records.specs.{Address.IsPrefix, Row.RowValue}
use Rattle.lisp_lookup.specs.Table.{TableState, Sets}
use Rattle.lisp_lookup.specs.Room.{vec_room, deque_room}
use Rattle.lisp_lookup.specs.declared.order.Order.TheVariants.{ByDeadline}
use Rattle.lisp_lookup.specs.Index.{row_deadline_cmp, own_number, Rises, IsFresh, IsTakenOut, IsPutIn}
use Rattle.lisp_lookup.proofs.PutLaws.{one_each, own_key, prefixes_over, rises_over, fresh_over, index_over, room_each, room_less, one_more}
use Rattle.lisp_lookup.proofs.TableLaws.{sets_set, sets_push}
use Rattle.lisp_lookup.proofs.table.Table.put.Goals as goal

pub leave-near-requires : goal.leave-near-requires
leave-near-requires g c =
    let own = own_key c.self.inside.items.items c.in-Some.number c.args.row (ap (λ (s : TableState). own_number s.rows c.args.row) c.self.view_is ∙ sym c.in-Some.ensures) in
    record {
      rises = subst (λ (rows : List RowValue). Rises row_deadline_cmp rows c.self.inside.by_deadline.items) (sym c.deref.ensures.value) c.self.invariant.by_deadline.rises;
      row = subst (λ (rows : List RowValue). c.in-Some.number < length rows) (sym c.deref.ensures.value) own.0;
      held = c.self.invariant.by_deadline.each c.in-Some.number own.0;
    }

pub enter-requires : goal.enter-requires
enter-requires g c =
    let own = own_key c.self.inside.items.items c.in-Some.number c.args.row (ap (λ (s : TableState). own_number s.rows c.args.row) c.self.view_is ∙ sym c.in-Some.ensures) in
    let left = subst (λ (rows : List RowValue). IsTakenOut ByDeadline rows c.self.inside.by_deadline.items c.leave-near.new.numbers.items c.in-Some.number) c.deref.ensures.value c.leave-near.ensures.left in
    let each = one_each c.self.inside.items.items c.self.inside.by_prefix.items c.self.invariant.by_prefix in
    let some = (room_each c.self.inside.items c.self.inside.by_prefix c.self.inside.by_deadline c.args.self.now.spare (ap (λ (s : TableState). s.spare) c.self.view_is) c.requires).2 in
    record {
      rises = subst (λ (rows : List RowValue). Rises row_deadline_cmp rows c.leave-near.new.numbers.items) (sym c.deref-in-Some.ensures.value) (rises_over ByDeadline c.self.inside.items.items c.self.inside.by_deadline.items c.leave-near.new.numbers.items c.in-Some.number c.args.row own.0 left);
      row = subst (λ (rows : List RowValue). c.in-Some.number < length rows) (sym c.deref-in-Some.ensures.value) (subst (λ (n : ℕ). c.in-Some.number < n) (sym (length-set c.self.inside.items.items c.in-Some.number c.args.row)) own.0);
      fresh = subst (λ (rows : List RowValue). IsFresh rows c.leave-near.new.numbers.items c.in-Some.number) (sym c.deref-in-Some.ensures.value) (fresh_over ByDeadline c.self.inside.items.items c.self.inside.by_deadline.items c.leave-near.new.numbers.items c.in-Some.number c.args.row own.0 left each own.1);
      room = omega (arith, c.leave-near.ensures.len, c.leave-near.ensures.capacity, some);
    }

pub index_mut-requires : goal.index_mut-requires
index_mut-requires g c =
    let own = own_key c.self.inside.items.items c.in-Some.number c.args.row (ap (λ (s : TableState). own_number s.rows c.args.row) c.self.view_is ∙ sym c.in-Some.ensures) in
    omega (arith, own.0, c.self.inside.items.ok.0)

pub invariant_of-self : goal.invariant_of-self
invariant_of-self g c =
    let own = own_key c.self.inside.items.items c.in-Some.number c.args.row (ap (λ (s : TableState). own_number s.rows c.args.row) c.self.view_is ∙ sym c.in-Some.ensures) in
    let left = subst (λ (rows : List RowValue). IsTakenOut ByDeadline rows c.self.inside.by_deadline.items c.leave-near.new.numbers.items c.in-Some.number) c.deref.ensures.value c.leave-near.ensures.left in
    let entered = subst (λ (rows : List RowValue). IsPutIn ByDeadline rows c.leave-near.new.numbers.items c.enter.new.numbers.items c.in-Some.number) c.deref-in-Some.ensures.value c.enter.ensures.entered in
    record {
      eids = All-set (λ h. IsPrefix h.mapping.eid) c.self.inside.items.items c.in-Some.number c.args.row c.known.ensures c.self.invariant.eids;
      by_prefix = prefixes_over c.self.inside.items.items c.self.inside.by_prefix.items c.in-Some.number c.args.row own.0 own.1 c.self.invariant.by_prefix;
      by_deadline = index_over ByDeadline c.self.inside.items.items c.self.inside.by_deadline.items c.leave-near.new.numbers.items c.in-Some.number c.args.row own.0 left c.enter.new.numbers.items c.self.invariant.by_deadline entered;
    }

pub returns-in-Some-clause-row : goal.returns-in-Some-clause-row
returns-in-Some-clause-row g c = rw (← c.self.view_is) (sets_set c.self.inside.items.items c.in-Some.number c.args.row (ap (λ (s : TableState). own_number s.rows c.args.row) c.self.view_is ∙ sym c.in-Some.ensures))

pub returns-in-Some-clause-room : goal.returns-in-Some-clause-room
returns-in-Some-clause-room g c = room_less (vec_room c.self.inside.items) (deque_room c.self.inside.by_prefix) (deque_room c.self.inside.by_deadline) c.args.self.now.spare (vec_room c.self.inside.items) (deque_room c.self.inside.by_prefix) (deque_room c.enter.new.numbers) (ap (λ (s : TableState). s.spare) c.self.view_is) (one_more (vec_room c.self.inside.items)) (one_more (deque_room c.self.inside.by_prefix)) (omega (arith, c.leave-near.ensures.len, c.leave-near.ensures.capacity, c.enter.ensures.room))

pub returns-in-None-clause-row : goal.returns-in-None-clause-row
returns-in-None-clause-row g c = subst (λ (rows : List RowValue). Sets c.args.self.now.rows rows (c.args.row ∷ [])) (sym {A = List RowValue} c.add.ensures.rows) (sets_push c.args.self.now.rows c.args.row (sym c.in-None.ensures))
