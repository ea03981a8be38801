use Rattle.std.proofs.Common.{◌≡◌, ◌-◌, ◌<◌, ℕ, List, length, refl, sym, ap, ◌∙◌, subst, arith}
use Rattle.std.proofs.lemmas.Bool.{false≢true}
use Rattle.std.specs.Ordering.{is_ge}
use Rattle.std.specs.VecDeque.{deque_len}
use Rattle.std.specs.declared.cmp.Ordering.TheVariants.{Less}
use Rattle.lisp_records.specs.Row.{RowValue}
use Rattle.lisp_lookup.specs.Index.{order_cmp, row_at_place, IsPutIn}
use Rattle.lisp_lookup.proofs.IndexLaws.{order_total, falls, entered_at, entered_last, behind_last, made}
use Rattle.lisp_lookup.proofs.edits.enter.Goals.{in_default-via-in-Some+else-is_ge, in_default-via-in_default}
use Rattle.lisp_lookup.proofs.edits.enter.Goals as goal

pub place-place-requires-clause-falls : goal.place-place-requires-clause-falls
place-place-requires-clause-falls g c = falls (order_cmp c.args.order) (order_total c.args.order) c.index-rows-number.result c.args.rows.now c.args.numbers.now.items c.requires.rises

pub returns-in-Some-clause-entered : goal.returns-in-Some-clause-entered
returns-in-Some-clause-entered g c = subst (λ (new : List ℕ). IsPutIn c.args.order c.args.rows.now c.args.numbers.now.items new c.args.number) (sym (made c.insert.result c.insert.ensures.items c.insert.ensures.full (λ full. omega (arith, full, c.requires.room)))) (entered_at c.args.order c.args.rows.now c.args.numbers.now.items c.args.number c.index-rows-number.result c.requires.rises _ c.place-place.result (λ h. refl) c.place-place.ensures.bound c.requires.row c.requires.fresh c.index-rows-number.is)

pub returns-in-Some-clause-room : goal.returns-in-Some-clause-room
returns-in-Some-clause-room g c = omega (arith, c.insert.ensures.capacity, made c.insert.result c.insert.ensures.len c.insert.ensures.full (λ full. omega (arith, full, c.requires.room)))

pub returns-in_default-clause-entered : goal.returns-in_default-clause-entered
returns-in_default-clause-entered g c =
    let below : (i : ℕ) (d : RowValue) → i < length c.args.numbers.now.items → order_cmp c.args.order (row_at_place c.args.rows.now c.args.numbers.now.items i d) c.index-rows-number.result ≡ Less = elim c.in_default.branch [
      | in_default-via-in-Some+else-is_ge w ↦ behind_last c.args.order c.args.rows.now c.args.numbers.now.items c.args.number c.index-rows-number.result c.requires.rises (deque_len c.args.numbers.now - 1) w.in-Some.last.now w.index-rows-last.result (omega (arith, w.in-Some.ensures.variant.0 refl, c.args.numbers.now.ok.0)) w.in-Some.ensures.lookup w.index-rows-last.is (ap is_ge (sym w.cmp.ensures) ∙ sym w.is_ge.ensures ∙ w.if-is_ge.false)
      | in_default-via-in_default w ↦ λ i d lt. absurd (false≢true (w.in_default.ensures.variant.1 (omega (arith, lt, c.args.numbers.now.ok.0))))
    ] in
    subst (λ (new : List ℕ). IsPutIn c.args.order c.args.rows.now c.args.numbers.now.items new c.args.number) (sym c.push_back_reserved.ensures.items) (entered_last c.args.order c.args.rows.now c.args.numbers.now.items c.args.number c.index-rows-number.result c.requires.rises below c.requires.row c.index-rows-number.is)
