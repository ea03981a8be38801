use Rattle.std.proofs.Common.{◌≡◌, ◌+◌, ◌-◌, ◌/◌, ℕ, sym, ap, ◌∙◌, subst, arith}
use Rattle.lisp_records.specs.Row.{RowValue}
use Rattle.lisp_records.specs.Address.{PrefixValue, prefix_around}
use Rattle.lisp_replies.specs.Narrowing.{FitFor, NoneFitFor}
use Rattle.lisp_replies.proofs.FitLaws.{of_found, none_found, wider_up, nowhere_at, own_is_less, widest_at}
use Rattle.lisp_replies.proofs.narrowing.widest_records.Goals as goal

pub returns-in_default-clause-nowhere : goal.returns-in_default-clause-nowhere
returns-in_default-clause-nowhere g c = λ _. nowhere_at c.args.table.now.rows c.args.asked.now c.args.now c.args.best.now (subst (λ (n : ℕ). NoneFitFor c.args.table.now.rows (prefix_around c.args.asked.now.addr n) c.args.now c.args.best.now) c.mask_len-high.ensures (c.in_ok-records.ensures.unfit c.in_default.is))

pub loop-low-init : goal.loop-low-init
loop-low-init g c =
    let own : c.mask_len-widest.result ≡ c.args.best.now.mapping.eid.mask_len = c.mask_len-widest.ensures ∙ ap (λ (e : PrefixValue). e.mask_len) (c.eid_ref.ensures ∙ ap (λ (h : RowValue). h.mapping.eid) c.best.view_is) in
    let none = subst (λ (n : ℕ). NoneFitFor c.args.table.now.rows (prefix_around c.args.asked.now.addr n) c.args.now c.args.best.now) own (c.in_ok-found.ensures.unfit (none_found c.in_ok-found.found (sym c.is_some.ensures ∙ c.if-is_some.false))) in
    let fit = of_found _ _ _ c.in-Some.is c.in_ok-records.ensures.fit in
    let less = own_is_less c.args.table.now.rows c.args.asked.now c.args.now c.args.best.now c.in-Some.records.items c.requires.is_best none (subst (λ (n : ℕ). FitFor c.args.table.now.rows (prefix_around c.args.asked.now.addr n) c.args.now c.args.best.now c.in-Some.records.items) c.mask_len-high.ensures fit) in
    record {
      order = omega (arith, own, less, c.mask_len-high.ensures);
      from = omega (arith, own);
      within = omega (arith, c.mask_len-high.ensures);
      fit = fit;
      wider = λ n from under. subst (λ (m : ℕ). NoneFitFor c.args.table.now.rows (prefix_around c.args.asked.now.addr m) c.args.now c.args.best.now) (omega (arith, own, from, under)) none;
    }

pub loop-low-preserved-in-Some-2 : goal.loop-low-preserved-in-Some-2
loop-low-preserved-in-Some-2 g c =
    let at = c.loop-low.invariant in
    record {
      order = omega (arith, c.loop-low-test.true);
      from = at.from;
      within = omega (arith, c.loop-low-test.true, at.within);
      fit = of_found _ _ _ c.in-Some-2.is c.in_ok-found-2.ensures.fit;
      wider = at.wider;
    }

pub loop-low-preserved : goal.loop-low-preserved
loop-low-preserved g c =
    let at = c.loop-low.invariant in
    let middle = c.loop-low.low + (c.loop-low.high - c.loop-low.low) / 2 in
    record {
      order = omega (arith, c.loop-low-test.true);
      from = omega (arith, at.from, c.loop-low-test.true);
      within = at.within;
      fit = at.fit;
      wider = wider_up c.args.table.now.rows c.args.asked.now c.args.now c.args.best.now c.loop-low.low middle (omega (arith, at.from, c.loop-low-test.true)) (omega (arith, c.loop-low-test.true, at.within)) (c.in_ok-found-2.ensures.unfit c.in-None.is);
    }

pub returns-clause-widest : goal.returns-clause-widest
returns-clause-widest g c =
    let at = c.loop-low.invariant in
    widest_at c.args.table.now.rows c.args.asked.now c.args.now c.args.best.now c.loop-low.high c.loop-low.records.items (omega (arith, at.from, at.order)) at.within at.fit (λ n from under. at.wider n from (omega (arith, under, c.loop-low-test.false)))
