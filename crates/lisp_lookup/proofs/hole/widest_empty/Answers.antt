use Rattle.std.proofs.Common.{◌≡◌, ◌+◌, ◌-◌, ◌*◌, ◌/◌, ℕ, sym, ap, ◌∙◌, subst, true≢false, arith}
use Rattle.lisp_records.specs.Address.{max_len, prefix_around, width}
use Rattle.lisp_records.specs.declared.address.Family.{Family}
use Rattle.lisp_lookup.specs.Hole.{IsEmptyIn}
use Rattle.lisp_lookup.proofs.SitesLaws.{empty_alone, wider_up}
use Rattle.lisp_lookup.proofs.hole.widest_empty.Goals as goal

pub loop-low-init : goal.loop-low-init
loop-low-init g c =
    let full : c.max_mask_len-high.result ≡ max_len c.args.addr.now = c.max_mask_len-high.ensures ∙ ap (λ (f : Family). 8 * width f) c.family.ensures in
    record {
      order = omega (arith, full, c.requires.within);
      within = omega (arith, full);
      least = omega arith;
      empty = empty_alone c.args.rows.now c.args.addr.now c.args.now c.requires.eids c.requires.none c.max_mask_len-high.result full;
      wider = λ n low lt empty. absurd (omega (arith, low, lt));
    }

pub loop-low-preserved : goal.loop-low-preserved
loop-low-preserved g c =
    let middle = c.loop-low.low + (c.loop-low.high - c.loop-low.low) / 2 in
    record {
      order = omega (arith, c.loop-low-test.true);
      within = c.loop-low.invariant.within;
      least = omega (arith, c.loop-low.invariant.least);
      empty = c.loop-low.invariant.empty;
      wider = wider_up c.args.rows.now c.args.addr.now c.args.now c.args.least middle (λ empty. true≢false (sym (c.is_empty_around.ensures.1 empty) ∙ c.if-is_empty_around.false));
    }

pub returns-clause-empty : goal.returns-clause-empty
returns-clause-empty g c =
    let same : c.loop-low.high ≡ c.loop-low.low = omega (arith, c.loop-low-test.false, c.loop-low.invariant.order) in
    subst (λ (n : ℕ). IsEmptyIn c.args.rows.now (prefix_around c.args.addr.now n) c.args.now) same c.loop-low.invariant.empty
