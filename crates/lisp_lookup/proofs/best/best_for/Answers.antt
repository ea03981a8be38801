use Rattle.std.proofs.Common.{◌≡◌, ◌-◌, ℕ, true, refl, sym, subst, arith}
use Rattle.lisp_records.specs.Address.{PrefixValue, prefix_around}
use Rattle.lisp_lookup.specs.Index.{IsFirstOf}
use Rattle.lisp_lookup.specs.Inside.{is_inside, HasNoRow}
use Rattle.lisp_lookup.proofs.BestLaws.{for_length, found_longest, missed_longest}
use Rattle.lisp_lookup.proofs.InsideLaws.{itself_around, missed_none, wider_has}
use Rattle.lisp_lookup.proofs.best.best_for.Goals.{then-may_have_row+else-is_some-2, else-may_have_row}
use Rattle.lisp_lookup.proofs.best.best_for.Goals as goal

pub returns-then-is_some : goal.returns-then-is_some
returns-then-is_some g c = found_longest (λ row. row.now) c.args.rows.now c.args.asked.now c.args.now c.mask_len-longest.result (omega (arith, c.mask_len-longest.ensures)) (λ h held may. omega (arith, c.mask_len-longest.ensures, for_length h c.args.asked.now c.args.now may)) c.addr-addr.result c.addr-addr.ensures.addr c.args.asked.now (itself_around c.args.asked.now c.addr-addr.ensures.block c.addr-addr.result c.mask_len-longest.result c.addr-addr.ensures.addr c.mask_len-longest.ensures) c.best_from-own.result c.best_from-own.ensures (sym c.if-is_some.ensures)

pub loop-shorter-init : goal.loop-shorter-init
loop-shorter-init g c =
    let around = itself_around c.args.asked.now c.addr-addr.ensures.block c.addr-addr.result c.mask_len-longest.result c.addr-addr.ensures.addr c.mask_len-longest.ensures in
    record {
      shorter = λ h held may. omega (arith, missed_longest (λ row. row.now) c.args.rows.now c.args.asked.now c.args.now c.mask_len-longest.result (omega (arith, c.mask_len-longest.ensures)) (λ h held may. omega (arith, c.mask_len-longest.ensures, for_length h c.args.asked.now c.args.now may)) c.addr-addr.result c.addr-addr.ensures.addr c.args.asked.now around c.best_from-own.result c.best_from-own.ensures (sym c.if-is_some.ensures) h held may);
      sought = (c.mask_len-longest.result, omega arith, omega arith, subst (λ (b : PrefixValue). IsFirstOf b c.args.rows.now c.args.by_prefix.now.items c.first_of-first.result) around c.first_of-first.ensures);
    }

pub returns-then-is_some-2 : goal.returns-then-is_some-2
returns-then-is_some-2 g c = found_longest (λ row. row.now) c.args.rows.now c.args.asked.now c.args.now (c.mask_len-longest.result - c.loop-shorter.shorter) (omega (arith, c.mask_len-longest.ensures)) (λ h held may. omega (arith, c.loop-shorter.invariant.shorter h held may)) c.addr-addr.result c.addr-addr.ensures.addr c.in_ok-prefix.prefix c.in_ok-prefix.ensures.value c.best_from-best.result c.best_from-best.ensures (sym c.if-is_some-2.ensures)

pub loop-shorter-preserved : goal.loop-shorter-preserved
loop-shorter-preserved g c =
    let length = c.mask_len-longest.result - c.loop-shorter.shorter in
    elim c.if-may_have_row.branch [
      | then-may_have_row+else-is_some-2 w ↦ record {
        shorter = λ h held may. omega (arith, c.loop-shorter-test.true, missed_longest (λ row. row.now) c.args.rows.now c.args.asked.now c.args.now length (omega (arith, c.mask_len-longest.ensures)) (λ h held may. omega (arith, c.loop-shorter.invariant.shorter h held may)) c.addr-addr.result c.addr-addr.ensures.addr c.in_ok-prefix.prefix c.in_ok-prefix.ensures.value w.best_from-best.result w.best_from-best.ensures (sym w.if-is_some-2.ensures) h held may);
        sought = (length, omega (arith, c.loop-shorter-test.true), omega arith, subst (λ (b : PrefixValue). IsFirstOf b c.args.rows.now c.args.by_prefix.now.items c.if-may_have_row.first) c.in_ok-prefix.ensures.value (subst (λ (n : ℕ). IsFirstOf c.in_ok-prefix.prefix c.args.rows.now c.args.by_prefix.now.items n) (sym w.first-is) w.first_of-first-then-may_have_row.ensures));
      }
      | else-may_have_row w ↦ (let (m, longer, within, bound) = c.loop-shorter.invariant.sought in
          let inside = subst (λ (b : PrefixValue). is_inside b (prefix_around c.addr-addr.result m) ≡ true) (sym c.in_ok-prefix.ensures.value) (wider_has c.addr-addr.result length m (omega (arith, longer, c.loop-shorter-test.true))) in
          let none = w.if-may_have_row.ensures refl (prefix_around c.addr-addr.result m) inside bound in
          record {
            shorter = λ h held may. omega (arith, c.loop-shorter-test.true, missed_none c.args.rows.now c.args.asked.now c.args.now length (λ h held may. omega (arith, c.loop-shorter.invariant.shorter h held may)) c.addr-addr.result c.addr-addr.ensures.addr (subst (λ (b : PrefixValue). HasNoRow c.args.rows.now b) c.in_ok-prefix.ensures.value none) h held may);
            sought = (m, omega (arith, longer), within, subst (λ (n : ℕ). IsFirstOf (prefix_around c.addr-addr.result m) c.args.rows.now c.args.by_prefix.now.items n) (sym w.first-is) bound);
          })
    ]
