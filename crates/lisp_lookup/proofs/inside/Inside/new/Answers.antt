use Rattle.std.proofs.Common.{◌≡◌, ◌*◌, ℕ, sym, ap, ◌∙◌, subst, arith}
use Rattle.lisp_records.specs.Address.{max_len, width}
use Rattle.lisp_records.specs.declared.address.Family.{Family}
use Rattle.lisp_lookup.specs.Inside.{IsWalk}
use Rattle.lisp_lookup.proofs.InsideLaws.{walk_begins, walk_of_one}
use Rattle.lisp_lookup.proofs.inside.Inside.new.Goals.{then-mask_len-longest, else-mask_len-longest}
use Rattle.lisp_lookup.proofs.inside.Inside.new.Goals as goal

pub invariant_of-result : goal.invariant_of-result
invariant_of-result g c =
    let long : c.max_mask_len-longest.result ≡ max_len c.args.outer.now.addr = c.max_mask_len-longest.ensures ∙ ap (λ (f : Family). 8 * width f) c.family.ensures ∙ ap max_len c.addr.ensures.addr in
    elim c.if-mask_len-longest.branch [
      | then-mask_len-longest w ↦ subst (λ (n : ℕ). IsWalk (record { rows = c.args.rows.now; outer = c.args.outer.now; moment = c.args.now; after = c.args.outer.now }) c.args.by_prefix.now.items n) (sym w.place-is) (walk_begins c.args.rows.now c.args.by_prefix.now.items c.args.outer.now c.args.now w.first_of-place.result c.requires.eids c.requires.index w.first_of-place.ensures)
      | else-mask_len-longest w ↦ subst (λ (n : ℕ). IsWalk (record { rows = c.args.rows.now; outer = c.args.outer.now; moment = c.args.now; after = c.args.outer.now }) c.args.by_prefix.now.items n) (sym (w.place-is ∙ w.len-place.ensures ∙ c.args.by_prefix.now.ok.0)) (walk_of_one c.args.rows.now c.args.by_prefix.now.items c.args.outer.now c.args.now c.requires.eids c.requires.index (omega (arith, long, c.mask_len.ensures, w.if-mask_len-longest.false)))
    ]
