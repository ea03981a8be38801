-- `into_box` hands both fields to `Box::from_raw`.
-- A step's comment shows what is owned after it, from entry 0 on.
use Rattle.lisp_embedded.proofs.Names.{◌≡◌, List, [], ◌∷◌, ◌++◌, refl, sym, ap, subst, Fn, Args, Body, a_type, dcons, dnil, seq, assign, place, rv_opd, copy, return, inst_fn, Val, vptr, has_ty, WT, Holds, SProp, ent, id⊢, ftrue, flft, WpFn, Item, ‵, raw, ◌⊛◌, some, later, at_ret, ◌$◌, ◌∵◌, !, qed, by, move, keep, drop, use1, split, split3, join, fsplit, fjoin, pick, await, rewrite, suffices, feq_i, sub, whole, stop, fld, of_opd, no_more, and_then, first, blocks, exec, returns, enter, alloc_all, pass_all, free_all, look_at, get, get_in, sets, lands_last, env, fact, tables, no, bounded, RattleType, owns, block_ptr, types_at, plain, nothing, only, triple_of, framed, calls_at_last, Stays, stay_dropped, walk_of, Goes-blank, proved_at, leaves}
use contract.BorrowLft.{◌⊑◌}
use denote.Triple.Clauses.{Lasts, lasts}
use Rattle.std.proofs.BoxSteps.Form.{Bx, D, R, P, B, box_ty, word, box_typed}
use Rattle.std.proofs.BoxSteps.Steps.{box_out, box_in}
use Rattle.std.specs.contracts.boxed.Box.from_raw as callee
use Rattle.std.proofs.boxed.Box.from_raw.Met.{met}
use Rattle.lisp_embedded.specs.contracts.parts.BoxParts as parts
use Rattle.lisp_embedded.specs.contracts.parts.BoxParts.into_box as f
use Rattle.lisp_embedded.specs.contracts.parts.BoxParts.into_box.Key.{name as #f}
use Rattle.lisp_embedded.proofs.parts.BoxParts.into_box.Statement.{statement}
use Rattle.lisp_embedded.proofs.parts.BoxParts.into_box.Code as code

-- the code behind the block
abbrev rest : Body
rest = seq (assign (place 0 []) (rv_opd (copy (place 4 [])))) return

pub into_box_spec : {M : Type 1} → statement M
into_box_spec 𝓤 𝓛 𝓜 𝓡 wired T A LT LA g d dx dd allocator drops_value drops_handle =
    let E : Bx = record { row = T; laws = LT; al = record { row = A; laws = LA; g = g; d = d; drops = dd } } in
    let Parts : RattleType = parts.the_row (R E) (P E) g in
    let given : Args = bounded (a_type ∷ a_type ∷ []) (T, (A, tt)) (dcons d (dcons dx (dcons dd dnil))) in
    let body : Fn = inst_fn given code.function in
    let En = f.ended T A g d dx dd in let c = f.clauses T A g d dx dd 𝓛 𝓜.mem 𝓡.returns in
    let stayed : Stays En.signature.params En.kept = (stay_dropped (plain (λ _. Parts)) no, tt) in
    let 𝓣 = tables 𝓤 𝓛.H 𝓜 𝓡 𝓡.env in
    let Whole = triple_of 𝓛 (callee.signature T A g d dd) (callee.spec T A g d dd 𝓛 𝓜.mem 𝓡.returns) in
    let Ends = callee.ended T A g d dd in
    proved_at 𝓛 En stayed c 𝓜 𝓡 (Goes-blank 𝓛 2 (plain (λ _. Parts)) no (λ κs x w. tt), tt)
    (#f given) body (code.unfolded 𝓤 𝓛.H 𝓜 𝓡 wired (T, (A, tt)) d dx dd) (λ y are.
    let κs = y.0.0 in let qs = y.0.1 in let held = y.0.3.0 in let a = held.alloc in let x = held.value in
    let box : D E = record { ptr = held.at; alloc = a; value = x } in
    let Post : Val → SProp 𝓤 = (walk_of 𝓛 En stayed c).post y in
    let Runs : List Val → SProp 𝓤 = λ vs. WpFn 𝓤 𝓛.H 𝓣.C 𝓣.Λ body vs Post in
    let alive : Item 𝓤 = ‵ (flft κs.0 qs.0) ⊛ ‵ (flft κs.1.0 qs.1.0) ⊛ ‵ ftrue in
    let lives : Item 𝓤 = raw (fact 𝓤 (κs.0 ⊑ T.lives)) ⊛ raw (fact 𝓤 (κs.1.0 ⊑ A.lives)) ⊛ ‵ ftrue in
    qed 𝓛 ((alive ⊛ ‵ (owns (types_at En.signature.params κs) y.0.3 y.0.4)) ∷ lives ∷ []) ∵
    split ! $ move ! (1 ∷ []) $ fsplit ! $ use1 𝓛 (‵ ((B E).own_val box y.0.4.0)) (id⊢ 𝓤 _) $
    box_out E ! box y.0.4.0 (λ b o h at vs fits. fjoin ! $
    -- [the value and its block; the handle; nothing; alive; lives]
    let w : Val = word E h b o in let good = box_typed E h b o fits in
    let z : Whole.Ghost = ((κs, qs, tt, (a, (block_ptr b o, tt)), (h ∷ [], (vptr b o ∷ [], tt))), x) in
    move ! (4 ∷ []) $ split3 ! $ move ! (2 ∷ []) $ drop ! $ move ! (1 ∷ 2 ∷ []) $ join ! $ move ! (1 ∷ 0 ∷ []) $ join ! $
    move ! (2 ∷ []) $ feq_i ! (List Val) (vptr b o ∷ []) (vptr b o ∷ []) refl $ fjoin ! $ move ! (2 ∷ 0 ∷ []) $ fjoin ! $
    move ! (2 ∷ 0 ∷ []) $ join ! $ join ! $ use1 𝓛 (raw (Whole.pre z)) (id⊢ 𝓤 _) $
    suffices ! (Runs (w ∷ [])) (subst (λ (us : List Val). ent 𝓤 (Runs (w ∷ [])) (Runs us)) (sym (λ i. vs i ++ [])) (id⊢ 𝓤 (Runs (w ∷ [])))) $
    enter ! _ _ _ _ _ $ alloc_all ! (λ l. pass_all ! refl (good, tt) $
    let here = env body.locals l in
    sets ! (of_opd ! (get_in ! (fld ! refl (stop !)) (sub ! 0 refl (whole !)))) refl (tt, tt) $
    sets ! (of_opd ! (get_in ! (fld ! refl (stop !)) (sub ! 1 refl (whole !)))) refl fits $
    first ! $ blocks ! $ sets ! (of_opd ! (get ! refl)) refl fits $
    calls_at_last ! (framed 𝓤 𝓛.H 𝓜 𝓣) Whole (met 𝓤 𝓛 𝓜 𝓡 (code.calls-std::boxed::Box::from_raw 𝓡.env wired) T A LT LA g d dd allocator drops_handle) z
    (and_then ! (get ! refl) (and_then ! (get ! refl) (no_more !))) (λ v.
    use1 𝓛 (later (some (λ (r : D E). (alive ⊛ ‵ ((B E).own_val r (v ∷ []))) ⊛
    some (λ (ls : Lasts Ends κs z.0.3). ‵ (lasts Ends κs z.0.3 ls) ⊛ (raw (fact 𝓤 (r.value ≡ x)) ⊛ raw (fact 𝓤 (r.alloc ≡ a))))))) (id⊢ 𝓤 _) $
    await ! tt $ pick ! (λ r. split ! $ move ! (1 ∷ []) $ pick ! (λ _. split3 ! $ drop ! $
    -- [the value is the same; the handle is the same; alive with the box]
    move ! (2 ∷ []) $ split ! $ move ! (1 ∷ []) $
    box_out E ! r (v ∷ []) (λ b' o' h' at' vs' fits'. box_in E ! r b' o' r.value at' refl $ rewrite ! 0 (λ (us : List Val). ‵ ((B E).own_val r us)) (sym vs') refl $
    let good' : Holds (has_ty (box_ty E) v) × WT v = subst (λ (u : Val). Holds (has_ty (box_ty E) u) × WT u) (sym (ap only vs')) (box_typed E h' b' o' fits') in
    lands_last ! refl good' $ exec ! 𝓣.C 𝓣.Λ here rest (at_ret here Post) $ sets ! (of_opd ! (get ! refl)) refl good' $
    nothing ! $ nothing ! $ fjoin ! $
    returns ! (look_at ! 0 refl) $ free_all ! refl $
    -- [nothing is left of the parts; the box; alive; the value is the same; the handle is the same]
    keep ! (2 ∷ 0 ∷ 1 ∷ 3 ∷ []) $ by ! (leaves 𝓛 En stayed c y v r ((tt, (tt, tt)), tt) (tt, tt)))))))))
