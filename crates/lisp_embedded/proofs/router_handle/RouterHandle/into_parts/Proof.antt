-- `into_parts` tests the pointer.
-- A step's comment shows what is owned after it, from entry 0 on.
use Rattle.lisp_embedded.proofs.Names.{◌≡◌, List, [], ◌∷◌, ◌++◌, refl, sym, ap, ◌∙◌, subst, lit<, None, Some, Val, vnil, vcons, SProp, ent, emp, id⊢, ftrue, fsep, WpFn, ‵, raw, ◌⊛◌, at_ret, ◌$◌, ◌∵◌, !, qed, by, move, keep, use0, use1, split, fsplit, fjoin, suffices, agg, sub, whole, stop, fld, lit, of_opd, bin, no_more, and_then, first, branches, exec, returns, enter, alloc_all, pass_all, free_all, look_at, get, get_in, sets, sets_last, env, live, fact, fact_i, tables, yes, RattleType, owns, Ptr, block_ptr, null_ptr, ptr_val, tests_null, types_at, type_at, plain, nothing, Stays, stay_dropped, walk_of, Goes-dropped, ghosts, Some-of, none_of, proved_at, leaves}
use Rattle.lisp_embedded.specs.Held.{held}
use Rattle.lisp_embedded.specs.contracts.parts.BoxParts as parts
use Rattle.lisp_embedded.proofs.Steps.{Global-row, fields, word, word_good, ptr_good, some_good, fields_out, fields_in, held_cases}
use Rattle.lisp_embedded.specs.contracts.hosted.HostedRouter.{the_row as core_row}
use Rattle.lisp_embedded.specs.contracts.router_handle.RouterHandle.{the_row}
use Rattle.lisp_embedded.specs.contracts.router_handle.RouterHandle.into_parts as f
use Rattle.lisp_embedded.proofs.router_handle.RouterHandle.into_parts.Statement.{statement}
use Rattle.lisp_embedded.proofs.router_handle.RouterHandle.into_parts.Code as code

abbrev Parts : RattleType
Parts = parts.the_row core_row Global-row ghosts

abbrev stayed : Stays f.ended.signature.params f.ended.kept
stayed = (stay_dropped (plain (λ _. the_row)) yes, tt)

pub into_parts_spec : {M : Type 1} → statement M
into_parts_spec 𝓤 𝓛 𝓜 𝓡 wired =
    let En = f.ended in let c = f.clauses 𝓛 𝓜.mem 𝓡.returns in let 𝓣 = tables 𝓤 𝓛.H 𝓜 𝓡 𝓡.env in
    proved_at 𝓛 En stayed c 𝓜 𝓡 (Goes-dropped 𝓛 0 (plain (λ _. the_row)) yes (λ κs x w. refl), tt)
    f.Key.name code.function (code.unfolded 𝓤 𝓛.H 𝓜 𝓡 wired) (λ y are.
    let κs = y.0.0 in let p = y.0.3.0.at in let a = y.0.3.0.alloc in let held_value = y.0.3.0.value in let Post : Val → SProp 𝓤 = (walk_of 𝓛 En stayed c).post y in
    let Out : RattleType = type_at En.signature.result κs in
    let Runs : List Val → SProp 𝓤 = λ vs. WpFn 𝓤 𝓛.H 𝓣.C 𝓣.Λ code.function vs Post in
    qed 𝓛 ((‵ ftrue ⊛ ‵ (owns (types_at En.signature.params κs) y.0.3 y.0.4)) ∷ ‵ ftrue ∷ []) ∵
    split ! $ move ! (1 ∷ []) $ fsplit ! $ use1 𝓛 (‵ (fsep (fields.own_val (p, (a, tt)) y.0.4.0) (held core_row a p held_value))) (id⊢ 𝓤 _) $ fsplit ! $
    fields_out ! p a y.0.4.0 (λ h is fits. move ! (1 ∷ []) $ held_cases core_row a ! p held_value
    -- [the allocator; nothing; no tokens; the empty `requires`]
    (λ is_null is_none. let w : Val = word (ptr_val null_ptr) h in let vs : y.0.4.0 ≡ w ∷ [] = is ∙ ap (λ (q : Ptr). word (ptr_val q) h ∷ []) is_null in
    suffices ! (Runs (w ∷ [])) (subst (λ (us : List Val). ent 𝓤 (Runs (w ∷ [])) (Runs us)) (sym (λ i. vs i ++ [])) (id⊢ 𝓤 (Runs (w ∷ [])))) $
    enter ! _ _ _ _ _ $ alloc_all ! (λ l. pass_all ! refl (word_good null_ptr h fits, tt) $ let here = env code.Mir.locals l in
    sets ! (of_opd ! (get_in ! (fld ! refl (stop !)) (sub ! 0 refl (whole !)))) refl (ptr_good null_ptr) $
    sets ! (of_opd ! (get_in ! (fld ! refl (stop !)) (sub ! 1 refl (whole !)))) refl fits $
    sets ! (bin ! (get ! refl) (lit ! tt) tt) refl (tt, tt) $
    first ! $ branches ! (get ! refl) (λ _. sets_last ! (agg ! (and_then ! (lit ! tt) (no_more !))) refl (tt, (record { fits = lit< tt }, tt)) $
    exec ! 𝓣.C 𝓣.Λ here code.Mir.t-5 (at_ret here Post) $ sets ! (of_opd ! (get ! refl)) refl (tt, (record { fits = lit< tt }, tt)) $
    use0 𝓛 (‵ (Out.own_val None (live 0 vnil ∷ []))) (none_of 𝓛 Parts) $ use0 𝓛 (raw (fact 𝓤 (held_value ≡ None))) (fact_i 𝓤 (held_value ≡ None) (emp 𝓤) is_none) $ nothing ! $ nothing ! $ fjoin ! $
    returns ! (look_at ! 0 refl) $ free_all ! refl $
    -- [nothing is left of the handle; the `ensures`; the answer; the allocator; nothing; no tokens; the empty `requires`]
    keep ! (5 ∷ 0 ∷ 2 ∷ 1 ∷ []) $ by ! (leaves 𝓛 En stayed c y (live 0 vnil) None (tt, tt) (tt, tt))) (λ wrong. absurd wrong)))
    -- [the value and its block; the allocator; nothing; no tokens; the empty `requires`]
    (λ b o x is_block is_some ok. let q : Ptr = block_ptr b o in let w : Val = word (ptr_val q) h in let vs : y.0.4.0 ≡ w ∷ [] = is ∙ ap (λ (r : Ptr). word (ptr_val r) h ∷ []) is_block in
    let good = word_good q h fits in let out : Parts.Denot = record { at = q; alloc = a; value = x } in let answer : Val = live 1 (vcons w vnil) in
    let answer_good = some_good w good in
    move ! (1 ∷ []) $ fields_in ! q a h $ fjoin ! $ use1 𝓛 (‵ (Parts.own_val out (w ∷ []))) (id⊢ 𝓤 _) $ use1 𝓛 (‵ (Out.own_val (Some out) (answer ∷ []))) (Some-of 𝓛 Parts out w) $
    suffices ! (Runs (w ∷ [])) (subst (λ (us : List Val). ent 𝓤 (Runs (w ∷ [])) (Runs us)) (sym (λ i. vs i ++ [])) (id⊢ 𝓤 (Runs (w ∷ [])))) $
    enter ! _ _ _ _ _ $ alloc_all ! (λ l. pass_all ! refl (good, tt) $ let here = env code.Mir.locals l in
    sets ! (of_opd ! (get_in ! (fld ! refl (stop !)) (sub ! 0 refl (whole !)))) refl (ptr_good q) $
    sets ! (of_opd ! (get_in ! (fld ! refl (stop !)) (sub ! 1 refl (whole !)))) refl fits $
    sets ! (bin ! (get ! refl) (lit ! tt) (tests_null q ok)) refl (tt, tt) $
    first ! $ branches ! (get ! refl) (λ wrong. absurd wrong) (λ _.
    sets ! (agg ! (and_then ! (get ! refl) (and_then ! (get ! refl) (no_more !)))) refl good $
    sets_last ! (agg ! (and_then ! (lit ! tt) (and_then ! (get ! refl) (no_more !)))) refl answer_good $
    exec ! 𝓣.C 𝓣.Λ here code.Mir.t-5 (at_ret here Post) $ sets ! (of_opd ! (get ! refl)) refl answer_good $
    use0 𝓛 (raw (fact 𝓤 (held_value ≡ Some x))) (fact_i 𝓤 (held_value ≡ Some x) (emp 𝓤) is_some) $ nothing ! $ nothing ! $ fjoin ! $
    returns ! (look_at ! 0 refl) $ free_all ! refl $
    -- [nothing is left of the handle; the `ensures`; the answer; nothing; no tokens; the empty `requires`]
    keep ! (4 ∷ 0 ∷ 2 ∷ 1 ∷ []) $ by ! (leaves 𝓛 En stayed c y answer (Some out) (tt, tt) (tt, tt)))))))
