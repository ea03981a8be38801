-- `of_parts` moves the two fields.
-- A step's comment shows what is owned after it, from entry 0 on.
use Rattle.lisp_embedded.proofs.Names.{◌≡◌, List, [], ◌∷◌, ◌++◌, refl, sym, subst, Some, Val, SProp, ent, emp, id⊢, ftrue, fsep, WpFn, ‵, raw, ◌⊛◌, ◌$◌, ◌∵◌, !, qed, by, move, keep, use0, use1, split, fsplit, fjoin, suffices, agg, sub, whole, stop, fld, of_opd, no_more, and_then, returns, enter, alloc_all, pass_all, free_all, look_at, get, get_in, sets, fact, fact_i, tables, yes, RattleType, owns, ptr_val, types_at, plain, nothing, Stays, stay_dropped, walk_of, Goes-dropped, ghosts, proved_at, leaves}
use Rattle.lisp_embedded.specs.contracts.parts.BoxParts as parts
use Rattle.lisp_embedded.proofs.Steps.{Global-row, fields, word, word_good, ptr_good, fields_out, fields_in, boxed}
use Rattle.lisp_embedded.specs.contracts.hosted.HostedServer.{the_row as core_row}
use Rattle.lisp_embedded.specs.contracts.server_handle.ServerHandle.{the_row}
use Rattle.lisp_embedded.specs.contracts.server_handle.ServerHandle.of_parts as f
use Rattle.lisp_embedded.proofs.server_handle.ServerHandle.of_parts.Statement.{statement}
use Rattle.lisp_embedded.proofs.server_handle.ServerHandle.of_parts.Code as code

abbrev Parts : RattleType
Parts = parts.the_row core_row Global-row ghosts

abbrev stayed : Stays f.ended.signature.params f.ended.kept
stayed = (stay_dropped (plain (λ _. Parts)) yes, tt)

pub of_parts_spec : {M : Type 1} → statement M
of_parts_spec 𝓤 𝓛 𝓜 𝓡 wired =
    let En = f.ended in let c = f.clauses 𝓛 𝓜.mem 𝓡.returns in let 𝓣 = tables 𝓤 𝓛.H 𝓜 𝓡 𝓡.env in
    proved_at 𝓛 En stayed c 𝓜 𝓡 (Goes-dropped 𝓛 0 (plain (λ _. Parts)) yes (λ κs x w. refl), tt)
    f.Key.name code.function (code.unfolded 𝓤 𝓛.H 𝓜 𝓡 wired) (λ y are.
    let κs = y.0.0 in let p = y.0.3.0.at in let a = y.0.3.0.alloc in let x = y.0.3.0.value in let Post : Val → SProp 𝓤 = (walk_of 𝓛 En stayed c).post y in
    let Runs : List Val → SProp 𝓤 = λ vs. WpFn 𝓤 𝓛.H 𝓣.C 𝓣.Λ code.function vs Post in
    qed 𝓛 ((‵ ftrue ⊛ ‵ (owns (types_at En.signature.params κs) y.0.3 y.0.4)) ∷ ‵ ftrue ∷ []) ∵
    split ! $ move ! (1 ∷ []) $ fsplit ! $ use1 𝓛 (‵ (fsep (fields.own_val (p, (a, tt)) y.0.4.0) (boxed core_row a p x))) (id⊢ 𝓤 _) $ fsplit ! $
    fields_out ! p a y.0.4.0 (λ h is fits.
    let w : Val = word (ptr_val p) h in let good = word_good p h fits in let out : the_row.Denot = record { at = p; alloc = a; value = Some x } in
    fields_in ! p a h $ fjoin ! $ use1 𝓛 (‵ (the_row.own_val out (w ∷ []))) (id⊢ 𝓤 _) $
    -- [the handle; nothing; no tokens; the empty `requires`]
    suffices ! (Runs (w ∷ [])) (subst (λ (us : List Val). ent 𝓤 (Runs (w ∷ [])) (Runs us)) (sym (λ i. is i ++ [])) (id⊢ 𝓤 (Runs (w ∷ [])))) $
    enter ! _ _ _ _ _ $ alloc_all ! (λ l. pass_all ! refl (good, tt) $
    sets ! (of_opd ! (get_in ! (fld ! refl (stop !)) (sub ! 0 refl (whole !)))) refl (ptr_good p) $
    sets ! (of_opd ! (get_in ! (fld ! refl (stop !)) (sub ! 1 refl (whole !)))) refl fits $
    sets ! (agg ! (and_then ! (get ! refl) (and_then ! (get ! refl) (no_more !)))) refl good $
    use0 𝓛 (raw (fact 𝓤 (out.value ≡ Some x))) (fact_i 𝓤 (out.value ≡ Some x) (emp 𝓤) refl) $ nothing ! $ nothing ! $ fjoin ! $
    returns ! (look_at ! 0 refl) $ free_all ! refl $
    -- [nothing is left of the parts; the `ensures`; the handle; nothing; no tokens; the empty `requires`]
    keep ! (4 ∷ 0 ∷ 2 ∷ 1 ∷ []) $ by ! (leaves 𝓛 En stayed c y w out (tt, tt) (tt, tt)))))
