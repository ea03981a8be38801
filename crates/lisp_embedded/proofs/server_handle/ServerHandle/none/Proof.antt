-- `none` puts null and the allocator side by side.
-- A step's comment shows what is owned after it, from entry 0 on.
use Rattle.lisp_embedded.proofs.Names.{◌≡◌, List, [], ◌∷◌, ◌++◌, refl, sym, subst, None, Val, SProp, ent, emp, id⊢, ftrue, WpFn, ‵, raw, ◌⊛◌, ◌$◌, ◌∵◌, !, qed, by, move, keep, use0, use1, split, fsplit, fjoin, suffices, agg, lit, no_more, and_then, returns, enter, alloc_all, pass_all, free_all, look_at, get, sets, fact, fact_i, tables, yes, owns, null_ptr, ptr_val, types_at, plain, nothing, Stays, stay_dropped, walk_of, Goes-dropped, handle_tells, proved_at, leaves}
use Rattle.lisp_embedded.proofs.Steps.{Global-row, global, fields, word, word_good, fields_in}
use Rattle.lisp_embedded.specs.contracts.server_handle.ServerHandle.{the_row}
use Rattle.lisp_embedded.specs.contracts.server_handle.ServerHandle.none as f
use Rattle.lisp_embedded.proofs.server_handle.ServerHandle.none.Statement.{statement}
use Rattle.lisp_embedded.proofs.server_handle.ServerHandle.none.Code as code

abbrev stayed : Stays f.ended.signature.params f.ended.kept
stayed = (stay_dropped (plain (λ _. Global-row)) yes, tt)

pub none_spec : {M : Type 1} → statement M
none_spec 𝓤 𝓛 𝓜 𝓡 wired =
    let En = f.ended in let c = f.clauses 𝓛 𝓜.mem 𝓡.returns in let 𝓣 = tables 𝓤 𝓛.H 𝓜 𝓡 𝓡.env in
    proved_at 𝓛 En stayed c 𝓜 𝓡 (Goes-dropped 𝓛 0 (plain (λ _. Global-row)) yes (λ κs x w. refl), tt)
    f.Key.name code.function (code.unfolded 𝓤 𝓛.H 𝓜 𝓡 wired) (λ y are.
    let κs = y.0.0 in let a = y.0.3.0 in let Post : Val → SProp 𝓤 = (walk_of 𝓛 En stayed c).post y in
    let Runs : List Val → SProp 𝓤 = λ vs. WpFn 𝓤 𝓛.H 𝓣.C 𝓣.Λ code.function vs Post in
    qed 𝓛 ((‵ ftrue ⊛ ‵ (owns (types_at En.signature.params κs) y.0.3 y.0.4)) ∷ ‵ ftrue ∷ []) ∵
    split ! $ move ! (1 ∷ []) $ fsplit ! $ handle_tells global ! a y.0.4.0 (λ h is fits.
    let w : Val = word (ptr_val null_ptr) h in let out : the_row.Denot = record { at = null_ptr; alloc = a; value = None } in
    fields_in ! null_ptr a h $ nothing ! $ move ! (1 ∷ 0 ∷ []) $
    use1 𝓛 (‵ (fields.own_val (null_ptr, (a, tt)) (w ∷ []))) (id⊢ 𝓤 _) $ fjoin ! $ use1 𝓛 (‵ (the_row.own_val out (w ∷ []))) (id⊢ 𝓤 _) $
    -- [the handle; nothing; no tokens; the empty `requires`]
    suffices ! (Runs (h ∷ [])) (subst (λ (us : List Val). ent 𝓤 (Runs (h ∷ [])) (Runs us)) (sym (λ i. is i ++ [])) (id⊢ 𝓤 (Runs (h ∷ [])))) $
    enter ! _ _ _ _ _ $ alloc_all ! (λ l. pass_all ! refl (fits, tt) $
    sets ! (agg ! (and_then ! (lit ! tt) (and_then ! (get ! refl) (no_more !)))) refl (word_good null_ptr h fits) $
    use0 𝓛 (raw (fact 𝓤 (out.value ≡ None))) (fact_i 𝓤 (out.value ≡ None) (emp 𝓤) refl) $ nothing ! $ nothing ! $ fjoin ! $
    returns ! (look_at ! 0 refl) $ free_all ! refl $
    -- [nothing is left of the allocator; the `ensures`; the handle; nothing; no tokens; the empty `requires`]
    keep ! (4 ∷ 0 ∷ 2 ∷ 1 ∷ []) $ by ! (leaves 𝓛 En stayed c y w out (tt, tt) (tt, tt)))))
