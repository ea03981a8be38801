-- The steps of a walk over a struct of a pointer and `Global` that owns what `held` says. Assumes `Logic`.
--     Global-row, fields     the allocator as a row, and the two fields as a row;  word p h     the struct's machine value
--     Good, word_good        that value is of the struct's type;  ptr_good, some_good     so are the pointer, and `Some` of the struct
--     fields_out, fields_in  the fields by value are the allocator's handle
--     held_cases             what is held is nothing, at null, or what a box owns at a block that may be compared with null
use Rattle.lisp_embedded.proofs.Names.{◌≡◌, List, [], ◌∷◌, ◌++◌, refl, ◌∙◌, lit<, ℕ, Holds, Ty, impl, tnil, tcons, dnil, ty_ptr, ty_struct, bare, Val, vstruct, vcons, vnil, of_list, has_ty, WT, via, never, never_e, fst∗, snd∗, guard_i, Fml, ftrue, Logic, sem, Item, Goal, Seq, Step, step, ‵, given, ◌$◌, move, drop, use1, learn, fsplit, fjoin, fpick, fpack, feq_i, feq_l, live, fact_use, RattleType, Valss, Ptr, RawPtr, block_ptr, null_ptr, ptr_val, Testable, nothing, layout, box_owns, ghosts, Al, Fits, handle_tells}
use mathlib.Core.Bool.{Bool, true, false, ◌&&◌}
use seplogic.Ra.Ura.{Ura}
use denote.Memory.{lone}
use denote.Struct.Struct.{Struct, within}
use Rattle.std.specs.Ptr.{points_to}
use Rattle.std.specs.declared.alloc.Global.{Global}
use Rattle.std.specs.declared.option.Option.{Option}
use Rattle.std.specs.declared.option.Option.TheVariants.{None, Some}
use Rattle.std.specs.contracts.alloc.Global as heap
use Rattle.std.proofs.alloc.Global.TheLaws as heap_laws
use Rattle.std.proofs.GlobalToken.{dealloc_token-Testable}
use Rattle.lisp_embedded.specs.Held.{held}

abbrev pub Global-row : RattleType
Global-row = heap.the_row

abbrev pub global : Al
global = record { row = Global-row; laws = heap_laws.the_row_laws; g = ghosts; d = impl [] tnil dnil; drops = impl [] tnil dnil }

abbrev pub fields : RattleType
fields = Struct (record { name = []; args = []; types = []; fields = RawPtr ∷ Global-row ∷ [] })

abbrev pub word : Val → Val → Val
word p h = vstruct (vcons p (vcons h vnil))

alone : (y : Bool) → Holds y → Holds (y && true)
alone true t = tt
alone false t = absurd t

-- any struct's name does
abbrev pub struct_ty : Ty
struct_ty = ty_struct [] (tcons ty_ptr (tcons (layout Global-row) tnil))

abbrev pub Good : Val → Type 0
Good w = Holds (has_ty struct_ty w) × WT w

pub word_good : (p : Ptr) (h : Val) → Fits global h → Good (word (ptr_val p) h)
word_good (block_ptr b o) h fits = (alone (has_ty (layout Global-row) h) fits.0, (tt, (fits.1, tt)))
word_good null_ptr h fits = (alone (has_ty (layout Global-row) h) fits.0, (record { fits = lit< tt }, (fits.1, tt)))

pub some_good : (w : Val) → Good w → Holds (has_ty struct_ty w && true) × WT (live 1 (vcons w vnil))
some_good w good = (alone (has_ty struct_ty w) good.0, (record { fits = lit< tt }, (good.1, tt)))

pub ptr_good : (p : Ptr) → Holds (has_ty ty_ptr (ptr_val p)) × WT (ptr_val p)
ptr_good (block_ptr b o) = (tt, tt)
ptr_good null_ptr = (tt, record { fits = lit< tt })

module _ (R : RattleType) (a : Global) where
  abbrev pub boxed : Ptr → R.Denot → Fml
  boxed p x = box_owns (ghosts.dealloc_token a) R p x

module _ {M : Type 1} {𝓤 : Ura M} {𝓛 : Logic 𝓤} {K : Type 0} {Γ : List (Item 𝓤)} {G : Goal 𝓤 𝓛.H} where
  pub fields_out : K → (p : Ptr) (a : Global) (vs : List Val)
      → ((h : Val) → vs ≡ word (ptr_val p) h ∷ [] → Fits global h → Seq K 𝓛 (‵ (Global-row.own_val a (h ∷ [])) ∷ Γ) G)
      → Seq K 𝓛 (‵ (fields.own_val (p, (a, tt)) vs) ∷ Γ) G
  fields_out t p a vs next =
      fpick t (λ vss. fsplit t $ feq_l t (λ is. fsplit t $ feq_l t (λ is_ptr. fsplit t $ handle_tells global t a vss.1.0 (λ h is_handle fits.
      move t (1 ∷ []) $ drop t $ next h (is ∙ (λ i. vstruct (of_list (is_ptr i ++ (is_handle i ++ []))) ∷ [])) fits))))

  pub fields_in : K → (p : Ptr) (a : Global) (h : Val)
      → Step K 𝓛 (‵ (fields.own_val (p, (a, tt)) (word (ptr_val p) h ∷ [])) ∷ Γ) G (‵ (Global-row.own_val a (h ∷ [])) ∷ Γ) G
  fields_in t p a h = step (λ s. let w : Val = word (ptr_val p) h in
      nothing t $ move t (1 ∷ 0 ∷ []) $ fjoin t $ feq_i t (List Val) (ptr_val p ∷ []) (ptr_val p ∷ []) refl $ fjoin t $
      feq_i t (List Val) (w ∷ []) (w ∷ []) refl $ fjoin t $
      fpack t (Valss (RawPtr ∷ Global-row ∷ [])) (within (record { name = []; args = []; types = []; fields = RawPtr ∷ Global-row ∷ [] }) (p, (a, tt)) (w ∷ [])) (ptr_val p ∷ [], (h ∷ [], tt)) $ s)

  module _ (R : RattleType) (a : Global) where
    pub held_cases : K → (p : Ptr) (x : Option R.Denot) → (p ≡ null_ptr → x ≡ None → Seq K 𝓛 Γ G)
        → ((b o : ℕ) (y : R.Denot) → p ≡ block_ptr b o → x ≡ Some y → Testable (block_ptr b o) → Seq K 𝓛 (‵ (boxed R a (block_ptr b o) y) ∷ Γ) G)
        → Seq K 𝓛 (‵ (held R a p x) ∷ Γ) G
    held_cases t null_ptr None none some = drop t $ none refl refl
    held_cases t (block_ptr b o) None none some = use1 𝓛 (given ⊥ (‵ ftrue)) (never_e 𝓤 _) $ learn t (λ z. absurd z)
    held_cases t null_ptr (Some y) none some =
        use1 𝓛 (given ⊥ (‵ ftrue)) (via 𝓤 (never 𝓤) (fst∗ 𝓤 (never 𝓤) (sem 𝓛 (ghosts.dealloc_token a (bare (lone R.mir)) null_ptr))) (never_e 𝓤 _)) $ learn t (λ z. absurd z)
    held_cases t (block_ptr b o) (Some y) none some =
        let p : Ptr = block_ptr b o in
        use1 𝓛 (given (Testable p) (‵ (boxed R a p y)))
        (fact_use 𝓤 (Testable p) (via 𝓤 _ (snd∗ 𝓤 (sem 𝓛 (points_to R p y)) (sem 𝓛 (ghosts.dealloc_token a (bare (lone R.mir)) p))) (dealloc_token-Testable 𝓛 a (bare (lone R.mir)) p)) (guard_i 𝓤 (Testable p) (sem 𝓛 (boxed R a p y)))) $
        learn t (λ ok. some b o y refl refl ok)
