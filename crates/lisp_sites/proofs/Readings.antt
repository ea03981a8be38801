-- What is known of a value that was read.
use Rattle.std.proofs.Common.{◌≡◌, ℕ, ◌+◌, Bool, true, false, ◌<◌, List, [], ◌∷◌, ◌++◌, length, get_or, Option, Some, None, Result, Ok, Err, refl, sym, ap, subst, ◌∙◌, true≢false, arith}
use Rattle.std.specs.Prelude.{IfOk, ok_or, option_and_then}
use Rattle.std.specs.List.{AllByRecursion, AllPairs, list_any}
use Rattle.std.specs.Result.{result_ok}
use Rattle.std.proofs.lemmas.List.Folds.{list_any_at}
use Rattle.std.proofs.lemmas.List.Quantifiers.{all_pairs_push}
use Rattle.std.proofs.lemmas.Option.{none-some, same_Some}
use Rattle.toml.specs.Data.{Data, Items, no_items, item, get, as_str}
use Rattle.lisp_texts.proofs.Options.{bind_some}
use Rattle.lisp_sites.specs.declared.field.Field.{Field}
use Rattle.lisp_sites.specs.declared.fault.ConfigFault.{ConfigFault}
use Rattle.lisp_sites.specs.declared.fault.ConfigFault.TheVariants.{Missing, BadValue, Repeated}
use Rattle.lisp_sites.specs.declared.place.PlacedFault.{PlacedFault}
use Rattle.lisp_sites.specs.Form.{text_as}
use Rattle.lisp_records.specs.Result.{◌>>=◌}
use Rattle.lisp_sites.specs.Table.{required_at, required, fresh, nowhere, placed_nowhere, within, in_entry, each, flat}

-- ---- one value

-- a fault is no value
pub not_ok : {X E : Type 0} (w : E) (x : X) → ◌≡◌ {A = Result X E} (Err w) (Ok x) → ⊥
not_ok {X} {E} w x e = subst (λ (r : Result X E). IfOk r (λ z. ⊥)) e tt

pub same_ok : {X E : Type 0} (x y : X) → ◌≡◌ {A = Result X E} (Ok x) (Ok y) → x ≡ y
same_ok {X} {E} x y e = subst (λ (r : Result X E). IfOk r (λ z. x ≡ z)) e refl

-- the value of a step that was taken
pub bind_ok : {A B E : Type 0} (r : Result A E) (f : A → Result B E) (y : B) → (r >>= f) ≡ Ok y → (x : A) × (r ≡ Ok x) × (f x ≡ Ok y)
bind_ok (Ok x) f y e = (x, refl, e)
bind_ok (Err w) f y e = absurd (not_ok w y e)

-- the same where its fault is told without an entry, or with one
pub told-Ok : {X : Type 0} (r : Result X ConfigFault) (x : X) → placed_nowhere r ≡ Ok x → r ≡ Ok x
told-Ok (Ok y) x e = ap Ok (same_ok y x e)
told-Ok (Err w) x e = absurd (not_ok (record { fault = w; place = nowhere }) x e)

in_entry-Ok : {X : Type 0} (array : Field) (number : ℕ) (r : Result X PlacedFault) (x : X) → in_entry array number r ≡ Ok x → r ≡ Ok x
in_entry-Ok array number (Ok y) x e = ap Ok (same_ok y x e)
in_entry-Ok array number (Err f) x e = absurd (not_ok (within array number f) x e)

pub bind_told : {A B : Type 0} (r : Result A ConfigFault) (f : A → Result B PlacedFault) (y : B) → (placed_nowhere r >>= f) ≡ Ok y → (x : A) × (r ≡ Ok x) × (f x ≡ Ok y)
bind_told r f y e = let x = bind_ok (placed_nowhere r) f y e in (x.0, told-Ok r x.0 x.1, x.2)

pub ok_or-Ok : {X : Type 0} (o : Option X) (w : ConfigFault) (x : X) → ok_or o w ≡ Ok x → o ≡ Some x
ok_or-Ok (Some y) w x e = ap Some (same_ok y x e)
ok_or-Ok None w x e = absurd (not_ok w x e)

pub result_ok-Some : {X E : Type 0} (r : Result X E) (x : X) → result_ok r ≡ Some x → r ≡ Ok x
result_ok-Some (Ok y) x e = ap Ok (same_Some y x e)
result_ok-Some (Err w) x e = absurd (none-some x e)

pub and_then-Some : {A B : Type 0} (f : A → Option B) (o : Option A) (y : B) → option_and_then f o ≡ Some y → (x : A) × (o ≡ Some x) × (f x ≡ Some y)
and_then-Some f (Some x) y e = (x, refl, e)
and_then-Some f None y e = absurd (none-some y e)

-- a field that has to be there is of its form
pub required-Ok : {X : Type 0} (name : Field) (key : List ℕ) (form : Data → Option X) (entry : Data) (x : X) → required name key form entry ≡ Ok x → (v : Data) × (form v ≡ Some x)
required-Ok {X} name key form entry x e = at (get key entry) e
  where
    at : (found : Option Data) → required_at name form found ≡ Ok x → (v : Data) × (form v ≡ Some x)
    at None e = absurd (not_ok (Missing name) x e)
    at (Some v) e = (v, ok_or-Ok (form v) (BadValue name) x e)

-- the same of one that is a text
pub required_text-Ok : {X : Type 0} (name : Field) (key : List ℕ) (form : List ℕ → Option X) (entry : Data) (x : X) → required name key (text_as form) entry ≡ Ok x → (text : List ℕ) × (form text ≡ Some x)
required_text-Ok name key form entry x e =
    let v = required-Ok name key (text_as form) entry x e in
    let t = bind_some (as_str v.0) form x v.1 in
    (t.0, t.2)

-- a value that no earlier one is like
pub fresh-Ok : {X : Type 0} (name : Field) (read : Result X ConfigFault) (is_taken : X → Bool) (x : X) → (read >>= λ y. fresh name (is_taken y) y) ≡ Ok x → (read ≡ Ok x) × (is_taken x ≡ false)
fresh-Ok {X} name read is_taken x e =
    let y = bind_ok read (λ y. fresh name (is_taken y) y) x e in
    let new = at (is_taken y.0) y.0 y.2 in
    (y.1 ∙ ap Ok new.1, subst (λ (z : X). is_taken z ≡ false) new.1 new.0)
  where
    at : (taken : Bool) (y : X) → fresh name taken y ≡ Ok x → (taken ≡ false) × (y ≡ x)
    at true y e = absurd (not_ok (Repeated name) x e)
    at false y e = (refl, same_ok y x e)

-- none of the earlier ones is like it, as a fact
pub none_like : {X : Type 0} (test : X → Bool) (Like : X → Type 0) → ((x : X) → Like x → test x ≡ true) → (xs : List X) → list_any test xs ≡ false → (k : ℕ) (d : X) → k < length xs → Like (get_or xs k d) → ⊥
none_like test Like passes xs none k d lt like = true≢false (sym (list_any_at test xs k d lt (passes (get_or xs k d) like)) ∙ none)

-- ---- the entries of an array

-- what goes on from the entries before one to that one too holds of all
pub each_keeps : {X : Type 0} (P : List X → Type 0) (array : Field) (read : List X → Data → Result X PlacedFault) → ((before : List X) (d : Data) (x : X) → read before d ≡ Ok x → P before → P (before ++ x ∷ [])) → (ds : Items) (before xs : List X) (number : ℕ) → each array read before number ds ≡ Ok xs → P before → P xs
unfolding each
each_keeps P array read next no_items before xs number e so_far = subst P (same_ok before xs e) so_far
each_keeps P array read next (item d ds) before xs number e so_far =
    let x = bind_ok (in_entry array number (read before d)) _ xs e in
    each_keeps P array read next ds (before ++ x.0 ∷ []) xs (number + 1) x.2 (next before d x.0 (in_entry-Ok array number (read before d) x.0 x.1) so_far)

pub all_push : {X : Type 0} (Kind : X → Type 0) (xs : List X) (x : X) → AllByRecursion Kind xs → Kind x → AllByRecursion Kind (xs ++ x ∷ [])
all_push Kind [] x all one = (one, tt)
all_push Kind (y ∷ ys) x all one = (all.0, all_push Kind ys x all.1 one)

-- what is known of an entry is known of it where it has no entries of its own
pub one_flat : {X : Type 0} {Known : List X → X → Type 0} (read : List X → Data → Result X ConfigFault) → ((before : List X) (d : Data) (x : X) → read before d ≡ Ok x → Known before x) → (before : List X) (d : Data) (x : X) → flat read before d ≡ Ok x → Known before x
one_flat read one before d x e = one before d x (told-Ok (read before d) x e)

-- entries of a kind, each two of them apart
pub record AreApart {X : Type 0} (Kind : X → Type 0) (Apart : X → X → Type 0) (xs : List X) : Type 0 where
  pub kind : AllByRecursion Kind xs
  pub apart : AllPairs Apart xs

-- one of the kind, apart from all before it
pub record Joins {X : Type 0} (Kind : X → Type 0) (Apart : X → X → Type 0) (before : List X) (x : X) : Type 0 where
  pub kind : Kind x
  pub apart : (k : ℕ) (d : X) → k < length before → Apart (get_or before k d) x

-- entries that are read so
pub each_apart : {X : Type 0} (Kind : X → Type 0) (Apart : X → X → Type 0) (array : Field) (read : List X → Data → Result X PlacedFault) → ((before : List X) (d : Data) (x : X) → read before d ≡ Ok x → Joins Kind Apart before x) → (ds : Items) (xs : List X) → each array read [] 1 ds ≡ Ok xs → AreApart Kind Apart xs
each_apart Kind Apart array read one ds xs e =
    each_keeps (AreApart Kind Apart) array read
    (λ before d x reads so_far. (let new = one before d x reads in record { kind = all_push Kind before x so_far.kind new.kind; apart = all_pairs_push Apart before x so_far.apart new.apart }))
    ds [] xs 1 e (record { kind = tt; apart = λ i j d lt within. absurd (omega arith) })
