-- Fields whose value is a text.
use Rattle.std.proofs.Common.{◌≡◌, ℕ, List, Option, Some, None, Result, Ok, Err, refl, sym, ap, subst}
use Rattle.std.specs.Prelude.{IfErr, ok_or, option_and_then}
use Rattle.std.specs.Option.{option_map}
use Rattle.lisp_records.specs.Result.{Reads}
use Rattle.toml.specs.Data.{Data, as_str, get}
use Rattle.lisp_sites.specs.declared.field.Field.{Field}
use Rattle.lisp_sites.specs.declared.fault.ConfigFault.{ConfigFault}
use Rattle.lisp_sites.specs.declared.fault.ConfigFault.TheVariants.{Toml, Missing, BadValue, Repeated, OutOfMemory}
use Rattle.lisp_texts.specs.Reading.{◌>>=◌}
use Rattle.lisp_sites.specs.Form.{text_as}
use Rattle.lisp_sites.specs.Table.{Fails, required_at, required}
use Rattle.lisp_sites.proofs.Readings.{not_ok, same_ok}

same_fault : {X Y : Type 0} (a e : ConfigFault) → ◌≡◌ {A = Result X ConfigFault} (Err a) (Err e) → ◌≡◌ {A = Result Y ConfigFault} (Err a) (Err e)
same_fault {X} a e h = ap Err (subst (λ (r : Result X ConfigFault). IfErr r (λ z. a ≡ z)) h refl)

no_text_in : {X : Type 0} (name : Field) (form : List ℕ → Option X) (e : ConfigFault) (t : Option (List ℕ)) → ok_or t (BadValue name) ≡ Err e → ok_or (t >>= form) (BadValue name) ≡ Err e
no_text_in {X} name form e None h = same_fault {X = List ℕ} {Y = X} (BadValue name) e h
no_text_in name form e (Some t) h = absurd (not_ok e t (sym h))

no_text_at : {X : Type 0} (name : Field) (form : List ℕ → Option X) (e : ConfigFault) (found : Option Data) → required_at name as_str found ≡ Err e → required_at name (text_as form) found ≡ Err e
no_text_at {X} name form e None h = same_fault {X = List ℕ} {Y = X} (Missing name) e h
no_text_at name form e (Some v) h = no_text_in name form e (as_str v) h

-- where a field is no text, it has no form that a text may have
pub no_text : {X : Type 0} (name : Field) (key : List ℕ) (form : List ℕ → Option X) (e : ConfigFault) (d : Data) → required name key as_str d ≡ Err e → required name key (text_as form) d ≡ Err e
no_text name key form e d h = no_text_at name form e (get key d) h

-- a fault is the one that reading meets
pub fails_met : {Y : Type 0} (e : ConfigFault) (read : Result Y ConfigFault) → read ≡ Err e → Fails e read
fails_met Toml read at = at
fails_met (Missing name) read at = at
fails_met (BadValue name) read at = at
fails_met (Repeated name) read at = at
fails_met OutOfMemory read at = tt

-- ---- what is looked up by a field's value

looked_up_in-Err : {X Y : Type 0} (w e : ConfigFault) (g : X → Option Y) (o : Option X) → ok_or o w ≡ Err e → ok_or (option_and_then g o) w ≡ Err e
looked_up_in-Err {X} {Y} w e g None h = same_fault {X = X} {Y = Y} w e h
looked_up_in-Err w e g (Some x) h = absurd (not_ok e x (sym h))

looked_up_at-Err : {X Y : Type 0} (name : Field) (form : Data → Option X) (g : X → Option Y) (e : ConfigFault) (found : Option Data) → required_at name form found ≡ Err e → required_at name (λ v. option_and_then g (form v)) found ≡ Err e
looked_up_at-Err {X} {Y} name form g e None h = same_fault {X = X} {Y = Y} (Missing name) e h
looked_up_at-Err name form g e (Some v) h = looked_up_in-Err (BadValue name) e g (form v) h

-- where the field isn't read, nothing is looked up
pub looked_up-Err : {X Y : Type 0} (name : Field) (key : List ℕ) (form : Data → Option X) (g : X → Option Y) (e : ConfigFault) (d : Data) → Err e ≡ required name key form d → required name key (λ v. option_and_then g (form v)) d ≡ Err e
looked_up-Err name key form g e d h = looked_up_at-Err name form g e (get key d) (sym h)

looked_up_in-Ok : {X Y : Type 0} (w : ConfigFault) (g : X → Option Y) (o : Option X) (x : X) → ok_or o w ≡ Ok x → ok_or (option_and_then g o) w ≡ ok_or (g x) w
looked_up_in-Ok w g None x h = absurd (not_ok w x h)
looked_up_in-Ok {X} w g (Some y) x h = ap (λ (z : X). ok_or (g z) w) (same_ok y x h)

looked_up_at-Ok : {X Y : Type 0} (name : Field) (form : Data → Option X) (g : X → Option Y) (x : X) (found : Option Data) → required_at name form found ≡ Ok x → required_at name (λ v. option_and_then g (form v)) found ≡ ok_or (g x) (BadValue name)
looked_up_at-Ok name form g x None h = absurd (not_ok (Missing name) x h)
looked_up_at-Ok name form g x (Some v) h = looked_up_in-Ok (BadValue name) g (form v) x h

-- where it is read, its value is looked up
pub looked_up-Ok : {X Y : Type 0} (name : Field) (key : List ℕ) (form : Data → Option X) (g : X → Option Y) (x : X) (d : Data) → Ok x ≡ required name key form d → required name key (λ v. option_and_then g (form v)) d ≡ ok_or (g x) (BadValue name)
looked_up-Ok name key form g x d h = looked_up_at-Ok name form g x (get key d) (sym h)

-- what is found is seen by its view
pub reads_found : {X Y : Type 0} (view : X → Y) (o : Option X) (found : Option Y) (w : ConfigFault) → option_map view o ≡ found → Reads view (ok_or o w) (ok_or found w)
reads_found view None found w e = ap (λ o. ok_or o w) (sym e)
reads_found view (Some x) found w e = ap (λ o. ok_or o w) (sym e)
