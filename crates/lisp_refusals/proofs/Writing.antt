-- Texts that are written one after the other.
use Rattle.std.proofs.Common.{ℕ, List, ◌++◌, Option, Some, None, Result, Ok, Err, OnOk, ap, ◌∙◌, append_assoc, subst}
use Rattle.std.specs.Io.KnownBytes.{Appends}

pub appends_two : (a b c : Option (List ℕ)) (x y : List ℕ) → Appends a b x → Appends b c y → Appends a c (x ++ y)
appends_two None b c x y first second = tt
appends_two (Some xs) None c x y first second = absurd first
appends_two (Some xs) (Some ys) None x y first second = absurd second
appends_two (Some xs) (Some ys) (Some zs) x y first second = second ∙ ap (λ l. l ++ y) first ∙ append_assoc xs x y

pub appends_more : (a b c : Option (List ℕ)) (x y z : List ℕ) → Appends a b (x ++ y) → Appends b c z → Appends a c (x ++ (y ++ z))
appends_more a b c x y z first second = subst (λ l. Appends a c l) (append_assoc x y z) (appends_two a b c (x ++ y) z first second)

-- what follows from a fact at `Ok`
pub ok_weaker : {A B : Type 0} (r : Result A B) (P Q : Type 0) → (P → Q) → OnOk r P → OnOk r Q
ok_weaker (Ok x) P Q follows p = follows p
ok_weaker (Err e) P Q follows p = tt
