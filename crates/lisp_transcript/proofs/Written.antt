-- What went out, and what is still to come.
use Rattle.std.proofs.Common.{◌≡◌, ℕ, List, [], ◌++◌, Option, None, Some, refl, sym, ap, subst, ◌∙◌, append_assoc, append-nil}
use Rattle.std.specs.Io.KnownBytes.{Appends}

-- nothing went out, and two texts did
nothing : (a : Option (List ℕ)) → Appends a a []
nothing None = tt
nothing (Some x) = sym (append-nil x)

pub both : (a b c : Option (List ℕ)) (first second : List ℕ) → Appends a b first → Appends b c second → Appends a c (first ++ second)
both None b c first second p q = tt
both (Some x) None c first second p q = absurd p
both (Some x) (Some y) None first second p q = absurd q
both (Some x) (Some y) (Some z) first second p q = q ∙ ap (λ (t : List ℕ). t ++ second) p ∙ append_assoc x first second

-- a front of a text went out, and the rest is still to come
pub record IsWriting (whole left : List ℕ) (before now : Option (List ℕ)) : Type 0 where
  pub done : List ℕ
  pub parts : whole ≡ done ++ left
  pub wrote : Appends before now done

pub begins : (whole : List ℕ) (before : Option (List ℕ)) → IsWriting whole whole before before
begins whole before = record { done = []; parts = refl; wrote = nothing before }

pub goes_on : (whole left text later : List ℕ) (before mid now : Option (List ℕ)) → IsWriting whole left before mid → left ≡ text ++ later → Appends mid now text → IsWriting whole later before now
goes_on whole left text later before mid now so_far is more = record {
  done = so_far.done ++ text;
  parts = so_far.parts ∙ ap (λ (t : List ℕ). so_far.done ++ t) is ∙ sym (append_assoc so_far.done text later);
  wrote = both before mid now so_far.done text so_far.wrote more;
}

pub ends : (whole left : List ℕ) (before now : Option (List ℕ)) → IsWriting whole left before now → left ≡ [] → Appends before now whole
ends whole left before now so_far is =
    let all : so_far.done ≡ whole = sym (append-nil so_far.done) ∙ ap (λ (t : List ℕ). so_far.done ++ t) (sym is) ∙ sym so_far.parts in
    subst (λ (t : List ℕ). Appends before now t) all so_far.wrote

pub ruleset steps = (begins, goes_on, ends)
