-- One refusal is no other.
use Rattle.std.proofs.Common.{◌≡◌, ap, sym, ◌∙◌, Result, Ok, Err}
use Rattle.std.specs.Result.{IsErrAnd}
use Rattle.std.specs.Prelude.{◌≢◌}
use Rattle.lisp_admission.specs.Refused.{refused_number}
use Rattle.lisp_admission.specs.declared.refused.Refused.{Refused}

-- the refusal of a result; two refusals with numbers of their own are not the same
abbrev refusal_in : {X : Type 0} → Refused → Result X Refused → Refused
refusal_in other (Ok x) = other
refusal_in other (Err refused) = refused

pub is_other : {X : Type 0} {one other : Refused} → refused_number one ≢ refused_number other → ◌≡◌ {A = Result X Refused} (Err one) (Err other) → ⊥
is_other {X} {one} {other} differ same = differ (ap (λ r. refused_number (refusal_in other r)) same)

-- what a `?` hands on is no other refusal than what it met
pub handed_on : {X Y : Type 0} (r : Result Y Refused) (met other : Refused) → IsErrAnd r (λ y. y ≡ met) → (◌≡◌ {A = Result X Refused} (Err met) (Err other) → ⊥) → r ≡ Err other → ⊥
handed_on (Ok y) met other never differ same = never
handed_on {X} {Y} (Err y) met other is differ same = differ (ap Err (sym is ∙ ap (refusal_in y) same))
