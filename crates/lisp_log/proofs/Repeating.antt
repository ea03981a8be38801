-- What repeats is the same where the test says so.
use Rattle.std.proofs.Common.{◌≡◌, true, refl, sym, ap, subst}
use Rattle.std.proofs.lemmas.Bool.{true≢false}
use Rattle.std.proofs.lemmas.Bool.Decides.{Decides-eqb}
use Rattle.lisp_log.specs.declared.repeats.Repeated.{Repeated}
use Rattle.lisp_log.specs.declared.repeats.Repeated.TheVariants.{Refused, Replied, Negative, Forwarded, Unanswered}
use Rattle.lisp_log.specs.Sums.{repeated_eq, EqualIsSame}

same : (one other : Repeated) → repeated_eq one other ≡ true → one ≡ other
same (Refused number) (Refused other) is = ap Refused ((Decides-eqb number other).0 is)
same Replied Replied is = refl
same Negative Negative is = refl
same Forwarded Forwarded is = refl
same Unanswered Unanswered is = refl
same _ _ is = absurd (true≢false (sym is))

itself : (one : Repeated) → repeated_eq one one ≡ true
itself (Refused number) = (Decides-eqb number number).1 refl
itself Replied = refl
itself Negative = refl
itself Forwarded = refl
itself Unanswered = refl

pub equal_is_same : EqualIsSame
equal_is_same one other = (same one other, λ is. subst (λ (what : Repeated). repeated_eq one what ≡ true) is (itself one))
