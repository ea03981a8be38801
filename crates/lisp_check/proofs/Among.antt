-- Headers that are among others.
use Rattle.std.proofs.Common.{◌≡◌, List, IfSome, subst}
use Rattle.std.specs.Prelude.{Option, Some, None}
use Rattle.lisp_check.specs.declared.header.Header.{Header}
use Rattle.lisp_check.specs.Header.{AreAmong}

pub among_same : (some all same : List Header) → AreAmong some all → all ≡ same → AreAmong some same
among_same some all same among is = subst (λ (l : List Header). AreAmong some l) is among

pub some_among : {X : Type 0} (those : X → List Header) (found : Option X) (some all : List Header) → IfSome found (λ x. AreAmong (those x) some) → AreAmong some all
    → IfSome found (λ x. AreAmong (those x) all)
some_among those (Some x) some all found among = λ h there. among h (found h there)
some_among those None some all found among = tt
