-- What a nonce is kept for, and the order of these pairs.
use Rattle.std.specs.Prelude.{◌≡◌, ℕ, zero, suc}
use Rattle.std.specs.declared.cmp.Ordering.{Ordering}
use Rattle.std.specs.Ordering.{nat_cmp, ordering_then}
use Rattle.std.specs.Coded.{Coded, coded_ℕ, coded_list, coded×, code_by}
use Rattle.std.specs.Prelude.{List, refl}
use Rattle.lisp_records.specs.Router.{router_cmp}
use Rattle.lisp_nonces.specs.declared.pair.PairKind.{PairKind}
use Rattle.lisp_nonces.specs.declared.pair.PairKind.TheVariants.{Sent, Received, Notice}
use Rattle.lisp_nonces.specs.declared.pair.Pair.{Pair}

abbrev pub kind_number : PairKind → ℕ
kind_number Sent = 0
kind_number Received = 1
kind_number Notice = 2

-- by kind, then router, then key
abbrev pub pair_cmp : Pair → Pair → Ordering
pair_cmp a b = ordering_then (nat_cmp (kind_number a.kind) (kind_number b.kind)) (ordering_then (router_cmp a.router b.router) (nat_cmp a.key b.key))

-- the code of a pair, so that a map by pairs can be a model's value
abbrev pub kind_from : ℕ → PairKind
kind_from zero = Sent
kind_from (suc zero) = Received
kind_from _ = Notice

abbrev pub parts : Pair → ℕ × ((ℕ × List ℕ) × ℕ)
parts p = (kind_number p.kind, ((p.router.site, p.router.xtr), p.key))

abbrev pub from_parts : ℕ × ((ℕ × List ℕ) × ℕ) → Pair
from_parts t = record { kind = kind_from t.0; router = record { site = t.1.0.0; xtr = t.1.0.1 }; key = t.1.1 }

kind_again : (k : PairKind) → kind_from (kind_number k) ≡ k
kind_again Sent = refl
kind_again Received = refl
kind_again Notice = refl

pub again : (p : Pair) → from_parts (parts p) ≡ p
again p = λ i. record { kind = kind_again p.kind i; router = p.router; key = p.key }

abbrev pub pair_code : Coded Pair
pair_code = code_by (ℕ × ((ℕ × List ℕ) × ℕ)) (coded× coded_ℕ (coded× (coded× coded_ℕ (coded_list coded_ℕ)) coded_ℕ)) parts from_parts again
