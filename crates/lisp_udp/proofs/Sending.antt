-- Datagrams are sent one after the other.
use Rattle.std.proofs.Common.{◌≡◌, ℕ, suc, zero, ◌+◌, ◌≤◌, List, [], ◌∷◌, length, drop, Option, Some, None, refl, ap, sym, subst, slice_get, arith}
use Rattle.std.proofs.lemmas.Option.{same_Some}
use Rattle.std.specs.Io.KnownBytes.{Appends}
use Rattle.lisp_refinement.specs.World.{DatagramValue}
use Rattle.lisp_udp.specs.Network.{SendsAll}
use Rattle.lisp_udp.specs.Sockets.{SocketValue, SendsOne}

-- what is left from a place on begins with what stands there
drop_from : {X : Type 0} (xs : List X) (k : ℕ) (x : X) → slice_get xs k ≡ Some x → drop k xs ≡ x ∷ drop (suc k) xs
drop_from [] zero x at = absurd cc
drop_from [] (suc k) x at = absurd cc
drop_from (y ∷ xs) zero x at = ap (λ z. z ∷ xs) (same_Some y x at)
drop_from (y ∷ xs) (suc k) x at = drop_from xs k x at

-- nothing is left past the end
pub drop_past : {X : Type 0} (xs : List X) (k : ℕ) → length xs ≤ k → drop k xs ≡ []
drop_past [] zero past = refl
drop_past [] (suc k) past = refl
drop_past (x ∷ xs) zero past = absurd (omega (arith, past))
drop_past (x ∷ xs) (suc k) past = drop_past xs k (omega (arith, past))

-- nothing stands past the end
none_past : {X : Type 0} (xs : List X) (k : ℕ) → slice_get xs k ≡ None → length xs ≤ k
none_past [] k none = omega arith
none_past (x ∷ xs) zero none = absurd cc
none_past (x ∷ xs) (suc k) none = omega (arith, none_past xs k none)

-- those from a first one up to the one with a number were sent: what sends the others makes it all
abbrev pub SentSoFar : List SocketValue → List SocketValue → Option (List ℕ) → Option (List ℕ) → List DatagramValue → ℕ → ℕ → Type 0
SentSoFar old now before told bag first k = (left : List SocketValue) (after : Option (List ℕ))
    → SendsAll now left (drop k bag) told after → SendsAll old left (drop first bag) before after

-- the number of the next one
pub next_of : (k : ℕ) → suc k ≡ k + 1
next_of k = omega arith

pub sent_more : (old now between : List SocketValue) (before told after : Option (List ℕ)) (bag : List DatagramValue) (first k : ℕ) (d : DatagramValue) (text : List ℕ)
    → SentSoFar old now before told bag first k → slice_get bag k ≡ Some d → SendsOne now between d text → Appends told after text
    → SentSoFar old between before after bag first (k + 1)
sent_more old now between before told after bag first k d text so_far at one appends left end rest =
    so_far left end (rw (drop_from bag k d at) (between, text, after, one, appends, subst (λ n. SendsAll between left (drop n bag) after end) (sym (next_of k)) rest))

pub sent_all : (old now : List SocketValue) (before told : Option (List ℕ)) (bag : List DatagramValue) (first k : ℕ)
    → SentSoFar old now before told bag first k → length bag ≤ k → SendsAll old now (drop first bag) before told
sent_all old now before told bag first k so_far past = so_far now told (rw (drop_past bag k past) (refl, refl))

pub sent_none : (old now : List SocketValue) (before told : Option (List ℕ)) (bag : List DatagramValue) (first k : ℕ)
    → SentSoFar old now before told bag first k → slice_get bag k ≡ None → SentSoFar old now before told bag first (k + 1)
sent_none old now before told bag first k so_far none left end rest =
    let past : length bag ≤ k = none_past bag k none in
    let over : drop (k + 1) bag ≡ [] = drop_past bag (k + 1) (omega (arith, past)) in
    so_far left end (rw (drop_past bag k past) (rw over at rest))
