-- The fields of a record, each way: what a step of reading took stands in the bytes, and what is
-- written there is read again.
use Rattle.std.proofs.Common.{◌≡◌, ℕ, zero, suc, ◌+◌, ◌*◌, ◌<◌, ◌≤◌, Bool, true, false, cond, eqb, ltb, List, [], ◌∷◌, ◌++◌, length, take, drop, Result, Ok, Err, refl, sym, ap, subst, ◌∙◌, arith}
use Rattle.std.specs.Int.{w16, from_be_bytes, to_be_bytes, from_bool}
use Rattle.std.specs.List.{AllByRecursion}
use Rattle.std.proofs.lemmas.Bool.{ltb-false, le-ltb, eqb-true}
use Rattle.std.proofs.lemmas.Bool.Decides.{nat_tests}
use Rattle.std.proofs.lemmas.List.{take_at, drop_at, take-append-drop, length-append, length-take, get_or-append-add, get_or-drop}
use Rattle.std.proofs.lemmas.Nat.{be_bytes_2}
use Rattle.lisp_records.specs.declared.address.Addr.{Addr}
use Rattle.lisp_records.specs.declared.address.Addr.TheVariants.{V4, V6}
use Rattle.lisp_records.specs.declared.address.Family.{Family}
use Rattle.lisp_records.specs.declared.address.Family.TheVariants.{Ipv4, Ipv6}
use Rattle.lisp_records.specs.declared.fault.RecordFault.{RecordFault}
use Rattle.lisp_records.specs.declared.fault.RecordFault.TheVariants.{Short, Afi, Mask}
use Rattle.lisp_records.specs.Address.{afi, width, family, octets, HasWidth}
use Rattle.lisp_records.specs.Record.{bit}
use Rattle.lisp_records.specs.Spelling.{IsBytes}
use Rattle.lisp_records.specs.Result.{◌>>=◌}
use Rattle.lisp_records.specs.Reading.{after, family_of, address_of, address_at, mask_of}

-- what a reader took from the front: a text of a kind, and the rest
pub record Takes (Kind : List ℕ → Type 0) (bytes rest : List ℕ) : Type 0 where
  pub text : List ℕ
  pub parts : bytes ≡ text ++ rest
  pub kind : Kind text

-- what stands after a text in bytes is bytes
pub IsBytes-rest : (bytes text rest : List ℕ) → bytes ≡ text ++ rest → IsBytes bytes → IsBytes rest
IsBytes-rest bytes text rest parts fits i = rw (← get_or-append-add text rest i 0, ← parts) (fits (length text + i))

-- what stands before something in bytes is bytes
pub IsBytes-first : (first others : List ℕ) → IsBytes (first ++ others) → IsBytes first
IsBytes-first [] others fits i = omega arith
IsBytes-first (b ∷ first) others fits zero = fits 0
IsBytes-first (b ∷ first) others fits (suc i) = IsBytes-first first others (λ j. fits (suc j)) i

-- the first bytes of bytes are bytes
pub IsBytes-take : (n : ℕ) (bytes : List ℕ) → IsBytes bytes → IsBytes (take n bytes)
IsBytes-take zero bytes fits i = omega arith
IsBytes-take (suc n) [] fits i = omega arith
IsBytes-take (suc n) (b ∷ bytes) fits zero = fits 0
IsBytes-take (suc n) (b ∷ bytes) fits (suc i) = IsBytes-take n bytes (λ j. fits (suc j)) i

-- bytes are bytes one after the other
pub each_byte : (bytes : List ℕ) → IsBytes bytes → AllByRecursion (λ n. n < 256) bytes
each_byte [] fits = tt
each_byte (b ∷ bytes) fits = (fits 0, each_byte bytes (λ i. fits (suc i)))

-- what stands after some bytes and a text in bytes is bytes
pub IsBytes-behind : (n : ℕ) (bytes text rest : List ℕ) → drop n bytes ≡ text ++ rest → IsBytes bytes → IsBytes rest
IsBytes-behind n bytes text rest parts fits = IsBytes-rest (drop n bytes) text rest parts (λ i. rw get_or-drop (fits (n + i)))

-- the value of a step that did not fail
pub bind_ok : {A B E : Type 0} (r : Result A E) (f : A → Result B E) (y : B) → (r >>= f) ≡ Ok y → (x : A) × (r ≡ Ok x) × (f x ≡ Ok y)
bind_ok (Ok x) f y e = (x, refl, e)
bind_ok (Err d) f y e = absurd cc

-- a test that did not fail
pub guard_ok : {A E : Type 0} (b : Bool) (d : E) (x y : A) → cond b (Err d) (Ok x) ≡ Ok y → (b ≡ false) × (x ≡ y)
guard_ok true d x y e = absurd cc
guard_ok false d x y e = (refl, cc)

-- a value that reading may answer
abbrev pub done : {A : Type 0} → A → Result A RecordFault
done x = Ok x

-- answers that are equal hold equal values
pub ok_is : {A : Type 0} (x y : A) → done x ≡ done y → x ≡ y
ok_is x y e = cc

-- ---- bytes and bits

-- two numbers below 256 are bytes
two_fit : (a b : ℕ) → a < 256 → b < 256 → IsBytes (a ∷ b ∷ [])
two_fit a b la lb zero = la
two_fit a b la lb (suc zero) = lb
two_fit a b la lb (suc (suc i)) = omega arith

-- two bytes are the spelling of their number
pub two_bytes : (a b n : ℕ) → a < 256 → b < 256 → from_be_bytes w16 (a ∷ b ∷ []) ≡ n → to_be_bytes w16 n ≡ a ∷ b ∷ []
two_bytes a b n la lb e = be_bytes_2 (a ∷ b ∷ []) n refl (two_fit a b la lb) (sym e)

-- a number of one bit is the bit of the test for 1
pub bit-eqb : (n : ℕ) → n < 2 → n ≡ bit (eqb n 1)
bit-eqb n lt = grind (arith, nat_tests)

-- the test for 1 of a flag's bit is the flag
pub eqb-bit : (b : Bool) → eqb (bit b) 1 ≡ b
eqb-bit b = grind arith

-- the bit of a flag is below 2
pub bit_below : (b : Bool) → bit b < 2
bit_below b = grind arith

-- a flag as a byte is its bit
pub flag_is : (b : Bool) (n : ℕ) → n ≡ from_bool b → n ≡ bit b
flag_is b n is = grind arith

-- and at most 1
pub flag_below : (b : Bool) (n : ℕ) → n ≡ from_bool b → n ≤ 1
flag_below b n is = grind arith

-- ---- steps of reading

-- a field that was passed is there, and what is left comes after it
pub after_takes : (n : ℕ) (bytes rest : List ℕ) → after n bytes ≡ Ok rest → (n ≤ length bytes) × (drop n bytes ≡ rest)
after_takes n bytes rest e =
    let g = guard_ok (ltb (length bytes) n) Short (drop n bytes) rest e in
    (ltb-false _ _ g.0, g.1)

-- a field that is there is passed
pub after_again : (n : ℕ) (front rest : List ℕ) → length front ≡ n → after n (front ++ rest) ≡ Ok rest
after_again n front rest len =
    let long : ltb (length (front ++ rest)) n ≡ false = le-ltb _ _ (omega (arith, length-append front rest)) in
    rw (long, drop_at front rest n len) refl

-- a family was named by its own number, over the two tests
family_chosen : (a b : Bool) (f : Family) (number : ℕ) → (a ≡ true → number ≡ 1) → (b ≡ true → number ≡ 2) → cond a (done Ipv4) (cond b (done Ipv6) (Err Afi)) ≡ Ok f → number ≡ afi f
family_chosen a b f number one two e = grind arith

-- a family was named by its own number
pub family_takes : (number : ℕ) (f : Family) → family_of number ≡ Ok f → number ≡ afi f
family_takes number f e = family_chosen (eqb number 1) (eqb number 2) f number (eqb-true number 1) (eqb-true number 2) e

-- the number of a family names it
pub family_again : (f : Family) → family_of (afi f) ≡ Ok f
family_again f = grind arith

-- a mask that was taken fits
pub mask_takes : (f : Family) (n m : ℕ) → mask_of f n ≡ Ok m → n ≤ 8 * width f
mask_takes f n m e = ltb-false _ _ (guard_ok (ltb (8 * width f) n) Mask n m e).0

-- a mask that fits is taken
pub mask_again : (f : Family) (n : ℕ) → n ≤ 8 * width f → mask_of f n ≡ Ok n
mask_again f n fits = rw (le-ltb (8 * width f) n fits) refl

-- the first bytes of a family's width are an address of it
address_of_is : (f : Family) (bytes rest : List ℕ) → width f ≤ length bytes → drop (width f) bytes ≡ rest → (bytes ≡ octets (address_of f bytes) ++ rest) × HasWidth (address_of f bytes) × (family (address_of f bytes) ≡ f)
address_of_is Ipv4 bytes rest long after = (sym (take-append-drop 4 bytes) ∙ ap (λ (t : List ℕ). take 4 bytes ++ t) after, omega (arith, length-take 4 bytes), refl)
address_of_is Ipv6 bytes rest long after = (sym (take-append-drop 16 bytes) ∙ ap (λ (t : List ℕ). take 16 bytes ++ t) after, omega (arith, length-take 16 bytes), refl)

-- an address that was read stands there, is as wide as its family, and is of it
pub address_takes : (f : Family) (bytes : List ℕ) (x : Addr × List ℕ) → address_at f bytes ≡ Ok x → (bytes ≡ octets x.0 ++ x.1) × HasWidth x.0 × (family x.0 ≡ f)
unfolding address_at
address_takes f bytes x e =
    let a = bind_ok (after (width f) bytes) (λ rest. done (address_of f bytes, rest)) x e in
    let g = after_takes (width f) bytes a.0 a.1 in
    let made : Addr × List ℕ = (address_of f bytes, a.0) in
    subst (λ (y : Addr × List ℕ). (bytes ≡ octets y.0 ++ y.1) × HasWidth y.0 × (family y.0 ≡ f)) {x = made} (ok_is made x a.2) (address_of_is f bytes a.0 g.0 g.1)

-- an address as wide as its family is read again
pub address_again : (a : Addr) (rest : List ℕ) → HasWidth a → address_at (family a) (octets a ++ rest) ≡ Ok (a, rest)
unfolding address_at
address_again (V4 bytes) rest whole = rw (after_again 4 bytes rest whole, take_at bytes rest 4 whole) refl
address_again (V6 bytes) rest whole = rw (after_again 16 bytes rest whole, take_at bytes rest 16 whole) refl
