-- Steps of reading, each way: what a step took stands in the bytes, and what is written there is read again.
use Rattle.std.proofs.Common.{◌≡◌, ℕ, ◌*◌, ◌^◌, ◌<◌, ◌≤◌, Bool, true, false, ltb, List, [], ◌∷◌, ◌++◌, length, drop, Result, Ok, Err, refl, sym, ap, subst, ◌∙◌, arith}
use Rattle.std.specs.Int.{w64, from_be_bytes, to_be_bytes}
use Rattle.std.proofs.lemmas.Bool.{ltb-false, le-ltb}
use Rattle.std.proofs.lemmas.List.{drop_at, length-append}
use Rattle.std.proofs.lemmas.Nat.{be_bytes_8}
use Rattle.lisp_records.specs.declared.address.Addr.{Addr}
use Rattle.lisp_records.specs.declared.address.Family.{Family}
use Rattle.lisp_records.specs.declared.fault.RecordFault.{RecordFault}
use Rattle.lisp_records.specs.Address.{afi, width, family, octets, HasWidth, max_len}
use Rattle.lisp_records.specs.Spelling.{IsBytes}
use Rattle.lisp_records.specs.Result.{◌>>=◌}
use Rattle.lisp_records.specs.Reading.{family_of, mask_of, address_at, named_at}
pub use Rattle.lisp_records.proofs.Fields.{bind_ok, guard_ok}
use Rattle.lisp_records.proofs.Fields as records
use Rattle.lisp_requests.specs.declared.fault.RequestFault.{RequestFault}
use Rattle.lisp_requests.specs.declared.fault.RequestFault.TheVariants as faults
use Rattle.lisp_requests.specs.Reading.{after, require, lifted}

-- a test that had to hold held
pub require_takes : (d : RequestFault) (b y : Bool) → require d b ≡ Ok y → b ≡ true
require_takes d true y e = refl
require_takes d false y e = absurd cc

-- a value that reading may answer
abbrev pub done : {A : Type 0} → A → Result A RequestFault
done x = Ok x

-- answers that are equal hold equal values
pub ok_is : {A : Type 0} (x y : A) → done x ≡ done y → x ≡ y
ok_is x y e = cc

-- a record's part that was read was read
pub lifted_ok : {A : Type 0} (r : Result A RecordFault) (x : A) → lifted r ≡ Ok x → r ≡ Ok x
lifted_ok (Ok y) x e = cc
lifted_ok (Err d) x e = absurd cc

-- a field that was passed is there, and what is left comes after it
pub after_takes : (n : ℕ) (bytes rest : List ℕ) → after n bytes ≡ Ok rest → (n ≤ length bytes) × (drop n bytes ≡ rest)
after_takes n bytes rest e =
    let g = guard_ok (ltb (length bytes) n) faults.Short (drop n bytes) rest e in
    (ltb-false _ _ g.0, g.1)

-- a field that is there is passed
pub after_again : (n : ℕ) (front rest : List ℕ) → length front ≡ n → after n (front ++ rest) ≡ Ok rest
after_again n front rest len =
    let long : ltb (length (front ++ rest)) n ≡ false = le-ltb _ _ (omega (arith, length-append front rest)) in
    rw (long, drop_at front rest n len) refl

-- ---- an address that an AFI names

-- an address that was read stands there, is as wide as its family, which the AFI names, and a mask of so many bits fits it
pub named_takes : (number mask : ℕ) (bytes : List ℕ) (x : Addr × List ℕ) → named_at number mask bytes ≡ Ok x → (bytes ≡ octets x.0 ++ x.1) × HasWidth x.0 × (number ≡ afi (family x.0)) × (mask ≤ max_len x.0)
named_takes number mask bytes x e =
    let a = records.bind_ok (family_of number) (λ f. mask_of f mask >>= λ _. address_at f bytes) x e in
    let b = records.bind_ok (mask_of a.0 mask) (λ _. address_at a.0 bytes) x a.2 in
    let t = records.address_takes a.0 bytes x b.2 in
    (t.0, t.1, records.family_takes number a.0 a.1 ∙ ap afi (sym t.2), subst (λ (f : Family). mask ≤ 8 * width f) (sym t.2) (records.mask_takes a.0 mask b.0 b.1))

-- ---- eight bytes and their number

-- eight bytes are the spelling of their number
pub eight_bytes : (bytes : List ℕ) → length bytes ≡ 8 → IsBytes bytes → to_be_bytes w64 (from_be_bytes w64 bytes) ≡ bytes
eight_bytes bytes len fits = be_bytes_8 bytes _ len fits refl

-- the number of eight bytes, by its bytes
eight_sum : (a b c d e f g h : ℕ) → a < 256 → b < 256 → c < 256 → d < 256 → e < 256 → f < 256 → g < 256 → h < 256 → from_be_bytes w64 (a ∷ b ∷ c ∷ d ∷ e ∷ f ∷ g ∷ h ∷ []) < 2 ^ 64
eight_sum a b c d e f g h la lb lc ld le lf lg lh = omega arith

-- the number of eight bytes fits 64 bits
pub eight_below : (bytes : List ℕ) → length bytes ≡ 8 → IsBytes bytes → from_be_bytes w64 bytes < 2 ^ 64
eight_below (a ∷ b ∷ c ∷ d ∷ e ∷ f ∷ g ∷ h ∷ []) len fits = eight_sum a b c d e f g h (fits 0) (fits 1) (fits 2) (fits 3) (fits 4) (fits 5) (fits 6) (fits 7)
eight_below _ len fits = absurd (omega arith)
