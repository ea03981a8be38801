-- The steps and fields of reading a message, each way: what a step took stands in the bytes, and
-- what is written there is read again.
use Rattle.std.proofs.Common.{◌≡◌, ℕ, ◌+◌, ◌^◌, ◌<◌, ◌≤◌, Bool, true, false, cond, eqb, ltb, List, [], ◌∷◌, ◌++◌, length, take, drop, Result, Ok, Err, refl, sym, ap, subst, ◌∙◌, arith}
use Rattle.std.specs.Int.{w64, from_be_bytes, to_be_bytes}
use Rattle.std.proofs.lemmas.Bool.{ltb-false, le-ltb, eqb-true}
use Rattle.std.proofs.lemmas.List.{take_at, drop_at, take-append-drop, length-append, length-take-le, length-drop, get_or-drop, drop_all, append-nil}
use Rattle.std.proofs.lemmas.Nat.{be_bytes_8, from_be_bytes-to_be_bytes_8}
use Rattle.lisp_records.specs.Spelling.{IsBytes}
use Rattle.lisp_records.proofs.Fields.{IsBytes-take}
use Rattle.lisp_messages.specs.declared.kind.Kind.{Kind}
use Rattle.lisp_messages.specs.declared.kind.Kind.TheVariants as kinds
use Rattle.lisp_messages.specs.declared.fault.ReadFault.{ReadFault}
use Rattle.lisp_messages.specs.declared.fault.ReadFault.TheVariants as faults
use Rattle.lisp_records.specs.Result.{◌>>=◌}
use Rattle.lisp_messages.specs.Reading.{after, require, kind_of, ids_at}

-- the value of a step that did not fail
pub bind_ok : {A B : Type 0} (r : Result A ReadFault) (f : A → Result B ReadFault) (y : B) → (r >>= f) ≡ Ok y → (x : A) × (r ≡ Ok x) × (f x ≡ Ok y)
bind_ok (Ok x) f y e = (x, refl, e)
bind_ok (Err d) f y e = absurd cc

-- a test that did not fail
guard_ok : {A : Type 0} (b : Bool) (d : ReadFault) (x y : A) → cond b (Err d) (Ok x) ≡ Ok y → (b ≡ false) × (x ≡ y)
guard_ok true d x y e = absurd cc
guard_ok false d x y e = (refl, cc)

-- a value that reading may answer
abbrev pub done : {A : Type 0} → A → Result A ReadFault
done x = Ok x

-- answers that are equal hold equal values
pub ok_is : {A : Type 0} (x y : A) → done x ≡ done y → x ≡ y
ok_is x y e = cc

-- what had to hold holds
pub require_takes : (d : ReadFault) (b x : Bool) → require d b ≡ Ok x → b ≡ true
require_takes d true x e = refl
require_takes d false x e = absurd cc

-- the message type of a kind
abbrev pub kind_number : Kind → ℕ
kind_number kinds.Register = 3
kind_number kinds.Notify = 4
kind_number kinds.NotifyAck = 5

-- a kind was named by its own number, over the three tests
kind_chosen : (a b c : Bool) (k : Kind) (number : ℕ) → (a ≡ true → number ≡ 3) → (b ≡ true → number ≡ 4) → (c ≡ true → number ≡ 5) → cond a (done kinds.Register) (cond b (done kinds.Notify) (cond c (done kinds.NotifyAck) (Err faults.Kind))) ≡ Ok k → number ≡ kind_number k
kind_chosen true b c k number three four five e = three refl ∙ ap kind_number (ok_is kinds.Register k e)
kind_chosen false true c k number three four five e = four refl ∙ ap kind_number (ok_is kinds.Notify k e)
kind_chosen false false true k number three four five e = five refl ∙ ap kind_number (ok_is kinds.NotifyAck k e)
kind_chosen false false false k number three four five e = absurd cc

-- a kind was named by its own number
pub kind_takes : (number : ℕ) (k : Kind) → kind_of number ≡ Ok k → number ≡ kind_number k
kind_takes number k e = kind_chosen (eqb number 3) (eqb number 4) (eqb number 5) k number (eqb-true number 3) (eqb-true number 4) (eqb-true number 5) e

-- the number of a kind names it
pub kind_again : (k : Kind) → kind_of (kind_number k) ≡ Ok k
kind_again kinds.Register = refl
kind_again kinds.Notify = refl
kind_again kinds.NotifyAck = refl

-- a field that was passed is there, and what is left comes after it
pub after_takes : (n : ℕ) (bytes rest : List ℕ) → after n bytes ≡ Ok rest → (n ≤ length bytes) × (drop n bytes ≡ rest)
after_takes n bytes rest e =
    let g = guard_ok (ltb (length bytes) n) faults.Short (drop n bytes) rest e in
    (ltb-false _ _ g.0, g.1)

-- a field that is there is passed
pub after_again : (n : ℕ) (front rest : List ℕ) → length front ≡ n → after n (front ++ rest) ≡ Ok rest
after_again n front rest len =
    let long : ltb (length (front ++ rest)) n ≡ false = le-ltb _ _ (omega (arith, length-append front rest)) in
    rw (long, drop_at front rest n len) refl

-- ---- eight bytes and their number

-- eight bytes are the spelling of their number
pub eight_bytes : (bytes : List ℕ) → length bytes ≡ 8 → IsBytes bytes → to_be_bytes w64 (from_be_bytes w64 bytes) ≡ bytes
eight_bytes bytes len fits = be_bytes_8 bytes _ len fits refl

-- the number of eight bytes, by its bytes
eight_sum : (a b c d e f g h : ℕ) → a < 256 → b < 256 → c < 256 → d < 256 → e < 256 → f < 256 → g < 256 → h < 256 → from_be_bytes w64 (a ∷ b ∷ c ∷ d ∷ e ∷ f ∷ g ∷ h ∷ []) < 2 ^ 64
eight_sum a b c d e f g h la lb lc ld le lf lg lh = omega arith

-- the number of eight bytes fits 64 bits
pub eight_below : (bytes : List ℕ) → length bytes ≡ 8 → IsBytes bytes → from_be_bytes w64 bytes < 2 ^ 64
eight_below (a ∷ b ∷ c ∷ d ∷ e ∷ f ∷ g ∷ h ∷ []) len fits = eight_sum a b c d e f g h (fits 0) (fits 1) (fits 2) (fits 3) (fits 4) (fits 5) (fits 6) (fits 7)
eight_below _ len fits = absurd (omega arith)

-- what stands behind the first bytes of bytes is bytes
pub IsBytes-drop : (n : ℕ) (bytes : List ℕ) → IsBytes bytes → IsBytes (drop n bytes)
IsBytes-drop n bytes fits i = rw get_or-drop (fits (n + i))

-- ---- xTR-ID and Site-ID

-- what ends a Map-Register: an xTR-ID, then a Site-ID
pub record Ids (bytes xtr : List ℕ) (site : ℕ) : Type 0 where
  pub parts : bytes ≡ xtr ++ to_be_bytes w64 site
  pub wide : length xtr ≡ 16
  pub below : site < 2 ^ 64

-- 24 bytes are an xTR-ID and a Site-ID
ids_made : (bytes : List ℕ) → IsBytes bytes → length bytes ≡ 24 → Ids bytes (take 16 bytes) (from_be_bytes w64 (take 8 (drop 16 bytes)))
ids_made bytes fits len =
    let behind : List ℕ = drop 16 bytes in
    let eight : length behind ≡ 8 = omega (arith, length-drop 16 bytes) in
    let all : take 8 behind ≡ behind = sym (append-nil (take 8 behind)) ∙ ap (λ (t : List ℕ). take 8 behind ++ t) (sym (drop_all 8 behind (omega arith))) ∙ take-append-drop 8 behind in
    let site : to_be_bytes w64 (from_be_bytes w64 (take 8 behind)) ≡ behind = eight_bytes (take 8 behind) (ap length all ∙ eight) (IsBytes-take 8 behind (IsBytes-drop 16 bytes fits)) ∙ all in
    record {
      parts = sym (take-append-drop 16 bytes) ∙ ap (λ (t : List ℕ). take 16 bytes ++ t) (sym site);
      wide = length-take-le 16 bytes (omega arith);
      below = eight_below (take 8 behind) (ap length all ∙ eight) (IsBytes-take 8 behind (IsBytes-drop 16 bytes fits));
    }

-- a test that had to hold held
pub held : {A : Type 0} (b : Bool) (d : ReadFault) (x y : A) → cond b (Ok x) (Err d) ≡ Ok y → (b ≡ true) × (x ≡ y)
held true d x y e = (refl, cc)
held false d x y e = absurd cc

-- what was read at the end of a Map-Register stands there
pub ids_take : (bytes : List ℕ) (x : List ℕ × ℕ) → IsBytes bytes → ids_at bytes ≡ Ok x → Ids bytes x.0 x.1
unfolding ids_at
ids_take bytes x fits e =
    let read = λ (rest : List ℕ). done (take 16 bytes, from_be_bytes w64 (take 8 rest)) in
    let a = bind_ok (after 16 bytes) (λ rest. after 8 rest >>= λ end. cond (eqb (length end) 0) (read rest) (Err faults.Trailing)) x e in
    let b = bind_ok (after 8 a.0) (λ end. cond (eqb (length end) 0) (read a.0) (Err faults.Trailing)) x a.2 in
    let made : List ℕ × ℕ = (take 16 bytes, from_be_bytes w64 (take 8 a.0)) in
    let c = held (eqb (length b.0) 0) faults.Trailing made x b.2 in
    let first = after_takes 16 bytes a.0 a.1 in
    let second = after_takes 8 a.0 b.0 b.1 in
    let ends : length b.0 ≡ 0 = eqb-true (length b.0) 0 c.0 in
    let len : length bytes ≡ 24 = omega (arith, first.0, second.0, ends, ap length first.1, ap length second.1, length-drop 16 bytes, length-drop 8 a.0) in
    let here : Ids bytes (take 16 bytes) (from_be_bytes w64 (take 8 a.0)) = rw (← first.1) (ids_made bytes fits len) in
    subst (λ (y : List ℕ × ℕ). Ids bytes y.0 y.1) {x = made} c.1 here

-- an xTR-ID and a Site-ID at the end are read
pub ids_again : (xtr : List ℕ) (site : ℕ) → length xtr ≡ 16 → site < 2 ^ 64 → ids_at (xtr ++ to_be_bytes w64 site) ≡ Ok (xtr, site)
unfolding ids_at
ids_again xtr site len below =
    let eight : List ℕ = to_be_bytes w64 site in
    rw (after_again 16 xtr eight len, take_at xtr eight 16 len) (ap (λ (n : ℕ). done (xtr, n)) (from_be_bytes-to_be_bytes_8 site below))
