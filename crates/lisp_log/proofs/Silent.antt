-- How many Map-Servers are silent.
use Rattle.std.proofs.Common.{◌≡◌, ℕ, ◌+◌, ◌-◌, ◌<◌, Bool, true, false, ◌&&◌, cond, List, Option, Some, get_or, refl, sym, ap, ◌∙◌, subst, arith}
use Rattle.std.specs.Prelude.{nat_le, count_by, slice_get, slice_set}
use Rattle.std.proofs.lemmas.Bool.{le-leb, lt-leb, true≢false}
use Rattle.std.proofs.lemmas.List.Sums.{sum_by-set}
use Rattle.std.proofs.lemmas.Option.{slice_get_within, get_or_from_slice_get}
use Rattle.lisp_log.specs.declared.silences.Silence.{Silence}
use Rattle.lisp_log.specs.Silences.{TellsSilence, patience, again}

abbrev pub is_silent : ℕ → Silence → Bool
is_silent now s = nat_le patience (now - s.acknowledged) && nat_le s.next_line now

abbrev pub count_silent : ℕ → List Silence → ℕ
count_silent now servers = count_by (is_silent now) servers

pub and_both : (a b : Bool) → a ≡ true → b ≡ true → (a && b) ≡ true
and_both true b is its = its
and_both false b is its = absurd (true≢false (sym is))

pub and_not : (a b : Bool) → b ≡ false → (a && b) ≡ false
and_not true b is = is
and_not false b is = refl

-- where one that passes a test is changed into one that does not, fewer pass
pub fewer_pass : {X : Type 0} (p : X → Bool) (old new : List X) (place : ℕ) (one after : X) → slice_get old place ≡ Some one → new ≡ slice_set old place after → p one ≡ true → p after ≡ false → count_by p new < count_by p old
fewer_pass {X} p old new place one after there is was is_not =
    let changed = sum_by-set (λ (x : X). cond (p x) 1 0) old place after one (slice_get_within old place one there) in
    let before : p (get_or old place one) ≡ true = ap p (get_or_from_slice_get old place one one there) ∙ was in
    let counted : ◌≡◌ {A = ℕ} (cond (p (get_or old place one)) 1 0) 1 = ap (λ (b : Bool). cond b 1 0) before in
    let none : ◌≡◌ {A = ℕ} (cond (p after) 1 0) 0 = ap (λ (b : Bool). cond b 1 0) is_not in
    subst (λ (xs : List X). count_by p xs < count_by p old) (sym is) (omega (arith, changed, counted, none))

-- one that was told is silent no more
pub fewer : (old new : List Silence) (now : ℕ) (told : ℕ × ℕ) → TellsSilence old new now told → count_silent now new < count_silent now old
fewer old new now told t = fewer_pass (is_silent now) old new t.place t.one (record t.one { next_line = now + again }) t.there t.left
    (and_both (nat_le patience (now - t.one.acknowledged)) (nat_le t.one.next_line now) (le-leb patience (now - t.one.acknowledged) t.silent.0) (le-leb t.one.next_line now t.silent.1))
    (and_not (nat_le patience (now - t.one.acknowledged)) (nat_le (now + again) now) (lt-leb (now + again) now (omega arith)))
