-- Of what repeats few lines are told.
use Rattle.std.proofs.Common.{◌≡◌, ℕ, zero, suc, ◌+◌, ◌-◌, ◌^◌, ◌<◌, ◌≤◌, Bool, true, false, not, ◌&&◌, cond, List, [], ◌∷◌, length, get_or, refl, sym, ap, ◌∙◌, subst, inl, inr, arith}
use Rattle.std.specs.Prelude.{sum_by, count_by, ◌==◌, if◌then◌else◌}
use Rattle.std.specs.List.{All, AllPairs, Contains}
use Rattle.std.proofs.lemmas.Bool.{true≢false}
use Rattle.std.proofs.lemmas.List.{length-append, length_push}
use Rattle.std.proofs.lemmas.List.Elements.{All-contains}
use Rattle.std.proofs.lemmas.List.Filters.{length-filter_both}
use Rattle.std.proofs.lemmas.List.Sums.{sum_by-cons, sum_by-le, sum_by-le-sum_by, count_by-le-length, get_or-le-sum_by, length-filter}
use Rattle.lisp_log.specs.declared.repeats.Repeat.{Repeat}
use Rattle.lisp_log.specs.declared.repeats.Repeated.{Repeated}
use Rattle.lisp_log.specs.declared.repeats.Source.{Source}
use Rattle.lisp_log.specs.declared.repeats.Source.TheVariants.{Address, Others}
use Rattle.lisp_log.specs.Repeats.{Event, Leaves, Notes, TellsOf, most_addresses, most_entries}
use Rattle.lisp_log.specs.Text.{repeat_text}
use Rattle.lisp_log.specs.Log.{Sum, sum_of, sums}
use Rattle.lisp_log.specs.Sums.{names_one, repeated_eq, WasTold}
use Rattle.lisp_log.specs.Few.{kinds, FewAreTold}
use Rattle.lisp_log.proofs.Repeating.{equal_is_same}
use Rattle.lisp_log.proofs.SumLaws.{Differ, counted_length, few_are, one_each, told_all, total}

-- ---- counts

-- none passes
none : {X : Type 0} (p : X → Bool) (xs : List X) → All (λ x. p x ≡ true → ⊥) xs → count_by p xs ≡ 0
none {X} p xs fails =
    let few = sum_by-le (λ (x : X). cond (p x) 1 0) 0 xs (λ k d within. nothing (p (get_or xs k d)) (fails k d within)) in
    omega (arith, few)
  where
    nothing : (b : Bool) → (b ≡ true → ⊥) → cond b 1 0 ≤ 0
    nothing true fails = absurd (fails refl)
    nothing false fails = omega arith

-- those that pass, by another test
either : {X : Type 0} (p q : X → Bool) (xs : List X) → count_by p xs ≡ count_by (λ x. p x && q x) xs + count_by (λ x. p x && not (q x)) xs
either p q [] = refl
either {X} p q (x ∷ xs) =
    let all = sum_by-cons (λ (y : X). cond (p y) 1 0) x xs in
    let first = sum_by-cons (λ (y : X). cond (p y && q y) 1 0) x xs in
    let second = sum_by-cons (λ (y : X). cond (p y && not (q y)) 1 0) x xs in
    omega (arith, all, first, second, one (p x) (q x), either p q xs)
  where
    one : (a b : Bool) → ◌≡◌ {A = ℕ} (cond a 1 0) (cond (a && b) 1 0 + cond (a && not b) 1 0)
    one true true = refl
    one true false = refl
    one false b = refl

-- and those that don't
parts : {X : Type 0} (p : X → Bool) (xs : List X) → length xs ≡ count_by p xs + count_by (λ x. not (p x)) xs
parts {X} p xs = sym (length-filter_both p (λ (x : X). not (p x)) (λ x. refl) xs) ∙ (λ i. length-filter p xs i + length-filter (λ (x : X). not (p x)) xs i)

-- ---- entries for all others

abbrev is_others : Repeat → Bool
is_others e = not (names_one e.source)

both : (a b : Bool) → (a && b) ≡ true → (a ≡ true) × (b ≡ true)
both true b is = (refl, is)
both false b is = absurd (true≢false (sym is))

names_none : (s : Source) → not (names_one s) ≡ true → s ≡ Others
names_none (Address a) is = absurd (true≢false (sym is))
names_none Others is = refl

-- of each thing that repeats there is one
one_of : (what : Repeated) (entries : List Repeat) → AllPairs Differ entries → count_by (λ e. is_others e && repeated_eq e.what what) entries ≤ 1
one_of what [] apart = omega arith
one_of what (x ∷ xs) apart = tested (one_of what xs (λ i j d before within. apart (suc i) (suc j) d (omega (arith, before)) (omega (arith, within)))) (is_others x && repeated_eq x.what what) refl
  where
    all : count_by (λ e. is_others e && repeated_eq e.what what) (x ∷ xs) ≡ cond (is_others x && repeated_eq x.what what) 1 0 + count_by (λ e. is_others e && repeated_eq e.what what) xs
    all = sum_by-cons (λ (e : Repeat). cond (is_others e && repeated_eq e.what what) 1 0) x xs

    same : (y : Repeat) → (is_others x && repeated_eq x.what what) ≡ true → (is_others y && repeated_eq y.what what) ≡ true → (y.what ≡ x.what) × (y.source ≡ x.source)
    same y its others =
        let one = both (is_others x) (repeated_eq x.what what) its in
        let other = both (is_others y) (repeated_eq y.what what) others in (
          (equal_is_same y.what what).0 other.1 ∙ sym ((equal_is_same x.what what).0 one.1),
          names_none y.source other.0 ∙ sym (names_none x.source one.0),
        )

    tested : count_by (λ e. is_others e && repeated_eq e.what what) xs ≤ 1 → (b : Bool) → (is_others x && repeated_eq x.what what) ≡ b → count_by (λ e. is_others e && repeated_eq e.what what) (x ∷ xs) ≤ 1
    tested rest false is = let one = ap {B = ℕ} (λ (t : Bool). cond t 1 0) is in omega (arith, all, one, rest)
    tested rest true is =
        let one = ap {B = ℕ} (λ (t : Bool). cond t 1 0) is in
        let others = none (λ e. is_others e && repeated_eq e.what what) xs (λ k d within passes. apart 0 (suc k) d (omega arith) (omega (arith, within)) (same (get_or xs k d) is passes)) in
        omega (arith, all, one, others)

-- so there are no more than things that repeat
few_of : (known : List Repeated) (p : Repeat → Bool) (entries : List Repeat) → ((what : Repeated) → count_by (λ e. p e && repeated_eq e.what what) entries ≤ 1) → All (λ e. p e ≡ true → Contains known e.what) entries
    → count_by p entries ≤ length known
few_of [] p entries one of =
    let nobody = none p entries (λ k d within passes. let at = of k d within passes in omega (arith, at.1)) in
    omega (arith, nobody)
few_of (w ∷ known) p entries one of =
    let here = either p (λ e. repeated_eq e.what w) entries in
    let others = few_of known (λ e. p e && not (repeated_eq e.what w)) entries fewer elsewhere in
    omega (arith, here, one w, others)
  where
    less : (a b c : Bool) → cond ((a && not b) && c) 1 0 ≤ cond (a && c) 1 0
    less true true c = omega arith
    less true false c = omega arith
    less false b c = omega arith

    fewer : (what : Repeated) → count_by (λ e. (p e && not (repeated_eq e.what w)) && repeated_eq e.what what) entries ≤ 1
    fewer what =
        let le = sum_by-le-sum_by (λ (e : Repeat). cond ((p e && not (repeated_eq e.what w)) && repeated_eq e.what what) 1 0) (λ e. cond (p e && repeated_eq e.what what) 1 0) entries (λ e. less (p e) (repeated_eq e.what w) (repeated_eq e.what what)) in
        omega (arith, le, one what)

    differs : (b : Bool) → not b ≡ true → b ≡ false
    differs true is = absurd (true≢false (sym is))
    differs false is = refl

    behind : (what : Repeated) → repeated_eq what w ≡ false → Contains (w ∷ known) what → Contains known what
    behind what other (zero, within, is) = absurd (true≢false (sym ((equal_is_same what w).1 (sym is)) ∙ other))
    behind what other (suc k, within, is) = (k, omega (arith, within), is)

    elsewhere : All (λ e. (p e && not (repeated_eq e.what w)) ≡ true → Contains known e.what) entries
    elsewhere = λ k d within passes.
        let its = both (p (get_or entries k d)) (not (repeated_eq (get_or entries k d).what w)) passes in
        behind (get_or entries k d).what (differs (repeated_eq (get_or entries k d).what w) its.1) (of k d within its.0)

-- ---- the events of a second

few_entries : (known : List Repeated) (events : List Event) (entries : List Repeat) → Leaves events entries → All (λ e. Contains known e.what) events → length entries ≤ most_addresses + length known
few_entries known events entries left of =
    let halves = parts (λ e. names_one e.source) entries in
    let others = few_of known is_others entries (λ what. one_of what entries (one_each events entries left)) (λ k d within _. known_what (get_or entries k d).what (told_all events entries left k d within)) in
    omega (arith, halves, few_are events entries left, others)
  where
    known_what : (what : Repeated) → WasTold events what → Contains known what
    known_what what (e, there, is, told) = subst (λ (w : Repeated). Contains known w) is (All-contains (λ x. Contains known x.what) events e of there)

-- an event that is told makes an entry
one_more : (told : Bool) (old new : List Repeat) (what : Repeated) (source : Source) → TellsOf old new what source told → length old < most_entries → sum_by (λ (e : Repeat). e.times) old < 2 ^ 64 - 1 → cond told 1 0 + length old ≤ length new
one_more false old new what source counted room short = omega (arith, counted_length old new what source counted)
one_more true old new what source (inr full) room short = absurd (uncountable full.there)
  where
    uncountable : Contains old full.entry → ⊥
    uncountable (k, within, is) =
        let some = get_or-le-sum_by (λ (e : Repeat). e.times) old k full.entry within in
        let times = ap (λ (e : Repeat). e.times) is in
        omega (arith, some, times, full.full, short)
one_more true old new what source (inl first) room short = made first.noted
  where
    made : Notes old new what source → 1 + length old ≤ length new
    made (inl is) = let longer = ap length is ∙ length_push old (record { what = what; source = source; times = 0 }) in omega (arith, longer)
    made (inr full) = absurd (omega (arith, full.0, room))

few_told : (known : List Repeated) → length known < 80 → (events : List Event) (entries : List Repeat) → Leaves events entries → All (λ e. Contains known e.what) events → length events < 2 ^ 64 → count_by (λ e. e.told) events ≤ length entries
few_told known some [] entries left of short = omega arith
few_told known some (r ∷ earlier) entries (before, left, tells) of short =
    let rest : All (λ (e : Event). Contains known e.what) earlier = λ k d within. of (suc k) d (omega (arith, within)) in
    let untold = total earlier before left in
    let fewer = count_by-le-length (λ (e : Event). not e.told) earlier in
    let room = few_entries known earlier before left rest in
    let one = one_more r.told before entries r.what tells.0 tells.2 (omega (arith, room, some)) (omega (arith, untold, fewer, short)) in
    let all = sum_by-cons (λ (e : Event). cond e.told 1 0) r earlier in
    omega (arith, all, one, few_told known some earlier before left rest (omega (arith, short)))

-- each entry has one sum at most
one_sum : (name : List ℕ) (r : Repeat) (none : Bool) → length {A = Sum} (if none then [] else record { text = repeat_text name r; events = r.times } ∷ []) ≤ 1
one_sum name r true = omega arith
one_sum name r false = omega arith

few_sums : (name : List ℕ) (entries : List Repeat) → length (sums name entries) ≤ length entries
few_sums name [] = omega arith
few_sums name (r ∷ entries) =
    let all = length-append (sum_of name r) (sums name entries) in
    omega (arith, all, one_sum name r (r.times == 0), few_sums name entries)

pub few_are_told : FewAreTold
few_are_told events entries left of short =
    let room = few_entries kinds events entries left of in
    let count : length kinds ≡ 66 = refl in
    record {
      lines = let told = few_told kinds (omega (arith, count)) events entries left of short in omega (arith, told, room, count);
      sums = λ name. let sum = few_sums name entries in omega (arith, sum, room, count);
    }
