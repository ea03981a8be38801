-- What the entries of a second tell of its events.
use Rattle.std.proofs.Common.{◌≡◌, ◌⊎◌, ℕ, suc, ◌+◌, ◌<◌, ◌≤◌, Bool, true, false, not, ◌&&◌, cond, List, [], ◌∷◌, ◌++◌, length, get_or, refl, sym, ap, ◌∙◌, subst, inl, inr, arith, add-zero, zero-add}
use Rattle.std.specs.Prelude.{sum_by, count_by, slice_set, ◌==◌, if◌then◌else◌}
use Rattle.std.specs.List.{All, AllPairs}
use Rattle.std.proofs.lemmas.Bool.{cases_eq, eqb-true, true≢false}
use Rattle.std.proofs.lemmas.Bool.Decides.{Decides-and}
use Rattle.std.proofs.lemmas.List.{length-set, length_push, get_or-set_same, get_or-set_other}
use Rattle.std.proofs.lemmas.List.Elements.{All-push, Contains-get_or, Contains-push_cases}
use Rattle.std.proofs.lemmas.List.Quantifiers.{all_pairs_push}
use Rattle.std.proofs.lemmas.List.Sums.{sum_by-cons, sum_by-append, sum_by_push, sum_by-set, count_by-le-length}
use Rattle.std.proofs.lemmas.Option.{slice_get_within, get_or_from_slice_get}
use Rattle.lisp_records.specs.declared.address.Addr.{Addr}
use Rattle.lisp_records.specs.Address.{addr_eq}
use Rattle.lisp_model.proofs.CleanLemmas.{addr_same}
use Rattle.lisp_log.specs.declared.repeats.Repeat.{Repeat}
use Rattle.lisp_log.specs.declared.repeats.Repeated.{Repeated}
use Rattle.lisp_log.specs.declared.repeats.Source.{Source}
use Rattle.lisp_log.specs.declared.repeats.Source.TheVariants.{Address, Others}
use Rattle.lisp_log.specs.Repeats.{Event, Leaves, HasEntry, IsOf, IsSource, Notes, IsCounted, TellsOf, TellsEvent, most_addresses}
use Rattle.lisp_log.specs.Text.{repeat_text}
use Rattle.lisp_log.specs.Log.{Sum, sum_of, sums}
use Rattle.lisp_log.specs.Sums.{count_untold, count_all_untold, count_untold_from, events_in, names, names_one, repeated_eq, times_of, times_from, WasTold, EachRepeats, SumsTellAll}
use Rattle.lisp_log.proofs.Repeating.{equal_is_same}

-- an entry as it is made
abbrev fresh : Repeated → Source → Repeat
fresh what source = record { what = what; source = source; times = 0 }

-- a sum over the entries after one was made; and where the event is told
noted : (f : Repeat → ℕ) (old new : List Repeat) (what : Repeated) (source : Source) → Notes old new what source → f (fresh what source) ≡ 0 → sum_by f new ≡ sum_by f old
noted f old new what source (inl is) nothing = ap (λ (es : List Repeat). sum_by f es) is ∙ sum_by_push f old (fresh what source) ∙ ap (λ (n : ℕ). sum_by f old + n) nothing ∙ add-zero (sum_by f old)
noted f old new what source (inr full) nothing = ap (λ (es : List Repeat). sum_by f es) full.1

told_sum : (f : Repeat → ℕ) (old new : List Repeat) (what : Repeated) (source : Source) → TellsOf old new what source true → f (fresh what source) ≡ 0 → sum_by f new ≡ sum_by f old
told_sum f old new what source (inl first) nothing = noted f old new what source first.noted nothing
told_sum f old new what source (inr full) nothing = ap (λ (es : List Repeat). sum_by f es) full.same

-- and where it is counted
counted_sum : (f : Repeat → ℕ) (old new : List Repeat) (what : Repeated) (source : Source) (c : IsCounted old new what source) → sum_by f new + f c.entry ≡ sum_by f old + f (record c.entry { times = c.entry.times + 1 })
counted_sum f old new what source c =
    let changed = sum_by-set f old c.place (record c.entry { times = c.entry.times + 1 }) c.entry (slice_get_within old c.place c.entry c.there) in
    ap (λ (es : List Repeat). sum_by f es + f c.entry) c.counted
    ∙ ap (λ (e : Repeat). sum_by f (slice_set old c.place (record c.entry { times = c.entry.times + 1 })) + f e) (sym (get_or_from_slice_get old c.place c.entry c.entry c.there))
    ∙ changed

-- tests
nothing_of : (b : Bool) → ◌≡◌ {A = ℕ} (cond b 0 0) 0
nothing_of true = refl
nothing_of false = refl

never : (b : Bool) → ◌≡◌ {A = ℕ} (cond (b && false) 1 0) 0
never true = refl
never false = refl

one_more : (b : Bool) (new old times : ℕ) → new + cond b times 0 ≡ old + cond b (times + 1) 0 → new ≡ cond (b && true) 1 0 + old
one_more true new old times is = omega arith
one_more false new old times is = omega arith

-- the times of what repeats
times_step : (told : Bool) (old new : List Repeat) (w : Repeated) (from : Addr) → TellsEvent old new w from told → (v : Repeated) → times_of v new ≡ cond (repeated_eq w v && not told) 1 0 + times_of v old
times_step true old new w from tells v =
    told_sum (λ e. cond (repeated_eq e.what v) e.times 0) old new w tells.0 tells.2 (nothing_of (repeated_eq w v))
    ∙ sym (zero-add (times_of v old)) ∙ ap (λ (k : ℕ). k + times_of v old) (sym (never (repeated_eq w v)))
times_step false old new w from tells v =
    let c = tells.2 in
    let is = counted_sum (λ e. cond (repeated_eq e.what v) e.times 0) old new w tells.0 c in
    one_more (repeated_eq w v) (times_of v new) (times_of v old) c.entry.times (subst (λ (k : Repeated). times_of v new + cond (repeated_eq k v) c.entry.times 0 ≡ times_of v old + cond (repeated_eq k v) (c.entry.times + 1) 0) c.its.0 is)

times_are : (events : List Event) (entries : List Repeat) → Leaves events entries → (v : Repeated) → times_of v entries ≡ count_untold v events
times_are [] entries none v = ap (λ (es : List Repeat). times_of v es) none
times_are (r ∷ earlier) entries step v =
    times_step r.told step.0 entries r.what r.from step.2 v
    ∙ ap (λ (k : ℕ). cond (repeated_eq r.what v && not r.told) 1 0 + k) (times_are earlier step.0 step.1 v)
    ∙ sym (sum_by-cons (λ (x : Event). cond (repeated_eq x.what v && not x.told) 1 0) r earlier)

-- the times of all entries make up how many events weren't told
total_step : (told : Bool) (old new : List Repeat) (w : Repeated) (from : Addr) → TellsEvent old new w from told → sum_by (λ (e : Repeat). e.times) new ≡ cond (not told) 1 0 + sum_by (λ (e : Repeat). e.times) old
total_step true old new w from tells = let is = told_sum (λ e. e.times) old new w tells.0 tells.2 refl in omega (arith, is)
total_step false old new w from tells = let is = counted_sum (λ e. e.times) old new w tells.0 tells.2 in omega (arith, is)

pub total : (events : List Event) (entries : List Repeat) → Leaves events entries → sum_by (λ (e : Repeat). e.times) entries ≡ count_all_untold events
total [] entries none = ap (λ (es : List Repeat). sum_by (λ (e : Repeat). e.times) es) none
total (r ∷ earlier) entries step =
    total_step r.told step.0 entries r.what r.from step.2
    ∙ ap (λ (k : ℕ). cond (not r.told) 1 0 + k) (total earlier step.0 step.1)
    ∙ sym (sum_by-cons (λ (x : Event). cond (not x.told) 1 0) r earlier)

-- and the sums tell them
one_tells : (name : List ℕ) (r : Repeat) (none : Bool) → (r.times == 0) ≡ none → events_in (if none then [] else record { text = repeat_text name r; events = r.times } ∷ []) ≡ r.times
one_tells name r true is = sym (eqb-true r.times 0 is)
one_tells name r false is = zero-add r.times

sums_tell : (name : List ℕ) (entries : List Repeat) → events_in (sums name entries) ≡ sum_by (λ (e : Repeat). e.times) entries
sums_tell name [] = refl
sums_tell name (r ∷ entries) =
    sum_by-append (λ (s : Sum). s.events) (sum_of name r) (sums name entries)
    ∙ ap (λ (k : ℕ). k + events_in (sums name entries)) (one_tells name r (r.times == 0) refl)
    ∙ ap (λ (k : ℕ). r.times + k) (sums_tell name entries)
    ∙ sym (sum_by-cons (λ (e : Repeat). e.times) r entries)

pub events_are : (events : List Event) (entries : List Repeat) → Leaves events entries → (name : List ℕ) → events_in (sums name entries) ≡ count_all_untold events
events_are events entries left name = sums_tell name entries ∙ total events entries left

-- entries keep what they are of and their source where one is counted
counted_keeps : {X : Type 0} (key : Repeat → X) (old new : List Repeat) (what : Repeated) (source : Source) (c : IsCounted old new what source) → key (record c.entry { times = c.entry.times + 1 }) ≡ key c.entry
    → (k : ℕ) (d : Repeat) → key (get_or new k d) ≡ key (get_or old k d)
counted_keeps key old new what source c kept k d =
    ap (λ (es : List Repeat). key (get_or es k d)) c.counted
    ∙ elim (cases_eq k c.place) [
      | inl same ↦ ap (λ (i : ℕ). key (get_or (slice_set old c.place (record c.entry { times = c.entry.times + 1 })) i d)) same
          ∙ ap key (get_or-set_same old c.place (record c.entry { times = c.entry.times + 1 }) d (slice_get_within old c.place c.entry c.there))
          ∙ kept ∙ ap key (sym (get_or_from_slice_get old c.place c.entry d c.there)) ∙ ap (λ (i : ℕ). key (get_or old i d)) (sym same)
      | inr other ↦ ap key (get_or-set_other old c.place k (record c.entry { times = c.entry.times + 1 }) d other)
    ]

pub counted_length : (old new : List Repeat) (what : Repeated) (source : Source) (c : IsCounted old new what source) → length new ≡ length old
counted_length old new what source c = ap length c.counted ∙ length-set old c.place (record c.entry { times = c.entry.times + 1 })

counted_had : (old new : List Repeat) (what : Repeated) (source : Source) (c : IsCounted old new what source) (w : Repeated) (s : Source) → HasEntry new w s → HasEntry old w s
counted_had old new what source c w s (e, (k, within, is), its) =
    let inside : k < length old = omega (arith, counted_length old new what source c) in (
      get_or old k e,
      Contains-get_or old k e inside,
      (
        sym (counted_keeps (λ x. x.what) old new what source c refl k e) ∙ ap (λ (x : Repeat). x.what) is ∙ its.0,
        sym (counted_keeps (λ x. x.source) old new what source c refl k e) ∙ ap (λ (x : Repeat). x.source) is ∙ its.1,
      ),
    )

-- a source that is an address
address_of : (old : List Repeat) (w : Repeated) (from : Addr) (source : Source) → IsSource old w from source → (a : Addr) → source ≡ Address a → (a ≡ from) × (HasEntry old w (Address from) ⊎ (length old < most_addresses))
address_of old w from (Address b) is a same = (cc (same, is.0), is.1)
address_of old w from Others is a same = absurd (cc same)

-- an address is told apart, or few are
abbrev IsApart : List Repeat → Repeated → Addr → Type 0
IsApart entries w a = HasEntry entries w (Address a) ⊎ (length entries < most_addresses)

apart_before : (old new : List Repeat) (w : Repeated) (from : Addr) (source : Source) → IsSource old w from source → TellsOf old new w source true → (v : Repeated) (a : Addr) → IsApart new v a → IsApart old v a
apart_before old new w from source is (inr full) v a apart = subst (λ (es : List Repeat). IsApart es v a) full.same apart
apart_before old new w from source is (inl first) v a apart = made first.noted apart
  where
    fresh_one : (v : Repeated) (a : Addr) (e : Repeat) → fresh w source ≡ e → IsOf v (Address a) e → IsApart old v a
    fresh_one v a e made its =
        let same : w ≡ v = ap (λ (x : Repeat). x.what) made ∙ its.0 in
        let named = address_of old w from source is a (ap (λ (x : Repeat). x.source) made ∙ its.1) in
        elim named.1 [
          | inl had ↦ inl (subst (λ (k : Repeated). HasEntry old k (Address a)) same (subst (λ (x : Addr). HasEntry old w (Address x)) (sym named.0) had))
          | inr few ↦ inr few
        ]

    pushed : (v : Repeated) (a : Addr) → IsApart (old ++ fresh w source ∷ []) v a → IsApart old v a
    pushed v a (inl (e, there, its)) = elim (Contains-push_cases old (fresh w source) e there) [
      | inl before ↦ inl (e, before, its)
      | inr made ↦ fresh_one v a e made its
    ]
    pushed v a (inr few) = inr (omega (arith, length_push old (fresh w source)))

    made : Notes old new w source → IsApart new v a → IsApart old v a
    made (inl is_new) had = pushed v a (subst (λ (es : List Repeat). IsApart es v a) is_new had)
    made (inr full) had = subst (λ (es : List Repeat). IsApart es v a) full.1 had

apart_before_counted : (old new : List Repeat) (w : Repeated) (source : Source) (c : IsCounted old new w source) (v : Repeated) (a : Addr) → IsApart new v a → IsApart old v a
apart_before_counted old new w source c v a (inl had) = inl (counted_had old new w source c v (Address a) had)
apart_before_counted old new w source c v a (inr few) = inr (omega (arith, counted_length old new w source c))

-- an event that is counted for others names no address that is told apart
not_its : (old : List Repeat) (w : Repeated) (from : Addr) → IsSource old w from Others → (v : Repeated) (a : Addr) → IsApart old v a → (b : Bool) → repeated_eq w v && addr_eq from a ≡ b → b ≡ false
not_its old w from is v a apart false tested = refl
not_its old w from is v a apart true tested =
    let both = (Decides-and {P = w ≡ v} {Q = addr_eq from a ≡ true} (repeated_eq w v) (addr_eq from a) (equal_is_same w v) (λ t. t, λ t. t)).0 tested in
    let same : from ≡ a = addr_same from a both.1 in
    elim apart [
      | inl had ↦ absurd (is.0 (subst (λ (k : Repeated). HasEntry old k (Address from)) (sym both.0) (subst (λ (x : Addr). HasEntry old v (Address x)) (sym same) had)))
      | inr few ↦ absurd (omega (arith, few, is.1))
    ]

none_more : (b its : Bool) (new old times : ℕ) → its ≡ false → new + cond (b && false) times 0 ≡ old + cond (b && false) (times + 1) 0 → new ≡ cond (its && true) 1 0 + old
none_more true false new old times not_one is = omega arith
none_more false false new old times not_one is = omega arith
none_more b true new old times not_one is = absurd (true≢false not_one)

-- the times of what repeats with an address
from_step : (told : Bool) (old new : List Repeat) (w : Repeated) (from : Addr) → TellsEvent old new w from told → (v : Repeated) (a : Addr) → IsApart new v a
    → times_from v a new ≡ cond (repeated_eq w v && addr_eq from a && not told) 1 0 + times_from v a old
from_step true old new w from tells v a apart =
    told_sum (λ e. cond (repeated_eq e.what v && names a e.source) e.times 0) old new w tells.0 tells.2 (nothing_of (repeated_eq w v && names a tells.0))
    ∙ sym (zero-add (times_from v a old)) ∙ ap (λ (k : ℕ). k + times_from v a old) (sym (never (repeated_eq w v && addr_eq from a)))
from_step false old new w from (source, is, c) v a apart = counted source is c
  where
    summed : (source : Source) (c : IsCounted old new w source) → times_from v a new + cond (repeated_eq w v && names a source) c.entry.times 0 ≡ times_from v a old + cond (repeated_eq w v && names a source) (c.entry.times + 1) 0
    summed source c =
        let F : Repeated → Source → Type 0 = λ k s. times_from v a new + cond (repeated_eq k v && names a s) c.entry.times 0 ≡ times_from v a old + cond (repeated_eq k v && names a s) (c.entry.times + 1) 0 in
        subst (λ (k : Repeated). F k source) c.its.0 (subst (λ (s : Source). F c.entry.what s) c.its.1 (counted_sum (λ e. cond (repeated_eq e.what v && names a e.source) e.times 0) old new w source c))

    counted : (source : Source) → IsSource old w from source → IsCounted old new w source → times_from v a new ≡ cond (repeated_eq w v && addr_eq from a && true) 1 0 + times_from v a old
    counted (Address b) is c =
        subst (λ (x : Addr). times_from v a new ≡ cond (repeated_eq w v && addr_eq x a && true) 1 0 + times_from v a old) is.0
        (one_more (repeated_eq w v && addr_eq b a) (times_from v a new) (times_from v a old) c.entry.times (summed (Address b) c))
    counted Others is c =
        none_more (repeated_eq w v) (repeated_eq w v && addr_eq from a) (times_from v a new) (times_from v a old) c.entry.times (not_its old w from is v a (apart_before_counted old new w Others c v a apart) _ refl) (summed Others c)

from_are : (events : List Event) (entries : List Repeat) → Leaves events entries → (v : Repeated) (a : Addr) → IsApart entries v a → times_from v a entries ≡ count_untold_from v a events
from_are [] entries none v a apart = ap (λ (es : List Repeat). times_from v a es) none
from_are (r ∷ earlier) entries (before, left, tells) v a apart =
    from_step r.told before entries r.what r.from tells v a apart
    ∙ ap (λ (k : ℕ). cond (repeated_eq r.what v && addr_eq r.from a && not r.told) 1 0 + k) (from_are earlier before left v a (apart_went r.told tells))
    ∙ sym (sum_by-cons (λ (x : Event). cond (repeated_eq x.what v && addr_eq x.from a && not x.told) 1 0) r earlier)
  where
    apart_went : (told : Bool) → TellsEvent before entries r.what r.from told → IsApart before v a
    apart_went true tells = apart_before before entries r.what r.from tells.0 tells.1 tells.2 v a apart
    apart_went false tells = apart_before_counted before entries r.what tells.0 tells.2 v a apart

-- at most so many entries name an address
few_step : (told : Bool) (old new : List Repeat) (w : Repeated) (from : Addr) → TellsEvent old new w from told → count_by (λ e. names_one e.source) old ≤ most_addresses → count_by (λ e. names_one e.source) new ≤ most_addresses
few_step false old new w from (source, is, c) few =
    omega (arith, counted_sum (λ e. cond (names_one e.source) 1 0) old new w source c)
few_step true old new w from (source, is, inr full) few = subst (λ (es : List Repeat). count_by (λ e. names_one e.source) es ≤ most_addresses) (sym full.same) few
few_step true old new w from (Others, is, inl first) few = omega (arith, noted (λ e. cond (names_one e.source) 1 0) old new w Others first.noted refl)
few_step true old new w from (Address a, is, inl first) few = made first.noted
  where
    under : length old < most_addresses
    under = elim is.1 [
      | inl had ↦ absurd (first.first (subst (λ (x : Addr). HasEntry old w (Address x)) (sym is.0) had))
      | inr room ↦ room
    ]

    made : Notes old new w (Address a) → count_by (λ e. names_one e.source) new ≤ most_addresses
    made (inr full) = absurd (omega (arith, under, full.0))
    made (inl is_new) =
        let one = sum_by_push (λ e. cond (names_one e.source) 1 0) old (fresh w (Address a)) in
        let within = count_by-le-length (λ (e : Repeat). names_one e.source) old in
        subst (λ (es : List Repeat). count_by (λ e. names_one e.source) es ≤ most_addresses) (sym is_new) (omega (arith, one, within, under))

pub few_are : (events : List Event) (entries : List Repeat) → Leaves events entries → count_by (λ e. names_one e.source) entries ≤ most_addresses
few_are [] entries none = subst (λ (es : List Repeat). count_by (λ e. names_one e.source) es ≤ most_addresses) (sym none) (omega arith)
few_are (r ∷ earlier) entries (before, left, tells) = few_step r.told before entries r.what r.from tells (few_are earlier before left)

-- no two are of the same with one source
abbrev pub Differ : Repeat → Repeat → Type 0
Differ one other = IsOf one.what one.source other → ⊥

apart_step : (told : Bool) (old new : List Repeat) (w : Repeated) (from : Addr) → TellsEvent old new w from told → AllPairs Differ old → AllPairs Differ new
apart_step false old new w from (source, is, c) apart = λ i j d before within its.
    apart i j d before (omega (arith, counted_length old new w source c, within)) (
      sym (counted_keeps (λ x. x.what) old new w source c refl j d) ∙ its.0 ∙ counted_keeps (λ x. x.what) old new w source c refl i d,
      sym (counted_keeps (λ x. x.source) old new w source c refl j d) ∙ its.1 ∙ counted_keeps (λ x. x.source) old new w source c refl i d,
    )
apart_step true old new w from (source, is, inr full) apart = subst (λ (es : List Repeat). AllPairs Differ es) (sym full.same) apart
apart_step true old new w from (source, is, inl first) apart = made first.noted
  where
    made : Notes old new w source → AllPairs Differ new
    made (inr full) = subst (λ (es : List Repeat). AllPairs Differ es) (sym full.1) apart
    made (inl is_new) = subst (λ (es : List Repeat). AllPairs Differ es) (sym is_new) (
        all_pairs_push Differ old (fresh w source) apart (λ k d within its. first.first (get_or old k d, Contains-get_or old k d within, (sym its.0, sym its.1))))

pub one_each : (events : List Event) (entries : List Repeat) → Leaves events entries → AllPairs Differ entries
one_each [] entries none = subst (λ (es : List Repeat). AllPairs Differ es) (sym none) (λ i j d before within. absurd (omega (arith, within)))
one_each (r ∷ earlier) entries (before, left, tells) = apart_step r.told before entries r.what r.from tells (one_each earlier before left)

-- one of what each entry is of was told
still : (r : Event) (earlier : List Event) (w : Repeated) → WasTold earlier w → WasTold (r ∷ earlier) w
still r earlier w (x, (k, within, is), its, told) = (x, (suc k, omega arith, is), its, told)

told_step : (r : Event) (told : Bool) → r.told ≡ told → (earlier : List Event) (old new : List Repeat) → TellsEvent old new r.what r.from told
    → All (λ e. WasTold earlier e.what) old → All (λ e. WasTold (r ∷ earlier) e.what) new
told_step r false is earlier old new (source, its, c) had = λ k d within.
    subst (λ (w : Repeated). WasTold (r ∷ earlier) w) (sym (counted_keeps (λ x. x.what) old new r.what source c refl k d))
    (still r earlier (get_or old k d).what (had k d (omega (arith, counted_length old new r.what source c, within))))
told_step r true is earlier old new (source, its, tells) had = elim tells [ inl first ↦ made first.noted | inr full ↦ same full.same ]
  where
    all : All (λ e. WasTold (r ∷ earlier) e.what) old
    all = λ k d within. still r earlier (get_or old k d).what (had k d within)

    same : new ≡ old → All (λ e. WasTold (r ∷ earlier) e.what) new
    same is_old = subst (λ (es : List Repeat). All (λ e. WasTold (r ∷ earlier) e.what) es) (sym is_old) all

    made : Notes old new r.what source → All (λ e. WasTold (r ∷ earlier) e.what) new
    made (inr full) = same full.1
    made (inl is_new) = subst (λ (es : List Repeat). All (λ e. WasTold (r ∷ earlier) e.what) es) (sym is_new) (
        All-push (λ (e : Repeat). WasTold (r ∷ earlier) e.what) old (fresh r.what source) all (r, (0, omega arith, refl), refl, is))

repeats_one : (what : Repeated) (from : Addr) (told : Bool) (earlier : List Event) (old new : List Repeat) → TellsEvent old new what from told → All (λ e. WasTold earlier e.what) old → told ≡ false → WasTold earlier what
repeats_one what from true earlier old new tells had counted = absurd (true≢false counted)
repeats_one what from false earlier old new (source, its, c) had counted =
    subst (λ (w : Repeated). WasTold earlier w) (ap (λ (e : Repeat). e.what) (get_or_from_slice_get old c.place c.entry c.entry c.there) ∙ c.its.0)
    (had c.place c.entry (slice_get_within old c.place c.entry c.there))

pub told_all : (events : List Event) (entries : List Repeat) → Leaves events entries → All (λ e. WasTold events e.what) entries
told_all [] entries none = subst (λ (es : List Repeat). All (λ e. WasTold [] e.what) es) (sym none) (λ k d within. absurd (omega (arith, within)))
told_all (r ∷ earlier) entries (before, left, tells) = told_step r r.told refl earlier before entries tells (told_all earlier before left)

repeats_are : (events : List Event) (entries : List Repeat) → Leaves events entries → EachRepeats events
repeats_are [] entries none = tt
repeats_are (r ∷ earlier) entries (before, left, tells) = (repeats_one r.what r.from r.told earlier before entries tells (told_all earlier before left), repeats_are earlier before left)

pub sums_tell_all : SumsTellAll
sums_tell_all events entries left = record {
  repeats = repeats_are events entries left;
  sums = times_are events entries left;
  all = events_are events entries left;
  sums_from = λ what from had. from_are events entries left what from (inl had);
  one_each = one_each events entries left;
  few = few_are events entries left;
}
