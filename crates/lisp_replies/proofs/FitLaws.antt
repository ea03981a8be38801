-- What one message can carry: records for a narrower prefix where it carries those for a wider one, and one record alone.
use Rattle.std.proofs.Common.{[], ◌≡◌, ◌⊎◌, inl, inr, ℕ, ◌+◌, ◌<◌, ◌≤◌, Bool, true, false, cond, List, ◌∷◌, ◌++◌, length, map, if◌then◌else◌, refl, sym, ap, ◌∙◌, subst, true≢false, arith, length-append, append_assoc, min, Option, Some, None}
use Rattle.std.proofs.lemmas.Bool.{and_from, and_parts, cases_lt}
use Rattle.std.proofs.lemmas.List.{append-nil, length-map}
use Rattle.std.proofs.lemmas.List.Kept.{AllPairs-filter}
use Rattle.std.proofs.lemmas.List.Sums.{sum_by-cons}
use Rattle.std.specs.List.{Contains, filter, All}
use Rattle.std.specs.Option.{IfSome, is_some, IsSome}
use Rattle.lisp_records.specs.declared.address.Addr.{Addr}
use Rattle.lisp_records.specs.Address.{PrefixValue, octets, prefix_around, IsPrefix, IsWhole}
use Rattle.lisp_records.specs.Parts.{fits_message, size}
use Rattle.lisp_records.specs.Record.{MapRecordValue}
use Rattle.lisp_records.specs.Row.{RowValue, is_alive}
use Rattle.lisp_records.specs.Written.{written, written_address, written_head, written_locators}
use Rattle.lisp_records.proofs.Cuts.{fits, fits_is}
use Rattle.lisp_policy.{proofs.Found.not_true, specs.Site.SiteValue}
use Rattle.lisp_lookup.specs.Inside.{is_inside, AreInside}
use Rattle.lisp_lookup.specs.Replies.{record_of, not_local, IsLeastTtl, AreRecords, IsNarrowed, RepliesWith}
use Rattle.lisp_lookup.specs.Covering.{IsBestFor, NoneAnswersFor, alone}
use Rattle.lisp_lookup.specs.Hole.{IsHoleOf}
use Rattle.lisp_lookup.proofs.Apart.{on_either}
use Rattle.lisp_lookup.proofs.CachedLaws.{its_eid}
use Rattle.lisp_lookup.proofs.TableLaws.{filtered_holds, filter_holds}
use Rattle.lisp_lookup.proofs.BestLaws.{for_length, answers_alike}
use Rattle.lisp_replies.specs.Narrowing.{WiderFitsNot, AreWidest, FitFor, FitNowhere, NoneFitFor}
use Rattle.lisp_replies.specs.Walk.{records_of}
use Rattle.lisp_replies.specs.Reply.{is_held_back}
use Rattle.lisp_replies.proofs.SeenLaws.{IsBefore, least_alone, least_more}
use Rattle.lisp_replies.proofs.OwnHoleLaws.{inside_wider, length-octets}

-- ---- how long a record is

long : (m : MapRecordValue) → length (written m) ≡ 12 + length (octets m.eid.addr) + length (written_locators m.locators)
unfolding written
long m = omega (arith, length-append (written_head m) (written_address m.eid.addr ++ written_locators m.locators), length-append (written_address m.eid.addr) (written_locators m.locators))

its_locators : (ttl : ℕ) (eid : PrefixValue) (h : RowValue) → (record_of ttl eid h).locators ≡ (if h.proxy then map not_local h.mapping.locators else [])
its_locators ttl eid h = grind arith

its_length : (ttl : ℕ) (eid : PrefixValue) (h : RowValue) → length (written (record_of ttl eid h)) ≡ 12 + length (octets eid.addr) + length (written_locators (if h.proxy then map not_local h.mapping.locators else []))
its_length ttl eid h = long (record_of ttl eid h) ∙ (λ i. 12 + length (octets (its_eid ttl eid h i).addr) + length (written_locators (its_locators ttl eid h i)))

-- it depends neither on the TTL nor on the mask length
long_as : (ttl other : ℕ) (eid : PrefixValue) (h : RowValue) → length (written (record_of ttl eid h)) ≡ length (written (record_of other eid h))
long_as ttl other eid h = its_length ttl eid h ∙ sym (its_length other eid h)

long_around : (ttl other : ℕ) (addr : Addr) (n m : ℕ) (h : RowValue) → length (written (record_of ttl (prefix_around addr n) h)) ≡ length (written (record_of other (prefix_around addr m) h))
long_around ttl other addr n m h = omega (arith, its_length ttl (prefix_around addr n) h, its_length other (prefix_around addr m) h, length-octets addr n, length-octets addr m)

-- ---- the records of some rows

abbrev record_for : ℕ → RowValue → MapRecordValue
record_for ttl h = record_of ttl h.mapping.eid h

abbrev bytes : MapRecordValue → ℕ
bytes m = length (written m)

-- some of them are no more and no longer
abbrev AreFewer : ℕ → ℕ → List RowValue → List RowValue → Type 0
AreFewer ttl other some all = (length some ≤ length all) × (size (map (record_for ttl) some) ≤ size (map (record_for other) all))

fewer_case : (ttl other : ℕ) (test : Bool) (h : RowValue) (some all : List RowValue) → AreFewer ttl other some all → AreFewer ttl other (cond test (h ∷ some) some) (h ∷ all)
fewer_case ttl other true h some all (few, short) = (omega (arith, few), omega (arith, short, long_as ttl other h.mapping.eid h, sum_by-cons bytes (record_for ttl h) (map (record_for ttl) some), sum_by-cons bytes (record_for other h) (map (record_for other) all)))
fewer_case ttl other false h some all (few, short) = (omega (arith, few), omega (arith, short, sum_by-cons bytes (record_for other h) (map (record_for other) all)))

fewer : (ttl other : ℕ) (test : RowValue → Bool) (all : List RowValue) → AreFewer ttl other (filter test all) all
fewer ttl other test [] = (omega arith, omega arith)
fewer ttl other test (h ∷ all) = fewer_case ttl other (test h) h (filter test all) all (fewer ttl other test all)

-- ---- rows have a least TTL

least_from : (seen : List RowValue) (ttl : ℕ) → IsLeastTtl seen ttl → (hs : List RowValue) → (least : ℕ) × IsLeastTtl (seen ++ hs) least
least_from seen ttl is [] = (ttl, subst (λ (l : List RowValue). IsLeastTtl l ttl) (sym (append-nil seen)) is)
least_from seen ttl is (h ∷ hs) =
    let (least, all) = least_from (seen ++ h ∷ []) (min ttl h.mapping.ttl) (least_more seen h ttl is) hs in
    (least, subst (λ (l : List RowValue). IsLeastTtl l least) (append_assoc seen (h ∷ []) hs) all)

pub least_of : (h : RowValue) (hs : List RowValue) → (ttl : ℕ) × IsLeastTtl (h ∷ hs) ttl
least_of h hs = least_from (h ∷ []) h.mapping.ttl (least_alone h) hs

-- ---- a narrower prefix around an address

module _ (addr : Addr) (wide narrow : ℕ) (shorter : wide < narrow) where
  abbrev outer : PrefixValue
  outer = prefix_around addr wide

  abbrev inner : PrefixValue
  inner = prefix_around addr narrow

  abbrev in_inner : RowValue → Bool
  in_inner h = is_inside inner h.mapping.eid

  inside_inner : (rows : List RowValue) (now : ℕ) (inside : List RowValue) → AreInside rows outer now inside → AreInside rows inner now (filter in_inner inside)
  inside_inner rows now inside are = record {
    rising = AllPairs-filter IsBefore in_inner inside are.rising;
    best = λ h here. (let was = filtered_holds in_inner inside h here in ((are.best h was.0).0, was.1));
    all = λ h held is. own h held (and_parts (is_alive h now) (is_inside inner h.mapping.eid) is);
  }
    where
      own : (h : RowValue) → Contains rows h → (is_alive h now ≡ true) × (is_inside inner h.mapping.eid ≡ true) → (own : RowValue) × Contains (filter in_inner inside) own × (own.mapping.eid ≡ h.mapping.eid)
      own h held (alive, is) =
          let its = are.all h held (and_from (is_alive h now) (is_inside outer h.mapping.eid) alive (inside_wider addr wide narrow (omega (arith, shorter)) h.mapping.eid is)) in
          (its.0, filter_holds in_inner inside its.0 its.1 (ap (is_inside inner) its.2 ∙ is), its.2)

  -- where the records for the wider one fit, so do those for it
  inner_fits : (best : RowValue) (inside : List RowValue) (ttl other : ℕ) → fits_message (records_of other outer best inside) ≡ true → fits_message (records_of ttl inner best (filter in_inner inside)) ≡ true
  inner_fits best inside ttl other fit =
      let all = fits_is (records_of other outer best inside) fit in
      let some = fewer ttl other in_inner inside in
      let kept = filter in_inner inside in
      fits (records_of ttl inner best kept)
      (omega (arith, all.0, some.0, length-map inside (record_for other), length-map kept (record_for ttl)))
      (omega (arith, all.1, some.1, long_around ttl other addr narrow wide best, sum_by-cons bytes (record_of ttl inner best) (map (record_for ttl) kept), sum_by-cons bytes (record_of other outer best) (map (record_for other) inside)))

pub wider_fits_not : (rows : List RowValue) → WiderFitsNot rows
wider_fits_not rows asked now best narrow wide to_narrow to_wide shorter none records are = not_true (fits_message records) (λ fit.
    (let kept = filter (in_inner asked.addr wide narrow shorter) are.inside in
    let ttl = least_of best kept in
    let inner_are : AreRecords rows (prefix_around asked.addr narrow) now best (records_of ttl.0 (prefix_around asked.addr narrow) best kept) = record { inside = kept; are = inside_inner asked.addr wide narrow shorter rows now are.inside are.are; ttl = ttl.0; least = ttl.1; is = refl } in
    let fit_too = inner_fits asked.addr wide narrow shorter best are.inside ttl.0 are.ttl (subst (λ (rs : List MapRecordValue). fits_message rs ≡ true) are.is fit) in
    true≢false (sym fit_too ∙ none (records_of ttl.0 (prefix_around asked.addr narrow) best kept) inner_are)))

-- ---- The widest prefix for which records fit a message, found by halving.

-- what is known of a value that was found
pub of_found : {X : Type 0} (P : X → Type 0) (found : Option X) (x : X) → found ≡ Some x → IfSome found P → P x
of_found {X = X} P found x is known = subst (λ (o : Option X). IfSome o P) is known

pub none_found : {X : Type 0} (found : Option X) → is_some found ≡ false → found ≡ None
none_found found none = grind arith

module _ (rows : List RowValue) (asked : PrefixValue) (now : ℕ) (best : RowValue) where
  abbrev around : ℕ → PrefixValue
  around n = prefix_around asked.addr n

  abbrev NoneFit : ℕ → Type 0
  NoneFit n = NoneFitFor rows (around n) now best

  narrowed_at : (n : ℕ) → best.mapping.eid.mask_len ≤ n → n ≤ asked.mask_len → IsNarrowed asked best (around n)
  narrowed_at n from to = record { around = refl; from = from; to = to }

  -- where none fit for a length, none do for a lesser one
  lesser : (n m : ℕ) → best.mapping.eid.mask_len ≤ n → n < m → m ≤ asked.mask_len → NoneFit m → NoneFit n
  lesser n m from less to none = wider_fits_not rows asked now best m n (narrowed_at m (omega (arith, from, less)) to) (narrowed_at n from (omega (arith, less, to))) less none

  -- what is known below one length is known below the next
  pub wider_up : (low middle : ℕ) → best.mapping.eid.mask_len ≤ middle → middle ≤ asked.mask_len → NoneFit middle → (n : ℕ) → best.mapping.eid.mask_len ≤ n → n < middle + 1 → NoneFit n
  wider_up low middle from_middle to none n from less = on_either (cases_lt n middle)
      (λ under. lesser n middle from under to none) (λ over. (let same : middle ≡ n = omega (arith, less, over) in subst NoneFit same none))

  -- where none fit for the prefix that is asked for, none do anywhere
  pub nowhere_at : NoneFit asked.mask_len → FitNowhere rows asked now best
  nowhere_at none eid narrowed = subst (λ (e : PrefixValue). NoneFitFor rows e now best) (sym narrowed.around) (on_either (cases_lt eid.mask_len asked.mask_len)
      (λ under. lesser eid.mask_len asked.mask_len narrowed.from under (omega arith) none)
      (λ over. (let same : asked.mask_len ≡ eid.mask_len = omega (arith, over, narrowed.to) in subst NoneFit same none)))

  fit_or_not : (n : ℕ) (records : List MapRecordValue) → NoneFit n → FitFor rows (around n) now best records → ⊥
  fit_or_not n records none (are, fit) = true≢false (sym fit ∙ none records are)

  -- where they fit for a greater length and none do for the row's own, that is less
  pub own_is_less : (records : List MapRecordValue) → IsBestFor rows asked now best → NoneFit best.mapping.eid.mask_len → FitFor rows (around asked.mask_len) now best records → best.mapping.eid.mask_len < asked.mask_len
  own_is_less records is_best none fit = either (cases_lt best.mapping.eid.mask_len asked.mask_len)
    where
      either : (best.mapping.eid.mask_len < asked.mask_len) ⊎ (asked.mask_len ≤ best.mapping.eid.mask_len) → best.mapping.eid.mask_len < asked.mask_len
      either (inl under) = under
      either (inr over) =
          let same : best.mapping.eid.mask_len ≡ asked.mask_len = omega (arith, over, for_length best asked now is_best.may) in
          absurd (fit_or_not asked.mask_len records (subst NoneFit same none) fit)

  -- the length is found
  pub widest_at : (high : ℕ) (records : List MapRecordValue) → best.mapping.eid.mask_len ≤ high → high ≤ asked.mask_len → FitFor rows (around high) now best records → ((n : ℕ) → best.mapping.eid.mask_len ≤ n → n < high → NoneFit n) → AreWidest rows asked now best records
  widest_at high records from to fit wider = record {
    eid = around high;
    narrowed = narrowed_at high from to;
    fit = fit;
    widest = λ other narrowed less. subst (λ (e : PrefixValue). NoneFitFor rows e now best) (sym narrowed.around) (wider other.mask_len narrowed.from less);
  }

-- ---- What a Map-Server sends, put together.

-- the records for the widest prefix are those of a reply
pub replies_for : (rows : List RowValue) (sites : List SiteValue) (asked : PrefixValue) (starting : Bool) (now : ℕ) (best : RowValue) (records : List MapRecordValue) → IsBestFor rows asked now best → best.proxy ≡ true → AreWidest rows asked now best records → is_held_back starting sites asked best ≡ false → (r : RepliesWith rows asked now records) × (is_held_back starting sites asked r.best ≡ false)
replies_for rows sites asked starting now best records is_best proxy known free = (
  record {
    best = best;
    is_best = is_best;
    proxy = proxy;
    eid = known.eid;
    narrowed = known.narrowed;
    are = known.fit.0;
    fit = known.fit.1;
    widest = λ wider more narrowed less are. known.widest wider narrowed less more are;
  },
  free,
)

-- where no row answers for an address there is a hole around it
pub hole_there : (rows : List RowValue) (sites : List SiteValue) (addr : Addr) (now : ℕ) (found : Option PrefixValue) → All (λ h. IsPrefix h.mapping.eid) rows → IsWhole addr → NoneAnswersFor rows (alone addr) now → IsHoleOf rows sites addr now found → IsSome found
hole_there rows sites addr now (Some eid) blocks whole none is = refl
hole_there rows sites addr now None blocks whole none (h, held, may) = absurd (true≢false (sym may ∙ (answers_alike rows blocks addr whole now None).0 none h held))
