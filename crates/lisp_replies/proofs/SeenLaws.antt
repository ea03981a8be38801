-- The walk over the prefixes inside: what was seen is the front of the list of all.
use Rattle.std.proofs.Common.{[], ◌≡◌, ◌≢◌, ◌⊎◌, inl, inr, ℕ, zero, suc, true, List, ◌∷◌, ◌++◌, length, slice_index_or, refl, sym, ap, ◌∙◌, subst, arith, ◌+◌, ◌<◌, ◌≤◌, min, false, map, Option, Some}
use Rattle.std.proofs.lemmas.Bool.{and_from, and_parts, cases_lt}
use Rattle.std.proofs.lemmas.List.{length-append, length-map, map-append}
use Rattle.std.proofs.lemmas.List.Elements.{Contains-append_left, Contains-get_or, Contains-push, Contains-push_cases}
use Rattle.std.proofs.lemmas.List.Quantifiers.{all_pairs_push}
use Rattle.std.proofs.lemmas.List.Sums.{sum_by-append}
use Rattle.std.specs.List.{Contains}
use Rattle.std.specs.Ordering.{ordering_reverse, ordering_then}
use Rattle.std.specs.declared.cmp.Ordering.{Ordering}
use Rattle.std.specs.declared.cmp.Ordering.TheVariants.{Less, Equal, Greater}
use Rattle.lisp_records.specs.Address.{PrefixValue, prefix_cmp}
use Rattle.lisp_records.specs.Router.{router_cmp}
use Rattle.lisp_records.specs.Row.{RowValue, is_alive}
use Rattle.lisp_records.specs.Parts.{fits_message, size}
use Rattle.lisp_records.specs.Record.{MapRecordValue}
use Rattle.lisp_records.specs.Written.{written}
use Rattle.lisp_records.proofs.Cuts.{begins_fits, fits, fits_is}
use Rattle.lisp_records.proofs.Elements.{none_in}
use Rattle.lisp_records.proofs.RisingLaws.{begins_with, one_order}
use Rattle.lisp_lookup.specs.Inside.{is_inside, is_live_inside, IsBestOfOwn, IsNextInside, NoneInside, AreInside, InsideValue, IsNextInsideOf, moved}
use Rattle.lisp_lookup.specs.Table.{OneEach, row_at}
use Rattle.lisp_lookup.specs.Replies.{IsLeastTtl, record_of}
use Rattle.lisp_lookup.proofs.Apart.{on_either}
use Rattle.lisp_lookup.proofs.AnswerLaws.{ranks_tie}
use Rattle.lisp_lookup.proofs.InsideLaws.{inside_behind, not_both}
use Rattle.lisp_lookup.proofs.Orders.{block_total, same_block, same_router}
use Rattle.lisp_lookup.proofs.TableLaws.{found_own, some_inj}
use Rattle.lisp_replies.specs.Kept.{HaveOneInside}
use Rattle.lisp_replies.specs.Walk.{AreSeen, HasMoreThan, records_of}
use Rattle.lisp_replies.specs.Narrowing.{NoneFitFor}
use Rattle.lisp_policy.proofs.Found.{not_true}

-- ---- the best row of a prefix is one

second_tie : (one two : Ordering) → ordering_then one two ≡ Equal → two ≡ Equal
second_tie one two tie = grind arith

pub own_best_is_one : (rows : List RowValue) (now : ℕ) → OneEach rows → (a b : RowValue) → IsBestOfOwn rows now a → IsBestOfOwn rows now b → a.mapping.eid ≡ b.mapping.eid → a ≡ b
own_best_is_one rows now one a b best_a best_b same =
    let tie = ranks_tie a b (best_b.most a best_a.held best_a.alive same) (best_a.most b best_b.held best_b.alive (sym same)) in
    let router = same_router a.router b.router (second_tie _ (router_cmp a.router b.router) tie) in
    let found : row_at rows a.router a.mapping.eid ≡ row_at rows b.router b.mapping.eid = λ i. row_at rows (router i) (same i) in
    some_inj a b (sym (found_own rows a one best_a.held) ∙ found ∙ found_own rows b one best_b.held)

-- ---- in the order of prefixes

-- what doesn't stand behind a prefix stands before what does
before_case : (a after b : PrefixValue) (o : Ordering) → prefix_cmp after a ≡ o → o ≢ Less → prefix_cmp after b ≡ Less → prefix_cmp a b ≡ Less
before_case a after b Less is low behind = absurd (low refl)
before_case a after b Equal is low behind = subst (λ (p : PrefixValue). prefix_cmp p b ≡ Less) (same_block after a is) behind
before_case a after b Greater is low behind = (let turned : prefix_cmp a after ≡ Less = block_total.antisymm a after ∙ ap ordering_reverse is in block_total.trans a after b turned behind)

before_behind : (a after b : PrefixValue) → prefix_cmp after a ≢ Less → prefix_cmp after b ≡ Less → prefix_cmp a b ≡ Less
before_behind a after b low behind = before_case a after b (prefix_cmp after a) refl low behind

-- it stands before it, or not
less_or_not : (o : Ordering) → (o ≡ Less) ⊎ (o ≢ Less)
less_or_not Less = inl refl
less_or_not _ = inr (λ is. absurd cc)

-- of two of which neither is the greater one both are the same
tie_of : (o : Ordering) → o ≢ Greater → o ≢ Less → o ≡ Equal
tie_of Equal low high = refl
tie_of Less low high = absurd (high refl)
tie_of Greater low high = absurd (low refl)

-- rows by their prefixes
abbrev pub IsBefore : RowValue → RowValue → Type 0
IsBefore a b = prefix_cmp a.mapping.eid b.mapping.eid ≡ Less

strictly : (a b : RowValue) → IsBefore a b → IsBefore b a → ⊥
strictly a b one other = not_both block_total a.mapping.eid b.mapping.eid one other

abbrev pub UpTo : PrefixValue → RowValue → Type 0
UpTo after h = prefix_cmp after h.mapping.eid ≢ Less

sooner : (after : PrefixValue) (a b : RowValue) → IsBefore a b → UpTo after b → UpTo after a
sooner after a b before low behind = low (block_total.trans after a.mapping.eid b.mapping.eid behind before)

live : (outer : PrefixValue) (now : ℕ) (h : RowValue) → is_alive h now ≡ true → is_inside outer h.mapping.eid ≡ true → is_live_inside outer now h ≡ true
live outer now h alive inside = and_from (is_alive h now) (is_inside outer h.mapping.eid) alive inside

-- ---- the walk

module _ (rows : List RowValue) (outer : PrefixValue) (now : ℕ) where
  -- a best row whose prefix is that of an element of a list of best rows is that element
  its_own : OneEach rows → (list : List RowValue) → ((h : RowValue) → Contains list h → IsBestOfOwn rows now h × (is_inside outer h.mapping.eid ≡ true)) → (h : RowValue) → IsBestOfOwn rows now h → (own : RowValue) × Contains list own × (own.mapping.eid ≡ h.mapping.eid) → Contains list h
  its_own one list best h is (own, held, same) = subst (Contains list) (own_best_is_one rows now one own h (best own held).0 is same) held

  pub seen_begins : (after : PrefixValue) (seen inside : List RowValue) → OneEach rows → AreSeen rows outer now after seen → AreInside rows outer now inside → (rest : List RowValue) × (inside ≡ seen ++ rest)
  seen_begins after seen inside one are_seen are_inside = begins_with IsBefore strictly (UpTo after) (sooner after) seen inside are_seen.rising are_inside.rising are_seen.up_to to from
    where
      to : (h : RowValue) → Contains seen h → Contains inside h
      to h here =
          let is = are_seen.best h here in
          its_own one inside are_inside.best h is.0 (are_inside.all h is.0.held (live outer now h is.0.alive is.1))

      from : (h : RowValue) → Contains inside h → UpTo after h → Contains seen h
      from h there low =
          let is = are_inside.best h there in
          its_own one seen are_seen.best h is.0 (are_seen.all h is.0.held (live outer now h is.0.alive is.1) low)

  -- at its beginning nothing was seen
  pub seen_none : AreSeen rows outer now outer []
  seen_none = record {
    rising = λ i j d lt within. absurd (omega (arith, within));
    best = λ h here. none_in h here;
    up_to = λ h here. none_in h here;
    all = λ h held is low. absurd (low (inside_behind outer h.mapping.eid (and_parts (is_alive h now) (is_inside outer h.mapping.eid) is).1));
  }

  -- one prefix more was seen
  pub seen_more : (after : PrefixValue) (seen : List RowValue) (h : RowValue) → AreSeen rows outer now after seen → IsNextInside rows outer after now h → AreSeen rows outer now h.mapping.eid (seen ++ h ∷ [])
  seen_more after seen h are next = record {
    rising = all_pairs_push IsBefore seen h are.rising (λ k d lt. before (slice_index_or seen k d) (Contains-get_or seen k d lt));
    best = λ g here. best g (Contains-push_cases seen h g here);
    up_to = λ g here. up_to g (Contains-push_cases seen h g here);
    all = λ g held is low. all g held is low (less_or_not (prefix_cmp after g.mapping.eid));
  }
    where
      before : (g : RowValue) → Contains seen g → IsBefore g h
      before g here = before_behind g.mapping.eid after h.mapping.eid (are.up_to g here) next.behind

      best : (g : RowValue) → Contains seen g ⊎ (h ≡ g) → IsBestOfOwn rows now g × (is_inside outer g.mapping.eid ≡ true)
      best g (inl here) = are.best g here
      best g (inr same) = subst (λ (x : RowValue). IsBestOfOwn rows now x × (is_inside outer x.mapping.eid ≡ true)) same (next.best, next.inside)

      up_to : (g : RowValue) → Contains seen g ⊎ (h ≡ g) → UpTo h.mapping.eid g
      up_to g (inl here) behind = strictly g h (before g here) behind
      up_to g (inr same) behind = (let own : IsBefore h h = subst (IsBefore h) (sym same) behind in strictly h h own own)

      all : (g : RowValue) → Contains rows g → is_live_inside outer now g ≡ true → UpTo h.mapping.eid g → (prefix_cmp after g.mapping.eid ≡ Less) ⊎ (prefix_cmp after g.mapping.eid ≢ Less) → (own : RowValue) × Contains (seen ++ h ∷ []) own × (own.mapping.eid ≡ g.mapping.eid)
      all g held is low (inl behind) = (h, Contains-push seen h, same_block h.mapping.eid g.mapping.eid (tie_of (prefix_cmp h.mapping.eid g.mapping.eid) (next.first g held is behind) low))
      all g held is low (inr seen_before) =
          let own = are.all g held is seen_before in
          (own.0, Contains-append_left seen (h ∷ []) own.0 own.1, own.2)

  -- where no further prefix is inside all were seen
  pub seen_all : (after : PrefixValue) (seen : List RowValue) → AreSeen rows outer now after seen → NoneInside rows outer after now → AreInside rows outer now seen
  seen_all after seen are none = record { rising = are.rising; best = are.best; all = λ h held is. are.all h held is (none h held is) }

-- ---- there is one list of the prefixes inside

pub one_inside : (rows : List RowValue) → HaveOneInside rows
one_inside rows one_each outer now one other is also = one_order IsBefore strictly one other is.rising also.rising (to one other is also) (to other one also is)
  where
    to : (xs ys : List RowValue) → AreInside rows outer now xs → AreInside rows outer now ys → (h : RowValue) → Contains xs h → Contains ys h
    to xs ys are all h here =
        let is = are.best h here in
        its_own rows outer now one_each ys all.best h is.0 (all.all h is.0.held (live outer now h is.0.alive is.1))

-- ---- Walks over the prefixes inside a prefix: what was seen so far, and what is known of it at the end.

-- ---- where a walk is

-- what a walk that is behind a prefix shows next
pub shows_next : {rows : List RowValue} {outer after : PrefixValue} {now : ℕ} (walk : InsideValue) (shown : Option RowValue) → walk ≡ record { rows = rows; outer = outer; moment = now; after = after } → IsNextInsideOf walk.rows walk.outer walk.after walk.moment shown → IsNextInsideOf rows outer after now shown
shows_next walk shown is next = subst (λ (w : InsideValue). IsNextInsideOf w.rows w.outer w.after w.moment shown) is next

-- and where it is then
pub goes_behind : {rows : List RowValue} {outer after : PrefixValue} {now : ℕ} (walk : InsideValue) (h : RowValue) → walk ≡ record { rows = rows; outer = outer; moment = now; after = after } → moved walk (Some h) ≡ record { rows = rows; outer = outer; moment = now; after = h.mapping.eid }
goes_behind walk h is = ap (λ (w : InsideValue). moved w (Some h)) is

-- ---- the least TTL

is_only : (h g : RowValue) → Contains (h ∷ []) g → h ≡ g
is_only h g (zero, lt, at) = at
is_only h g (suc k, lt, at) = absurd (omega (arith, lt))

pub least_alone : (h : RowValue) → IsLeastTtl (h ∷ []) h.mapping.ttl
least_alone h = record { its = h; held = (0, omega arith, refl); is = refl; least = λ g there. omega (arith, ap (λ (r : RowValue). r.mapping.ttl) (is_only h g there)) }

pub least_more : (xs : List RowValue) (h : RowValue) (n : ℕ) → IsLeastTtl xs n → IsLeastTtl (xs ++ h ∷ []) (min n h.mapping.ttl)
least_more xs h n known = on_either (cases_lt h.mapping.ttl n)
    (λ less. record { its = h; held = Contains-push xs h; is = omega (arith, less); least = below })
    (λ more. record { its = known.its; held = Contains-append_left xs (h ∷ []) known.its known.held; is = omega (arith, more, known.is); least = below })
  where
    below : (g : RowValue) → Contains (xs ++ h ∷ []) g → min n h.mapping.ttl ≤ g.mapping.ttl
    below g there = by (Contains-push_cases xs h g there)
      where
        by : Contains xs g ⊎ (h ≡ g) → min n h.mapping.ttl ≤ g.mapping.ttl
        by (inl was) = omega (arith, known.least g was)
        by (inr same) = omega (arith, ap (λ (r : RowValue). r.mapping.ttl) same)

-- ---- the walk that finds it

-- what was seen up to a prefix, one less than is counted, and the least TTL of it and of the row that answers
pub record IsWalked (rows : List RowValue) (best : RowValue) (outer : PrefixValue) (now : ℕ) (after : PrefixValue) (count least : ℕ) : Type 0 where
  pub seen : List RowValue
  pub are : AreSeen rows outer now after seen
  pub counted : count ≡ length seen + 1
  pub few : count ≤ 255
  pub known : IsLeastTtl (best ∷ seen) least

module _ (rows : List RowValue) (best : RowValue) (outer : PrefixValue) (now : ℕ) where
  pub walked_none : IsWalked rows best outer now outer 1 best.mapping.ttl
  walked_none = record { seen = []; are = seen_none rows outer now; counted = refl; few = omega arith; known = least_alone best }

  pub walked_more : (after : PrefixValue) (count least : ℕ) (h : RowValue) → IsWalked rows best outer now after count least → IsNextInside rows outer after now h → count ≢ 255 → IsWalked rows best outer now h.mapping.eid (count + 1) (min least h.mapping.ttl)
  walked_more after count least h walked next more = record {
    seen = walked.seen ++ h ∷ [];
    are = seen_more rows outer now after walked.seen h walked.are next;
    counted = omega (arith, walked.counted, length-append walked.seen (h ∷ []));
    few = omega (arith, walked.few, more);
    known = least_more (best ∷ walked.seen) h least walked.known;
  }

  pub walked_many : (after : PrefixValue) (least : ℕ) (h : RowValue) → OneEach rows → IsWalked rows best outer now after 255 least → IsNextInside rows outer after now h → HasMoreThan 254 rows outer now
  walked_many after least h one walked next inside are =
      let seen = walked.seen ++ h ∷ [] in
      let begins = seen_begins rows outer now h.mapping.eid seen inside one (seen_more rows outer now after walked.seen h walked.are next) are in
      omega (arith, walked.counted, length-append walked.seen (h ∷ []), length-append seen begins.0, ap (λ (l : List RowValue). length l) begins.1)

  pub walked_all : (after : PrefixValue) (count least : ℕ) → OneEach rows → IsWalked rows best outer now after count least → NoneInside rows outer after now → (inside : List RowValue) → AreInside rows outer now inside → IsLeastTtl (best ∷ inside) least
  walked_all after count least one walked none inside are = subst (λ (l : List RowValue). IsLeastTtl (best ∷ l) least) same walked.known
    where
      same : walked.seen ≡ inside
      same = one_inside rows one outer now walked.seen inside (seen_all rows outer now after walked.seen walked.are none) are

-- ---- the walk that makes the records

-- what was seen up to a prefix, and the records of it, which one message can carry
pub record AreMade (rows : List RowValue) (best : RowValue) (outer : PrefixValue) (now ttl : ℕ) (after : PrefixValue) (records : List MapRecordValue) (bytes : ℕ) : Type 0 where
  pub seen : List RowValue
  pub are : AreSeen rows outer now after seen
  pub made : records ≡ records_of ttl outer best seen
  pub counted : bytes ≡ size records
  pub fit : fits_message records ≡ true

module _ (rows : List RowValue) (best : RowValue) (outer : PrefixValue) (now ttl : ℕ) where
  pub made_one : (r : MapRecordValue) (bytes : ℕ) → r ≡ record_of ttl outer best → bytes ≡ length (written r) → bytes ≤ 6148 → AreMade rows best outer now ttl outer (r ∷ []) bytes
  made_one r bytes is counted small =
      let its : bytes ≡ size (r ∷ []) = omega (arith, counted) in
      record { seen = []; are = seen_none rows outer now; made = ap (λ (m : MapRecordValue). m ∷ []) is; counted = its; fit = fits (r ∷ []) (omega arith) (omega (arith, its, small)) }

  module _ (after : PrefixValue) (records : List MapRecordValue) (bytes : ℕ) (h : RowValue) (r : MapRecordValue) (more : ℕ) (made : AreMade rows best outer now ttl after records bytes) (next : IsNextInside rows outer after now h) (is : r ≡ record_of ttl h.mapping.eid h) (counted : more ≡ length (written r)) where
    seen_then : AreSeen rows outer now h.mapping.eid (made.seen ++ h ∷ [])
    seen_then = seen_more rows outer now after made.seen h made.are next

    then_made : records ++ r ∷ [] ≡ records_of ttl outer best (made.seen ++ h ∷ [])
    then_made = (λ i. made.made i ++ is i ∷ []) ∙ ap (λ (l : List MapRecordValue). record_of ttl outer best ∷ l) (sym (map-append (λ (x : RowValue). record_of ttl x.mapping.eid x) made.seen (h ∷ [])))

    then_size : bytes + more ≡ size (records ++ r ∷ [])
    then_size = omega (arith, made.counted, counted, sum_by-append (λ (m : MapRecordValue). length (written m)) records (r ∷ []))

    pub made_more : length records ≢ 255 → bytes + more ≤ 16384 → AreMade rows best outer now ttl h.mapping.eid (records ++ r ∷ []) (bytes + more)
    made_more few small = record {
      seen = made.seen ++ h ∷ [];
      are = seen_then;
      made = then_made;
      counted = then_size;
      fit = fits (records ++ r ∷ []) (omega (arith, few, (fits_is records made.fit).0, length-append records (r ∷ []))) (omega (arith, then_size, small));
    }

    -- one record more, and no message carries all
    pub made_many : OneEach rows → (length records ≡ 255) ⊎ (16384 < bytes + more) → (inside : List RowValue) → AreInside rows outer now inside → fits_message (records_of ttl outer best inside) ≡ false
    made_many one full inside are = not_true (fits_message (records_of ttl outer best inside)) (λ fit. too_many full (fits_is (records ++ r ∷ []) (begins_fits (records ++ r ∷ []) _ (subst (λ (l : List MapRecordValue). fits_message l ≡ true) front fit))))
      where
        begins : (rest : List RowValue) × (inside ≡ (made.seen ++ h ∷ []) ++ rest)
        begins = seen_begins rows outer now h.mapping.eid (made.seen ++ h ∷ []) inside one seen_then are

        front : records_of ttl outer best inside ≡ (records ++ r ∷ []) ++ map (λ (x : RowValue). record_of ttl x.mapping.eid x) begins.0
        front = ap (records_of ttl outer best) begins.1 ∙ ap (λ (l : List MapRecordValue). record_of ttl outer best ∷ l) (map-append (λ (x : RowValue). record_of ttl x.mapping.eid x) (made.seen ++ h ∷ []) begins.0) ∙ ap (λ (l : List MapRecordValue). l ++ map (λ (x : RowValue). record_of ttl x.mapping.eid x) begins.0) (sym then_made)

        too_many : (length records ≡ 255) ⊎ (16384 < bytes + more) → (length (records ++ r ∷ []) ≤ 255) × (size (records ++ r ∷ []) ≤ 16384) → ⊥
        too_many (inl long) known = omega (arith, long, known.0, length-append records (r ∷ []))
        too_many (inr large) known = omega (arith, large, known.1, then_size)

  -- nothing is left
  pub made_all : (after : PrefixValue) (records : List MapRecordValue) (bytes : ℕ) → AreMade rows best outer now ttl after records bytes → NoneInside rows outer after now → (inside : List RowValue) × AreInside rows outer now inside × (records ≡ records_of ttl outer best inside) × (fits_message records ≡ true)
  made_all after records bytes made none = (made.seen, seen_all rows outer now after made.seen made.are none, made.made, made.fit)

-- ---- of any list of the prefixes inside

one_least : (rows : List RowValue) (m n : ℕ) → IsLeastTtl rows m → IsLeastTtl rows n → m ≡ n
one_least rows m n one other = omega (arith, one.is, other.is, one.least other.its other.held, other.least one.its one.held)

module _ (rows : List RowValue) (best : RowValue) (eid : PrefixValue) (now ttl : ℕ) (known : (inside : List RowValue) → AreInside rows eid now inside → IsLeastTtl (best ∷ inside) ttl) where
  -- where they don't fit, none do
  pub unfit_for : ((inside : List RowValue) → AreInside rows eid now inside → fits_message (records_of ttl eid best inside) ≡ false) → NoneFitFor rows eid now best
  unfit_for unfit records are =
      let same = one_least (best ∷ are.inside) are.ttl ttl are.least (known are.inside are.are) in
      ap fits_message are.is ∙ ap (λ (n : ℕ). fits_message (records_of n eid best are.inside)) same ∙ unfit are.inside are.are

-- nor where more prefixes are inside than one message can carry records
pub many_unfit : (rows : List RowValue) (best : RowValue) (eid : PrefixValue) (now : ℕ) → HasMoreThan 254 rows eid now → NoneFitFor rows eid now best
many_unfit rows best eid now many records are = not_true (fits_message records) (λ fit. omega (arith, many are.inside are.are, (fits_is records fit).0, ap (λ (l : List MapRecordValue). length l) are.is, length-map are.inside (λ (h : RowValue). record_of are.ttl h.mapping.eid h)))
