-- Rows, and the records that are sent of them.
use Rattle.std.proofs.Common.{[], List, arith, false, true, refl, sym, ◌∙◌, true≢false, ℕ, ◌≤◌, ◌∷◌, ◌≡◌, ap, Greater, Less, ◌<◌, ◌≢◌, length, subst, zero, suc, map, replicate}
use Rattle.std.proofs.lemmas.List.Sums.{sum_by-cons}
use Rattle.std.specs.List.{Contains}
use Rattle.lisp_records.specs.Address.{PrefixValue, masked, prefix_cmp, prefix_eq, prefix_around}
use Rattle.lisp_records.specs.Record.{MapRecordValue}
use Rattle.lisp_records.specs.Row.{RowValue}
use Rattle.lisp_records.specs.Written.{written}
use Rattle.lisp_records.specs.Parts.{fits_message, size}
use Rattle.lisp_records.proofs.Cuts.{fits_is}
use Rattle.lisp_lookup.specs.Covering.{may_answer_for}
use Rattle.lisp_lookup.specs.Inside.{AreInside, is_inside, is_live_inside, IsBestOfOwn}
use Rattle.lisp_lookup.specs.Replies.{AreRecords, IsNarrowed, RepliesWith, record_of}
use Rattle.lisp_lookup.proofs.Examples.Covering.{first_best, mixed, mixed_records, mixed_three, narrowed, one_row, replied, rise, second_best, sixteen, three, three_records, two_inside}
use Rattle.lisp_lookup.proofs.Examples.Holes.{site}
use Rattle.lisp_lookup.proofs.Examples.Rows.{block, each, four, in_first, in_second, in_sixteen, locator, no, none_above, in_eight, newer, all_below, below, ipv4, row}
use Rattle.lisp_replies.specs.Walk.{AreSeen, HasMoreThan, records_of}
use Rattle.lisp_replies.specs.Reply.{is_held_back}
use Rattle.lisp_replies.specs.Narrowing.{AreWidest, FitNowhere, NoneFitFor, WiderFitsNot}
use Rattle.lisp_policy.specs.Limits.{no_limits}
use Rattle.lisp_policy.specs.Site.{SiteValue}
use Rattle.lisp_policy.proofs.Found.{not_true}

abbrev pub asked : PrefixValue
asked = block 10 1 5 5 32

-- RFC 9301 section 5.5, where the router of one of the two longer prefixes inside didn't ask for proxy replies
pub mixed_reply : RepliesWith mixed asked 0 mixed_three
unfolding masked written
mixed_reply = record {
  best = in_sixteen;
  is_best = record { held = (0, omega arith, refl); may = refl; most = none_above (may_answer_for asked 0) in_sixteen mixed refl };
  proxy = refl;
  eid = sixteen;
  narrowed = narrowed;
  are = mixed_records;
  fit = refl;
  widest = λ wider more from less are. absurd (omega (arith, from.from, less));
}

-- one row alone: its prefix is its block, in which no longer one is
pub none_inside : (h : RowValue) (outer : PrefixValue) → is_live_inside outer 0 h ≡ false → AreInside (h ∷ []) outer 0 []
none_inside h outer out = record {
  rising = λ i j d less within. absurd (omega (arith, less, within));
  best = each (λ (x : RowValue). IsBestOfOwn (h ∷ []) 0 x × (is_inside outer x.mapping.eid ≡ true)) [] tt;
  all = each (λ (x : RowValue). is_live_inside outer 0 x ≡ true → (own : RowValue) × Contains [] own × (own.mapping.eid ≡ x.mapping.eid)) (h ∷ []) ((λ live. absurd (true≢false (sym live ∙ out))), tt);
}

-- ---- The longer prefixes inside a prefix, one by one.

-- on the way up to the first of them that one was seen, and then both
abbrev first_eid : PrefixValue
first_eid = block 10 1 1 0 24

abbrev second_eid : PrefixValue
second_eid = block 10 1 2 0 24

abbrev Best : RowValue → Type 0
Best h = IsBestOfOwn four 0 h × (is_inside sixteen h.mapping.eid ≡ true)

abbrev UpTo : PrefixValue → RowValue → Type 0
UpTo after h = prefix_cmp after h.mapping.eid ≢ Less

abbrev Seen : PrefixValue → List RowValue → RowValue → Type 0
Seen after seen h = is_live_inside sixteen 0 h ≡ true → prefix_cmp after h.mapping.eid ≢ Less → (own : RowValue) × Contains seen own × (own.mapping.eid ≡ h.mapping.eid)

pub none_seen : AreSeen four sixteen 0 sixteen []
unfolding masked
none_seen = record {
  rising = λ i j d less within. absurd (omega (arith, less, within));
  best = each Best [] tt;
  up_to = each (UpTo sixteen) [] tt;
  all = each (Seen sixteen []) four (no, (no, ((λ live behind. absurd (behind refl)), ((λ live behind. absurd (behind refl)), tt))));
}

one_seen : AreSeen four sixteen 0 first_eid (in_first ∷ [])
unfolding masked
one_seen = record {
  rising = one_row in_first;
  best = each Best (in_first ∷ []) ((first_best, refl), tt);
  up_to = each (UpTo first_eid) (in_first ∷ []) ((λ is. absurd cc), tt);
  all = each (Seen first_eid (in_first ∷ [])) four (no, (no, ((λ live behind. (in_first, (0, omega arith, refl), refl)), ((λ live behind. absurd (behind refl)), tt))));
}

both_seen : AreSeen four sixteen 0 second_eid (in_first ∷ in_second ∷ [])
unfolding masked
both_seen = record {
  rising = rise in_first in_second refl;
  best = each Best (in_first ∷ in_second ∷ []) ((first_best, refl), ((second_best, refl), tt));
  up_to = each (UpTo second_eid) (in_first ∷ in_second ∷ []) ((λ is. absurd cc), ((λ is. absurd cc), tt));
  all = each (Seen second_eid (in_first ∷ in_second ∷ [])) four (no, (no, ((λ live behind. (in_first, (0, omega arith, refl), refl)), ((λ live behind. (in_second, (1, omega arith, refl), refl)), tt))));
}

-- none of them may be left out, nor stand there too early or in another order
first_left_out : AreSeen four sixteen 0 second_eid (in_second ∷ []) → ⊥
unfolding masked
first_left_out seen = by (seen.all in_first (2, omega arith, refl) refl (λ is. absurd cc))
  where
    by : (own : RowValue) × Contains (in_second ∷ []) own × (own.mapping.eid ≡ first_eid) → ⊥
    by (own, has, same) = absurd (true≢false (sym (ap (λ (p : PrefixValue). prefix_eq p first_eid) same) ∙ each (λ (h : RowValue). prefix_eq h.mapping.eid first_eid ≡ false) (in_second ∷ []) (refl, tt) own has))

last_left_out : AreSeen four sixteen 0 second_eid (in_first ∷ []) → ⊥
unfolding masked
last_left_out seen = by (seen.all in_second (3, omega arith, refl) refl (λ is. absurd cc))
  where
    by : (own : RowValue) × Contains (in_first ∷ []) own × (own.mapping.eid ≡ second_eid) → ⊥
    by (own, has, same) = absurd (true≢false (sym (ap (λ (p : PrefixValue). prefix_eq p second_eid) same) ∙ each (λ (h : RowValue). prefix_eq h.mapping.eid second_eid ≡ false) (in_first ∷ []) (refl, tt) own has))

too_early : AreSeen four sixteen 0 first_eid (in_first ∷ in_second ∷ []) → ⊥
too_early seen = seen.up_to in_second (1, omega arith, refl) refl

turned : AreSeen four sixteen 0 second_eid (in_second ∷ in_first ∷ []) → ⊥
turned seen = absurd (let clash : Greater ≡ Less = seen.rising 0 1 in_eight (omega arith) (omega arith) in cc)

itself_seen : AreSeen four sixteen 0 sixteen (in_sixteen ∷ []) → ⊥
unfolding masked
itself_seen seen = no (seen.best in_sixteen (0, omega arith, refl)).1

older_seen : AreSeen (in_first ∷ newer in_first ∷ []) sixteen 0 first_eid (in_first ∷ []) → ⊥
older_seen seen = (seen.best in_first (0, omega arith, refl)).0.most (newer in_first) (1, omega arith, refl) refl refl refl

-- they are more than none, and not more than two
some_element : (xs : List RowValue) (h : RowValue) → Contains xs h → 0 < length xs
some_element xs h (k, lt, is) = omega (arith, lt)

more_than_none : HasMoreThan 0 four sixteen 0
unfolding masked
more_than_none inside are = by (are.all in_first (2, omega arith, refl) refl)
  where
    by : (own : RowValue) × Contains inside own × (own.mapping.eid ≡ first_eid) → 0 < length inside
    by (own, has, same) = some_element inside own has

more_than_two : HasMoreThan 2 four sixteen 0 → ⊥
more_than_two more = absurd (let less : 2 < 2 = more (in_first ∷ in_second ∷ []) two_inside in omega (arith, less))

-- the records of a prefix all have one TTL
their_records : records_of 30 sixteen in_sixteen (in_first ∷ in_second ∷ []) ≡ three
their_records = refl

-- ---- Which rows aren't replied with in the first moments of a life.

-- one with 10.0.0.0/8 and 10.1.0.0/16
abbrev pub nested : List SiteValue
nested = record { id = 1; keys = []; prefixes = record { eid = block 10 0 0 0 8; more_specifics = true } ∷ record { eid = sixteen; more_specifics = false } ∷ []; limits = no_limits } ∷ []

-- the row of the site's own prefix is replied with
own_prefix : is_held_back true (site sixteen) asked in_sixteen ≡ false
unfolding masked
own_prefix = refl

-- that of a shorter prefix than the site's isn't, but later on it is
shorter_prefix : is_held_back true (site sixteen) asked in_eight ≡ true
unfolding masked
shorter_prefix = refl

later_on : is_held_back false (site sixteen) asked in_eight ≡ false
later_on = refl

-- nor is that of a longer one, beside which others may come back
more_specific : is_held_back true (site sixteen) (block 10 1 1 7 32) in_first ≡ true
unfolding masked
more_specific = refl

-- of a site's two prefixes the longer that covers the one that is asked for
outer_prefix : is_held_back true nested asked in_eight ≡ true
unfolding masked
outer_prefix = refl

inner_prefix : is_held_back true nested asked in_sixteen ≡ false
unfolding masked
inner_prefix = refl

outside_the_inner : is_held_back true nested (block 10 2 0 1 32) in_eight ≡ false
unfolding masked
outside_the_inner = refl

over_the_inner : is_held_back true nested (block 10 0 0 0 8) in_eight ≡ false
unfolding masked
over_the_inner = refl

-- the longer one may be of another site
abbrev two_sites : List SiteValue
two_sites = record { id = 1; keys = []; prefixes = record { eid = block 10 0 0 0 8; more_specifics = true } ∷ []; limits = no_limits } ∷ record { id = 2; keys = []; prefixes = record { eid = sixteen; more_specifics = false } ∷ []; limits = no_limits } ∷ []

of_another_site : is_held_back true two_sites asked in_eight ≡ true
unfolding masked
of_another_site = refl

of_the_second_site : is_held_back true two_sites asked in_sixteen ≡ false
unfolding masked
of_the_second_site = refl

-- ---- Where the records for a prefix don't fit one message.

-- 10.1.1.0/24 has so many locators that no message carries its record: so it is with each prefix around 10.1.0.0 that has it inside
abbrev wide : RowValue
wide = record (row 3 (block 10 1 1 0 24) 30) { mapping = record (row 3 (block 10 1 1 0 24) 30).mapping { locators = replicate 1500 locator } }

abbrev pub crowded : List RowValue
crowded = in_sixteen ∷ wide ∷ []

abbrev around : ℕ → PrefixValue
around n = prefix_around (ipv4 10 1 0 0) n

wide_inside : (n : ℕ) → n < 24 → is_live_inside (around n) 0 wide ≡ true
unfolding masked all_below
wide_inside n lt = below 24 (λ k. is_live_inside (around k) 0 wide) refl n lt

only_wide : (h : RowValue) → Contains crowded h → h.mapping.eid ≡ wide.mapping.eid → h ≡ wide
only_wide = each (λ (x : RowValue). x.mapping.eid ≡ wide.mapping.eid → x ≡ wide) crowded ((λ same. absurd (true≢false (ap (λ (p : PrefixValue). prefix_eq p sixteen) same))), ((λ same. refl), tt))

its_size : (ttl : ℕ) → length (written (record_of ttl (block 10 1 1 0 24) wide)) ≡ 18016
unfolding written
its_size ttl = refl

abbrev records_at : ℕ → List RowValue → List MapRecordValue
records_at ttl inside = map (λ h. record_of ttl h.mapping.eid h) inside

their_size : (ttl : ℕ) (inside : List RowValue) → Contains inside wide → 18016 ≤ size (records_at ttl inside)
their_size ttl [] (k, lt, is) = absurd (omega (arith, lt))
their_size ttl (h ∷ hs) (zero, lt, is) = subst (λ (x : RowValue). 18016 ≤ size (records_at ttl (x ∷ hs))) (sym is) (omega (arith, sum_by-cons (λ r. length (written r)) (record_of ttl (block 10 1 1 0 24) wide) (records_at ttl hs), its_size ttl))
their_size ttl (h ∷ hs) (suc k, lt, is) = omega (arith, sum_by-cons (λ r. length (written r)) (record_of ttl h.mapping.eid h) (records_at ttl hs), their_size ttl hs (k, omega (arith, lt), is))

pub none_fit : (n : ℕ) → n < 24 → (best : RowValue) → NoneFitFor crowded (around n) 0 best
none_fit n lt best records are = not_true (fits_message records) (λ fit. too_many (are.are.all wide (1, omega arith, refl) (wide_inside n lt)) (ap fits_message (sym are.is) ∙ fit))
  where
    too_many : (own : RowValue) × Contains are.inside own × (own.mapping.eid ≡ wide.mapping.eid) → fits_message (record_of are.ttl (around n) best ∷ records_at are.ttl are.inside) ≡ true → ⊥
    too_many (own, there, same) fit =
        let is : own ≡ wide = only_wide own (are.are.best own there).0.held same in
        let large = their_size are.ttl are.inside (subst (λ (h : RowValue). Contains are.inside h) is there) in
        let all = sum_by-cons (λ r. length (written r)) (record_of are.ttl (around n) best) (records_at are.ttl are.inside) in
        absurd (omega (arith, large, all, (fits_is (record_of are.ttl (around n) best ∷ records_at are.ttl are.inside) fit).1))

-- for 10.1.0.0 itself the widest whose records fit is 10.1.0.0/24
abbrev pub address : PrefixValue
address = block 10 1 0 0 32

abbrev pub of_address : List MapRecordValue
of_address = replied 2 (block 10 1 0 0 24) 1440 ∷ []

none_there : AreInside crowded (block 10 1 0 0 24) 0 []
unfolding masked
none_there = record {
  rising = λ i j d less within. absurd (omega (arith, less, within));
  best = each (λ (h : RowValue). IsBestOfOwn crowded 0 h × (is_inside (block 10 1 0 0 24) h.mapping.eid ≡ true)) [] tt;
  all = each (λ (h : RowValue). is_live_inside (block 10 1 0 0 24) 0 h ≡ true → (own : RowValue) × Contains [] own × (own.mapping.eid ≡ h.mapping.eid)) crowded (no, (no, tt));
}

pub address_records : AreRecords crowded (block 10 1 0 0 24) 0 in_sixteen of_address
address_records = record { inside = []; are = none_there; ttl = 1440; least = record { its = in_sixteen; held = (0, omega arith, refl); is = refl; least = each (λ (h : RowValue). 1440 ≤ h.mapping.ttl) (in_sixteen ∷ []) (omega arith, tt) }; is = refl }

pub address_narrowed : IsNarrowed address in_sixteen (block 10 1 0 0 24)
unfolding masked
address_narrowed = record { around = refl; from = omega arith; to = omega arith }

address_widest : AreWidest crowded address 0 in_sixteen of_address
unfolding written
address_widest = record {
  eid = block 10 1 0 0 24;
  narrowed = address_narrowed;
  fit = (address_records, refl);
  widest = λ wider from less. subst (λ (b : PrefixValue). NoneFitFor crowded b 0 in_sixteen) (sym from.around) (none_fit wider.mask_len less in_sixteen);
}

-- for 10.1.0.0/16 none fits
pub sixteen_nowhere : FitNowhere crowded sixteen 0 in_sixteen
sixteen_nowhere eid from = subst (λ (b : PrefixValue). NoneFitFor crowded b 0 in_sixteen) (sym from.around) (none_fit eid.mask_len (omega (arith, from.to)) in_sixteen)

sixteen_widest : (records : List MapRecordValue) → AreWidest crowded sixteen 0 in_sixteen records → ⊥
sixteen_widest records widest = true≢false (sym widest.fit.1 ∙ sixteen_nowhere widest.eid widest.narrowed records widest.fit.0)

-- for its address one does
address_nowhere : FitNowhere crowded address 0 in_sixteen → ⊥
unfolding written
address_nowhere nowhere = true≢false (nowhere (block 10 1 0 0 24) address_narrowed of_address address_records)

three_dont_fit : NoneFitFor four sixteen 0 in_sixteen → ⊥
unfolding written
three_dont_fit none = true≢false (none three three_records)

-- where all records fit the prefix isn't narrowed, and it is never wider than the row's
first_length : List MapRecordValue → ℕ
first_length [] = 0
first_length (r ∷ rs) = r.eid.mask_len

too_narrow : (records : List MapRecordValue) → first_length records ≡ 17 → AreWidest four asked 0 in_sixteen records → ⊥
unfolding written first_length
too_narrow records length widest =
    let its : first_length records ≡ widest.eid.mask_len = ap first_length widest.fit.0.is in
    true≢false (widest.widest sixteen narrowed (omega (arith, its, length)) three three_records)

wider_than_the_row : (records : List MapRecordValue) → first_length records ≡ 8 → AreWidest four asked 0 in_sixteen records → ⊥
unfolding first_length
wider_than_the_row records length widest =
    let its : first_length records ≡ widest.eid.mask_len = ap first_length widest.fit.0.is in
    absurd (omega (arith, its, length, widest.narrowed.from))

-- so says the law of a wider one
wider_says : WiderFitsNot crowded → NoneFitFor crowded (around 20) 0 in_sixteen → NoneFitFor crowded (around 17) 0 in_sixteen
unfolding masked
wider_says law none = law address 0 in_sixteen 20 17 (record { around = refl; from = omega arith; to = omega arith }) (record { around = refl; from = omega arith; to = omega arith }) (omega arith) none
