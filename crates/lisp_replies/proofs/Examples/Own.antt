-- What a router sends over its database.
use Rattle.std.proofs.Common.{[], List, ◌∷◌, Some, None, inl, inr, arith, false, true, refl, sym, ap, ◌∙◌, subst, true≢false, ℕ, ◌≤◌, ◌≡◌}
use Rattle.std.specs.List.{Contains}
use Rattle.lisp_records.specs.declared.locator.Locator.{Locator}
use Rattle.lisp_records.specs.Address.{PrefixValue, covers, holds, masked, prefix_around, prefix_eq}
use Rattle.lisp_records.specs.Parts.{fits_message}
use Rattle.lisp_records.specs.Record.{MapRecordValue}
use Rattle.lisp_records.specs.Written.{written}
use Rattle.lisp_lookup.specs.Replies.{IsLongest}
use Rattle.lisp_lookup.proofs.Examples.Rows.{all_below, below, block, each, fails, ipv4, locator, no, registered}
use Rattle.lisp_replies.specs.Own.{AreOwnRecords, IsFreeOf, IsLeastOwnTtl, IsLongestFor, IsOwnHole, IsOwnNarrowed, IsOwnReply, IsOwnUnanswered, NoneIsFor, OwnFitNot, OwnRepliesWith, own_inside, own_record}
use Rattle.lisp_replies.specs.OwnKept.{IsOwnAnswered, IsOwnKept, OwnRepliesMayBeKept}
use Rattle.lisp_replies.specs.declared.reply.Reply.{Reply}
use Rattle.lisp_replies.specs.declared.reply.Reply.TheVariants.{Records, Negative}

-- ---- records

-- one as configured, without A, with L for its locator and a Map-Version number; and as it is sent
abbrev configured : ℕ → PrefixValue → ℕ → MapRecordValue
configured version eid ttl = record (registered version eid ttl) { authoritative = false }

abbrev sent : ℕ → PrefixValue → ℕ → MapRecordValue
sent version eid ttl = registered version eid ttl

abbrev of_eight : MapRecordValue
of_eight = configured 1 (block 10 0 0 0 8) 60

abbrev of_sixteen : MapRecordValue
of_sixteen = configured 2 (block 10 1 0 0 16) 1440

abbrev of_first : MapRecordValue
of_first = configured 3 (block 10 1 1 0 24) 30

abbrev of_second : MapRecordValue
of_second = configured 4 (block 10 1 2 0 24) 90

-- in no order
abbrev four : List MapRecordValue
four = of_second ∷ of_sixteen ∷ of_first ∷ of_eight ∷ []

-- 10.0.0.0/24 and 10.0.2.0/24, with a gap between them
abbrev gaps : List MapRecordValue
gaps = configured 1 (block 10 0 0 0 24) 60 ∷ configured 2 (block 10 0 2 0 24) 90 ∷ []

-- ---- the longest record

sixteen_is_longest : IsLongestFor four (block 10 1 5 5 32) of_sixteen
unfolding masked
sixteen_is_longest = record {
  held = (1, omega arith, refl);
  over = refl;
  longest = each (λ (m : MapRecordValue). covers m.eid (block 10 1 5 5 32) ≡ true → m.eid.mask_len ≤ 16) four (no, ((λ over. omega arith), (no, ((λ over. omega arith), tt))));
}

eight_is_shorter : IsLongestFor four (block 10 1 5 5 32) of_eight → ⊥
unfolding masked
eight_is_shorter is = absurd (omega (arith, is.longest of_sixteen (1, omega arith, refl) refl))

first_is_beside : IsLongestFor four (block 10 1 5 5 32) of_first → ⊥
unfolding masked
first_is_beside is = no is.over

not_there : IsLongestFor (of_eight ∷ []) (block 10 1 5 5 32) of_sixteen → ⊥
not_there is = absurd (omega (arith, by of_sixteen is.held))
  where
    by : (m : MapRecordValue) → Contains (of_eight ∷ []) m → m.eid.mask_len ≤ 8
    by = each (λ (m : MapRecordValue). m.eid.mask_len ≤ 8) (of_eight ∷ []) (omega arith, tt)

one_longest : (m : MapRecordValue) → IsLongestFor four (block 10 1 5 5 32) m → m ≡ of_sixteen
unfolding masked
one_longest m is = each (λ (x : MapRecordValue). IsLongestFor four (block 10 1 5 5 32) x → x ≡ of_sixteen) four ((λ x. no x.over), ((λ x. refl), ((λ x. no x.over), ((λ x. absurd (eight_is_shorter x)), tt)))) m is.held is

none_covers : NoneIsFor four (block 11 0 0 1 32)
unfolding masked
none_covers = fails (λ m. covers m.eid (block 11 0 0 1 32)) four refl

-- 10.0.0.0/23 has records in it, but none covers it
none_over : NoneIsFor gaps (block 10 0 0 0 23)
unfolding masked
none_over = fails (λ m. covers m.eid (block 10 0 0 0 23)) gaps refl

-- ---- the records that are sent

inside_sixteen : own_inside four (block 10 1 0 0 16) ≡ of_second ∷ of_first ∷ []
unfolding masked
inside_sixteen = refl

-- RFC 9301 section 5.5: for 10.1.5.5 there are three records, in the database's order, all with the least TTL
abbrev three : List MapRecordValue
three = sent 2 (block 10 1 0 0 16) 30 ∷ sent 4 (block 10 1 2 0 24) 30 ∷ sent 3 (block 10 1 1 0 24) 30 ∷ []

least_of_three : IsLeastOwnTtl (of_sixteen ∷ of_second ∷ of_first ∷ []) 30
least_of_three = record { its = of_first; held = (2, omega arith, refl); is = refl; least = each (λ (m : MapRecordValue). 30 ≤ m.ttl) (of_sixteen ∷ of_second ∷ of_first ∷ []) (omega arith, (omega arith, (omega arith, tt))) }

three_records : AreOwnRecords four None (block 10 1 0 0 16) of_sixteen three
unfolding masked
three_records = record { ttl = 30; least = least_of_three; is = refl }

its_own_ttl : IsLeastOwnTtl (of_sixteen ∷ of_second ∷ of_first ∷ []) 1440 → ⊥
its_own_ttl least = absurd (omega (arith, least.least of_first (2, omega arith, refl)))

ttl_of_none : IsLeastOwnTtl (of_sixteen ∷ []) 30 → ⊥
ttl_of_none least = by least.its least.held least.is
  where
    by : (m : MapRecordValue) → Contains (of_sixteen ∷ []) m → m.ttl ≡ 30 → ⊥
    by = each (λ (m : MapRecordValue). m.ttl ≡ 30 → ⊥) (of_sixteen ∷ []) ((λ is. absurd (omega (arith, is))), tt)

-- of a narrower prefix, in which no longer one is, there is one record, with its own TTL
narrow_record : AreOwnRecords four None (block 10 1 5 0 24) of_sixteen (sent 2 (block 10 1 5 0 24) 1440 ∷ [])
unfolding masked
narrow_record = record { ttl = 1440; least = record { its = of_sixteen; held = (0, omega arith, refl); is = refl; least = each (λ (m : MapRecordValue). 1440 ≤ m.ttl) (of_sixteen ∷ []) (omega arith, tt) }; is = refl }

-- where 192.0.2.2 is probed, its locator has the probe bit, and another one what it was configured with
abbrev second_locator : Locator
second_locator = record locator { addr = ipv4 192 0 2 2 }

abbrev third_locator : Locator
third_locator = record locator { addr = ipv4 192 0 2 3; probe = true }

probed_second : own_record (Some (ipv4 192 0 2 2)) 60 (block 10 0 0 0 8) (record of_eight { locators = locator ∷ second_locator ∷ third_locator ∷ [] }) ≡ record of_eight { authoritative = true; locators = locator ∷ record second_locator { probe = true } ∷ third_locator ∷ [] }
probed_second = refl

none_probed : own_record None 60 (block 10 0 0 0 8) (record of_eight { locators = locator ∷ third_locator ∷ [] }) ≡ record of_eight { authoritative = true; locators = locator ∷ third_locator ∷ [] }
none_probed = refl

-- ---- narrowing

narrowed : IsOwnNarrowed (block 10 1 5 5 32) of_sixteen (block 10 1 0 0 16)
unfolding masked
narrowed = record { around = refl; from = omega arith; to = omega arith }

wider_than_the_record : IsOwnNarrowed (block 10 1 5 5 32) of_sixteen (block 10 0 0 0 8) → ⊥
wider_than_the_record narrowed = absurd (omega (arith, narrowed.from))

longer_than_asked : IsOwnNarrowed (block 10 1 0 0 16) of_sixteen (block 10 1 0 0 24) → ⊥
longer_than_asked narrowed = absurd (omega (arith, narrowed.to))

elsewhere : IsOwnNarrowed (block 10 1 5 5 32) of_sixteen (block 10 1 1 0 24) → ⊥
unfolding masked
elsewhere other = true≢false (ap (λ (p : PrefixValue). prefix_eq p (block 10 1 1 0 24)) other.around)

-- the three fit a message, so that no prefix is narrowed
three_sent : OwnRepliesWith four (block 10 1 5 5 32) None three
unfolding masked written
three_sent = record {
  longest = of_sixteen;
  is_longest = sixteen_is_longest;
  eid = block 10 1 0 0 16;
  narrowed = narrowed;
  are = three_records;
  fit = refl;
  widest = λ wider from less. absurd (omega (arith, from.from, less));
}

fits : fits_message three ≡ true
unfolding written
fits = refl

first_length : List MapRecordValue → ℕ
first_length [] = 0
first_length (r ∷ rs) = r.eid.mask_len

too_narrow : OwnRepliesWith four (block 10 1 5 5 32) None (sent 2 (block 10 1 5 0 24) 1440 ∷ []) → ⊥
unfolding masked first_length
too_narrow reply =
    let longest : reply.longest ≡ of_sixteen = one_longest reply.longest reply.is_longest in
    let length : 24 ≡ reply.eid.mask_len = ap first_length reply.are.is in
    let unfit : OwnFitNot four None (block 10 1 0 0 16) of_sixteen = subst (λ (m : MapRecordValue). OwnFitNot four None (block 10 1 0 0 16) m) longest (reply.widest (block 10 1 0 0 16) (subst (λ (m : MapRecordValue). IsOwnNarrowed (block 10 1 5 5 32) m (block 10 1 0 0 16)) (sym longest) narrowed) (omega (arith, length))) in
    true≢false (sym fits ∙ unfit three three_records)

-- ---- replies

reply_of_three : IsOwnReply {A = ℕ} four (block 10 1 5 5 32) None (Records three)
reply_of_three = inl three_sent

-- 10.0.0.0/23 is covered by none, but its first address is by 10.0.0.0/24
abbrev of_gap : MapRecordValue
of_gap = configured 1 (block 10 0 0 0 24) 60

alone_sent : OwnRepliesWith gaps (block 10 0 0 0 32) None (sent 1 (block 10 0 0 0 24) 60 ∷ [])
unfolding masked written
alone_sent = record {
  longest = of_gap;
  is_longest = record { held = (0, omega arith, refl); over = refl; longest = each (λ (m : MapRecordValue). covers m.eid (block 10 0 0 0 32) ≡ true → m.eid.mask_len ≤ 24) gaps ((λ over. omega arith), (no, tt)) };
  eid = block 10 0 0 0 24;
  narrowed = record { around = refl; from = omega arith; to = omega arith };
  are = record { ttl = 60; least = record { its = of_gap; held = (0, omega arith, refl); is = refl; least = each (λ (m : MapRecordValue). 60 ≤ m.ttl) (of_gap ∷ []) (omega arith, tt) }; is = refl };
  fit = refl;
  widest = λ wider from less. absurd (omega (arith, from.from, less));
}

reply_alone : IsOwnReply {A = ℕ} gaps (block 10 0 0 0 23) None (Records (sent 1 (block 10 0 0 0 24) 60 ∷ []))
unfolding masked
reply_alone = inr (inl none_over, inl alone_sent)

-- between 10.0.0.0/24 and 10.0.2.0/24
free_gap : IsFreeOf gaps (block 10 0 1 0 24)
unfolding masked
free_gap m at = (fails (λ x. covers (block 10 0 1 0 24) x.eid) gaps refl m at, fails (λ x. covers x.eid (block 10 0 1 0 24)) gaps refl m at)

gap : IsOwnHole gaps (ipv4 10 0 1 1) (block 10 0 1 0 24)
unfolding masked all_below
gap = record {
  around = (omega arith, refl);
  free = free_gap;
  widest = λ wider less free. absurd (true≢false (sym (below 24 (λ n. covers (prefix_around (ipv4 10 0 1 1) n) (block 10 0 0 0 24)) refl wider less) ∙ (free of_gap (0, omega arith, refl)).0));
}

too_wide : IsOwnHole gaps (ipv4 10 0 1 1) (block 10 0 0 0 23) → ⊥
unfolding masked
too_wide hole = true≢false (hole.free of_gap (0, omega arith, refl)).0

too_long : IsOwnHole gaps (ipv4 10 0 1 1) (block 10 0 1 0 25) → ⊥
unfolding masked
too_long hole = hole.widest 24 (omega arith) free_gap

another : IsOwnHole gaps (ipv4 10 0 1 1) (block 10 0 3 0 24) → ⊥
unfolding masked
another hole = true≢false (ap (λ (p : PrefixValue). prefix_eq p (block 10 0 3 0 24)) hole.around.1)

-- a record over a prefix is in its way
not_free : IsFreeOf (of_eight ∷ []) (block 10 0 1 0 24) → ⊥
unfolding masked
not_free free = true≢false (free of_eight (0, omega arith, refl)).1

abbrev negative : PrefixValue → ℕ → Reply ℕ
negative eid ttl = Negative (record { eid = eid; ttl = ttl })

none_asked : NoneIsFor gaps (block 10 0 1 1 32)
unfolding masked
none_asked = fails (λ m. covers m.eid (block 10 0 1 1 32)) gaps refl

reply_none : IsOwnReply gaps (block 10 0 1 1 32) None (negative (block 10 0 1 0 24) 1)
reply_none = inr (inl none_asked, inr (gap, refl))

for_a_quarter : IsOwnReply gaps (block 10 0 1 1 32) None (negative (block 10 0 1 0 24) 15) → ⊥
for_a_quarter (inl is) = absurd is
for_a_quarter (inr (none, inl is)) = absurd is
for_a_quarter (inr (none, inr (hole, ttl))) = absurd (omega (arith, ttl))

-- a record covers the prefix, and what is sent fits: it isn't answered as none
not_unanswered : IsOwnUnanswered four (block 10 1 5 5 32) None → ⊥
unfolding masked
not_unanswered (inl none) = true≢false (none of_sixteen (1, omega arith, refl))
not_unanswered (inr (longest, is_longest, nowhere)) =
    let same : longest ≡ of_sixteen = one_longest longest is_longest in
    let unfit : OwnFitNot four None (block 10 1 0 0 16) of_sixteen = subst (λ (m : MapRecordValue). OwnFitNot four None (block 10 1 0 0 16) m) same (nowhere (block 10 1 0 0 16) (subst (λ (m : MapRecordValue). IsOwnNarrowed (block 10 1 5 5 32) m (block 10 1 0 0 16)) (sym same) narrowed)) in
    true≢false (sym fits ∙ unfit three three_records)

-- ---- what is kept

-- of 10.1.1.7 an ITR takes the record of 10.1.1.0/24: so does the database
first_kept : IsOwnAnswered four None 30 (ipv4 10 1 1 7) (sent 3 (block 10 1 1 0 24) 30)
unfolding masked
first_kept = (of_first, record { kept = (2, omega arith, refl); has = refl; longest = each (λ (m : MapRecordValue). holds m.eid (ipv4 10 1 1 7) ≡ true → m.eid.mask_len ≤ 24) four (no, ((λ has. omega arith), ((λ has. omega arith), ((λ has. omega arith), tt)))) }, refl)

sixteen_kept : IsOwnAnswered four None 30 (ipv4 10 1 1 7) (sent 2 (block 10 1 0 0 16) 30) → ⊥
unfolding masked
sixteen_kept (m, longest, is) = by m longest.kept longest is
  where
    Other : MapRecordValue → Type 0
    Other m = IsLongest four (ipv4 10 1 1 7) m → sent 2 (block 10 1 0 0 16) 30 ≡ own_record None 30 (block 10 1 0 0 16) m → ⊥

    by : (m : MapRecordValue) → Contains four m → Other m
    by = each Other four ((λ l e. no l.has), ((λ l e. absurd (omega (arith, l.longest of_first (2, omega arith, refl) refl))), ((λ l e. absurd (let version : ◌≡◌ {A = ℕ} 2 3 = ap (λ (r : MapRecordValue). r.version) e in omega (arith, version))), ((λ l e. absurd (omega (arith, l.longest of_first (2, omega arith, refl) refl))), tt))))

first_of : List MapRecordValue → MapRecordValue
first_of [] = of_eight
first_of (r ∷ rs) = r

-- so says the law, of another address than the one that was asked for
law_says : OwnRepliesMayBeKept ℕ four → (r : MapRecordValue) → IsLongest three (ipv4 10 1 1 7) r → IsOwnAnswered four None 30 (ipv4 10 1 1 7) r
unfolding masked first_of
law_says law r longest = by (law (block 10 1 5 5 32) None (Records three) reply_of_three)
  where
    by : IsOwnKept four None (ipv4 10 1 5 5) three → IsOwnAnswered four None 30 (ipv4 10 1 1 7) r
    by kept =
        let first : sent 2 (block 10 1 0 0 16) 30 ≡ kept.first = ap first_of kept.is in
        let has : holds kept.first.eid (ipv4 10 1 1 7) ≡ true = subst (λ (m : MapRecordValue). holds m.eid (ipv4 10 1 1 7) ≡ true) first refl in
        subst (λ (m : MapRecordValue). IsOwnAnswered four None m.ttl (ipv4 10 1 1 7) r) (sym first) (kept.answered (ipv4 10 1 1 7) has r longest)

law_says_none : OwnRepliesMayBeKept ℕ gaps → (m : MapRecordValue) → Contains gaps m → holds m.eid (ipv4 10 0 1 200) ≡ false
unfolding masked
law_says_none law = (law (block 10 0 1 1 32) None (negative (block 10 0 1 0 24) 1) reply_none).none (ipv4 10 0 1 200) refl
