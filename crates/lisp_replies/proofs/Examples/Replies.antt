-- What a Map-Server sends.
use Rattle.std.proofs.Common.{[], List, arith, Bool, false, true, inl, inr, refl, sym, ap, ◌∙◌, subst, true≢false, ℕ, ◌≤◌, ◌∷◌, ◌≡◌}
use Rattle.std.specs.List.{Contains}
use Rattle.lisp_records.specs.declared.address.Addr.{Addr}
use Rattle.lisp_records.specs.Address.{PrefixValue, addr_eq, masked, holds, covers}
use Rattle.lisp_records.specs.Record.{MapRecordValue}
use Rattle.lisp_records.specs.Row.{RowValue, is_alive}
use Rattle.lisp_records.specs.Written.{written}
use Rattle.lisp_policy.specs.Site.{SiteValue}
use Rattle.lisp_lookup.specs.Covering.{IsBestFor, NoneAnswersFor, may_answer_for}
use Rattle.lisp_lookup.specs.Inside.{IsBestOfOwn, is_inside, is_live_inside, AreInside}
use Rattle.lisp_lookup.specs.Replies.{AreRecords, IsNarrowed, RepliesWith, IsAnswered, IsLongest, record_of}
use Rattle.lisp_lookup.specs.Answer.{IsBest, NoneAnswers}
use Rattle.lisp_lookup.specs.Table.{OneEach}
use Rattle.lisp_lookup.proofs.Examples.Rows.{block, each, everything, fails, four, gaps, in_eight, in_sixteen, ipv4, no, none_above, row, silent, dead, in_first, in_second}
use Rattle.lisp_lookup.proofs.Examples.Covering.{mixed, mixed_three, narrowed, replied, reply, sixteen, sixteen_answers, three, three_records, two_inside}
use Rattle.lisp_lookup.proofs.Examples.Holes.{in_none, site}
use Rattle.lisp_lookup.proofs.Examples.Holes as holes
use Rattle.lisp_lookup.proofs.CachedLaws.{cached_is_answered, hole_is_answered}
use Rattle.lisp_replies.specs.Reply.{IsReply, IsTooLarge, is_held_back, negative_ttl}
use Rattle.lisp_replies.specs.declared.reply.Reply.{Reply}
use Rattle.lisp_replies.specs.declared.reply.Reply.TheVariants.{Records, Negative, Forward, Silent}
use Rattle.lisp_replies.specs.Kept.{HaveOneInside, IsKept, IsKeptNone, RepliesMayBeKept, ReplyAlike, SameLive}
use Rattle.lisp_replies.proofs.Examples.Records.{address, address_narrowed, address_records, crowded, none_fit, of_address, sixteen_nowhere, asked, mixed_reply, none_inside}
use Rattle.lisp_replies.proofs.KeptLaws.{one_longest}

-- between 10.0.0.0/24 and 10.0.2.0/24
abbrev pub between : PrefixValue
between = block 10 0 1 1 32

pub none_between : NoneAnswersFor gaps between 0
unfolding masked
none_between = fails (may_answer_for between 0) gaps refl

-- the one record of 10.1.0.0/16, and that of 10.0.0.0/24 for its first address
own_reply : RepliesWith (in_sixteen ∷ []) asked 0 (replied 2 sixteen 1440 ∷ [])
unfolding masked written
own_reply = record {
  best = in_sixteen;
  is_best = record { held = (0, omega arith, refl); may = refl; most = none_above (may_answer_for asked 0) in_sixteen (in_sixteen ∷ []) refl };
  proxy = refl;
  eid = sixteen;
  narrowed = narrowed;
  are = record {
    inside = [];
    are = none_inside in_sixteen sixteen refl;
    ttl = 1440;
    least = record { its = in_sixteen; held = (0, omega arith, refl); is = refl; least = each (λ (h : RowValue). 1440 ≤ h.mapping.ttl) (in_sixteen ∷ []) (omega arith, tt) };
    is = refl;
  };
  fit = refl;
  widest = λ wider more from less are. absurd (omega (arith, from.from, less));
}

abbrev gap_row : RowValue
gap_row = row 1 (block 10 0 0 0 24) 60

gap_reply : RepliesWith gaps (block 10 0 0 0 32) 0 (replied 1 (block 10 0 0 0 24) 60 ∷ [])
unfolding masked written
gap_reply = record {
  best = gap_row;
  is_best = record { held = (0, omega arith, refl); may = refl; most = none_above (may_answer_for (block 10 0 0 0 32) 0) gap_row gaps refl };
  proxy = refl;
  eid = block 10 0 0 0 24;
  narrowed = record { around = refl; from = omega arith; to = omega arith };
  are = record {
    inside = [];
    are = record {
      rising = λ i j d less within. absurd (omega (arith, less, within));
      best = each (λ (h : RowValue). IsBestOfOwn gaps 0 h × (is_inside (block 10 0 0 0 24) h.mapping.eid ≡ true)) [] tt;
      all = each (λ (h : RowValue). is_live_inside (block 10 0 0 0 24) 0 h ≡ true → (own : RowValue) × Contains [] own × (own.mapping.eid ≡ h.mapping.eid)) gaps (no, (no, tt));
    };
    ttl = 60;
    least = record { its = gap_row; held = (0, omega arith, refl); is = refl; least = each (λ (h : RowValue). 60 ≤ h.mapping.ttl) (gap_row ∷ []) (omega arith, tt) };
    is = refl;
  };
  fit = refl;
  widest = λ wider more from less are. absurd (omega (arith, from.from, less));
}

-- ---- records that fit no message

too_large : IsTooLarge crowded [] sixteen false 0
unfolding masked
too_large = record {
  best = in_sixteen;
  is_best = record { held = (0, omega arith, refl); may = refl; most = none_above (may_answer_for sixteen 0) in_sixteen crowded refl };
  proxy = refl;
  free = refl;
  nowhere = sixteen_nowhere;
}

address_reply : RepliesWith crowded address 0 of_address
unfolding masked written
address_reply = record {
  best = in_sixteen;
  is_best = record { held = (0, omega arith, refl); may = refl; most = none_above (may_answer_for address 0) in_sixteen crowded refl };
  proxy = refl;
  eid = block 10 1 0 0 24;
  narrowed = address_narrowed;
  are = address_records;
  fit = refl;
  widest = λ wider more from less are. none_fit wider.mask_len less in_sixteen more (subst (λ (b : PrefixValue). AreRecords crowded b 0 in_sixteen more) from.around are);
}

-- three records fit
best_of_four : (h : RowValue) → Contains four h → IsBestFor four asked 0 h → h ≡ in_sixteen
unfolding masked
best_of_four = each (λ (x : RowValue). IsBestFor four asked 0 x → x ≡ in_sixteen) four ((λ b. absurd (b.most in_sixteen (1, omega arith, refl) refl refl)), ((λ b. refl), ((λ b. no b.may), ((λ b. no b.may), tt))))

three_too_large : IsTooLarge four [] asked false 0 → ⊥
unfolding masked written
three_too_large large =
    let best : large.best ≡ in_sixteen = best_of_four large.best large.is_best.held large.is_best in
    let from = subst (λ (h : RowValue). IsNarrowed asked h sixteen) (sym best) narrowed in
    true≢false (large.nowhere sixteen from three (subst (λ (h : RowValue). AreRecords four sixteen 0 h three) (sym best) three_records))

-- a row without proxy replies isn't too large, nor is one that isn't replied with yet
without_proxy_too_large : IsTooLarge (silent in_sixteen ∷ []) [] asked false 0 → ⊥
without_proxy_too_large large = each (λ (h : RowValue). h.proxy ≡ true → ⊥) (silent in_sixteen ∷ []) (no, tt) large.best large.is_best.held large.proxy

held_back_too_large : IsTooLarge (in_eight ∷ []) (site sixteen) asked true 0 → ⊥
unfolding masked
held_back_too_large large = each (λ (h : RowValue). is_held_back true (site sixteen) asked h ≡ false → ⊥) (in_eight ∷ []) (true≢false, tt) large.best large.is_best.held large.free

-- the source of another router's Map-Register
abbrev elsewhere : RowValue
elsewhere = record (silent gap_row) { from = ipv4 192 0 2 7 }

not_seven : ipv4 192 0 2 7 ≡ ipv4 192 0 2 1 → ⊥
not_seven same = true≢false (ap (λ (a : Addr). addr_eq a (ipv4 192 0 2 7)) same)

module _ (A : Type 0) where
  abbrev Sends : List RowValue → List SiteValue → PrefixValue → Bool → Reply A → Type 0
  Sends rows sites eid starting reply = IsReply rows sites eid starting 0 reply

  -- ---- a row answers

  -- two longer prefixes are inside that of the row
  two_inside_it : Sends four [] asked false (Records three)
  two_inside_it = inl (reply, refl)

  -- one of them without proxy replies: ACT 2
  one_asked_again : Sends mixed [] asked false (Records mixed_three)
  one_asked_again = inl (mixed_reply, refl)

  -- the router replies itself: the request goes to the source of its Map-Register
  forwarded : Sends (silent in_sixteen ∷ in_eight ∷ []) [] asked false (Forward (ipv4 192 0 2 1))
  unfolding masked
  forwarded = inl (silent in_sixteen, record { held = (0, omega arith, refl); may = refl; most = none_above (may_answer_for asked 0) (silent in_sixteen) (silent in_sixteen ∷ in_eight ∷ []) refl }, refl, refl)

  forwarded_elsewhere : Sends (silent in_sixteen ∷ []) [] asked false (Forward (ipv4 192 0 2 7)) → ⊥
  forwarded_elsewhere (inl (h, best, no_proxy, to)) = each (λ (x : RowValue). ipv4 192 0 2 7 ≡ x.from → ⊥) (silent in_sixteen ∷ []) (not_seven, tt) h best.held to
  forwarded_elsewhere (inr (none, inl (h, best, no_proxy, to))) = each (λ (x : RowValue). ipv4 192 0 2 7 ≡ x.from → ⊥) (silent in_sixteen ∷ []) (not_seven, tt) h best.held to
  forwarded_elsewhere (inr (none, inr never)) = absurd never

  forwarded_with_proxy : Sends (in_sixteen ∷ []) [] asked false (Forward (ipv4 192 0 2 1)) → ⊥
  forwarded_with_proxy (inl (h, best, no_proxy, to)) = each (λ (x : RowValue). x.proxy ≡ false → ⊥) (in_sixteen ∷ []) (true≢false, tt) h best.held no_proxy
  forwarded_with_proxy (inr (none, inl (h, best, no_proxy, to))) = each (λ (x : RowValue). x.proxy ≡ false → ⊥) (in_sixteen ∷ []) (true≢false, tt) h best.held no_proxy
  forwarded_with_proxy (inr (none, inr never)) = absurd never

  -- ---- none does

  -- nobody is between two prefixes: for 15 minutes, or for 1 where a site has the prefix
  nobody : Sends gaps [] between false (Negative (record { eid = block 10 0 1 0 24; ttl = 15 }))
  unfolding masked
  nobody = inr (inl none_between, inr (refl, holes.between, refl))

  nobody_of_a_site : Sends [] (site (block 10 0 0 0 16)) between false (Negative (record { eid = block 10 0 0 0 16; ttl = 1 }))
  unfolding masked
  nobody_of_a_site = inr (inl (λ h has. in_none h has), inr (refl, holes.of_all_the_site, refl))

  kept_too_long : Sends [] (site (block 10 0 0 0 16)) between false (Negative (record { eid = block 10 0 0 0 16; ttl = 15 })) → ⊥
  unfolding masked
  kept_too_long (inl never) = absurd never
  kept_too_long (inr (none, inl never)) = absurd never
  kept_too_long (inr (none, inr (started, hole, ttl))) = absurd (let clash : ◌≡◌ {A = ℕ} 15 1 = ttl in omega (arith, clash))

  too_narrow_a_hole : Sends gaps [] between false (Negative (record { eid = block 10 0 1 0 25; ttl = 15 })) → ⊥
  unfolding masked
  too_narrow_a_hole (inl never) = absurd never
  too_narrow_a_hole (inr (none, inl never)) = absurd never
  too_narrow_a_hole (inr (none, inr (started, hole, ttl))) = hole.widest 24 (omega arith) holes.between_alike

  -- ---- its address does

  -- no row covers 10.0.0.0/16, and 10.0.0.0/24 has its address
  by_its_address : Sends gaps [] (block 10 0 0 0 16) false (Records (replied 1 (block 10 0 0 0 24) 60 ∷ []))
  unfolding masked
  by_its_address = inr (inl (fails (may_answer_for (block 10 0 0 0 16) 0) gaps refl), inl (gap_reply, refl))

  -- or the records of one that does fit no message
  by_its_address_alone : Sends crowded [] sixteen false (Records of_address)
  unfolding masked
  by_its_address_alone = inr (inr too_large, inl (address_reply, refl))

  -- but not where a row covers it
  though_covered : Sends (silent everything ∷ elsewhere ∷ []) [] (block 10 0 0 0 16) false (Forward (ipv4 192 0 2 7)) → ⊥
  unfolding masked
  though_covered (inl (h, best, no_proxy, to)) = each (λ (x : RowValue). may_answer_for (block 10 0 0 0 16) 0 x ≡ true → ipv4 192 0 2 7 ≡ x.from → ⊥) (silent everything ∷ elsewhere ∷ []) ((λ may. not_seven), ((λ may to. no may), tt)) h best.held best.may to
  though_covered (inr (inl none, how)) = true≢false (none (silent everything) (0, omega arith, refl))
  though_covered (inr (inr large, how)) = each (λ (x : RowValue). x.proxy ≡ true → ⊥) (silent everything ∷ elsewhere ∷ []) (no, (no, tt)) large.best large.is_best.held large.proxy

  -- ---- rows haven't come back yet

  -- for an address that no row has nothing is sent
  silent_for_none : Sends gaps [] between true Silent
  unfolding masked
  silent_for_none = inr (inl none_between, inr (refl, none_between))

  negative_at_once : Sends gaps [] between true (Negative (record { eid = block 10 0 1 0 24; ttl = 15 })) → ⊥
  negative_at_once (inl never) = absurd never
  negative_at_once (inr (none, inl never)) = absurd never
  negative_at_once (inr (none, inr (started, hole, ttl))) = true≢false started

  -- nor for one that has a row of a shorter prefix than the site's
  silent_for_shorter : Sends (in_eight ∷ []) (site sixteen) asked true Silent
  unfolding masked
  silent_for_shorter = inl (in_eight, record { held = (0, omega arith, refl); may = refl; most = none_above (may_answer_for asked 0) in_eight (in_eight ∷ []) refl }, refl, refl)

  shorter_at_once : (records : List MapRecordValue) → Sends (in_eight ∷ []) (site sixteen) asked true (Records records) → ⊥
  unfolding masked
  shorter_at_once records (inl (with, free)) = each (λ (h : RowValue). is_held_back true (site sixteen) asked h ≡ false → ⊥) (in_eight ∷ []) (true≢false, tt) with.best with.is_best.held free
  shorter_at_once records (inr (none, inl (with, free))) = each (λ (h : RowValue). is_held_back true (site sixteen) asked h ≡ false → ⊥) (in_eight ∷ []) (true≢false, tt) with.best with.is_best.held free
  shorter_at_once records (inr (none, inr never)) = absurd never

  -- that of the site's own prefix is replied with
  own_prefix_at_once : Sends (in_sixteen ∷ []) (site sixteen) asked true (Records (replied 2 sixteen 1440 ∷ []))
  unfolding masked own_reply
  own_prefix_at_once = inl (own_reply, refl)

  silent_for_own_prefix : Sends (in_sixteen ∷ []) (site sixteen) asked true Silent → ⊥
  unfolding masked
  silent_for_own_prefix (inl (h, best, proxy, held)) = each (λ (x : RowValue). is_held_back true (site sixteen) asked x ≡ true → ⊥) (in_sixteen ∷ []) (no, tt) h best.held held
  silent_for_own_prefix (inr (none, inl (h, best, proxy, held))) = each (λ (x : RowValue). is_held_back true (site sixteen) asked x ≡ true → ⊥) (in_sixteen ∷ []) (no, tt) h best.held held
  silent_for_own_prefix (inr (none, inr (starts, no_row))) = true≢false (no_row in_sixteen (0, omega arith, refl))

  -- a request goes on to a router at once
  forwarded_at_once : Sends (silent in_eight ∷ []) (site sixteen) asked true (Forward (ipv4 192 0 2 1))
  unfolding masked
  forwarded_at_once = inl (silent in_eight, record { held = (0, omega arith, refl); may = refl; most = none_above (may_answer_for asked 0) (silent in_eight) (silent in_eight ∷ []) refl }, refl, refl)

  silent_though_forwarded : Sends (silent in_eight ∷ []) (site sixteen) asked true Silent → ⊥
  unfolding masked
  silent_though_forwarded (inl (h, best, proxy, held)) = each (λ (x : RowValue). x.proxy ≡ true → ⊥) (silent in_eight ∷ []) (no, tt) h best.held proxy
  silent_though_forwarded (inr (none, inl (h, best, proxy, held))) = each (λ (x : RowValue). x.proxy ≡ true → ⊥) (silent in_eight ∷ []) (no, tt) h best.held proxy
  silent_though_forwarded (inr (none, inr (starts, no_row))) = true≢false (no_row (silent in_eight) (0, omega arith, refl))

  -- later on something is sent for each
  silent_later : Sends gaps [] between false Silent → ⊥
  unfolding masked
  silent_later (inl (h, best, proxy, held)) = true≢false (sym held)
  silent_later (inr (none, inl (h, best, proxy, held))) = true≢false (sym held)
  silent_later (inr (none, inr (starts, no_row))) = true≢false (sym starts)

-- ---- What an ITR that keeps a reply says of an address.

-- of each address of 10.1.0.0/16 the three records say what the Map-Server says
three_kept : IsKept four (ipv4 10 1 5 5) 0 three
unfolding masked
three_kept = record {
  first = replied 2 sixteen 30;
  rest = replied 3 (block 10 1 1 0 24) 30 ∷ replied 4 (block 10 1 2 0 24) 30 ∷ [];
  is = refl;
  has = refl;
  one = λ addr has. one_longest (replied 2 sixteen 30) (replied 3 (block 10 1 1 0 24) 30 ∷ replied 4 (block 10 1 2 0 24) 30 ∷ []) addr has;
  answered = λ addr has r longest. cached_is_answered four asked 0 in_sixteen sixteen three sixteen_answers narrowed three_records addr has r longest;
}

-- the first one alone says of 10.1.1.7 what is so of 10.1.5.5
abbrev one : List MapRecordValue
one = replied 2 sixteen 30 ∷ []

longest : IsLongest one (ipv4 10 1 1 7) (replied 2 sixteen 30)
unfolding masked
longest = record {
  kept = (0, omega arith, refl);
  has = refl;
  longest = each (λ (r : MapRecordValue). holds r.eid (ipv4 10 1 1 7) ≡ true → r.eid.mask_len ≤ 16) one ((λ has. omega arith), tt);
}

other_row_answers : IsAnswered four (ipv4 10 1 1 7) 0 (replied 2 sixteen 30) → ⊥
unfolding masked
other_row_answers (h, best, is) = each Other four (shorter, (shorter_too, ((λ b e. absurd (let version : ◌≡◌ {A = ℕ} 2 3 = ap (λ (r : MapRecordValue). r.version) e in omega (arith, version))), ((λ b e. no b.may), tt)))) h best.held best is
  where
    Other : RowValue → Type 0
    Other x = IsBest four (ipv4 10 1 1 7) 0 x → replied 2 sixteen 30 ≡ record_of 30 sixteen x → ⊥

    shorter : Other in_eight
    shorter b e = b.most in_first (2, omega arith, refl) refl refl

    shorter_too : Other in_sixteen
    shorter_too b e = b.most in_first (2, omega arith, refl) refl refl

first_eid : List MapRecordValue → PrefixValue → PrefixValue
first_eid [] eid = eid
first_eid (r ∷ rs) eid = r.eid

more_specifics_left_out : IsKept four (ipv4 10 1 5 5) 0 one → ⊥
unfolding masked first_eid
more_specifics_left_out kept = other_row_answers (kept.answered (ipv4 10 1 1 7) (ap (λ (rs : List MapRecordValue). holds (first_eid rs sixteen) (ipv4 10 1 1 7)) (sym kept.is)) (replied 2 sixteen 30) longest)

-- the address that was asked for is in the first prefix
not_of_the_first : IsKept four (ipv4 11 0 0 1) 0 three → ⊥
unfolding masked first_eid
not_of_the_first kept = no (ap (λ (rs : List MapRecordValue). holds (first_eid rs sixteen) (ipv4 11 0 0 1)) kept.is ∙ kept.has)

-- a hole's addresses are nobody's
pub gap_kept : IsKeptNone gaps [] (ipv4 10 0 1 1) 0 (block 10 0 1 0 24) 15
unfolding masked
gap_kept = record {
  has = refl;
  none = λ addr has. (hole_is_answered gaps [] (ipv4 10 0 1 1) 0 (block 10 0 1 0 24) holes.between addr has).0;
  as_long = λ addr has. refl;
}

of_site_kept : IsKeptNone [] (site (block 10 0 0 0 16)) (ipv4 10 0 1 1) 0 (block 10 0 0 0 16) 1
unfolding masked
of_site_kept = record {
  has = refl;
  none = λ addr has. (hole_is_answered [] (site (block 10 0 0 0 16)) (ipv4 10 0 1 1) 0 (block 10 0 0 0 16) holes.of_all_the_site addr has).0;
  as_long = λ addr has. ap negative_ttl (sym (hole_is_answered [] (site (block 10 0 0 0 16)) (ipv4 10 0 1 1) 0 (block 10 0 0 0 16) holes.of_all_the_site addr has).1);
}

-- not so one with a row's addresses, nor without the address that was asked for, nor one that leaves a site's prefix
with_a_row : IsKeptNone gaps [] (ipv4 10 0 1 1) 0 (block 10 0 0 0 16) 15 → ⊥
unfolding masked
with_a_row kept = true≢false (kept.none (ipv4 10 0 2 7) refl (row 2 (block 10 0 2 0 24) 60) (1, omega arith, refl))

without_the_address : IsKeptNone gaps [] (ipv4 10 0 3 1) 0 (block 10 0 1 0 24) 15 → ⊥
unfolding masked
without_the_address kept = no kept.has

out_of_the_site : IsKeptNone [] (site (block 10 0 0 0 16)) (ipv4 10 0 1 1) 0 (block 10 0 0 0 8) 1 → ⊥
unfolding masked
out_of_the_site kept = absurd (let clash : ◌≡◌ {A = ℕ} 1 15 = kept.as_long (ipv4 10 9 0 1) refl in omega (arith, clash))

-- ---- rows that are alive

-- dead rows don't count, nor does the order
without_the_dead : SameLive (dead in_first ∷ in_sixteen ∷ in_eight ∷ []) (in_eight ∷ in_sixteen ∷ []) 1
without_the_dead h alive = (to h alive, from h)
  where
    to : (x : RowValue) → is_alive x 1 ≡ true → Contains (dead in_first ∷ in_sixteen ∷ in_eight ∷ []) x → Contains (in_eight ∷ in_sixteen ∷ []) x
    to x lives has = each (λ (y : RowValue). is_alive y 1 ≡ true → Contains (in_eight ∷ in_sixteen ∷ []) y) (dead in_first ∷ in_sixteen ∷ in_eight ∷ []) (no, ((λ l. (1, omega arith, refl)), ((λ l. (0, omega arith, refl)), tt))) x has lives

    from : (x : RowValue) → Contains (in_eight ∷ in_sixteen ∷ []) x → Contains (dead in_first ∷ in_sixteen ∷ in_eight ∷ []) x
    from = each (λ (y : RowValue). Contains (dead in_first ∷ in_sixteen ∷ in_eight ∷ []) y) (in_eight ∷ in_sixteen ∷ []) ((2, omega arith, refl), ((1, omega arith, refl), tt))

one_more : SameLive [] (in_eight ∷ []) 0 → ⊥
one_more same = in_none in_eight ((same in_eight refl).1 (0, omega arith, refl))

one_less : SameLive (in_eight ∷ []) [] 0 → ⊥
one_less same = in_none in_eight ((same in_eight refl).0 (0, omega arith, refl))

-- ---- so say the laws

inside_says : HaveOneInside four → OneEach four → (inside : List RowValue) → AreInside four sixteen 0 inside → inside ≡ in_first ∷ in_second ∷ []
inside_says law each_one inside are = law each_one sixteen 0 inside (in_first ∷ in_second ∷ []) are two_inside

module _ (A : Type 0) where
  reply_says : RepliesMayBeKept A four [] → IsKept four (ipv4 10 1 5 5) 0 three
  reply_says law = law asked false 0 (Records three) (inl (reply, refl))

  negative_says : RepliesMayBeKept A gaps [] → NoneAnswers gaps (ipv4 10 0 1 200) 0
  unfolding masked
  negative_says law = (law between false 0 (Negative (record { eid = block 10 0 1 0 24; ttl = 15 })) (inr (inl none_between, inr (refl, holes.between, refl)))).none (ipv4 10 0 1 200) refl

  alike_says : ReplyAlike A four (in_eight ∷ four) [] → SameLive four (in_eight ∷ four) 0 → IsReply {A = A} (in_eight ∷ four) [] asked false 0 (Records three)
  alike_says law same = law asked false 0 (Records three) same (inl (reply, refl))
