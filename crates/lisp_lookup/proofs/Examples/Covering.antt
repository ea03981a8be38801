-- Who answers for a prefix.
use Rattle.std.proofs.Common.{[], arith, refl, ◌∷◌, ◌≡◌, None, Some, false, true, sym, ap, ◌∙◌, true≢false, Equal, Greater, Less, ℕ, ◌≢◌, List, ◌≤◌, subst}
use Rattle.std.proofs.lemmas.List.Elements.{All-cons, All-nil}
use Rattle.std.proofs.lemmas.List.Kept.{AllPairs-cons}
use Rattle.std.specs.List.{AllPairs, Contains}
use Rattle.lisp_records.specs.Address.{masked, PrefixValue, prefix_cmp, prefix_eq, holds}
use Rattle.lisp_records.specs.Row.{RowValue}
use Rattle.lisp_records.specs.Record.{MapRecordValue}
use Rattle.lisp_records.specs.Written.{written}
use Rattle.lisp_lookup.specs.Covering.{IsBestFor, NoneAnswersFor, alone, may_answer_for}
use Rattle.lisp_lookup.specs.Inside.{AreInside, InsideValue, IsBestOfOwn, IsNextInside, NoneInside, is_inside, is_live_inside, moved}
use Rattle.lisp_lookup.specs.Answer.{IsBest, may_answer}
use Rattle.lisp_lookup.specs.Replies.{AreRecords, CachedIsAnswered, IsAnswered, IsLeastTtl, IsLongest, IsNarrowed, RepliesWith, record_of}
use Rattle.lisp_lookup.proofs.Examples.Rows.{block, dead, everything, four, gaps, in_eight, in_first, in_sixteen, ipv4, ipv6, ipv6_row, fails, none_above, silent, newer, best_of_own, each, in_second, no, locator}

-- the longest prefix that covers what is asked for, and no shorter one
pub sixteen_answers : IsBestFor four (block 10 1 5 5 32) 0 in_sixteen
unfolding masked
sixteen_answers = record {
  held = (1, omega arith, refl);
  may = refl;
  most = none_above (may_answer_for (block 10 1 5 5 32) 0) in_sixteen four refl;
}

eight_answers : IsBestFor four (block 10 1 5 5 32) 0 in_eight → ⊥
unfolding masked
eight_answers best = best.most in_sixteen (1, omega arith, refl) refl refl

-- a row of a longer prefix than the one asked for doesn't answer for it, though it has its first address
sixteen_answers_itself : IsBestFor four (block 10 1 0 0 16) 0 in_sixteen
unfolding masked
sixteen_answers_itself = record {
  held = (1, omega arith, refl);
  may = refl;
  most = none_above (may_answer_for (block 10 1 0 0 16) 0) in_sixteen four refl;
}

longer_dont_answer : NoneAnswersFor gaps (block 10 0 0 0 16) 0
unfolding masked
longer_dont_answer h has = fails (may_answer_for (block 10 0 0 0 16) 0) gaps refl h has

-- of two routers' rows of one prefix one with proxy replies, then the later one; a dead row never
with_proxy_answers : IsBestFor (silent (newer in_first) ∷ in_first ∷ []) (block 10 1 1 7 32) 0 in_first
unfolding masked
with_proxy_answers = record {
  held = (1, omega arith, refl);
  may = refl;
  most = none_above (may_answer_for (block 10 1 1 7 32) 0) in_first (silent (newer in_first) ∷ in_first ∷ []) refl;
}

later_answers : IsBestFor (in_first ∷ newer in_first ∷ []) (block 10 1 1 7 32) 0 (newer in_first)
unfolding masked
later_answers = record {
  held = (1, omega arith, refl);
  may = refl;
  most = none_above (may_answer_for (block 10 1 1 7 32) 0) (newer in_first) (in_first ∷ newer in_first ∷ []) refl;
}

dead_doesnt_answer : IsBestFor (dead in_first ∷ in_sixteen ∷ []) (block 10 1 1 7 32) 1 in_sixteen
unfolding masked
dead_doesnt_answer = record {
  held = (1, omega arith, refl);
  may = refl;
  most = none_above (may_answer_for (block 10 1 1 7 32) 1) in_sixteen (dead in_first ∷ in_sixteen ∷ []) refl;
}

-- 0.0.0.0/0 answers for itself, and for any other prefix that no longer one covers
everything_answers : IsBestFor (everything ∷ four) (block 0 0 0 0 0) 0 everything
unfolding masked
everything_answers = record {
  held = (0, omega arith, refl);
  may = refl;
  most = none_above (may_answer_for (block 0 0 0 0 0) 0) everything (everything ∷ four) refl;
}

everything_answers_else : IsBestFor (everything ∷ four) (block 11 0 0 0 8) 0 everything
unfolding masked
everything_answers_else = record {
  held = (0, omega arith, refl);
  may = refl;
  most = none_above (may_answer_for (block 11 0 0 0 8) 0) everything (everything ∷ four) refl;
}

-- an address is asked for as the prefix of it alone
address_alone : alone (ipv4 10 1 1 7) ≡ block 10 1 1 7 32
unfolding masked
address_alone = refl

ipv6_alone : alone (ipv6 184 1) ≡ record { addr = ipv6 184 1; mask_len = 128 }
unfolding masked
ipv6_alone = refl

first_answers : IsBestFor four (alone (ipv4 10 1 1 7)) 0 in_first
unfolding masked
first_answers = record {
  held = (2, omega arith, refl);
  may = refl;
  most = none_above (may_answer_for (block 10 1 1 7 32) 0) in_first four refl;
}

-- an IPv6 prefix is covered by one of IPv6 alone
ipv6_answers : IsBestFor (everything ∷ ipv6_row ∷ []) (alone (ipv6 184 1)) 0 ipv6_row
unfolding masked
ipv6_answers = record {
  held = (1, omega arith, refl);
  may = refl;
  most = none_above (may_answer_for (alone (ipv6 184 1)) 0) ipv6_row (everything ∷ ipv6_row ∷ []) refl;
}

ipv6_elsewhere : NoneAnswersFor (everything ∷ ipv6_row ∷ []) (alone (ipv6 185 1)) 0
unfolding masked
ipv6_elsewhere h has = fails (may_answer_for (alone (ipv6 185 1)) 0) (everything ∷ ipv6_row ∷ []) refl h has

-- ---- The longer prefixes inside a prefix.

abbrev pub sixteen : PrefixValue
sixteen = block 10 1 0 0 16

-- a prefix isn't inside itself, nor inside a longer one, nor inside one beside it
not_itself : is_inside sixteen sixteen ≡ false
unfolding masked
not_itself = refl

not_wider : is_inside sixteen (block 10 0 0 0 8) ≡ false
unfolding masked
not_wider = refl

not_beside : is_inside sixteen (block 10 2 1 0 24) ≡ false
unfolding masked
not_beside = refl

-- RFC 9301 section 5.5: inside 10.1.0.0/16 are the two longer prefixes
abbrev Rises : RowValue → RowValue → Type 0
Rises a b = prefix_cmp a.mapping.eid b.mapping.eid ≡ Less

pub one_row : (a : RowValue) → AllPairs Rises (a ∷ [])
one_row a i j d less within = absurd (omega (arith, less, within))

pub rise : (a b : RowValue) → Rises a b → AllPairs Rises (a ∷ b ∷ [])
rise a b is = AllPairs-cons Rises a (b ∷ []) (All-cons (Rises a) b [] is (All-nil (Rises a))) (one_row b)

pub first_best : IsBestOfOwn four 0 in_first
first_best = record { held = (2, omega arith, refl); alive = refl; most = best_of_own four 0 in_first refl refl }

pub second_best : IsBestOfOwn four 0 in_second
second_best = record { held = (3, omega arith, refl); alive = refl; most = best_of_own four 0 in_second refl refl }

pub two_inside : AreInside four sixteen 0 (in_first ∷ in_second ∷ [])
unfolding masked
two_inside = record {
  rising = rise in_first in_second refl;
  best = each (λ (h : RowValue). IsBestOfOwn four 0 h × (is_inside sixteen h.mapping.eid ≡ true)) (in_first ∷ in_second ∷ []) ((first_best, refl), ((second_best, refl), tt));
  all = each Listed four (no, (no, ((λ live. (in_first, (0, omega arith, refl), refl)), ((λ live. (in_second, (1, omega arith, refl), refl)), tt))));
}
  where
    Listed : RowValue → Type 0
    Listed h = is_live_inside sixteen 0 h ≡ true → (own : RowValue) × Contains (in_first ∷ in_second ∷ []) own × (own.mapping.eid ≡ h.mapping.eid)

-- none of the two may be left out, and that of the prefix itself or of a shorter one isn't there
left_out : AreInside four sixteen 0 (in_first ∷ []) → ⊥
unfolding masked
left_out are = by (are.all in_second (3, omega arith, refl) refl)
  where
    by : (own : RowValue) × Contains (in_first ∷ []) own × (own.mapping.eid ≡ in_second.mapping.eid) → ⊥
    by (own, has, same) = absurd (true≢false (sym (ap (λ (p : PrefixValue). prefix_eq p (block 10 1 2 0 24)) same) ∙ each (λ (h : RowValue). prefix_eq h.mapping.eid (block 10 1 2 0 24) ≡ false) (in_first ∷ []) (refl, tt) own has))

with_itself : AreInside four sixteen 0 (in_sixteen ∷ in_first ∷ in_second ∷ []) → ⊥
unfolding masked
with_itself are = no (are.best in_sixteen (0, omega arith, refl)).1

with_wider : AreInside four sixteen 0 (in_eight ∷ in_first ∷ in_second ∷ []) → ⊥
unfolding masked
with_wider are = no (are.best in_eight (0, omega arith, refl)).1

turned : AreInside four sixteen 0 (in_second ∷ in_first ∷ []) → ⊥
turned are = absurd (let clash : Greater ≡ Less = are.rising 0 1 in_eight (omega arith) (omega arith) in cc)

-- they come one by one, in rising order
abbrev NotBefore : PrefixValue → ℕ → PrefixValue → RowValue → Type 0
NotBefore after now eid h = is_live_inside sixteen now h ≡ true → prefix_cmp after h.mapping.eid ≡ Less → prefix_cmp eid h.mapping.eid ≢ Greater

first_is_next : IsNextInside four sixteen sixteen 0 in_first
unfolding masked
first_is_next = record {
  best = first_best;
  inside = refl;
  behind = refl;
  first = each (NotBefore sixteen 0 (block 10 1 1 0 24)) four (no, (no, ((λ live behind is. absurd cc), ((λ live behind is. absurd cc), tt))));
}

second_is_next : IsNextInside four sixteen (block 10 1 1 0 24) 0 in_second
unfolding masked
second_is_next = record {
  best = second_best;
  inside = refl;
  behind = refl;
  first = each (NotBefore (block 10 1 1 0 24) 0 (block 10 1 2 0 24)) four (no, (no, ((λ live behind is. absurd cc), ((λ live behind is. absurd cc), tt))));
}

abbrev NotBehind : PrefixValue → ℕ → RowValue → Type 0
NotBehind after now h = is_live_inside sixteen now h ≡ true → prefix_cmp after h.mapping.eid ≢ Less

no_more : NoneInside four sixteen (block 10 1 2 0 24) 0
unfolding masked
no_more = each (NotBehind (block 10 1 2 0 24) 0) four (no, (no, ((λ live is. absurd cc), ((λ live is. absurd cc), tt))))

second_skips_first : IsNextInside four sixteen sixteen 0 in_second → ⊥
unfolding masked
second_skips_first next = next.first in_first (2, omega arith, refl) refl refl refl

first_comes_again : IsNextInside four sixteen (block 10 1 1 0 24) 0 in_first → ⊥
first_comes_again next = absurd (let clash : Equal ≡ Less = next.behind in cc)

-- a walk goes on behind the row that it showed, and stays behind the last
abbrev behind : PrefixValue → InsideValue
behind after = record { rows = four; outer = sixteen; moment = 0; after = after }

goes_on : moved (behind sixteen) (Some in_first) ≡ behind (block 10 1 1 0 24)
goes_on = refl

stays : moved (behind (block 10 1 2 0 24)) None ≡ behind (block 10 1 2 0 24)
stays = refl

-- of two routers' rows of one prefix the best is there, and no dead row is
newer_inside : IsNextInside (in_first ∷ newer in_first ∷ []) sixteen sixteen 0 (newer in_first)
unfolding masked
newer_inside = record {
  best = record { held = (1, omega arith, refl); alive = refl; most = best_of_own (in_first ∷ newer in_first ∷ []) 0 (newer in_first) refl refl };
  inside = refl;
  behind = refl;
  first = each (NotBefore sixteen 0 (block 10 1 1 0 24)) (in_first ∷ newer in_first ∷ []) ((λ live behind is. absurd cc), ((λ live behind is. absurd cc), tt));
}

older_inside : IsBestOfOwn (in_first ∷ newer in_first ∷ []) 0 in_first → ⊥
older_inside best = best.most (newer in_first) (1, omega arith, refl) refl refl refl

none_is_inside : NoneInside (dead in_first ∷ in_sixteen ∷ in_eight ∷ []) sixteen sixteen 1
unfolding masked
none_is_inside = each (NotBehind sixteen 1) (dead in_first ∷ in_sixteen ∷ in_eight ∷ []) (no, (no, (no, tt)))

dead_inside : IsBestOfOwn (dead in_first ∷ []) 1 (dead in_first) → ⊥
dead_inside best = no best.alive

-- ---- The records of a Map-Reply.

-- the record of a row in a reply: neither A nor L is set
abbrev pub replied : ℕ → PrefixValue → ℕ → MapRecordValue
replied version eid ttl = record { ttl = ttl; act = 0; authoritative = false; version = version; eid = eid; locators = record locator { local = false } ∷ [] }

-- that of a row whose router didn't ask for proxy replies: ACT 2, no locators
abbrev pub asked_again : PrefixValue → ℕ → MapRecordValue
asked_again eid ttl = record { ttl = ttl; act = 2; authoritative = false; version = 0; eid = eid; locators = [] }

-- RFC 9301 section 5.5: for 10.1.5.5 there are three records, all with the least TTL, which the second one has
abbrev pub three : List MapRecordValue
three = replied 2 (block 10 1 0 0 16) 30 ∷ replied 3 (block 10 1 1 0 24) 30 ∷ replied 4 (block 10 1 2 0 24) 30 ∷ []

least_of_three : IsLeastTtl (in_sixteen ∷ in_first ∷ in_second ∷ []) 30
least_of_three = record {
  its = in_first;
  held = (1, omega arith, refl);
  is = refl;
  least = each (λ (h : RowValue). 30 ≤ h.mapping.ttl) (in_sixteen ∷ in_first ∷ in_second ∷ []) (omega arith, (omega arith, (omega arith, tt)));
}

pub three_records : AreRecords four (block 10 1 0 0 16) 0 in_sixteen three
three_records = record { inside = in_first ∷ in_second ∷ []; are = two_inside; ttl = 30; least = least_of_three; is = refl }

its_own_ttl : IsLeastTtl (in_sixteen ∷ in_first ∷ in_second ∷ []) 1440 → ⊥
its_own_ttl least = absurd (omega (arith, least.least in_first (1, omega arith, refl)))

-- they are the reply's, since they fit a message; the prefix reaches from that of the row to the one that was asked for
pub narrowed : IsNarrowed (block 10 1 5 5 32) in_sixteen (block 10 1 0 0 16)
unfolding masked
narrowed = record { around = refl; from = omega arith; to = omega arith }

pub reply : RepliesWith four (block 10 1 5 5 32) 0 three
unfolding masked written
reply = record {
  best = in_sixteen;
  is_best = sixteen_answers;
  proxy = refl;
  eid = block 10 1 0 0 16;
  narrowed = narrowed;
  are = three_records;
  fit = refl;
  widest = λ wider more from less are. absurd (omega (arith, from.from, less));
}

wider_than_the_row : IsNarrowed (block 10 1 5 5 32) in_sixteen (block 10 0 0 0 8) → ⊥
wider_than_the_row narrowed = absurd (omega (arith, narrowed.from))

longer_than_asked : IsNarrowed (block 10 1 0 0 16) in_sixteen (block 10 1 0 0 24) → ⊥
longer_than_asked narrowed = absurd (omega (arith, narrowed.to))

elsewhere : IsNarrowed (block 10 1 5 5 32) in_sixteen (block 10 1 1 0 24) → ⊥
unfolding masked
elsewhere other = true≢false (ap (λ (p : PrefixValue). prefix_eq p (block 10 1 1 0 24)) other.around)

-- of a narrower prefix, in which no longer one is, there is one record, with its own TTL
none_inside : AreInside four (block 10 1 5 0 24) 0 []
unfolding masked
none_inside = record {
  rising = λ i j d less within. absurd (omega (arith, less, within));
  best = each (λ (h : RowValue). IsBestOfOwn four 0 h × (is_inside (block 10 1 5 0 24) h.mapping.eid ≡ true)) [] tt;
  all = each (λ (h : RowValue). is_live_inside (block 10 1 5 0 24) 0 h ≡ true → (own : RowValue) × Contains [] own × (own.mapping.eid ≡ h.mapping.eid)) four (no, (no, (no, (no, tt))));
}

narrow_record : AreRecords four (block 10 1 5 0 24) 0 in_sixteen (replied 2 (block 10 1 5 0 24) 1440 ∷ [])
narrow_record = record { inside = []; are = none_inside; ttl = 1440; least = record { its = in_sixteen; held = (0, omega arith, refl); is = refl; least = each (λ (h : RowValue). 1440 ≤ h.mapping.ttl) (in_sixteen ∷ []) (omega arith, tt) }; is = refl }

-- of a router that didn't ask for proxy replies the record has no locators, and ACT 2
abbrev pub mixed : List RowValue
mixed = in_sixteen ∷ silent in_first ∷ in_second ∷ []

abbrev pub mixed_three : List MapRecordValue
mixed_three = replied 2 sixteen 30 ∷ asked_again (block 10 1 1 0 24) 30 ∷ replied 4 (block 10 1 2 0 24) 30 ∷ []

pub mixed_inside : AreInside mixed (block 10 1 0 0 16) 0 (silent in_first ∷ in_second ∷ [])
unfolding masked
mixed_inside = record {
  rising = rise (silent in_first) in_second refl;
  best = each (λ (h : RowValue). IsBestOfOwn mixed 0 h × (is_inside (block 10 1 0 0 16) h.mapping.eid ≡ true)) (silent in_first ∷ in_second ∷ []) ((silent_best, refl), ((second_best, refl), tt));
  all = each Listed mixed (no, ((λ live. (silent in_first, (0, omega arith, refl), refl)), ((λ live. (in_second, (1, omega arith, refl), refl)), tt)));
}
  where
    silent_best : IsBestOfOwn mixed 0 (silent in_first)
    silent_best = record { held = (1, omega arith, refl); alive = refl; most = best_of_own mixed 0 (silent in_first) refl refl }

    second_best : IsBestOfOwn mixed 0 in_second
    second_best = record { held = (2, omega arith, refl); alive = refl; most = best_of_own mixed 0 in_second refl refl }

    Listed : RowValue → Type 0
    Listed h = is_live_inside (block 10 1 0 0 16) 0 h ≡ true → (own : RowValue) × Contains (silent in_first ∷ in_second ∷ []) own × (own.mapping.eid ≡ h.mapping.eid)

pub mixed_records : AreRecords mixed sixteen 0 in_sixteen mixed_three
mixed_records = record { inside = silent in_first ∷ in_second ∷ []; are = mixed_inside; ttl = 30; least = mixed_least; is = refl }
  where
    mixed_least : IsLeastTtl (in_sixteen ∷ silent in_first ∷ in_second ∷ []) 30
    mixed_least = record {
      its = silent in_first;
      held = (1, omega arith, refl);
      is = refl;
      least = each (λ (h : RowValue). 30 ≤ h.mapping.ttl) (in_sixteen ∷ silent in_first ∷ in_second ∷ []) (omega arith, (omega arith, (omega arith, tt)));
    }

-- the least TTL is one of theirs
ttl_of_none : IsLeastTtl (in_sixteen ∷ []) 30 → ⊥
ttl_of_none least = by least.its least.held least.is
  where
    by : (h : RowValue) → Contains (in_sixteen ∷ []) h → h.mapping.ttl ≡ 30 → ⊥
    by = each (λ (h : RowValue). h.mapping.ttl ≡ 30 → ⊥) (in_sixteen ∷ []) ((λ is. absurd (omega (arith, is))), tt)

-- of two routers' rows of a prefix inside the best one's record is there, and that of a dead row isn't
abbrev several : List RowValue
several = in_sixteen ∷ silent in_first ∷ newer in_first ∷ dead in_second ∷ []

several_inside : AreInside several (block 10 1 0 0 16) 1 (newer in_first ∷ [])
unfolding masked
several_inside = record {
  rising = one_row (newer in_first);
  best = each (λ (h : RowValue). IsBestOfOwn several 1 h × (is_inside (block 10 1 0 0 16) h.mapping.eid ≡ true)) (newer in_first ∷ []) ((newer_best, refl), tt);
  all = each Listed several (no, ((λ live. (newer in_first, (0, omega arith, refl), refl)), ((λ live. (newer in_first, (0, omega arith, refl), refl)), (no, tt))));
}
  where
    newer_best : IsBestOfOwn several 1 (newer in_first)
    newer_best = record { held = (2, omega arith, refl); alive = refl; most = best_of_own several 1 (newer in_first) refl refl }

    Listed : RowValue → Type 0
    Listed h = is_live_inside (block 10 1 0 0 16) 1 h ≡ true → (own : RowValue) × Contains (newer in_first ∷ []) own × (own.mapping.eid ≡ h.mapping.eid)

two_records : AreRecords several (block 10 1 0 0 16) 1 in_sixteen (replied 2 (block 10 1 0 0 16) 30 ∷ replied 3 (block 10 1 1 0 24) 30 ∷ [])
two_records = record { inside = newer in_first ∷ []; are = several_inside; ttl = 30; least = several_least; is = refl }
  where
    several_least : IsLeastTtl (in_sixteen ∷ newer in_first ∷ []) 30
    several_least = record {
      its = newer in_first;
      held = (1, omega arith, refl);
      is = refl;
      least = each (λ (h : RowValue). 30 ≤ h.mapping.ttl) (in_sixteen ∷ newer in_first ∷ []) (omega arith, (omega arith, tt));
    }

-- a reply has no narrower prefix where the widest one's records fit
one_best : (h : RowValue) → IsBestFor four (block 10 1 5 5 32) 0 h → h ≡ in_sixteen
unfolding masked
one_best h best = each (λ (x : RowValue). IsBestFor four (block 10 1 5 5 32) 0 x → x ≡ in_sixteen) four ((λ b. absurd (b.most in_sixteen (1, omega arith, refl) refl refl)), ((λ b. refl), ((λ b. no b.may), ((λ b. no b.may), tt)))) h best.held best

first_length : List MapRecordValue → ℕ
first_length [] = 0
first_length (r ∷ rs) = r.eid.mask_len

too_narrow : RepliesWith four (block 10 1 5 5 32) 0 (replied 2 (block 10 1 5 0 24) 1440 ∷ []) → ⊥
unfolding masked written first_length
too_narrow reply =
    let best : reply.best ≡ in_sixteen = one_best reply.best reply.is_best in
    let length : 24 ≡ reply.eid.mask_len = ap first_length reply.are.is ∙ ap (λ (h : RowValue). (record_of reply.are.ttl reply.eid h).eid.mask_len) best in
    true≢false (reply.widest (block 10 1 0 0 16) three (subst (λ (h : RowValue). IsNarrowed (block 10 1 5 5 32) h (block 10 1 0 0 16)) (sym best) narrowed) (omega (arith, length)) (subst (λ (h : RowValue). AreRecords four (block 10 1 0 0 16) 0 h three) (sym best) three_records))

-- by proxy one replies only where the best row's router asked for it
no_proxy : (records : List MapRecordValue) → RepliesWith (silent in_sixteen ∷ []) (block 10 1 5 5 32) 0 records → ⊥
no_proxy records reply = by reply.best reply.is_best.held reply.proxy
  where
    by : (h : RowValue) → Contains (silent in_sixteen ∷ []) h → h.proxy ≡ true → ⊥
    by = each (λ (h : RowValue). h.proxy ≡ true → ⊥) (silent in_sixteen ∷ []) (no, tt)

-- of an address an ITR takes the longest prefix: its record is that of the row that answers
abbrev of_first : MapRecordValue
of_first = replied 3 (block 10 1 1 0 24) 30

abbrev of_sixteen : MapRecordValue
of_sixteen = replied 2 (block 10 1 0 0 16) 30

longest : IsLongest three (ipv4 10 1 1 7) of_first
unfolding masked
longest = record {
  kept = (1, omega arith, refl);
  has = refl;
  longest = each (λ (r : MapRecordValue). holds r.eid (ipv4 10 1 1 7) ≡ true → r.eid.mask_len ≤ 24) three ((λ has. omega arith), ((λ has. omega arith), (no, tt)));
}

shorter_is_longest : IsLongest three (ipv4 10 1 1 7) of_sixteen → ⊥
unfolding masked
shorter_is_longest is = absurd (omega (arith, is.longest of_first (1, omega arith, refl) refl))

another_is_longest : IsLongest three (ipv4 10 1 1 7) (replied 4 (block 10 1 2 0 24) 30) → ⊥
unfolding masked
another_is_longest is = no is.has

first_is_answered : IsAnswered four (ipv4 10 1 1 7) 0 of_first
unfolding masked
first_is_answered = (in_first, record { held = (2, omega arith, refl); may = refl; most = none_above (may_answer (ipv4 10 1 1 7) 0) in_first four refl }, refl)

sixteen_is_answered : IsAnswered four (ipv4 10 1 1 7) 0 of_sixteen → ⊥
unfolding masked
sixteen_is_answered (h, best, is) = absurd (by h best.held best is)
  where
    by : (h : RowValue) → Contains four h → IsBest four (ipv4 10 1 1 7) 0 h → of_sixteen ≡ record_of 30 (block 10 1 0 0 16) h → ⊥
    by = each (λ (x : RowValue). IsBest four (ipv4 10 1 1 7) 0 x → of_sixteen ≡ record_of 30 (block 10 1 0 0 16) x → ⊥) four ((λ b e. shorter_is_best b), ((λ b e. sixteen_is_best b), ((λ b e. absurd (let version : ◌≡◌ {A = ℕ} 2 3 = ap (λ (r : MapRecordValue). r.version) e in omega (arith, version))), ((λ b e. no b.may), tt))))
      where
        shorter_is_best : IsBest four (ipv4 10 1 1 7) 0 in_eight → ⊥
        shorter_is_best b = b.most in_first (2, omega arith, refl) refl refl

        sixteen_is_best : IsBest four (ipv4 10 1 1 7) 0 in_sixteen → ⊥
        sixteen_is_best b = b.most in_first (2, omega arith, refl) refl refl

-- so says the law, of another address than the one that was asked for
cached_says : CachedIsAnswered four → IsAnswered four (ipv4 10 1 1 7) 0 of_first
unfolding masked
cached_says law = law (block 10 1 5 5 32) 0 in_sixteen (block 10 1 0 0 16) three sixteen_answers narrowed three_records (ipv4 10 1 1 7) refl of_first longest
