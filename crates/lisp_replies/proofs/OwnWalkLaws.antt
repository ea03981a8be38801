-- Walks over a router's database: what is so of the records so far, and of one more.
use Rattle.std.proofs.Common.{[], ◌≡◌, ◌⊎◌, inl, inr, not, ℕ, ◌+◌, ◌<◌, ◌≤◌, true, false, List, ◌∷◌, ◌++◌, length, map, min, take, slice_index_or, Option, Some, None, refl, sym, ap, ◌∙◌, subst, true≢false, arith, zero, suc, nat_le}
use Rattle.std.proofs.lemmas.Bool.{cases_lt, ltb-false, and_parts}
use Rattle.std.proofs.lemmas.Bool.Decides.{Decides-ltb}
use Rattle.std.proofs.lemmas.List.{append-nil, map-append, take_more, get_or-map, get_or_default, length-map}
use Rattle.std.proofs.lemmas.List.Elements.{Contains-append_left, Contains-push, Contains-push_cases, filter-append}
use Rattle.std.specs.List.{Contains}
use Rattle.lisp_records.specs.declared.address.Addr.{Addr}
use Rattle.lisp_records.specs.Address.{PrefixValue, covers, cleared, holds, max_len}
use Rattle.lisp_records.specs.Record.{MapRecordValue}
use Rattle.lisp_lookup.specs.Inside.{is_inside}
use Rattle.lisp_lookup.specs.Covering.{alone}
use Rattle.lisp_lookup.specs.Replies.{IsLongest}
use Rattle.lisp_lookup.proofs.Apart.{on_either}
use Rattle.lisp_lookup.proofs.Blocks.{covers_is, covers_through, has_wider, inside_is, is_addr, nested}
use Rattle.lisp_lookup.proofs.TableLaws.{filter_holds, filtered_holds}
use Rattle.lisp_replies.specs.Own.{IsLeastOwnTtl, IsLongestFor, IsLongestForOf, own_inside, own_record, IsOwnHole, IsOwnNarrowed, IsOwnReply, OwnRepliesFor, OwnRepliesNone, OwnRepliesWith}
use Rattle.lisp_replies.specs.OwnSteps.{is_longer}
use Rattle.lisp_replies.specs.OwnKept.{IsOwnAnswered, IsOwnKept, IsOwnKeptNone, OwnMayBeKept, OwnRepliesMayBeKept}
use Rattle.lisp_replies.specs.declared.reply.Reply.{Reply}
use Rattle.lisp_replies.specs.declared.reply.Reply.TheVariants.{Records, Negative}
use Rattle.lisp_policy.proofs.Found.{not_true}
use Rattle.lisp_replies.proofs.KeptLaws.{one_longest}

-- ---- one record more

pub one_more : {X : Type 0} (xs : List X) (i : ℕ) (x : X) → i < length xs → x ≡ slice_index_or xs i x → take (i + 1) xs ≡ take i xs ++ x ∷ []
one_more {X} xs i x lt read = take_more xs i x lt ∙ ap (λ (y : X). take i xs ++ y ∷ []) (sym read)

module _ (ms : List MapRecordValue) (eid : PrefixValue) (i : ℕ) (m : MapRecordValue) (lt : i < length ms) (read : m ≡ slice_index_or ms i m) where
  inside_next : own_inside (take (i + 1) ms) eid ≡ own_inside (take i ms) eid ++ own_inside (m ∷ []) eid
  inside_next = ap (λ (ys : List MapRecordValue). own_inside ys eid) (one_more ms i m lt read) ∙ filter-append (λ (x : MapRecordValue). is_inside eid x.eid) (take i ms) (m ∷ [])

  -- one that is inside
  pub inside_yes : is_inside eid m.eid ≡ true → own_inside (take (i + 1) ms) eid ≡ own_inside (take i ms) eid ++ m ∷ []
  inside_yes is =
      let one : own_inside (m ∷ []) eid ≡ m ∷ [] = rw is refl in
      inside_next ∙ ap (λ (ys : List MapRecordValue). own_inside (take i ms) eid ++ ys) one

  -- one that isn't
  pub inside_no : is_inside eid m.eid ≡ false → own_inside (take (i + 1) ms) eid ≡ own_inside (take i ms) eid
  inside_no is =
      let none : own_inside (m ∷ []) eid ≡ [] = rw is refl in
      inside_next ∙ ap (λ (ys : List MapRecordValue). own_inside (take i ms) eid ++ ys) none ∙ append-nil (own_inside (take i ms) eid)

  -- a walk over those inside: what is found of them so far goes on at one that is inside, and is the same after one that isn't
  pub inside_step : (P : List MapRecordValue → Type 0) → ((is_inside eid m.eid ≡ true) × P (own_inside (take i ms) eid ++ m ∷ [])) ⊎ ((is_inside eid m.eid ≡ false) × P (own_inside (take i ms) eid)) → P (own_inside (take (i + 1) ms) eid)
  inside_step P (inl (inner, is)) = subst P (sym (inside_yes inner)) is
  inside_step P (inr (outer, is)) = subst P (sym (inside_no outer)) is

-- ---- the least TTL

pub least_next : (ms : List MapRecordValue) (m : MapRecordValue) (ttl next : ℕ) → IsLeastOwnTtl ms ttl → next ≡ min ttl m.ttl → IsLeastOwnTtl (ms ++ m ∷ []) next
least_next ms m ttl next is made = on_either (cases_lt m.ttl ttl)
    (λ less. record { its = m; held = Contains-push ms m; is = omega (arith, made, less); least = λ other at. below other (Contains-push_cases ms m other at) })
    (λ more. record { its = is.its; held = Contains-append_left ms (m ∷ []) is.its is.held; is = omega (arith, made, more, is.is); least = λ other at. below other (Contains-push_cases ms m other at) })
  where
    below : (other : MapRecordValue) → Contains ms other ⊎ (m ≡ other) → next ≤ other.ttl
    below other (inl was) = omega (arith, made, is.least other was)
    below other (inr same) = subst (λ (x : MapRecordValue). next ≤ x.ttl) same (omega (arith, made))

-- ---- the records that are sent

pub records_next : (probed : Option Addr) (ttl : ℕ) (eid : PrefixValue) (longest m own : MapRecordValue) (seen : List MapRecordValue) (old new : List MapRecordValue) → old ≡ own_record probed ttl eid longest ∷ map (λ x. own_record probed ttl x.eid x) seen → new ≡ old ++ own ∷ [] → own ≡ own_record probed ttl m.eid m
    → new ≡ own_record probed ttl eid longest ∷ map (λ x. own_record probed ttl x.eid x) (seen ++ m ∷ [])
records_next probed ttl eid longest m own seen old new before pushed made =
    let first = own_record probed ttl eid longest in
    pushed ∙ ap (λ (xs : List MapRecordValue). xs ++ own ∷ []) before
    ∙ ap (λ (x : MapRecordValue). first ∷ (map (λ x. own_record probed ttl x.eid x) seen ++ x ∷ [])) made
    ∙ ap (λ (xs : List MapRecordValue). first ∷ xs) (sym (map-append (λ (x : MapRecordValue). own_record probed ttl x.eid x) seen (m ∷ [])))

-- ---- their count and size

-- ---- the longest record

module _ (asked : PrefixValue) (seen : List MapRecordValue) (m : MapRecordValue) where
  -- what no record that was seen, and not the next one, is longer than
  most : (l : ℕ) → ((other : MapRecordValue) → Contains seen other → covers other.eid asked ≡ true → other.eid.mask_len ≤ l) → (covers m.eid asked ≡ true → m.eid.mask_len ≤ l) → (other : MapRecordValue) → Contains (seen ++ m ∷ []) other → covers other.eid asked ≡ true → other.eid.mask_len ≤ l
  most l old new other at over = on_either (Contains-push_cases seen m other at)
      (λ was. old other was over)
      (λ same. subst (λ (x : MapRecordValue). x.eid.mask_len ≤ l) same (new (ap (λ (x : MapRecordValue). covers x.eid asked) same ∙ over)))

  -- a record that is no longer, or that isn't over the prefix, changes nothing
  longest_stays : (old : Option MapRecordValue) → IsLongestForOf seen asked old → (covers m.eid asked ≡ false) ⊎ (is_longer old m ≡ false) → IsLongestForOf (seen ++ m ∷ []) asked old
  longest_stays None none (inr short) = absurd (true≢false short)
  longest_stays None none (inl apart) = λ other at. on_either (Contains-push_cases seen m other at)
      (λ was. none other was) (λ same. subst (λ (x : MapRecordValue). covers x.eid asked ≡ false) same apart)
  longest_stays (Some l) is reason = record { held = Contains-append_left seen (m ∷ []) l is.held; over = is.over; longest = most l.eid.mask_len is.longest (shorter reason) }
    where
      shorter : (covers m.eid asked ≡ false) ⊎ (is_longer (Some l) m ≡ false) → covers m.eid asked ≡ true → m.eid.mask_len ≤ l.eid.mask_len
      shorter (inl apart) over = absurd (true≢false (sym over ∙ apart))
      shorter (inr short) over = ltb-false l.eid.mask_len m.eid.mask_len short

  -- a longer one over the prefix is the longest
  longest_grows : (old : Option MapRecordValue) → IsLongestForOf seen asked old → covers m.eid asked ≡ true → is_longer old m ≡ true → IsLongestFor (seen ++ m ∷ []) asked m
  longest_grows old is over long = record { held = Contains-push seen m; over = over; longest = most m.eid.mask_len (shorter old is long) (λ _. omega arith) }
    where
      shorter : (old : Option MapRecordValue) → IsLongestForOf seen asked old → is_longer old m ≡ true → (other : MapRecordValue) → Contains seen other → covers other.eid asked ≡ true → other.eid.mask_len ≤ m.eid.mask_len
      shorter None none long other was its = absurd (true≢false (sym its ∙ none other was))
      shorter (Some l) is long other was its = omega (arith, is.longest other was its, (Decides-ltb l.eid.mask_len m.eid.mask_len).0 long)

  pub longest_next : (old new : Option MapRecordValue) → IsLongestForOf seen asked old → ((covers m.eid asked ≡ true) × (is_longer old m ≡ true) × (new ≡ Some m)) ⊎ (((covers m.eid asked ≡ false) ⊎ (is_longer old m ≡ false)) × (new ≡ old)) → IsLongestForOf (seen ++ m ∷ []) asked new
  longest_next old new is (inl (over, long, made)) = subst (λ (o : Option MapRecordValue). IsLongestForOf (seen ++ m ∷ []) asked o) (sym made) (longest_grows old is over long)
  longest_next old new is (inr (reason, made)) = subst (λ (o : Option MapRecordValue). IsLongestForOf (seen ++ m ∷ []) asked o) (sym made) (longest_stays old is reason)

-- ---- What an ITR that keeps a router's reply says of an address.

-- ---- the records of a reply

module _ (database : List MapRecordValue) (asked : PrefixValue) (probed : Option Addr) (best : MapRecordValue) (eid : PrefixValue) (ttl : ℕ) (is_best : IsLongestFor database asked best) (narrowed : IsOwnNarrowed asked best eid) where
  abbrev inside : List MapRecordValue
  inside = own_inside database eid

  abbrev sent : MapRecordValue → MapRecordValue
  sent m = own_record probed ttl m.eid m

  abbrev first : MapRecordValue
  first = own_record probed ttl eid best

  abbrev all : List MapRecordValue
  all = first ∷ map sent inside

  -- the prefix lies around the one asked for
  around_asked : covers eid asked ≡ true
  around_asked = (covers_is eid asked).1 (narrowed.to, sym (ap (λ (b : PrefixValue). b.addr) narrowed.around))

  has_asked : holds eid asked.addr ≡ true
  has_asked = (and_parts (nat_le eid.mask_len asked.mask_len) (holds eid asked.addr) around_asked).1

  best_over : covers best.eid eid ≡ true
  best_over = nested best.eid eid asked.addr (and_parts (nat_le best.eid.mask_len asked.mask_len) (holds best.eid asked.addr) is_best.over).1 has_asked narrowed.from

  module _ (addr : Addr) (has : holds eid addr ≡ true) where
    -- a record of a longer prefix that has the address is one of those inside
    one_inside : (m : MapRecordValue) → Contains database m → holds m.eid addr ≡ true → eid.mask_len < m.eid.mask_len → Contains inside m
    one_inside m held its long = filter_holds (λ x. is_inside eid x.eid) database m held ((inside_is eid m.eid).1 ((covers_is eid m.eid).0 (nested eid m.eid addr has its (omega (arith, long))), long))

    -- one of no longer prefix is no longer than the best
    no_longer : (m : MapRecordValue) → Contains database m → holds m.eid addr ≡ true → m.eid.mask_len ≤ eid.mask_len → m.eid.mask_len ≤ best.eid.mask_len
    no_longer m held its short = is_best.longest m held (covers_through m.eid eid asked (nested m.eid eid addr its has short) around_asked)

    sent_in : (m : MapRecordValue) → Contains inside m → Contains all (sent m)
    sent_in m (k, lt, at) =
        let long : length (map sent inside) ≡ length inside = length-map inside sent in
        (suc k, omega (arith, lt, long), get_or-map sent inside k m (sent m) lt ∙ ap sent at)

    module _ (r : MapRecordValue) (longest : IsLongest all addr r) where
      inside_shorter : (m : MapRecordValue) → Contains database m → holds m.eid addr ≡ true → eid.mask_len < m.eid.mask_len → m.eid.mask_len ≤ r.eid.mask_len
      inside_shorter m held its long = longest.longest (sent m) (sent_in m (one_inside m held its long)) its

      of_first : first ≡ r → IsOwnAnswered database probed ttl addr r
      of_first is = (
        best,
        record {
          kept = is_best.held;
          has = has_wider best.eid eid addr best_over has;
          longest = λ m held its. on_either (cases_lt eid.mask_len m.eid.mask_len)
              (λ long. absurd (omega (arith, long, inside_shorter m held its long, ap (λ (x : MapRecordValue). x.eid.mask_len) is)))
              (λ short. no_longer m held its short);
        },
        sym is ∙ ap (λ (b : PrefixValue). own_record probed ttl b best) (ap (λ (x : MapRecordValue). x.eid) is),
      )

      of_inside : (m : MapRecordValue) → Contains inside m → sent m ≡ r → IsOwnAnswered database probed ttl addr r
      of_inside m there is = (
        m,
        record {
          kept = own.0;
          has = ap (λ (x : MapRecordValue). holds x.eid addr) is ∙ longest.has;
          longest = λ x held its. on_either (cases_lt eid.mask_len x.eid.mask_len)
              (λ more. omega (arith, inside_shorter x held its more, ap (λ (y : MapRecordValue). y.eid.mask_len) is))
              (λ short. omega (arith, short, long));
        },
        sym is ∙ ap (λ (b : PrefixValue). own_record probed ttl b m) (ap (λ (x : MapRecordValue). x.eid) is),
      )
        where
          own : Contains database m × (is_inside eid m.eid ≡ true)
          own = filtered_holds (λ x. is_inside eid x.eid) database m there

          long : eid.mask_len < m.eid.mask_len
          long = ((inside_is eid m.eid).0 own.1).1

      of_kept : Contains all r → IsOwnAnswered database probed ttl addr r
      of_kept (zero, lt, at) = of_first at
      of_kept (suc k, lt, at) =
          let long : length (map sent inside) ≡ length inside = length-map inside sent in
          let within : k < length inside = omega (arith, lt, long) in
          let m = slice_index_or inside k best in
          of_inside m (k, within, get_or_default inside k m best within) (sym (get_or-map sent inside k best r within) ∙ at)

  -- the prefix has an address for whose prefix it was found
  pub has_for : (addr : Addr) → holds asked addr ≡ true → holds eid addr ≡ true
  has_for addr its = has_wider eid asked addr around_asked its

  pub all_kept : (addr : Addr) → holds eid addr ≡ true → IsOwnKept database probed addr all
  all_kept of has_of = record {
    first = first;
    rest = map sent inside;
    is = refl;
    has = has_of;
    one = λ addr has. one_longest first (map sent inside) addr has;
    answered = λ addr has r longest. of_kept addr has r longest longest.kept;
  }

module _ (database : List MapRecordValue) (asked : PrefixValue) (probed : Option Addr) (records : List MapRecordValue) (is : OwnRepliesWith database asked probed records) where
  of_sent : (addr : Addr) → holds is.eid addr ≡ true → IsOwnKept database probed addr records
  of_sent addr has = subst (λ (rs : List MapRecordValue). IsOwnKept database probed addr rs) (sym is.are.is) (all_kept database asked probed is.longest is.eid is.are.ttl is.is_longest is.narrowed addr has)

  pub with_kept : IsOwnKept database probed asked.addr records
  with_kept = of_sent asked.addr (has_asked database asked probed is.longest is.eid is.are.ttl is.is_longest is.narrowed)

  -- also of another address that the prefix has which was asked for
  pub with_kept_of : (addr : Addr) → holds asked addr ≡ true → IsOwnKept database probed addr records
  with_kept_of addr its = of_sent addr (has_for database asked probed is.longest is.eid is.are.ttl is.is_longest is.narrowed addr its)

-- ---- a negative reply

module _ (database : List MapRecordValue) (asked : Addr) (eid : PrefixValue) (hole : IsOwnHole database asked eid) where
  none_there : (addr : Addr) → holds eid addr ≡ true → (m : MapRecordValue) → Contains database m → holds m.eid addr ≡ false
  none_there addr has m held = not_true (holds m.eid addr) (λ its. on_either (cases_lt eid.mask_len m.eid.mask_len)
      (λ long. true≢false (sym (nested eid m.eid addr has its (omega (arith, long))) ∙ (hole.free m held).0))
      (λ short. true≢false (sym (nested m.eid eid addr its has short) ∙ (hole.free m held).1)))

  pub hole_kept : IsOwnKeptNone database asked eid
  hole_kept = record {
    has = is_addr (cleared asked eid.mask_len) eid.addr (sym (ap (λ (b : PrefixValue). b.addr) hole.around.1));
    none = none_there;
  }

-- ---- any reply

module _ {A : Type 0} (database : List MapRecordValue) (probed : Option Addr) where
  for_kept : (asked : PrefixValue) (addr : Addr) → ((records : List MapRecordValue) → OwnRepliesWith database asked probed records → IsOwnKept database probed addr records) → (reply : Reply A) → OwnRepliesFor database asked probed reply → OwnMayBeKept database probed addr reply
  for_kept asked addr its (Records records) is = its records is
  for_kept asked addr its _ is = absurd is

  none_kept : (addr : Addr) (reply : Reply A) → OwnRepliesNone database addr reply → OwnMayBeKept database probed addr reply
  none_kept addr (Records records) is = absurd is
  none_kept addr (Negative hole) is = hole_kept database addr hole.eid is.0
  none_kept addr _ is = absurd is

  reply_kept : (asked : PrefixValue) (reply : Reply A) → IsOwnReply database asked probed reply → OwnMayBeKept database probed asked.addr reply
  reply_kept asked reply (inl is) = for_kept asked asked.addr (λ records. with_kept database asked probed records) reply is
  reply_kept asked reply (inr (unanswered, inl is)) = for_kept (alone asked.addr) asked.addr (λ records of. with_kept_of database (alone asked.addr) probed records of asked.addr (is_addr (cleared asked.addr (max_len asked.addr)) (cleared asked.addr (max_len asked.addr)) refl)) reply is
  reply_kept asked reply (inr (unanswered, inr is)) = none_kept asked.addr reply is

pub own_replies_may_be_kept : (A : Type 0) (database : List MapRecordValue) → OwnRepliesMayBeKept A database
own_replies_may_be_kept A database asked probed reply is = reply_kept database probed asked reply is
