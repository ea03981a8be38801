-- Of records some of which have an address one is the longest that has it.
use Rattle.std.proofs.Common.{[], ◌≡◌, ◌⊎◌, inl, inr, ℕ, zero, suc, ◌<◌, ◌≤◌, Bool, true, false, List, ◌∷◌, refl, sym, ◌∙◌, subst, true≢false, arith, map, ap}
use Rattle.std.proofs.lemmas.Bool.{cases_lt}
use Rattle.std.specs.List.{Contains}
use Rattle.lisp_records.specs.declared.address.Addr.{Addr}
use Rattle.lisp_records.specs.Address.{holds, PrefixValue, addr_eq, cleared, max_len, prefix_around}
use Rattle.lisp_records.specs.Record.{MapRecordValue}
use Rattle.lisp_records.specs.Row.{RowValue}
use Rattle.lisp_records.proofs.AddressLemmas.{cleared-wider}
use Rattle.lisp_records.proofs.Elements.{later_in}
use Rattle.lisp_lookup.specs.Replies.{IsLongest, record_of, RepliesWith}
use Rattle.lisp_lookup.specs.Covering.{alone}
use Rattle.lisp_lookup.proofs.Apart.{on_either}
use Rattle.lisp_lookup.proofs.Blocks.{is_addr}
use Rattle.lisp_lookup.proofs.CachedLaws.{cached_is_answered, hole_is_answered, its_eid}
use Rattle.lisp_policy.specs.Site.{SiteValue}
use Rattle.lisp_replies.specs.Kept.{IsKept, MayBeKept, RepliesMayBeKept}
use Rattle.lisp_replies.specs.Reply.{IsReply, negative_ttl}
use Rattle.lisp_replies.specs.declared.reply.Reply.{Reply}
use Rattle.lisp_replies.specs.declared.reply.Reply.TheVariants.{Records, Negative, Forward, Silent}

-- one record has it and is the longest, or none has it
abbrev Found : List MapRecordValue → Addr → Type 0
Found records addr = ((r : MapRecordValue) × IsLongest records addr r) ⊎ ((r : MapRecordValue) → Contains records r → holds r.eid addr ≡ false)

module _ (addr : Addr) (x : MapRecordValue) (xs : List MapRecordValue) where
  abbrev HasNoLonger : ℕ → MapRecordValue → Type 0
  HasNoLonger length other = holds other.eid addr ≡ true → other.eid.mask_len ≤ length

  -- what holds of the first record and of each of the others holds of each
  of_each : (P : MapRecordValue → Type 0) → P x → ((r : MapRecordValue) → Contains xs r → P r) → (r : MapRecordValue) → Contains (x ∷ xs) r → P r
  of_each P first others r (zero, lt, is) = subst P is first
  of_each P first others r (suc k, lt, is) = others r (k, omega (arith, lt), is)

  -- the first one is the longest
  first_longest : holds x.eid addr ≡ true → ((r : MapRecordValue) → Contains xs r → HasNoLonger x.eid.mask_len r) → Found (x ∷ xs) addr
  first_longest has others = inl (x, record { kept = (0, omega arith, refl); has = has; longest = of_each (HasNoLonger x.eid.mask_len) (λ its. omega arith) others })

  -- or the longest of the others
  other_longest : (r : MapRecordValue) → IsLongest xs addr r → HasNoLonger r.eid.mask_len x → Found (x ∷ xs) addr
  other_longest r is first = inl (r, record { kept = later_in r x xs is.kept; has = is.has; longest = of_each (HasNoLonger r.eid.mask_len) first is.longest })

  longer : (r : MapRecordValue) → IsLongest xs addr r → holds x.eid addr ≡ true → (r.eid.mask_len < x.eid.mask_len) ⊎ (x.eid.mask_len ≤ r.eid.mask_len) → Found (x ∷ xs) addr
  longer r is has (inl more) = first_longest has (λ other there its. (let low = is.longest other there its in omega (arith, low, more)))
  longer r is has (inr less) = other_longest r is (λ its. less)

  found_cons : (has : Bool) → holds x.eid addr ≡ has → Found xs addr → Found (x ∷ xs) addr
  found_cons true has (inl (r, is)) = longer r is has (cases_lt r.eid.mask_len x.eid.mask_len)
  found_cons false none (inl (r, is)) = other_longest r is (λ its. absurd (true≢false (sym its ∙ none)))
  found_cons true has (inr others) = first_longest has (λ other there its. absurd (true≢false (sym its ∙ others other there)))
  found_cons false none (inr others) = inr (of_each (λ (r : MapRecordValue). holds r.eid addr ≡ false) none others)

found : (records : List MapRecordValue) (addr : Addr) → Found records addr
found [] addr = inr (λ r (k, lt, is). absurd (omega (arith, lt)))
found (x ∷ xs) addr = found_cons addr x xs (holds x.eid addr) refl (found xs addr)

pub one_longest : (first : MapRecordValue) (rest : List MapRecordValue) (addr : Addr) → holds first.eid addr ≡ true → (r : MapRecordValue) × IsLongest (first ∷ rest) addr r
one_longest first rest addr has = on_either (found (first ∷ rest) addr)
    (λ one. one) (λ none. absurd (true≢false (sym has ∙ none first (0, omega arith, refl))))

-- ---- What an ITR that keeps a reply says of an address is what the Map-Server says of it.

-- a prefix around an address has it
around_has : (addr : Addr) (eid : PrefixValue) → eid ≡ prefix_around addr eid.mask_len → holds eid addr ≡ true
around_has addr eid around = is_addr (cleared addr eid.mask_len) eid.addr (sym (ap (λ (b : PrefixValue). b.addr) around))

-- and one around the prefix of an address alone has the address
alone_has : (addr : Addr) (eid : PrefixValue) → eid.mask_len ≤ max_len addr → holds eid (alone addr).addr ≡ true → holds eid addr ≡ true
alone_has addr eid le has = ap (λ (a : Addr). addr_eq a eid.addr) (sym (cleared-wider addr (max_len addr) eid.mask_len le)) ∙ has

module _ (rows : List RowValue) (asked : PrefixValue) (now : ℕ) (records : List MapRecordValue) (with : RepliesWith rows asked now records) where
  abbrev first : MapRecordValue
  first = record_of with.are.ttl with.eid with.best

  abbrev rest : List MapRecordValue
  rest = map (λ h. record_of with.are.ttl h.mapping.eid h) with.are.inside

  its : first.eid ≡ with.eid
  its = its_eid with.are.ttl with.eid with.best

  -- the first record's prefix has the address that was asked for
  pub reply_has : holds with.eid asked.addr ≡ true
  reply_has = around_has asked.addr with.eid with.narrowed.around

  pub records_kept : (addr : Addr) → holds with.eid addr ≡ true → IsKept rows addr now records
  records_kept addr has = record {
    first = first;
    rest = rest;
    is = with.are.is;
    has = ap (λ (b : PrefixValue). holds b addr) its ∙ has;
    one = λ a a_has. subst (λ (rs : List MapRecordValue). (r : MapRecordValue) × IsLongest rs a r) (sym with.are.is) (one_longest first rest a a_has);
    answered = λ a a_has r longest. cached_is_answered rows asked now with.best with.eid records with.is_best with.narrowed with.are a (ap (λ (b : PrefixValue). holds b a) (sym its) ∙ a_has) r longest;
  }

module _ {A : Type 0} (rows : List RowValue) (sites : List SiteValue) (asked : PrefixValue) (starting : Bool) (now : ℕ) where
  pub reply_kept : (reply : Reply A) → IsReply rows sites asked starting now reply → MayBeKept rows sites asked.addr now reply
  reply_kept (Records records) (inl (with, free)) = records_kept rows asked now records with asked.addr (reply_has rows asked now records with)
  reply_kept (Records records) (inr (none, inl (with, free))) = records_kept rows (alone asked.addr) now records with asked.addr (alone_has asked.addr with.eid with.narrowed.to (reply_has rows (alone asked.addr) now records with))
  reply_kept (Records records) (inr (none, inr never)) = absurd never
  reply_kept (Negative hole) (inl never) = absurd never
  reply_kept (Negative hole) (inr (none, inl never)) = absurd never
  reply_kept (Negative hole) (inr (none, inr (started, is_hole, ttl))) = record {
    has = around_has asked.addr hole.eid is_hole.around.1;
    none = λ addr has. (hole_is_answered rows sites asked.addr now hole.eid is_hole addr has).0;
    as_long = λ addr has. ttl ∙ ap negative_ttl (sym (hole_is_answered rows sites asked.addr now hole.eid is_hole addr has).1);
  }
  reply_kept (Forward to) is = tt
  reply_kept Silent is = tt

pub replies_may_be_kept : (A : Type 0) (rows : List RowValue) (sites : List SiteValue) → RepliesMayBeKept A rows sites
replies_may_be_kept A rows sites asked starting now reply is = reply_kept rows sites asked starting now reply is
