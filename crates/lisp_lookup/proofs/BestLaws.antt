-- The best of the rows of one prefix, and of all rows, the longest prefix first.
use Rattle.std.proofs.Common.{◌≡◌, ◌≢◌, ◌⊎◌, inl, inr, ℕ, ◌+◌, ◌<◌, ◌≤◌, ◌==◌, Bool, true, false, cond, nat_lt, List, length, slice_index, slice_index_or, Option, Some, None, refl, sym, ap, ◌∙◌, subst, true≢false, arith}
use Rattle.std.proofs.lemmas.Bool.{cases_eq, and_parts, and_from}
use Rattle.std.proofs.lemmas.Bool.Decides.{Decides-ltb, Decides-eqb}
use Rattle.std.proofs.lemmas.List.{get_or_read}
use Rattle.std.proofs.lemmas.List.Elements.{All-contains}
use Rattle.std.proofs.lemmas.Map.Lookups.{exact_unsigned}
use Rattle.std.specs.List.{All, Contains, filter}
use Rattle.std.specs.Option.{option_map, is_some}
use Rattle.std.specs.Ordering.{is_lt, nat_cmp, bool_cmp, ordering_then}
use Rattle.std.specs.declared.cmp.Ordering.{Ordering}
use Rattle.std.specs.declared.cmp.Ordering.TheVariants.{Less, Equal, Greater}
use Rattle.lisp_records.proofs.DatabaseLaws.{block_eq-Decides}
use Rattle.lisp_records.specs.declared.address.Addr.{Addr}
use Rattle.lisp_records.specs.declared.router.RouterId.{RouterId}
use Rattle.lisp_records.specs.Address.{PrefixValue, IsPrefix, IsWhole, addr_eq, prefix_eq, prefix_cmp, holds, covers, cleared, max_len}
use Rattle.lisp_records.specs.Router.{router_cmp}
use Rattle.lisp_records.specs.Row.{RowValue, is_alive}
use Rattle.lisp_lookup.specs.declared.probe.Probe.TheVariants.{Prefix}
use Rattle.lisp_lookup.specs.declared.answer.Answer.{Answer}
use Rattle.lisp_lookup.specs.declared.answer.Answer.TheVariants.{NoSite, NotRegistered, Reply, Forward}
use Rattle.lisp_lookup.specs.Answer.{may_answer, rank_cmp, IsBest, NoneAnswers, IsBestOf, Answers}
use Rattle.lisp_lookup.specs.Index.{row_prefix_cmp, row_at_place, IsBound, IsIndex}
use Rattle.lisp_lookup.specs.Covering.{may_answer_for, IsBestFor, IsBestForOf, AnswersAlike, alone}
use Rattle.lisp_lookup.specs.OneAnswer.{ShownAnswer, shown_of, HaveOneAnswer}
use Rattle.lisp_lookup.specs.Table.{OneEach, row_at, row_key}
use Rattle.lisp_policy.proofs.Found.{not_true}
use Rattle.lisp_policy.specs.Site.{SiteValue, is_configured}
use Rattle.lisp_lookup.proofs.Apart.{on_either}
use Rattle.lisp_lookup.proofs.Blocks.{cleared-whole, covers_is, holds_is}
use Rattle.lisp_lookup.proofs.AnswerLaws.{less, BestIn, best_of_all, ranks_tie}
use Rattle.lisp_lookup.proofs.IndexLaws.{number_at, itself}
use Rattle.lisp_lookup.proofs.Orders.{block_total, same_block, same_router}
use Rattle.lisp_lookup.proofs.TableLaws.{filtered_holds, filter_holds, found_own, some_inj}
use Rattle.lisp_lookup.specs.OneAnswer as shows

-- a row that was looked at
abbrev pub Seen : List RowValue → List ℕ → ℕ → ℕ → RowValue → Type 0
Seen rows numbers first upto h = (k : ℕ) × (first ≤ k) × (k < upto) × (row_at_place rows numbers k h ≡ h)

-- the rows of a prefix
abbrev pub of_prefix : List RowValue → PrefixValue → List RowValue
of_prefix rows eid = filter (λ h. prefix_eq h.mapping.eid eid) rows

-- the places up to an end are within a list that ends there, and none is behind them
pub within_end : (first place end long : ℕ) → end ≡ long → first ≤ long → (first ≤ end → place ≤ end) → place ≤ long
within_end first place end long is low upto = omega (arith, is, upto (omega (arith, is, low)))

pub past_end : {P : Type 0} (k place end long : ℕ) → end ≡ long → end ≤ place → place ≤ k → k < long → P
past_end k place end long is done low lt = absurd (omega (arith, is, done, low, lt))

module _ {A : Type 0} (rows : List RowValue) (numbers : List ℕ) (eid : PrefixValue) (first : ℕ) (index : IsIndex row_prefix_cmp rows numbers) (bound : IsBound {A = A} (Prefix eid) rows numbers first) where
  -- no row before the first has the prefix
  before_first : (k : ℕ) (d : RowValue) → k < first → (row_at_place rows numbers k d).mapping.eid ≢ eid
  before_first k d lt same = absurd (let clash : ◌≡◌ {A = Ordering} Less Equal = sym (less (prefix_cmp (row_at_place rows numbers k d).mapping.eid eid) (bound.before k d lt)) ∙ ap (λ (b : PrefixValue). prefix_cmp b eid) same ∙ itself prefix_cmp block_total eid in cc)

  later_case : (a b : PrefixValue) (one two : Ordering) → prefix_cmp a b ≡ one → ordering_then one two ≡ Less → prefix_cmp a b ≢ Greater
  later_case a b one two is up above = grind arith

  turned_case : (a : PrefixValue) (o : Ordering) → prefix_cmp a eid ≡ o → is_lt o ≡ false → a ≢ eid → o ≢ Equal → prefix_cmp a eid ≡ Greater
  turned_case a Less is low differ no_tie = absurd cc
  turned_case a Equal is low differ no_tie = absurd (no_tie refl)
  turned_case a Greater is low differ no_tie = is

  -- nor has one behind a row of another prefix
  pub behind : (p : ℕ) (x : RowValue) → first ≤ p → p < length numbers → x ≡ row_at_place rows numbers p x → x.mapping.eid ≢ eid → (k : ℕ) (d : RowValue) → p ≤ k → k < length numbers → (row_at_place rows numbers k d).mapping.eid ≢ eid
  behind p x le lt read differ k d low within same = either (cases_eq k p)
    where
      known : (e : RowValue) → x ≡ row_at_place rows numbers p e
      known = get_or_read rows (slice_index numbers p) x (index.rises.below p lt) read

      above : prefix_cmp x.mapping.eid eid ≡ Greater
      above = turned_case x.mapping.eid (prefix_cmp x.mapping.eid eid) refl (ap (λ (h : RowValue). is_lt (prefix_cmp h.mapping.eid eid)) read ∙ bound.after p x le lt) differ (λ tie. differ (same_block x.mapping.eid eid tie))

      either : (k ≡ p) ⊎ (k ≢ p) → ⊥
      either (inl at) = differ (ap (λ (h : RowValue). h.mapping.eid) (known d) ∙ ap (λ (j : ℕ). (row_at_place rows numbers j d).mapping.eid) (sym at) ∙ same)
      either (inr off) =
          let rising = index.rises.rising p k d (omega (arith, low, off)) within in
          let at_k = row_at_place rows numbers k d in
          let at_p = row_at_place rows numbers p d in
          later_case at_p.mapping.eid at_k.mapping.eid (prefix_cmp at_p.mapping.eid at_k.mapping.eid) (router_cmp at_p.router at_k.router) refl rising (ap (λ (h : RowValue). prefix_cmp h.mapping.eid at_k.mapping.eid) (sym (known d)) ∙ ap (prefix_cmp x.mapping.eid) same ∙ above)

  -- the rows that were looked at are those of the prefix
  module _ (upto : ℕ) (within : upto ≤ length numbers) (same : (k : ℕ) (d : RowValue) → first ≤ k → k < upto → (row_at_place rows numbers k d).mapping.eid ≡ eid) (others : (k : ℕ) (d : RowValue) → upto ≤ k → k < length numbers → (row_at_place rows numbers k d).mapping.eid ≢ eid) where
    seen_held : (h : RowValue) → Seen rows numbers first upto h → Contains (of_prefix rows eid) h
    seen_held h (k, low, lt, is) = filter_holds (λ x. prefix_eq x.mapping.eid eid) rows h (slice_index numbers k, index.rises.below k (omega (arith, lt, within)), is) ((block_eq-Decides h.mapping.eid eid).1 (ap (λ (x : RowValue). x.mapping.eid) (sym is) ∙ same k h low lt))

    held_seen : (h : RowValue) → Contains (of_prefix rows eid) h → Seen rows numbers first upto h
    held_seen h held =
        let was = filtered_holds (λ x. prefix_eq x.mapping.eid eid) rows h held in
        let own : h.mapping.eid ≡ eid = (block_eq-Decides h.mapping.eid eid).0 was.1 in
        place was.0 own
      where
        place : Contains rows h → h.mapping.eid ≡ eid → Seen rows numbers first upto h
        place (n, lt, is) own =
            let (k, lt_k, at) = index.each n lt in
            let named = number_at numbers k n lt_k at in
            let here : row_at_place rows numbers k h ≡ h = ap (λ (m : ℕ). slice_index_or rows m h) named ∙ is in
            let its : (row_at_place rows numbers k h).mapping.eid ≡ eid = ap (λ (x : RowValue). x.mapping.eid) here ∙ own in
            let not_before : k < first → ⊥ = λ sooner. before_first k h sooner its in
            let not_behind : upto ≤ k → ⊥ = λ later. others k h later lt_k its in
            (k, omega (arith, not_before), omega (arith, not_behind), here)

    -- so the best of them is the best of the prefix
    pub best_seen : (addr : Addr) (now : ℕ) (best : Option RowValue) → BestIn (Seen rows numbers first upto) addr now best → IsBestOf (of_prefix rows eid) addr now best
    best_seen addr now best is = best_of_all (Seen rows numbers first upto) (of_prefix rows eid) addr now best seen_held held_seen is

-- the prefix that an address has with a mask length
abbrev pub block_of : Addr → ℕ → PrefixValue
block_of addr mask_len = record { addr = cleared addr mask_len; mask_len = mask_len }

-- a row that may answer for an address has the prefix that the address has with its mask length
pub its_block : (h : RowValue) (addr : Addr) (now : ℕ) → may_answer addr now h ≡ true → block_of addr h.mapping.eid.mask_len ≡ h.mapping.eid
its_block h addr now may =
    let both = and_parts (is_alive h now) (holds h.mapping.eid addr) may in
    let length = h.mapping.eid.mask_len in
    (block_eq-Decides (block_of addr length) h.mapping.eid).0 (and_from (addr_eq (cleared addr length) h.mapping.eid.addr) (length == length) both.1 ((Decides-eqb length length).1 refl))

pub same_family : (addr : Addr) (mask_len : ℕ) → max_len (cleared addr mask_len) ≡ max_len addr
same_family addr mask_len = grind arith

-- and its mask fits the address
pub its_length : (h : RowValue) (addr : Addr) (now : ℕ) → may_answer addr now h ≡ true → IsPrefix h.mapping.eid → h.mapping.eid.mask_len ≤ max_len addr
its_length h addr now may block = omega (arith, block.0, same_family addr h.mapping.eid.mask_len, ap (λ (b : PrefixValue). max_len b.addr) (its_block h addr now may))

rank_case : (less : Bool) (one two three : Ordering) (rest : Ordering) → less ≡ true → ordering_then (ordering_then (ordering_then (cond less Less rest) one) two) three ≢ Greater
rank_case less one two three rest is above = grind arith

-- a row of a shorter prefix is the less
pub shorter_below : (a b : RowValue) → a.mapping.eid.mask_len < b.mapping.eid.mask_len → rank_cmp a b ≢ Greater
shorter_below a b lt = rank_case (nat_lt a.mapping.eid.mask_len b.mapping.eid.mask_len) (bool_cmp a.proxy b.proxy) (nat_cmp a.accepted b.accepted) (router_cmp a.router b.router) (cond (a.mapping.eid.mask_len == b.mapping.eid.mask_len) Equal Greater) ((Decides-ltb a.mapping.eid.mask_len b.mapping.eid.mask_len).1 lt)

-- a row that may answer for a prefix may do so for its address
pub for_address : (h : RowValue) (asked : PrefixValue) (now : ℕ) → may_answer_for asked now h ≡ true → may_answer asked.addr now h ≡ true
for_address h asked now may =
    let (alive, covered) = and_parts (is_alive h now) (covers h.mapping.eid asked) may in
    and_from (is_alive h now) (holds h.mapping.eid asked.addr) alive ((holds_is h.mapping.eid asked.addr).1 ((covers_is h.mapping.eid asked).0 covered).1)

-- and has no longer one
pub for_length : (h : RowValue) (asked : PrefixValue) (now : ℕ) → may_answer_for asked now h ≡ true → h.mapping.eid.mask_len ≤ asked.mask_len
for_length h asked now may = ((covers_is h.mapping.eid asked).0 (and_parts (is_alive h now) (covers h.mapping.eid asked) may).1).0

-- one that may do so for the address and has no longer one may do so for the prefix
pub for_prefix : (h : RowValue) (asked : PrefixValue) (now : ℕ) → may_answer asked.addr now h ≡ true → h.mapping.eid.mask_len ≤ asked.mask_len → may_answer_for asked now h ≡ true
for_prefix h asked now may short =
    let (alive, has) = and_parts (is_alive h now) (holds h.mapping.eid asked.addr) may in
    and_from (is_alive h now) (covers h.mapping.eid asked) alive ((covers_is h.mapping.eid asked).1 (short, (holds_is h.mapping.eid asked.addr).0 has))

-- no row with a longer mask may answer
abbrev pub NoneLonger : List RowValue → PrefixValue → ℕ → ℕ → Type 0
NoneLonger rows asked now longest = (h : RowValue) → Contains rows h → may_answer_for asked now h ≡ true → h.mapping.eid.mask_len ≤ longest

module _ (rows : List RowValue) (asked : PrefixValue) (now mask_len : ℕ) (within : mask_len ≤ asked.mask_len) (longest : NoneLonger rows asked now mask_len) where
  in_prefix : (h : RowValue) → Contains rows h → may_answer_for asked now h ≡ true → h.mapping.eid.mask_len ≡ mask_len → Contains (of_prefix rows (block_of asked.addr mask_len)) h
  in_prefix h held may long = filter_holds (λ x. prefix_eq x.mapping.eid (block_of asked.addr mask_len)) rows h held ((block_eq-Decides h.mapping.eid (block_of asked.addr mask_len)).1 (sym (its_block h asked.addr now (for_address h asked now may)) ∙ ap (block_of asked.addr) long))

  -- the best of the rows of the longest prefix that may answer is the best
  pub best_longest : (h : RowValue) → IsBest (of_prefix rows (block_of asked.addr mask_len)) asked.addr now h → IsBestFor rows asked now h
  best_longest h is = record {
    held = was.0;
    may = for_prefix h asked now is.may (omega (arith, long, within));
    most = λ other held may. on_either (cases_eq other.mapping.eid.mask_len mask_len)
        (λ same. is.most other (in_prefix other held may same) (for_address other asked now may))
        (λ off. shorter_below other h (omega (arith, long, off, longest other held may)));
  }
    where
      was : Contains rows h × (prefix_eq h.mapping.eid (block_of asked.addr mask_len) ≡ true)
      was = filtered_holds (λ x. prefix_eq x.mapping.eid (block_of asked.addr mask_len)) rows h is.held

      long : h.mapping.eid.mask_len ≡ mask_len
      long = ap (λ (b : PrefixValue). b.mask_len) ((block_eq-Decides h.mapping.eid (block_of asked.addr mask_len)).0 was.1)

  -- where none of them may answer, no row with a mask of their length may
  pub none_longest : NoneAnswers (of_prefix rows (block_of asked.addr mask_len)) asked.addr now → (h : RowValue) → Contains rows h → may_answer_for asked now h ≡ true → h.mapping.eid.mask_len < mask_len
  none_longest none h held may =
      let other : h.mapping.eid.mask_len ≢ mask_len = λ same. true≢false (sym (for_address h asked now may) ∙ none h (in_prefix h held may same)) in
      omega (arith, other, longest h held may)

-- one place more was looked at
pub seen_more : (rows : List RowValue) (numbers : List ℕ) (first place : ℕ) (h : RowValue) → Seen rows numbers first place h → Seen rows numbers first (place + 1) h
seen_more rows numbers first place h (k, low, lt, is) = (k, low, omega (arith, lt), is)

pub seen_last : (rows : List RowValue) (numbers : List ℕ) (first place : ℕ) (x : RowValue) → first ≤ place → x ≡ row_at_place rows numbers place x → Seen rows numbers first (place + 1) x
seen_last rows numbers first place x low read = (place, low, omega arith, sym read)

pub seen_splits : (rows : List RowValue) (numbers : List ℕ) (first place : ℕ) (x : RowValue) → ((d : RowValue) → x ≡ row_at_place rows numbers place d) → (h : RowValue) → Seen rows numbers first (place + 1) h → Seen rows numbers first place h ⊎ (x ≡ h)
seen_splits rows numbers first place x read h (k, low, lt, is) = on_either (cases_eq k place)
    (λ at. inr (read h ∙ ap (λ (j : ℕ). row_at_place rows numbers j h) (sym at) ∙ is)) (λ off. inl (k, low, omega (arith, lt, off), is))

module _ {R : Type 0} (view : R → RowValue) (rows : List RowValue) (asked : PrefixValue) (now mask_len : ℕ) (within : mask_len ≤ asked.mask_len) (longest : NoneLonger rows asked now mask_len) (addr : Addr) (own : addr ≡ asked.addr) (eid : PrefixValue) (named : eid ≡ block_of addr mask_len) where
  found_by : (found : Option R) → IsBestOf (of_prefix rows eid) addr now (option_map view found) → IsBestOf (of_prefix rows (block_of asked.addr mask_len)) asked.addr now (option_map view found)
  found_by found is =
      let known = subst (λ (a : Addr). IsBestOf (of_prefix rows eid) a now (option_map view found)) own is in
      subst (λ (b : PrefixValue). IsBestOf (of_prefix rows b) asked.addr now (option_map view found)) (named ∙ ap (λ (a : Addr). block_of a mask_len) own) known

  -- what was found of the longest prefix is the best
  pub found_longest : (found : Option R) → IsBestOf (of_prefix rows eid) addr now (option_map view found) → is_some found ≡ true → IsBestForOf rows asked now (option_map view found)
  found_longest None is some = absurd cc
  found_longest (Some x) is some = best_longest rows asked now mask_len within longest (view x) (found_by (Some x) is)

  -- where nothing was found, the masks of those that may answer are shorter
  pub missed_longest : (found : Option R) → IsBestOf (of_prefix rows eid) addr now (option_map view found) → is_some found ≡ false → (h : RowValue) → Contains rows h → may_answer_for asked now h ≡ true → h.mapping.eid.mask_len < mask_len
  missed_longest None is none = none_longest rows asked now mask_len within longest (found_by None is)
  missed_longest (Some x) is none = absurd cc

-- ---- for the prefix of one address answers who answers for the address

module _ (rows : List RowValue) (blocks : All (λ h. IsPrefix h.mapping.eid) rows) (addr : Addr) (whole : IsWhole addr) (now : ℕ) where
  its_own : cleared addr (max_len addr) ≡ addr
  its_own = cleared-whole addr whole

  -- a row may answer for one as for the other
  may_for : (h : RowValue) → may_answer_for (alone addr) now h ≡ true → may_answer addr now h ≡ true
  may_for h may = subst (λ (a : Addr). may_answer a now h ≡ true) its_own (for_address h (alone addr) now may)

  may_alone : (h : RowValue) → Contains rows h → may_answer addr now h ≡ true → may_answer_for (alone addr) now h ≡ true
  may_alone h held may = for_prefix h (alone addr) now (subst (λ (a : Addr). may_answer a now h ≡ true) (sym its_own) may) (its_length h addr now may (All-contains (λ h. IsPrefix h.mapping.eid) rows h blocks held))

  pub alone_best : (best : Option RowValue) → IsBestForOf rows (alone addr) now best → IsBestOf rows addr now best
  alone_best None none = λ h held. not_true (may_answer addr now h) (λ may. true≢false (sym (may_alone h held may) ∙ none h held))
  alone_best (Some h) is = record { held = is.held; may = may_for h is.may; most = λ other held may. is.most other held (may_alone other held may) }

  pub best_alone : (best : Option RowValue) → IsBestOf rows addr now best → IsBestForOf rows (alone addr) now best
  best_alone None none = λ h held. not_true (may_answer_for (alone addr) now h) (λ may. true≢false (sym (may_for h may) ∙ none h held))
  best_alone (Some h) is = record { held = is.held; may = may_alone h is.held is.may; most = λ other held may. is.most other held (may_for other may) }

pub answers_alike : (rows : List RowValue) → AnswersAlike rows
answers_alike rows blocks addr whole now best = (alone_best rows blocks addr whole now best, best_alone rows blocks addr whole now best)

-- each row that was looked at is of the prefix, and so is the next one
pub same_more : (rows : List RowValue) (numbers : List ℕ) (eid : PrefixValue) (first place : ℕ) (x : RowValue) → ((d : RowValue) → x ≡ row_at_place rows numbers place d) → prefix_eq x.mapping.eid eid ≡ true → ((k : ℕ) (d : RowValue) → first ≤ k → k < place → (row_at_place rows numbers k d).mapping.eid ≡ eid) → (k : ℕ) (d : RowValue) → first ≤ k → k < place + 1 → (row_at_place rows numbers k d).mapping.eid ≡ eid
same_more rows numbers eid first place x read own same k d low lt = grind (arith, cases_eq k place, read d, (block_eq-Decides x.mapping.eid eid).0 own, same k d)

-- a row is of another prefix
pub other_block : (a b : PrefixValue) → prefix_eq a b ≡ false → a ≢ b
other_block a b other same = true≢false (sym ((block_eq-Decides a b).1 same) ∙ other)

-- ---- Rows, one for each router and prefix, have one best row for an address, and so one answer.

-- a tie of two orders, one after the other, is one of each
both_tie : (one two : Ordering) → ordering_then one two ≡ Equal → (one ≡ Equal) × (two ≡ Equal)
both_tie one two tie = grind arith

-- rows that may answer for one address, and tie, are of one router and prefix
same_key : (a b : RowValue) (addr : Addr) (now : ℕ) → may_answer addr now a ≡ true → may_answer addr now b ≡ true → rank_cmp a b ≡ Equal → row_key a ≡ row_key b
same_key a b addr now may_a may_b tie =
    let routers = both_tie _ (router_cmp a.router b.router) tie in
    let moments = both_tie _ (nat_cmp a.accepted b.accepted) routers.0 in
    let masks = both_tie _ (bool_cmp a.proxy b.proxy) moments.0 in
    let length = exact_unsigned a.mapping.eid.mask_len b.mapping.eid.mask_len masks.0 in
    let router = same_router a.router b.router routers.1 in
    let prefix = sym (its_block a addr now may_a) ∙ ap (block_of addr) length ∙ its_block b addr now may_b in
    λ i. (router i, prefix i)

-- so the best row is one
pub one_best : (rows : List RowValue) (addr : Addr) (now : ℕ) → OneEach rows → (a b : RowValue) → IsBest rows addr now a → IsBest rows addr now b → a ≡ b
one_best rows addr now one a b best_a best_b =
    let tie = ranks_tie a b (best_b.most a best_a.held best_a.may) (best_a.most b best_b.held best_b.may) in
    let key = same_key a b addr now best_a.may best_b.may tie in
    let found : row_at rows a.router a.mapping.eid ≡ row_at rows b.router b.mapping.eid = ap (λ (k : RouterId × PrefixValue). row_at rows k.0 k.1) key in
    some_inj a b (sym (found_own rows a one best_a.held) ∙ found ∙ found_own rows b one best_b.held)

-- and so is the best row, where there is one
one_best_of : (rows : List RowValue) (addr : Addr) (now : ℕ) → OneEach rows → (a b : Option RowValue) → IsBestOf rows addr now a → IsBestOf rows addr now b → a ≡ b
one_best_of rows addr now one (Some a) (Some b) best_a best_b = ap (λ (h : RowValue). Some h) (one_best rows addr now one a b best_a best_b)
one_best_of rows addr now one (Some a) None best_a none = absurd (true≢false (sym best_a.may ∙ none a best_a.held))
one_best_of rows addr now one None (Some b) none best_b = absurd (true≢false (sym best_b.may ∙ none b best_b.held))
one_best_of rows addr now one None None none also = refl

-- what is shown where the best row is this
abbrev shown_by : List SiteValue → Addr → Option RowValue → ShownAnswer
shown_by sites addr (Some h) = cond h.proxy (shows.Reply h.mapping) (shows.Forward h.from)
shown_by sites addr None = cond (is_configured sites addr) shows.NotRegistered shows.NoSite

-- an answer shows what the best row says
shown_by_best : {A : Type 0} (rows : List RowValue) (sites : List SiteValue) (addr : Addr) (now : ℕ) (one : Answer A) → Answers rows sites addr now one → (best : Option RowValue) × IsBestOf rows addr now best × (shown_of one ≡ shown_by sites addr best)
shown_by_best rows sites addr now NoSite (none, no_site) = (None, none, rw no_site refl)
shown_by_best rows sites addr now NotRegistered (none, site) = (None, none, rw site refl)
shown_by_best rows sites addr now (Reply record_of) (h, best, proxy, its) = (Some h, best, rw (proxy, its) refl)
shown_by_best rows sites addr now (Forward to) (h, best, no_proxy, its) = (Some h, best, rw (no_proxy, its) refl)

pub one_answer : {A B : Type 0} (rows : List RowValue) → OneEach rows → HaveOneAnswer A B rows
one_answer rows one_each sites addr now one other is also =
    let first = shown_by_best rows sites addr now one is in
    let second = shown_by_best rows sites addr now other also in
    first.2 ∙ ap (shown_by sites addr) (one_best_of rows addr now one_each first.0 second.0 first.1 second.1) ∙ sym second.2
