-- What is held once one more Map-Register is accepted.
use Rattle.std.proofs.Common.{◌≡◌, ℕ, false, cond, List, [], ◌∷◌, map, Option, Some, None, refl, sym, ap, ◌∙◌, Bool, true, slice_index_or, inl, inr, arith}
use Rattle.std.specs.Prelude.{◌&&◌, reverse, ◌⊎◌, ◌-◌}
use Rattle.std.specs.List.{find, AllPairs, Contains}
use Rattle.std.specs.Option.{option_and_then, option_or}
use Rattle.std.proofs.lemmas.List.Folds.{find-append}
use Rattle.std.specs.Ordering.{ordering_reverse}
use Rattle.std.specs.declared.cmp.Ordering.{Ordering}
use Rattle.std.specs.declared.cmp.Ordering.TheVariants.{Less, Equal, Greater}
use Rattle.std.proofs.lemmas.Bool.Decides.{Decides-ltb}
use Rattle.std.proofs.lemmas.List.Elements.{All-contains_itself}
use Rattle.std.proofs.lemmas.List.Kept.{AllPairs-cons, AllPairs-filter}
use Rattle.lisp_records.specs.declared.address.Addr.{Addr}
use Rattle.lisp_records.specs.declared.router.RouterId.{RouterId}
use Rattle.lisp_records.specs.Address.{PrefixValue, prefix_eq}
use Rattle.lisp_records.specs.Record.{MapRecordValue}
use Rattle.lisp_records.specs.Router.{router_eq}
use Rattle.lisp_records.specs.Row.{RowValue, is_alive}
use Rattle.lisp_messages.specs.Message.{MapRegisterValue}
use Rattle.lisp_lookup.specs.Table.{is_row_of, if_alive, last_of as last_given, row_key, row_at, row_cmp, OneEach, IsHeld}
use Rattle.lisp_admission.specs.Pairs.{router_of}
use Rattle.lisp_admission.specs.AcceptedRows.{row_value, row_values}
use Rattle.lisp_admission.proofs.Turned.{turned}
use Rattle.lisp_lookup.proofs.Orders.{key_cmp, key_total, same_key}
use Rattle.lisp_lookup.proofs.TableLaws.{has_key, found_own, found_holds, filtered_holds, filter_holds}
use Rattle.lisp_model.specs.Held.{Acceptance, accepted_rows, held_row, insert_row_by, insert_row, in_row_order, rows}
use Rattle.lisp_model.proofs.ListLemmas.{in_tail, head_or_tail, in_none}

module _ (m : MapRegisterValue) (from : Addr) (now : ℕ) (since : List Acceptance) (router : RouterId) (eid : PrefixValue) where
  abbrev one : Acceptance
  one = record { message = m; from = from; moment = now }

  -- what is held is one of its rows, or was held before
  pub held_more : option_and_then (if_alive now) (option_or (last_given (row_values m from now) router eid) (find (is_row_of router eid) (accepted_rows since))) ≡ held_row (one ∷ since) router eid now
  held_more = ap (option_and_then (if_alive now)) (sym (find-append (is_row_of router eid) (reverse (row_values m from now)) (accepted_rows since)))

  -- none of them is another router's
  none_in : router_eq (router_of m) router ≡ false → (xs : List MapRecordValue) → find (is_row_of router eid) (map (row_value m from now) xs) ≡ None
  none_in other [] = refl
  none_in other (x ∷ xs) = ap (λ b. cond (b && prefix_eq x.eid eid) (Some (row_value m from now x)) (find (is_row_of router eid) (map (row_value m from now) xs))) other ∙ none_in other xs

  -- what is held of another router stays
  pub held_other : router_eq (router_of m) router ≡ false → held_row since router eid now ≡ held_row (one ∷ since) router eid now
  held_other other =
      ap (λ (x : Option RowValue). option_and_then (if_alive now) (option_or x (find (is_row_of router eid) (accepted_rows since)))) (sym (ap (find (is_row_of router eid)) (sym (turned (row_value m from now) m.records)) ∙ none_in other (reverse m.records)))
      ∙ held_more

-- What is listed as held is exactly what is held, by router, then prefix.

-- each row comes before all that stand behind it
abbrev Rising : List RowValue → Type 0
Rising [] = Unit {0}
Rising (h ∷ hs) = ((g : RowValue) → Contains hs g → row_cmp h g ≡ Less) × Rising hs

wider : (h g : RowValue) (gs : List RowValue) (x : RowValue) → (x ≡ h) ⊎ Contains gs x → (x ≡ h) ⊎ Contains (g ∷ gs) x
wider h g gs x (inl is) = inl is
wider h g gs x (inr has) = inr (in_tail g gs x has)

head_or_placed : (h g : RowValue) (x : RowValue) (gs : List RowValue) → (x ≡ g) ⊎ Contains (insert_row h gs) x → (Contains (insert_row h gs) x → (x ≡ h) ⊎ Contains gs x) → (x ≡ h) ⊎ Contains (g ∷ gs) x
head_or_placed h g x gs (inl is) later = inr (0, omega arith, sym is)
head_or_placed h g x gs (inr has) later = wider h g gs x (later has)

from_case : (h g : RowValue) (gs : List RowValue) (x : RowValue) (o : Ordering) → (Contains (insert_row h gs) x → (x ≡ h) ⊎ Contains gs x) → Contains (insert_row_by o h g gs (insert_row h gs)) x → (x ≡ h) ⊎ Contains (g ∷ gs) x
from_case h g gs x Less later has = head_or_tail h (g ∷ gs) x has
from_case h g gs x Equal later has = wider h g gs x (head_or_tail h gs x has)
from_case h g gs x Greater later has = head_or_placed h g x gs (head_or_tail g (insert_row h gs) x has) later

-- where a row is placed, there are it and those from before
from_placed : (h : RowValue) (hs : List RowValue) (x : RowValue) → Contains (insert_row h hs) x → (x ≡ h) ⊎ Contains hs x
from_placed h [] x has = head_or_tail h [] x has
from_placed h (g ∷ gs) x has = from_case h g gs x (row_cmp h g) (from_placed h gs x) has

rising_case : (h g : RowValue) (gs : List RowValue) (o : Ordering) → row_cmp h g ≡ o → Rising (g ∷ gs) → Rising (insert_row h gs) → Rising (insert_row_by o h g gs (insert_row h gs))
rising_case h g gs Less e (below, rising) later = (λ x has. under x (head_or_tail g gs x has), (below, rising))
  where
    under : (x : RowValue) → (x ≡ g) ⊎ Contains gs x → row_cmp h x ≡ Less
    under x (inl is) = ap (row_cmp h) is ∙ e
    under x (inr has) = key_total.trans (row_key h) (row_key g) (row_key x) e (below x has)
rising_case h g gs Equal e (below, rising) later = (λ x has. key_total.congr (row_key h) (row_key g) (row_key x) e ∙ below x has, rising)
rising_case h g gs Greater e (below, rising) later = (λ x has. under x (from_placed h gs x has), later)
  where
    under : (x : RowValue) → (x ≡ h) ⊎ Contains gs x → row_cmp g x ≡ Less
    under x (inl is) = ap (row_cmp g) is ∙ key_total.antisymm (row_key g) (row_key h) ∙ ap ordering_reverse e
    under x (inr has) = below x has

rising_placed : (h : RowValue) (hs : List RowValue) → Rising hs → Rising (insert_row h hs)
rising_placed h [] rising = (λ g has. absurd (in_none g has), tt)
rising_placed h (g ∷ gs) (below, rising) = rising_case h g gs (row_cmp h g) refl (below, rising) (rising_placed h gs rising)

rising_ordered : (hs : List RowValue) → Rising (in_row_order hs)
rising_ordered [] = tt
rising_ordered (h ∷ hs) = rising_placed h (in_row_order hs) (rising_ordered hs)

pairs_rise : (hs : List RowValue) → Rising hs → AllPairs (λ a b. row_cmp a b ≡ Less) hs
pairs_rise [] rising = λ i j d before lt. absurd (omega (arith, lt))
pairs_rise (h ∷ hs) (below, rising) = AllPairs-cons (λ a b. row_cmp a b ≡ Less) h hs (λ i d lt. below (slice_index_or hs i d) (All-contains_itself hs i d lt)) (pairs_rise hs rising)

-- rows of one router and prefix tie
own_tie : (o : Ordering) → o ≡ ordering_reverse o → o ≡ Equal
own_tie Less e = absurd cc
own_tie Equal e = refl
own_tie Greater e = absurd cc

tie : (a b : RowValue) → row_key a ≡ row_key b → row_cmp a b ≡ Equal
tie a b same = ap (key_cmp (row_key a)) (sym same) ∙ own_tie (key_cmp (row_key a) (row_key a)) (key_total.antisymm (row_key a) (row_key a))

rising_differ : (hs : List RowValue) → Rising hs → OneEach hs
rising_differ hs rising i j d before lt same = absurd (let clash : Less ≡ Equal = sym (pairs_rise hs rising i j d before lt) ∙ tie (slice_index_or hs i d) (slice_index_or hs j d) same in cc)

module _ (router : RouterId) (eid : PrefixValue) where
  abbrev p : RowValue → Bool
  p = is_row_of router eid

  skips : (h g : RowValue) (far : Option RowValue) (b c : Bool) → b ≡ c → cond b (Some h) far ≡ cond b (Some h) (cond c (Some g) far)
  skips h g far true c e = refl
  skips h g far false true e = absurd cc
  skips h g far false false e = refl

  swaps : (h g : RowValue) (far : Option RowValue) (b c : Bool) → (b ≡ true → c ≡ true → ⊥) → cond c (Some g) (cond b (Some h) far) ≡ cond b (Some h) (cond c (Some g) far)
  swaps h g far true true clash = absurd (clash refl refl)
  swaps h g far true false clash = refl
  swaps h g far false true clash = refl
  swaps h g far false false clash = refl

  found_case : (h g : RowValue) (gs : List RowValue) (o : Ordering) → row_cmp h g ≡ o → find p (insert_row h gs) ≡ cond (p h) (Some h) (find p gs) → find p (insert_row_by o h g gs (insert_row h gs)) ≡ cond (p h) (Some h) (cond (p g) (Some g) (find p gs))
  found_case h g gs Less e later = refl
  found_case h g gs Equal e later = skips h g (find p gs) (p h) (p g) (ap (λ (k : RouterId × PrefixValue). router_eq k.0 router && prefix_eq k.1 eid) (same_key (row_key h) (row_key g) e))
  found_case h g gs Greater e later = ap (cond (p g) (Some g)) later ∙ swaps h g (find p gs) (p h) (p g) (λ one other. (let clash : Greater ≡ Equal = sym e ∙ tie h g ((has_key (router, eid) h).0 one ∙ sym ((has_key (router, eid) g).0 other)) in absurd cc))

  found_placed : (h : RowValue) (hs : List RowValue) → find p (insert_row h hs) ≡ cond (p h) (Some h) (find p hs)
  found_placed h [] = refl
  found_placed h (g ∷ gs) = found_case h g gs (row_cmp h g) refl (found_placed h gs)

  -- of several rows for a router and prefix the first is placed
  found_ordered : (hs : List RowValue) → find p (in_row_order hs) ≡ find p hs
  found_ordered [] = refl
  found_ordered (h ∷ hs) = found_placed h (in_row_order hs) ∙ ap (cond (p h) (Some h)) (found_ordered hs)

pub rows_are_held : (since : List Acceptance) (now : ℕ) → IsHeld (accepted_rows since) now (rows since now)
unfolding row_at
rows_are_held since now = record {
  rising = AllPairs-filter (λ a b. row_cmp a b ≡ Less) lives all (pairs_rise all (rising_ordered (accepted_rows since)));
  each = λ h. (
    λ c. (let was = filtered_holds lives all h c in (sym (found_ordered h.router h.mapping.eid (accepted_rows since)) ∙ found_own all h one was.0, (Decides-ltb (now - h.accepted) h.life).0 was.1)),
    λ is. filter_holds lives all h (found_holds (is_row_of h.router h.mapping.eid) all h (found_ordered h.router h.mapping.eid (accepted_rows since) ∙ is.0)).0 ((Decides-ltb (now - h.accepted) h.life).1 is.1),
  );
}
  where
    all : List RowValue
    all = in_row_order (accepted_rows since)

    lives : RowValue → Bool
    lives h = is_alive h now

    one : OneEach all
    one = rising_differ all (rising_ordered (accepted_rows since))
