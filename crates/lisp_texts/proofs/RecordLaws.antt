-- A record that is read is spelled so, and a record that is spelled so is read.
use Rattle.std.proofs.Common.{◌≡◌, ℕ, ◌^◌, ◌<◌, eqb, ltb, inl, inr, List, [], ◌∷◌, ◌++◌, length, Option, Some, None, Result, Ok, Err, refl, sym, ap, subst, ◌∙◌, append_assoc, arith}
use Rattle.std.specs.Prelude.{IfSome, IfOk}
use Rattle.std.specs.List.{AllByRecursion, AllZip, slice_split, join_with_byte}
use Rattle.std.proofs.lemmas.Bool.{lt-ltb, ltb-true}
use Rattle.std.proofs.lemmas.List.{append-nil}
use Rattle.std.proofs.lemmas.List.Elements.{All-from_recursion}
use Rattle.std.proofs.lemmas.List.Splits.{slice_split_none, slice_split_at, join_with_byte-slice_split}
use Rattle.std.proofs.lemmas.Option.{none-some, same_Some, cond_some}
use Rattle.lisp_records.specs.declared.locator.Locator.{Locator}
use Rattle.lisp_records.specs.Address.{PrefixValue}
use Rattle.lisp_records.specs.Record.{MapRecordValue}
use Rattle.lisp_texts.specs.Number.{number_of}
use Rattle.lisp_texts.specs.Text.{IsAddressText, IsPrefixText, numbers_of_locator, shown_locator, IsLocatorText, IsRecordText}
use Rattle.lisp_texts.specs.Reading.{cut, address_of, prefix_of, number_below, numbers_of, located, locator_of_parts, locator_of, locators_of, front_of, map_record_of, record_of, record_text_of}
use Rattle.lisp_texts.proofs.Options.{bind_some}
use Rattle.lisp_texts.proofs.Cut.{IsFree, cut-free, cut-at, cut_parts, free-append}
use Rattle.lisp_texts.proofs.AddressLaws.{address_takes, address_again, free-address}
use Rattle.lisp_texts.proofs.PrefixLaws.{prefix_takes, prefix_again, free-prefix}
use Rattle.lisp_texts.proofs.NumberTexts.{below_takes, below_again, free-number, free-numbers, numbers_take, numbers_again}
use Rattle.lisp_texts.proofs.WrittenGroups.{marked, join-marked}

-- ---- locators

parts_take : (text : List ℕ) (o : Option (List ℕ × List ℕ)) (l : Locator) → ((p : List ℕ × List ℕ) → o ≡ Some p → text ≡ p.0 ++ 47 ∷ p.1) → locator_of_parts text o ≡ Some l → IsLocatorText text l
parts_take text None l parts e =
    let a = bind_some (address_of text) _ l e in
    subst (IsLocatorText text) (same_Some _ l a.2) (record {
      address = text;
      behind = [];
      parts = sym (append-nil text);
      spelled = address_takes text a.0 a.1;
      numbers = inr (refl, refl);
      flags = refl;
    })
parts_take text (Some p) l parts e =
    let a = bind_some (address_of p.0) _ l e in
    let n = bind_some (numbers_of p.1) _ l a.2 in
    subst (IsLocatorText text) (same_Some _ l n.2) (record {
      address = p.0;
      behind = 47 ∷ p.1;
      parts = parts p refl;
      spelled = address_takes p.0 a.0 a.1;
      numbers = inl (numbers_take a.0 p.1 n.0 n.1);
      flags = refl;
    })

locator_takes : (text : List ℕ) (l : Locator) → locator_of text ≡ Some l → IsLocatorText text l
unfolding locator_of
locator_takes text l e = parts_take text (cut 47 text) l (λ p found. cut_parts 47 text p found) e

no_slash : (text : List ℕ) (l : Locator) → IsAddressText text l.addr → IsFree 47 text
no_slash text l spelled = free-address 47 text l.addr (omega arith) refl refl spelled

-- a locator without numbers
plain_again : (address : List ℕ) (l : Locator) → IsAddressText address l.addr → numbers_of_locator l ≡ 1 ∷ 100 ∷ 255 ∷ 0 ∷ [] → l ≡ shown_locator l → locator_of address ≡ Some l
unfolding locator_of
plain_again address l spelled numbers flags =
    let same : located l.addr (1 ∷ 100 ∷ 255 ∷ 0 ∷ []) ≡ l = ap (located l.addr) (sym numbers) ∙ sym flags in
    rw (cut-free 47 address (no_slash address l spelled), address_again address l.addr spelled) (ap (λ (x : Locator). Some x) same)

-- a locator with its numbers
full_again : (address rest : List ℕ) (l : Locator) → IsAddressText address l.addr → numbers_of rest ≡ Some (numbers_of_locator l) → l ≡ shown_locator l → locator_of (address ++ 47 ∷ rest) ≡ Some l
unfolding locator_of
full_again address rest l spelled numbers flags =
    rw (cut-at 47 address rest (no_slash address l spelled), address_again address l.addr spelled, numbers) (ap (λ (x : Locator). Some x) (sym flags))

locator_again : (text : List ℕ) (l : Locator) → IsLocatorText text l → locator_of text ≡ Some l
locator_again text l s = elim s.numbers [
  | inl given ↦ (let n = numbers_again s.behind given.pieces l.priority l.weight l.m_priority l.m_weight given.parts given.each in
      ap locator_of (s.parts ∙ ap (λ (t : List ℕ). s.address ++ t) n.parts) ∙ full_again s.address n.rest l s.spelled n.read s.flags)
  | inr none ↦ ap locator_of (s.parts ∙ ap (λ (t : List ℕ). s.address ++ t) none.0 ∙ append-nil s.address) ∙ plain_again s.address l s.spelled none.1 s.flags
]

-- no plus sign stands in a locator
free-locator : (text : List ℕ) (l : Locator) → IsLocatorText text l → IsFree 43 text
free-locator text l s =
    let behind : IsFree 43 s.behind = elim s.numbers [
      | inl given ↦ free-numbers 43 s.behind (numbers_of_locator l) (omega arith) given
      | inr none ↦ rw none.0 tt
    ] in
    rw s.parts (free-append 43 s.address s.behind (free-address 43 s.address l.addr (omega arith) refl refl s.spelled) behind)

locators_take : (pieces : List (List ℕ)) (ls : List Locator) → locators_of pieces ≡ Some ls → AllZip IsLocatorText pieces ls
unfolding locators_of
locators_take [] ls e = subst (AllZip IsLocatorText []) (same_Some [] ls e) tt
locators_take (p ∷ pieces) ls e =
    let first = bind_some (locator_of p) _ ls e in
    let others = bind_some (locators_of pieces) _ ls first.2 in
    subst (AllZip IsLocatorText (p ∷ pieces)) (same_Some (first.0 ∷ others.0) ls others.2) (locator_takes p first.0 first.1, locators_take pieces others.0 others.1)

locators_again : (pieces : List (List ℕ)) (ls : List Locator) → AllZip IsLocatorText pieces ls → locators_of pieces ≡ Some ls
unfolding locators_of
locators_again [] [] each = refl
locators_again [] (l ∷ ls) each = absurd each
locators_again (p ∷ pieces) [] each = absurd each
locators_again (p ∷ pieces) (l ∷ ls) each = rw (locator_again p l each.0, locators_again pieces ls each.1) refl

free-locators : (pieces : List (List ℕ)) (ls : List Locator) → AllZip IsLocatorText pieces ls → AllByRecursion (IsFree 43) pieces
free-locators [] ls each = tt
free-locators (p ∷ pieces) [] each = absurd each
free-locators (p ∷ pieces) (l ∷ ls) each = (free-locator p l each.0, free-locators pieces ls each.1)

-- ---- the prefix and the TTL

record IsFrontText (text : List ℕ) (front : PrefixValue × ℕ) : Type 0 where
  prefix : List ℕ
  ttl : List ℕ
  parts : text ≡ prefix ++ 61 ∷ ttl
  spelled : IsPrefixText prefix front.0
  number : number_of ttl ≡ Some front.1
  fits : front.1 < 2 ^ 32

front_takes : (text : List ℕ) (front : PrefixValue × ℕ) → front_of text ≡ Some front → IsFrontText text front
unfolding front_of
front_takes text front e =
    let p = bind_some (cut 61 text) _ front e in
    let b = bind_some (prefix_of p.0.0) _ front p.2 in
    let n = bind_some (number_below (2 ^ 32) p.0.1) _ front b.2 in
    let number = below_takes (2 ^ 32) p.0.1 n.0 n.1 in
    subst (IsFrontText text) (same_Some (b.0, n.0) front n.2) (record {
      prefix = p.0.0;
      ttl = p.0.1;
      parts = cut_parts 61 text p.0 p.1;
      spelled = prefix_takes p.0.0 b.0 b.1;
      number = number.0;
      fits = number.1;
    })

front_again : (prefix ttl : List ℕ) (b : PrefixValue) (n : ℕ) → IsPrefixText prefix b → number_of ttl ≡ Some n → n < 2 ^ 32 → front_of (prefix ++ 61 ∷ ttl) ≡ Some (b, n)
unfolding front_of
front_again prefix ttl b n spelled number fits =
    rw (cut-at 61 prefix ttl (free-prefix 61 prefix b (omega arith) refl refl refl spelled), prefix_again prefix b spelled, below_again (2 ^ 32) ttl n number fits) refl

-- ---- the record

record_made : (text piece : List ℕ) (pieces : List (List ℕ)) (front : PrefixValue × ℕ) (ls : List Locator) → join_with_byte 43 (piece ∷ pieces) ≡ text → IsFrontText piece front → AllZip IsLocatorText pieces ls → length ls < 256 → IsRecordText text (map_record_of front.0 front.1 ls)
record_made text piece pieces front ls whole f each count = record {
  prefix = f.prefix;
  ttl = f.ttl;
  pieces = pieces;
  parts = sym whole ∙ join-marked 43 piece pieces ∙ ap (λ (t : List ℕ). t ++ marked 43 pieces) (f.parts ∙ sym (append_assoc f.prefix (61 ∷ []) f.ttl));
  spelled = f.spelled;
  number = f.number;
  fits = f.fits;
  each = each;
  count = count;
  flags = refl;
}

pieces_take : (text : List ℕ) (pieces : List (List ℕ)) (m : MapRecordValue) → join_with_byte 43 pieces ≡ text → record_of pieces ≡ Some m → IsRecordText text m
unfolding record_of
pieces_take text [] m whole e = absurd (none-some m e)
pieces_take text (piece ∷ pieces) m whole e =
    let f = bind_some (front_of piece) _ m e in
    let ls = bind_some (locators_of pieces) _ m f.2 in
    let some = cond_some (ltb (length ls.0) 256) (map_record_of f.0.0 f.0.1 ls.0) m ls.2 in
    subst (IsRecordText text) some.1 (record_made text piece pieces f.0 ls.0 whole (front_takes piece f.0 f.1) (locators_take pieces ls.0 ls.1) (ltb-true _ _ some.0))

-- a record that is read is spelled so
record_takes : (text : List ℕ) (m : MapRecordValue) → record_text_of text ≡ Some m → IsRecordText text m
record_takes text m e = pieces_take text (slice_split (λ b. eqb b 43) text) m (join_with_byte-slice_split 43 text) e

-- pieces without plus signs are what a text is cut into
cut_again : (x : List ℕ) (xs : List (List ℕ)) → IsFree 43 x → AllByRecursion (IsFree 43) xs → slice_split (λ b. eqb b 43) (x ++ marked 43 xs) ≡ x ∷ xs
cut_again x [] free others = ap (slice_split (λ b. eqb b 43)) (append-nil x) ∙ slice_split_none (λ b. eqb b 43) x (All-from_recursion _ x free)
cut_again x (y ∷ ys) free others =
    slice_split_at (λ b. eqb b 43) x 43 (y ++ marked 43 ys) (All-from_recursion _ x free) refl ∙ ap (λ (parts : List (List ℕ)). x ∷ parts) (cut_again y ys others.0 others.1)

record_read : (prefix ttl : List ℕ) (pieces : List (List ℕ)) (m : MapRecordValue) → IsPrefixText prefix m.eid → number_of ttl ≡ Some m.ttl → m.ttl < 2 ^ 32 → AllZip IsLocatorText pieces m.locators → length m.locators < 256
    → record_of ((prefix ++ 61 ∷ ttl) ∷ pieces) ≡ Some (map_record_of m.eid m.ttl m.locators)
unfolding record_of
record_read prefix ttl pieces m spelled number fits each count =
    rw (front_again prefix ttl m.eid m.ttl spelled number fits, locators_again pieces m.locators each, lt-ltb (length m.locators) 256 count) refl

-- a record that is spelled so is read
pub record_again : (text : List ℕ) (m : MapRecordValue) → IsRecordText text m → record_text_of text ≡ Some m
record_again text m s =
    let parts : text ≡ (s.prefix ++ 61 ∷ s.ttl) ++ marked 43 s.pieces = s.parts ∙ ap (λ (t : List ℕ). t ++ marked 43 s.pieces) (append_assoc s.prefix (61 ∷ []) s.ttl) in
    let free : IsFree 43 (s.prefix ++ 61 ∷ s.ttl) = free-append 43 s.prefix (61 ∷ s.ttl) (free-prefix 43 s.prefix m.eid (omega arith) refl refl refl s.spelled) (refl, free-number 43 s.ttl m.ttl (omega arith) s.number) in
    ap record_text_of parts ∙ ap record_of (cut_again (s.prefix ++ 61 ∷ s.ttl) s.pieces free (free-locators s.pieces m.locators s.each))
    ∙ record_read s.prefix s.ttl s.pieces m s.spelled s.number s.fits s.each s.count ∙ ap (λ (x : MapRecordValue). Some x) (sym s.flags)

-- a text spells at most one record
pub one_record : (text : List ℕ) (m n : MapRecordValue) → IsRecordText text m → IsRecordText text n → m ≡ n
one_record text m n s t = same_Some m n (sym (record_again text m s) ∙ record_again text n t)

found : (text : List ℕ) (o : Option MapRecordValue) → o ≡ record_text_of text → IfSome o (λ m. IsRecordText text m)
found text (Some m) e = record_takes text m (sym e)
found text None e = tt

-- what is answered is spelled
pub record_found : {E : Type 0} (text : List ℕ) (r : Result (Option MapRecordValue) E) → IfOk r (λ o. o ≡ record_text_of text) → IfOk r (λ o. IfSome o (λ m. IsRecordText text m))
record_found text (Ok o) e = found text o e
record_found text (Err e) given = tt

-- what is spelled is answered
pub record_only : {E : Type 0} (text : List ℕ) (r : Result (Option MapRecordValue) E) → IfOk r (λ o. o ≡ record_text_of text) → (m : MapRecordValue) → IsRecordText text m → IfOk r (λ o. o ≡ Some m)
record_only text (Ok o) e m s = e ∙ record_again text m s
record_only text (Err e) given m s = tt
