-- An address that is read is spelled so, and an address that is spelled so is read.
use Rattle.std.proofs.Common.{◌≡◌, ℕ, zero, suc, ◌<◌, ◌≤◌, false, eqb, List, [], ◌∷◌, ◌++◌, length, map, Option, Some, None, refl, sym, ap, subst, ◌∙◌, arith}
use Rattle.std.specs.Char.{digit_value}
use Rattle.std.specs.Fmt.{decimal}
use Rattle.std.specs.Int.{w16, to_be_bytes}
use Rattle.std.specs.List.{AllByRecursion, flat_map, join_with_byte}
use Rattle.std.specs.Option.{option_map}
use Rattle.std.specs.Prelude.{IfSome}
use Rattle.std.specs.Str.Parse.{digits_value}
use Rattle.std.proofs.lemmas.Option.{none-some, same_Some}
use Rattle.lisp_records.specs.declared.address.Addr.{Addr}
use Rattle.lisp_records.specs.declared.address.Addr.TheVariants.{V4, V6}
use Rattle.lisp_texts.specs.Text.{IsV4Text, IsGroup, group_octets, IsV6Text, IsAddressText}
use Rattle.lisp_texts.specs.Reading.{cut, quarters_of, byte_of, v4_of, group_of, groups_at, v6_of, first_of, address_of}
use Rattle.lisp_texts.proofs.Options.{bind_some}
use Rattle.lisp_texts.proofs.Cut.{IsFree, cut-at, cut_parts, quarters-free, quarters-at, quarters_parts, free-join, free-digits, free-decimal}
use Rattle.lisp_texts.proofs.ByteNumbers.{byte_again, byte_takes}
use Rattle.lisp_texts.proofs.Hex.{group_again, group_takes}

-- ---- IPv4

-- four numbers in decimal, joined by dots
v4_made : (text ta tb tc td : List ℕ) (a b c d : ℕ) → text ≡ ta ++ 46 ∷ (tb ++ 46 ∷ (tc ++ 46 ∷ td))
    → (ta ≡ decimal a) × (a < 256) → (tb ≡ decimal b) × (b < 256) → (tc ≡ decimal c) × (c < 256) → (td ≡ decimal d) × (d < 256) → IsV4Text text (a ∷ b ∷ c ∷ d ∷ [])
v4_made text ta tb tc td a b c d whole na nb nc nd = record {
  four = refl;
  each = (na.1, (nb.1, (nc.1, (nd.1, tt))));
  parts = rw (whole, na.0, nb.0, nc.0, nd.0) refl;
}

-- what is read is four numbers joined by dots
v4_takes : (text octets : List ℕ) → v4_of text ≡ Some octets → IsV4Text text octets
unfolding v4_of
v4_takes text octets e =
    let q = bind_some (quarters_of 46 text) _ octets e in
    let a = bind_some (byte_of q.0.0) _ octets q.2 in
    let b = bind_some (byte_of q.0.1) _ octets a.2 in
    let c = bind_some (byte_of q.0.2) _ octets b.2 in
    let d = bind_some (byte_of q.0.3) _ octets c.2 in
    let value : a.0 ∷ b.0 ∷ c.0 ∷ d.0 ∷ [] ≡ octets = same_Some _ octets d.2 in
    subst (IsV4Text text) value (v4_made text q.0.0 q.0.1 q.0.2 q.0.3 a.0 b.0 c.0 d.0 (quarters_parts 46 text q.0 q.1)
    (byte_takes q.0.0 a.0 a.1) (byte_takes q.0.1 b.0 b.1) (byte_takes q.0.2 c.0 c.1) (byte_takes q.0.3 d.0 d.1))

-- four numbers joined by dots are read
v4_again : (text octets : List ℕ) → IsV4Text text octets → v4_of text ≡ Some octets
unfolding v4_of
v4_again text (a ∷ b ∷ c ∷ d ∷ []) s =
    rw (
      s.parts,
      quarters-at 46 (decimal a) (decimal b) (decimal c) (decimal d) (free-decimal 46 a (omega arith) (omega (arith, s.each))) (free-decimal 46 b (omega arith) (omega (arith, s.each))) (free-decimal 46 c (omega arith) (omega (arith, s.each))),
      byte_again a s.each.0,
      byte_again b s.each.1.0,
      byte_again c s.each.1.1.0,
      byte_again d s.each.1.1.1.0,
    ) refl
v4_again text _ s = absurd (omega (arith, s.four))

-- no mark but a dot stands in an IPv4 address
free-numbers : (mark : ℕ) (octets : List ℕ) → 10 ≤ digit_value mark → AllByRecursion (λ n. n < 256) octets → AllByRecursion (IsFree mark) (map decimal octets)
free-numbers mark [] none each = tt
free-numbers mark (n ∷ octets) none each = (free-decimal mark n none (omega (arith, each.0)), free-numbers mark octets none each.1)

free-v4 : (mark : ℕ) (text octets : List ℕ) → 10 ≤ digit_value mark → eqb 46 mark ≡ false → IsV4Text text octets → IsFree mark text
free-v4 mark text octets none other s = rw s.parts (free-join mark 46 (map decimal octets) other (free-numbers mark octets none s.each))

-- ---- IPv6

-- so many groups behind a first one, joined by colons
record IsGroups (n : ℕ) (text octets : List ℕ) : Type 0 where
  first : List ℕ
  others : List (List ℕ)
  count : length others ≡ n
  each : AllByRecursion IsGroup (first ∷ others)
  parts : text ≡ join_with_byte 58 (first ∷ others)
  value : octets ≡ flat_map group_octets (first ∷ others)

one_group : (text octets : List ℕ) (v : ℕ) → IsGroup text × (v ≡ digits_value 16 text) → Some (to_be_bytes w16 v) ≡ Some octets → IsGroups 0 text octets
one_group text octets v group made = record {
  first = text;
  others = [];
  count = refl;
  each = (group.0, tt);
  parts = refl;
  value = sym (same_Some _ _ made) ∙ ap (λ (n : ℕ). to_be_bytes w16 n) group.1;
}

more_groups : (n : ℕ) (text digits behind octets rest : List ℕ) (v : ℕ) → text ≡ digits ++ 58 ∷ behind → IsGroup digits × (v ≡ digits_value 16 digits) → IsGroups n behind rest → Some (to_be_bytes w16 v ++ rest) ≡ Some octets → IsGroups (suc n) text octets
more_groups n text digits behind octets rest v parts group groups made = record {
  first = digits;
  others = groups.first ∷ groups.others;
  count = ap suc groups.count;
  each = (group.0, groups.each);
  parts = parts ∙ ap (λ (t : List ℕ). digits ++ 58 ∷ t) groups.parts;
  value = sym (same_Some _ _ made) ∙ ap (λ (m : ℕ). to_be_bytes w16 m ++ rest) group.1 ∙ ap (λ (t : List ℕ). group_octets digits ++ t) groups.value;
}

-- what is read is groups joined by colons
groups_take : (n : ℕ) (text octets : List ℕ) → groups_at n text ≡ Some octets → IsGroups n text octets
unfolding groups_at
groups_take zero text octets e =
    let g = bind_some (group_of text) _ octets e in
    one_group text octets g.0 (group_takes text g.0 g.1) g.2
groups_take (suc n) text octets e =
    let p = bind_some (cut 58 text) _ octets e in
    let g = bind_some (group_of p.0.0) _ octets p.2 in
    let o = bind_some (groups_at n p.0.1) _ octets g.2 in
    more_groups n text p.0.0 p.0.1 octets o.0 g.0 (cut_parts 58 text p.0 p.1) (group_takes p.0.0 g.0 g.1) (groups_take n p.0.1 o.0 o.1) o.2

v6_takes : (text octets : List ℕ) → v6_of text ≡ Some octets → IsV6Text text octets
v6_takes text octets e =
    let g = groups_take 7 text octets e in
    record { groups = g.first ∷ g.others; eight = ap suc g.count; each = g.each; parts = g.parts; value = g.value }

-- groups joined by colons are read
groups_again : (g : List ℕ) (gs : List (List ℕ)) → AllByRecursion IsGroup (g ∷ gs) → groups_at (length gs) (join_with_byte 58 (g ∷ gs)) ≡ Some (flat_map group_octets (g ∷ gs))
unfolding groups_at
groups_again g [] each = rw (group_again g each.0) refl
groups_again g (h ∷ hs) each =
    rw (cut-at 58 g (join_with_byte 58 (h ∷ hs)) (free-digits 58 16 g (omega arith) each.0.0.1), group_again g each.0, groups_again h hs each.1) refl

v6_read : (text octets : List ℕ) (groups : List (List ℕ)) → length groups ≡ 8 → AllByRecursion IsGroup groups → text ≡ join_with_byte 58 groups → octets ≡ flat_map group_octets groups → v6_of text ≡ Some octets
v6_read text octets [] eight each parts value = absurd (omega (arith, eight))
v6_read text octets (g ∷ gs) eight each parts value =
    let seven : 7 ≡ length gs = omega (arith, eight) in
    ap (λ (t : List ℕ). groups_at 7 t) parts ∙ ap (λ (n : ℕ). groups_at n (join_with_byte 58 (g ∷ gs))) seven ∙ groups_again g gs each ∙ ap (λ (t : List ℕ). Some t) (sym value)

v6_again : (text octets : List ℕ) → IsV6Text text octets → v6_of text ≡ Some octets
v6_again text octets s = v6_read text octets s.groups s.eight s.each s.parts s.value

-- no mark but a colon stands in an IPv6 address
free-groups : (mark : ℕ) (groups : List (List ℕ)) → 16 ≤ digit_value mark → AllByRecursion IsGroup groups → AllByRecursion (IsFree mark) groups
free-groups mark [] none each = tt
free-groups mark (g ∷ groups) none each = (free-digits mark 16 g none each.0.0.1, free-groups mark groups none each.1)

free-v6 : (mark : ℕ) (text octets : List ℕ) → 16 ≤ digit_value mark → eqb 58 mark ≡ false → IsV6Text text octets → IsFree mark text
free-v6 mark text octets none other s = rw s.parts (free-join mark 58 s.groups other (free-groups mark s.groups none s.each))

-- an IPv6 address is not read as one of IPv4
v4-free : (text : List ℕ) → IsFree 46 text → v4_of text ≡ None
unfolding v4_of
v4-free text free = rw (quarters-free 46 text free) refl

-- ---- either family

either_takes : (text : List ℕ) (v4 v6 : Option (List ℕ)) (a : Addr) → ((o : List ℕ) → v4 ≡ Some o → IsV4Text text o) → ((o : List ℕ) → v6 ≡ Some o → IsV6Text text o) → first_of (option_map V4 v4) (option_map V6 v6) ≡ Some a → IsAddressText text a
either_takes text (Some o) v6 a four six e = subst (IsAddressText text) (same_Some (V4 o) a e) (four o refl)
either_takes text None (Some o) a four six e = subst (IsAddressText text) (same_Some (V6 o) a e) (six o refl)
either_takes text None None a four six e = absurd (none-some a e)

-- an address that is read is spelled so
pub address_takes : (text : List ℕ) (a : Addr) → address_of text ≡ Some a → IsAddressText text a
unfolding address_of
address_takes text a e = either_takes text (v4_of text) (v6_of text) a (v4_takes text) (v6_takes text) e

-- an address that is spelled so is read
pub address_again : (text : List ℕ) (a : Addr) → IsAddressText text a → address_of text ≡ Some a
unfolding address_of
address_again text (V4 octets) s = rw (v4_again text octets s) refl
address_again text (V6 octets) s = rw (v4-free text (free-v6 46 text octets (omega arith) refl s), v6_again text octets s) refl

-- no mark but a dot and a colon stands in an address
pub free-address : (mark : ℕ) (text : List ℕ) (a : Addr) → 16 ≤ digit_value mark → eqb 46 mark ≡ false → eqb 58 mark ≡ false → IsAddressText text a → IsFree mark text
free-address mark text (V4 octets) none dot colon s = free-v4 mark text octets (omega arith) dot s
free-address mark text (V6 octets) none dot colon s = free-v6 mark text octets none colon s

-- a text spells at most one address
pub one_address : (text : List ℕ) (a b : Addr) → IsAddressText text a → IsAddressText text b → a ≡ b
one_address text a b s t = same_Some a b (sym (address_again text a s) ∙ address_again text b t)

-- what is answered is spelled
pub address_found : (text : List ℕ) (r : Option Addr) → r ≡ address_of text → IfSome r (λ a. IsAddressText text a)
address_found text (Some a) e = address_takes text a (sym e)
address_found text None e = tt
