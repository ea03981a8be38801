-- A prefix that is read is spelled so, and a prefix that is spelled so is read.
use Rattle.std.proofs.Common.{◌≡◌, ℕ, ◌^◌, ◌<◌, ◌≤◌, false, eqb, leb, List, [], ◌∷◌, ◌++◌, Option, Some, None, refl, sym, ap, subst, ◌∙◌, append_assoc, arith}
use Rattle.std.specs.Char.{digit_value}
use Rattle.std.specs.Fmt.{decimal}
use Rattle.std.specs.Prelude.{IfSome}
use Rattle.std.proofs.lemmas.Bool.{le-leb, leb-true}
use Rattle.std.proofs.lemmas.Option.{same_Some, cond_some}
use Rattle.lisp_records.specs.declared.address.Addr.{Addr}
use Rattle.lisp_records.specs.declared.address.Addr.TheVariants.{V4, V6}
use Rattle.lisp_records.specs.Address.{PrefixValue, max_len, cleared}
use Rattle.lisp_texts.specs.Text.{IsAddressText, IsPrefixText}
use Rattle.lisp_texts.specs.Reading.{cut, byte_of, address_of, prefix_of}
use Rattle.lisp_texts.proofs.Options.{bind_some}
use Rattle.lisp_texts.proofs.Cut.{IsFree, cut-at, cut_parts, free-append, free-decimal}
use Rattle.lisp_texts.proofs.ByteNumbers.{byte_again, byte_takes}
use Rattle.lisp_texts.proofs.AddressLaws.{address_takes, address_again, free-address}

-- an address under a mask
abbrev under : Addr → ℕ → PrefixValue
under a n = record { addr = cleared a n; mask_len = n }

-- masks are numbers below 256
mask_small : (a : Addr) (n : ℕ) → n ≤ max_len a → n < 256
mask_small (V4 octets) n le = omega arith
mask_small (V6 octets) n le = omega arith

prefix_made : (text front behind : List ℕ) (a : Addr) (n : ℕ) → text ≡ front ++ 47 ∷ behind → IsAddressText front a → behind ≡ decimal n → n ≤ max_len a → IsPrefixText text (under a n)
prefix_made text front behind a n parts spelled number fits = record {
  address = front;
  written = a;
  parts = parts ∙ ap (λ (t : List ℕ). front ++ 47 ∷ t) number ∙ sym (append_assoc front (47 ∷ []) (decimal n));
  spelled = spelled;
  mask = fits;
  masked = refl;
}

-- a prefix that is read is spelled so
pub prefix_takes : (text : List ℕ) (b : PrefixValue) → prefix_of text ≡ Some b → IsPrefixText text b
unfolding prefix_of
prefix_takes text b e =
    let p = bind_some (cut 47 text) _ b e in
    let a = bind_some (address_of p.0.0) _ b p.2 in
    let n = bind_some (byte_of p.0.1) _ b a.2 in
    let some = cond_some (leb n.0 (max_len a.0)) (under a.0 n.0) b n.2 in
    subst (IsPrefixText text) some.1 (prefix_made text p.0.0 p.0.1 a.0 n.0 (cut_parts 47 text p.0 p.1) (address_takes p.0.0 a.0 a.1) (byte_takes p.0.1 n.0 n.1).0 (leb-true _ _ some.0))

prefix_read : (front : List ℕ) (a : Addr) (n : ℕ) → IsAddressText front a → n ≤ max_len a → prefix_of (front ++ 47 ∷ decimal n) ≡ Some (under a n)
unfolding prefix_of
prefix_read front a n spelled fits =
    rw (cut-at 47 front (decimal n) (free-address 47 front a (omega arith) refl refl spelled), address_again front a spelled, byte_again n (mask_small a n fits), le-leb n (max_len a) fits) refl

-- a prefix that is spelled so is read
pub prefix_again : (text : List ℕ) (b : PrefixValue) → IsPrefixText text b → prefix_of text ≡ Some b
prefix_again text b s =
    let parts : text ≡ s.address ++ 47 ∷ decimal b.mask_len = s.parts ∙ append_assoc s.address (47 ∷ []) (decimal b.mask_len) in
    let same : under s.written b.mask_len ≡ b = ap (λ (a : Addr). record { addr = a; mask_len = b.mask_len }) s.masked in
    ap prefix_of parts ∙ prefix_read s.address s.written b.mask_len s.spelled s.mask ∙ ap (λ (c : PrefixValue). Some c) same

-- no mark but a slash and those of addresses stands in a prefix
pub free-prefix : (mark : ℕ) (text : List ℕ) (b : PrefixValue) → 16 ≤ digit_value mark → eqb 46 mark ≡ false → eqb 58 mark ≡ false → eqb 47 mark ≡ false → IsPrefixText text b → IsFree mark text
free-prefix mark text b none dot colon slash s =
    let parts : text ≡ s.address ++ 47 ∷ decimal b.mask_len = s.parts ∙ append_assoc s.address (47 ∷ []) (decimal b.mask_len) in
    let small : b.mask_len < 2 ^ 64 = omega (arith, mask_small s.written b.mask_len s.mask) in
    rw parts (free-append mark s.address (47 ∷ decimal b.mask_len) (free-address mark s.address s.written none dot colon s.spelled) (slash, free-decimal mark b.mask_len (omega arith) small))

-- a text spells at most one prefix
pub one_prefix : (text : List ℕ) (p q : PrefixValue) → IsPrefixText text p → IsPrefixText text q → p ≡ q
one_prefix text p q s t = same_Some p q (sym (prefix_again text p s) ∙ prefix_again text q t)

-- what is answered is spelled
pub prefix_found : (text : List ℕ) (r : Option PrefixValue) → r ≡ prefix_of text → IfSome r (λ b. IsPrefixText text b)
prefix_found text (Some b) e = prefix_takes text b (sym e)
prefix_found text None e = tt
