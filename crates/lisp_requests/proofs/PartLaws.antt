-- The addresses and the records of a Map-Request, each way.
use Rattle.std.proofs.Common.{◌≡◌, ℕ, ◌≤◌, ◌*◌, Bool, true, false, cond, eqb, List, [], ◌∷◌, ◌++◌, length, drop, get_or, Option, Some, None, Result, Ok, refl, sym, ap, subst, ◌∙◌, arith}
use Rattle.std.specs.Int.{w16, to_be_bytes}
use Rattle.std.proofs.lemmas.Bool.{eqb-true}
use Rattle.lisp_records.specs.declared.address.Addr.{Addr}
use Rattle.lisp_records.specs.declared.address.Addr.TheVariants.{V4, V6}
use Rattle.lisp_records.specs.declared.address.Family.{Family}
use Rattle.lisp_records.specs.declared.address.Family.TheVariants.{Ipv4, Ipv6}
use Rattle.lisp_records.specs.Address.{PrefixValue, IsWhole, HasWidth, afi, family, octets, width, max_len, cleared, prefix_around}
use Rattle.lisp_records.specs.Spelling.{IsBytes}
use Rattle.lisp_records.specs.Reading.{number_at, named_at}
use Rattle.lisp_records.specs.Written.{written_address}
use Rattle.lisp_records.specs.Result.{◌>>=◌}
use Rattle.lisp_records.proofs.AddressLemmas.{family-cleared, IsBlock-cleared}
use Rattle.lisp_records.proofs.Fields.{Takes, two_bytes, mask_again, address_again}
use Rattle.lisp_requests.specs.declared.fault.RequestFault.{RequestFault}
use Rattle.lisp_requests.specs.Reading.{after, lifted}
use Rattle.lisp_requests.specs.Request.{SpellsAddress, SpellsSource, SpellsRecord, IsEid, IsSource, rloc_at, source_at, eid_at, written_source, written_eid}
use Rattle.lisp_requests.proofs.EachLaws.{TakesItem, ReadsItem}
use Rattle.lisp_requests.proofs.Fields.{bind_ok, done, ok_is, lifted_ok, after_takes, after_again, named_takes}

-- ---- an AFI and its address

rloc_made : (bytes : List ℕ) (a : Addr) (rest : List ℕ) → IsBytes bytes → 2 ≤ length bytes → drop 2 bytes ≡ octets a ++ rest → HasWidth a → number_at bytes 0 ≡ afi (family a) → Takes (λ text. SpellsAddress text a) bytes rest
rloc_made (b0 ∷ b1 ∷ bytes) a rest fits long behind whole number =
    let two : to_be_bytes w16 (afi (family a)) ≡ b0 ∷ b1 ∷ [] = two_bytes b0 b1 (afi (family a)) (fits 0) (fits 1) number in
    record {
      text = b0 ∷ b1 ∷ octets a;
      parts = ap (λ (t : List ℕ). b0 ∷ b1 ∷ t) behind;
      kind = record { parts = ap (λ (t : List ℕ). t ++ octets a) (sym two); whole = whole };
    }
rloc_made _ a rest fits long behind whole number = absurd (omega arith)

pub rloc_takes : TakesItem rloc_at SpellsAddress
unfolding rloc_at
rloc_takes bytes x fits e =
    let a = bind_ok (after 2 bytes) (λ rest. lifted (named_at (number_at bytes 0) 0 rest)) x e in
    let g = after_takes 2 bytes a.0 a.1 in
    let t = named_takes (number_at bytes 0) 0 a.0 x (lifted_ok (named_at (number_at bytes 0) 0 a.0) x a.2) in
    rloc_made bytes x.0 x.1 fits g.0 (g.1 ∙ t.0) t.1 t.2

rloc_read : (a : Addr) (rest : List ℕ) → HasWidth a → rloc_at (to_be_bytes w16 (afi (family a)) ++ (octets a ++ rest)) ≡ Ok (a, rest)
unfolding rloc_at
rloc_read (V4 bytes) rest whole = rw (after_again 2 (to_be_bytes w16 1) (bytes ++ rest) refl, address_again (V4 bytes) rest whole) refl
rloc_read (V6 bytes) rest whole = rw (after_again 2 (to_be_bytes w16 2) (bytes ++ rest) refl, address_again (V6 bytes) rest whole) refl

pub rloc_again : ReadsItem rloc_at SpellsAddress
rloc_again text rest a s = ap (λ (t : List ℕ). rloc_at (t ++ rest)) s.parts ∙ rloc_read a rest s.whole

pub address_spelled : (a : Addr) → IsWhole a → SpellsAddress (written_address a) a
address_spelled a whole = record { parts = refl; whole = whole.width }

-- ---- the Source EID

-- AFI 0, or an address
abbrev source_end : List ℕ → Bool → List ℕ → Result (Option Addr × List ℕ) RequestFault
source_end bytes none rest = cond none (done (None, rest)) (rloc_at bytes >>= λ addr. done (Some addr.0, addr.1))

no_source : (bytes rest : List ℕ) → IsBytes bytes → 2 ≤ length bytes → drop 2 bytes ≡ rest → number_at bytes 0 ≡ 0 → Takes (λ text. SpellsSource text None) bytes rest
no_source (b0 ∷ b1 ∷ bytes) rest fits long behind number = record {
  text = b0 ∷ b1 ∷ [];
  parts = ap (λ (t : List ℕ). b0 ∷ b1 ∷ t) behind;
  kind = sym (two_bytes b0 b1 0 (fits 0) (fits 1) number);
}
no_source _ rest fits long behind number = absurd (omega arith)

source_chosen : (bytes rest : List ℕ) (none : Bool) (x : Option Addr × List ℕ) → IsBytes bytes → 2 ≤ length bytes → drop 2 bytes ≡ rest → (none ≡ true → number_at bytes 0 ≡ 0) → source_end bytes none rest ≡ Ok x → Takes (λ text. SpellsSource text x.0) bytes x.1
source_chosen bytes rest true x fits long behind number e =
    let made : Option Addr × List ℕ = (None, rest) in
    subst (λ (y : Option Addr × List ℕ). Takes (λ text. SpellsSource text y.0) bytes y.1) {x = made} (ok_is made x e) (no_source bytes rest fits long behind (number refl))
source_chosen bytes rest false x fits long behind number e =
    let a = bind_ok (rloc_at bytes) (λ addr. done (Some addr.0, addr.1)) x e in
    let made : Option Addr × List ℕ = (Some a.0.0, a.0.1) in
    let t = rloc_takes bytes a.0 fits a.1 in
    subst (λ (y : Option Addr × List ℕ). Takes (λ text. SpellsSource text y.0) bytes y.1) {x = made} (ok_is made x a.2) (record { text = t.text; parts = t.parts; kind = t.kind })

pub source_takes : TakesItem source_at SpellsSource
unfolding source_at
source_takes bytes x fits e =
    let a = bind_ok (after 2 bytes) (λ rest. source_end bytes (eqb (number_at bytes 0) 0) rest) x e in
    let g = after_takes 2 bytes a.0 a.1 in
    source_chosen bytes a.0 (eqb (number_at bytes 0) 0) x fits g.0 g.1 (eqb-true (number_at bytes 0) 0) a.2

source_read : (a : Addr) (rest : List ℕ) → HasWidth a → source_at (to_be_bytes w16 (afi (family a)) ++ (octets a ++ rest)) ≡ Ok (Some a, rest)
unfolding source_at
source_read (V4 bytes) rest whole = rw (after_again 2 (to_be_bytes w16 1) (bytes ++ rest) refl, rloc_read (V4 bytes) rest whole) refl
source_read (V6 bytes) rest whole = rw (after_again 2 (to_be_bytes w16 2) (bytes ++ rest) refl, rloc_read (V6 bytes) rest whole) refl

none_read : (rest : List ℕ) → source_at (to_be_bytes w16 0 ++ rest) ≡ Ok (None, rest)
unfolding source_at
none_read rest = rw (after_again 2 (to_be_bytes w16 0) rest refl) refl

pub source_again : ReadsItem source_at SpellsSource
source_again text rest None s = ap (λ (t : List ℕ). source_at (t ++ rest)) s ∙ none_read rest
source_again text rest (Some a) s = ap (λ (t : List ℕ). source_at (t ++ rest)) s.parts ∙ source_read a rest s.whole

pub source_spelled : (source : Option Addr) → IsSource source → SpellsSource (written_source source) source
source_spelled None whole = refl
source_spelled (Some a) whole = address_spelled a whole

-- ---- a record

eid_made : (bytes : List ℕ) (a : Addr) (rest : List ℕ) → IsBytes bytes → 4 ≤ length bytes → drop 4 bytes ≡ octets a ++ rest → HasWidth a → number_at bytes 2 ≡ afi (family a) → get_or bytes 1 0 ≤ max_len a → Takes (λ text. SpellsRecord text (prefix_around a (get_or bytes 1 0))) bytes rest
eid_made (b0 ∷ b1 ∷ b2 ∷ b3 ∷ bytes) a rest fits long behind whole number mask =
    let f : Family = family (cleared a b1) in
    let two : to_be_bytes w16 (afi f) ≡ b2 ∷ b3 ∷ [] = two_bytes b2 b3 (afi f) (fits 2) (fits 3) (number ∙ ap afi (sym (family-cleared a b1))) in
    record {
      text = b0 ∷ b1 ∷ b2 ∷ b3 ∷ octets a;
      parts = ap (λ (t : List ℕ). b0 ∷ b1 ∷ b2 ∷ b3 ∷ t) behind;
      kind = record {
        reserved = b0;
        address = octets a;
        parts = ap (λ (t : List ℕ). b0 ∷ b1 ∷ (t ++ octets a)) (sym two);
        prefix = record { written = a; parts = refl; addr = whole; masked = refl; block = IsBlock-cleared a b1 mask };
      };
    }
eid_made _ a rest fits long behind whole number mask = absurd (omega arith)

pub eid_takes : TakesItem eid_at SpellsRecord
unfolding eid_at
eid_takes bytes x fits e =
    let mask = get_or bytes 1 0 in
    let a = bind_ok (after 4 bytes) (λ rest. lifted (named_at (number_at bytes 2) mask rest) >>= λ addr. done (prefix_around addr.0 mask, addr.1)) x e in
    let b = bind_ok (lifted (named_at (number_at bytes 2) mask a.0)) (λ addr. done (prefix_around addr.0 mask, addr.1)) x a.2 in
    let g = after_takes 4 bytes a.0 a.1 in
    let t = named_takes (number_at bytes 2) mask a.0 b.0 (lifted_ok (named_at (number_at bytes 2) mask a.0) b.0 b.1) in
    let made : PrefixValue × List ℕ = (prefix_around b.0.0 mask, b.0.1) in
    subst (λ (y : PrefixValue × List ℕ). Takes (λ text. SpellsRecord text y.0) bytes y.1) {x = made} (ok_is made x b.2) (eid_made bytes b.0.0 b.0.1 fits g.0 (g.1 ∙ t.0) t.1 t.2 t.3)

eid_read : (a : Addr) (reserved mask : ℕ) (rest : List ℕ) → HasWidth a → mask ≤ max_len a → eid_at (reserved ∷ mask ∷ to_be_bytes w16 (afi (family a)) ++ (octets a ++ rest)) ≡ Ok (prefix_around a mask, rest)
unfolding eid_at
eid_read (V4 bytes) reserved mask rest whole fits = rw (after_again 4 (reserved ∷ mask ∷ to_be_bytes w16 1) (bytes ++ rest) refl, mask_again Ipv4 mask fits, address_again (V4 bytes) rest whole) refl
eid_read (V6 bytes) reserved mask rest whole fits = rw (after_again 4 (reserved ∷ mask ∷ to_be_bytes w16 2) (bytes ++ rest) refl, mask_again Ipv6 mask fits, address_again (V6 bytes) rest whole) refl

pub eid_again : ReadsItem eid_at SpellsRecord
eid_again text rest eid s =
    let a : Addr = s.prefix.written in
    let front = λ (number : ℕ). s.reserved ∷ eid.mask_len ∷ to_be_bytes w16 number in
    let number : afi (family eid.addr) ≡ afi (family a) = ap (λ (b : Addr). afi (family b)) (sym s.prefix.masked) ∙ ap afi (family-cleared a eid.mask_len) in
    let mask : eid.mask_len ≤ max_len a = subst (λ (f : Family). eid.mask_len ≤ 8 * width f) (ap family (sym s.prefix.masked) ∙ family-cleared a eid.mask_len) s.prefix.block.0 in
    let whole : text ++ rest ≡ front (afi (family a)) ++ (octets a ++ rest) =
    ap (λ (t : List ℕ). t ++ rest) s.parts ∙ ap (λ (t : List ℕ). front (afi (family eid.addr)) ++ (t ++ rest)) s.prefix.parts ∙ ap (λ (n : ℕ). front n ++ (octets a ++ rest)) number in
    ap eid_at whole ∙ eid_read a s.reserved eid.mask_len rest s.prefix.addr mask ∙ ap (λ (b : Addr). done (record { addr = b; mask_len = eid.mask_len }, rest)) s.prefix.masked

pub eid_spelled : (eid : PrefixValue) → IsEid eid → SpellsRecord (written_eid eid) eid
eid_spelled eid is = record { reserved = 0; address = octets eid.addr; parts = refl; prefix = record { written = eid.addr; parts = refl; addr = is.1.width; masked = is.0.1; block = is.0 } }
