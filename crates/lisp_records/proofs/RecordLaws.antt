-- A record that is read is spelled so, and a record that is spelled so is read.
use Rattle.std.proofs.Common.{◌≡◌, ℕ, zero, suc, ◌+◌, ◌*◌, ◌/◌, ◌%◌, ◌<◌, ◌≤◌, eqb, List, [], ◌∷◌, ◌++◌, length, get_or, drop, Result, Ok, refl, sym, ap, subst, ◌∙◌, append_assoc, append-nil, arith}
use Rattle.std.specs.List.{AllByRecursion}
use Rattle.std.specs.Int.{w16, w32, from_be_bytes, to_be_bytes}
use Rattle.std.proofs.lemmas.Nat.{be_bytes_4, from_be_bytes-to_be_bytes_4}
use Rattle.lisp_records.specs.declared.address.Addr.{Addr}
use Rattle.lisp_records.specs.declared.address.Addr.TheVariants.{V4, V6}
use Rattle.lisp_records.specs.declared.address.Family.{Family}
use Rattle.lisp_records.specs.declared.address.Family.TheVariants.{Ipv4, Ipv6}
use Rattle.lisp_records.specs.declared.locator.Locator.{Locator}
use Rattle.lisp_records.specs.declared.fault.RecordFault.{RecordFault}
use Rattle.lisp_records.specs.Address.{afi, width, family, octets, HasWidth, max_len, cleared}
use Rattle.lisp_records.specs.Record.{MapRecordValue, IsLocator, IsMapRecord, bit}
use Rattle.lisp_records.specs.Spelling.{IsBytes, SpellsLocator, SpellsLocators, SpellsEid, Spells}
use Rattle.lisp_records.specs.Written.{written_locator, written_locators, written}
use Rattle.lisp_records.specs.Result.{◌>>=◌}
use Rattle.lisp_records.specs.Reading.{after, number_at, family_of, address_at, is_set, locators_at, mask_of, map_record_of, record_at, start_at}
use Rattle.lisp_records.proofs.AddressLemmas.{family-cleared, IsBlock-cleared}
use Rattle.lisp_records.proofs.Fields.{Takes, IsBytes-behind, bind_ok, done, ok_is, two_bytes, bit-eqb, eqb-bit, bit_below, after_takes, after_again, family_takes, mask_takes, mask_again, address_takes, address_again}
use Rattle.lisp_records.proofs.LocatorLaws.{locators_take, locators_again}

-- an address under a mask that fits it spells the block
eid_made : (a : Addr) (n : ℕ) → HasWidth a → n ≤ max_len a → SpellsEid (octets a) (record { addr = cleared a n; mask_len = n })
eid_made a n whole fits = record { written = a; parts = refl; addr = whole; masked = refl; block = IsBlock-cleared a n fits }

-- four numbers below 256 are bytes
four_fit : (a b c d : ℕ) → a < 256 → b < 256 → c < 256 → d < 256 → IsBytes (a ∷ b ∷ c ∷ d ∷ [])
four_fit a b c d la lb lc ld zero = la
four_fit a b c d la lb lc ld (suc zero) = lb
four_fit a b c d la lb lc ld (suc (suc zero)) = lc
four_fit a b c d la lb lc ld (suc (suc (suc zero))) = ld
four_fit a b c d la lb lc ld (suc (suc (suc (suc i)))) = omega arith

-- four bytes are the spelling of their number
four_bytes : (a b c d : ℕ) → a < 256 → b < 256 → c < 256 → d < 256 → to_be_bytes w32 (from_be_bytes w32 (a ∷ b ∷ c ∷ d ∷ [])) ≡ a ∷ b ∷ c ∷ d ∷ []
four_bytes a b c d la lb lc ld = be_bytes_4 (a ∷ b ∷ c ∷ d ∷ []) _ refl (four_fit a b c d la lb lc ld) refl

-- twelve bytes, then an address of the family that the last two name, then as many locators as
-- the fifth says, spell a record
record_made : (bytes : List ℕ) (a : Addr) (middle rest : List ℕ) (ls : List Locator) → IsBytes bytes → 12 ≤ length bytes → number_at bytes 10 ≡ afi (family a)
    → drop 12 bytes ≡ octets a ++ middle → HasWidth a → get_or bytes 5 0 ≤ max_len a → length ls ≡ get_or bytes 4 0 → Takes (λ text. SpellsLocators text ls) middle rest
    → Takes (λ text. Spells text (map_record_of bytes a ls)) bytes rest
record_made (b0 ∷ b1 ∷ b2 ∷ b3 ∷ b4 ∷ b5 ∷ b6 ∷ b7 ∷ b8 ∷ b9 ∷ b10 ∷ b11 ∷ bytes) a middle rest ls fits long number behind whole mask count locs =
    let ttl : ℕ = from_be_bytes w32 (b0 ∷ b1 ∷ b2 ∷ b3 ∷ []) in
    let four : to_be_bytes w32 ttl ≡ b0 ∷ b1 ∷ b2 ∷ b3 ∷ [] = four_bytes b0 b1 b2 b3 (fits 0) (fits 1) (fits 2) (fits 3) in
    let f : Family = family (cleared a b5) in
    let two : to_be_bytes w16 (afi f) ≡ b10 ∷ b11 ∷ [] = two_bytes b10 b11 (afi f) (fits 10) (fits 11) (number ∙ ap afi (sym (family-cleared a b5))) in
    let tail : List ℕ = octets a ++ locs.text in
    let by_ttl = ap (λ (t : List ℕ). t ++ (b4 ∷ b5 ∷ b6 ∷ b7 ∷ b8 ∷ b9 ∷ b10 ∷ b11 ∷ tail)) (sym four) in
    let by_count = ap (λ (n : ℕ). to_be_bytes w32 ttl ++ (n ∷ b5 ∷ b6 ∷ b7 ∷ b8 ∷ b9 ∷ b10 ∷ b11 ∷ tail)) (sym count) in
    let by_afi = ap (λ (t : List ℕ). to_be_bytes w32 ttl ++ (length ls ∷ b5 ∷ b6 ∷ b7 ∷ b8 ∷ b9 ∷ (t ++ tail))) (sym two) in
    record {
      text = b0 ∷ b1 ∷ b2 ∷ b3 ∷ b4 ∷ b5 ∷ b6 ∷ b7 ∷ b8 ∷ b9 ∷ b10 ∷ b11 ∷ tail;
      parts = ap (λ (t : List ℕ). b0 ∷ b1 ∷ b2 ∷ b3 ∷ b4 ∷ b5 ∷ b6 ∷ b7 ∷ b8 ∷ b9 ∷ b10 ∷ b11 ∷ t) (behind ∙ ap (λ (t : List ℕ). octets a ++ t) locs.parts ∙ sym (append_assoc (octets a) locs.text rest));
      kind = record {
        flags = b6;
        reserved = b7;
        high = b8;
        low = b9;
        eid = octets a;
        locators = locs.text;
        parts = by_ttl ∙ by_count ∙ by_afi;
        ttl = omega (arith, fits 0, fits 1, fits 2, fits 3);
        act = refl;
        authoritative = bit-eqb (b6 / 16 % 2) (omega arith);
        version = refl;
        prefix = eid_made a b5 whole mask;
        each = locs.kind;
      };
    }
record_made _ a middle rest ls fits long number behind whole mask count locs = absurd (omega arith)

-- the steps of reading a record, together
record_steps : (bytes rest : List ℕ) (f : Family) (mask_len : ℕ) (addr : Addr × List ℕ) (ls : List Locator × List ℕ) → IsBytes bytes → after 12 bytes ≡ Ok rest
    → family_of (number_at bytes 10) ≡ Ok f → mask_of f (get_or bytes 5 0) ≡ Ok mask_len → address_at f rest ≡ Ok addr → locators_at (get_or bytes 4 0) addr.1 ≡ Ok ls
    → Takes (λ text. Spells text (map_record_of bytes addr.0 ls.0)) bytes ls.1
record_steps bytes rest f mask_len addr ls fits passed named masked taken listed =
    let head = after_takes 12 bytes rest passed in
    let a = address_takes f rest addr taken in
    let mask : get_or bytes 5 0 ≤ max_len addr.0 = subst (λ (k : Family). get_or bytes 5 0 ≤ 8 * width k) (sym a.2) (mask_takes f (get_or bytes 5 0) mask_len masked) in
    let locs = locators_take (get_or bytes 4 0) addr.1 ls (IsBytes-behind 12 bytes (octets addr.0) addr.1 (head.1 ∙ a.0) fits) listed in
    record_made bytes addr.0 addr.1 ls.1 ls.0 fits head.0 (family_takes (number_at bytes 10) f named ∙ ap afi (sym a.2)) (head.1 ∙ a.0) a.1 mask locs.1 locs.0

-- what follows the tests of the length, the family and the mask, and the address
abbrev record_end : List ℕ → Addr × List ℕ → Result (MapRecordValue × List ℕ) RecordFault
record_end bytes addr = locators_at (get_or bytes 4 0) addr.1 >>= λ locators. done (map_record_of bytes addr.0 locators.0, locators.1)

-- a record that was read is spelled by the bytes in front
pub record_takes : (bytes : List ℕ) (x : MapRecordValue × List ℕ) → IsBytes bytes → record_at bytes ≡ Ok x → Takes (λ text. Spells text x.0) bytes x.1
unfolding record_at start_at
record_takes bytes x fits e =
    let d = bind_ok (start_at bytes) (λ addr. record_end bytes addr) x e in
    let a = bind_ok (after 12 bytes) (λ rest. family_of (number_at bytes 10) >>= λ f. mask_of f (get_or bytes 5 0) >>= λ mask_len. address_at f rest) d.0 d.1 in
    let b = bind_ok (family_of (number_at bytes 10)) (λ f. mask_of f (get_or bytes 5 0) >>= λ mask_len. address_at f a.0) d.0 a.2 in
    let c = bind_ok (mask_of b.0 (get_or bytes 5 0)) (λ mask_len. address_at b.0 a.0) d.0 b.2 in
    let l = bind_ok (locators_at (get_or bytes 4 0) d.0.1) (λ locators. done (map_record_of bytes d.0.0 locators.0, locators.1)) x d.2 in
    let made : MapRecordValue × List ℕ = (map_record_of bytes d.0.0 l.0.0, l.0.1) in
    subst (λ (y : MapRecordValue × List ℕ). Takes (λ text. Spells text y.0) bytes y.1) {x = made} (ok_is made x l.2) (record_steps bytes a.0 b.0 c.0 d.0 l.0 fits a.1 b.1 c.1 c.2 l.1)

-- the twelve bytes in front of a record's addresses
abbrev head : ℕ → ℕ → ℕ → ℕ → ℕ → ℕ → ℕ → ℕ → List ℕ
head ttl count mask flags reserved high low number = to_be_bytes w32 ttl ++ (count ∷ mask ∷ flags ∷ reserved ∷ high ∷ low ∷ to_be_bytes w16 number)

-- twelve bytes with an address's family in the last two, the address, and locators, are read
record_read : (ttl mask flags reserved high low : ℕ) (a : Addr) (ls : List Locator) (text rest : List ℕ) → HasWidth a → mask ≤ max_len a → SpellsLocators text ls
    → record_at (head ttl (length ls) mask flags reserved high low (afi (family a)) ++ (octets a ++ (text ++ rest))) ≡ Ok (map_record_of (head ttl (length ls) mask flags reserved high low 0) a ls, rest)
unfolding record_at start_at
record_read ttl mask flags reserved high low (V4 bytes) ls text rest whole fits each =
    rw (after_again 12 (head ttl (length ls) mask flags reserved high low 1) (bytes ++ (text ++ rest)) refl, mask_again Ipv4 mask fits, address_again (V4 bytes) (text ++ rest) whole, locators_again text rest ls each) refl
record_read ttl mask flags reserved high low (V6 bytes) ls text rest whole fits each =
    rw (after_again 12 (head ttl (length ls) mask flags reserved high low 2) (bytes ++ (text ++ rest)) refl, mask_again Ipv6 mask fits, address_again (V6 bytes) (text ++ rest) whole, locators_again text rest ls each) refl

-- the parts of a record's spelling, with the rest behind them
spelling_parts : (text rest : List ℕ) (m : MapRecordValue) (s : Spells text m) → text ++ rest ≡ head m.ttl (length m.locators) m.eid.mask_len s.flags s.reserved s.high s.low (afi (family s.prefix.written)) ++ (octets s.prefix.written ++ (s.locators ++ rest))
spelling_parts text rest m s =
    let front = λ (number : ℕ). head m.ttl (length m.locators) m.eid.mask_len s.flags s.reserved s.high s.low number in
    let number : afi (family m.eid.addr) ≡ afi (family s.prefix.written) = ap (λ (a : Addr). afi (family a)) (sym s.prefix.masked) ∙ ap afi (family-cleared s.prefix.written m.eid.mask_len) in
    ap (λ (t : List ℕ). t ++ rest) s.parts
    ∙ ap (λ (t : List ℕ). front (afi (family m.eid.addr)) ++ t) (append_assoc s.eid s.locators rest)
    ∙ ap (λ (t : List ℕ). front (afi (family m.eid.addr)) ++ (t ++ (s.locators ++ rest))) s.prefix.parts
    ∙ ap (λ (n : ℕ). front n ++ (octets s.prefix.written ++ (s.locators ++ rest))) number

-- what is read from the fields of a record's spelling is the record
spelled_mapping : (text : List ℕ) (m : MapRecordValue) (s : Spells text m) → map_record_of (head m.ttl (length m.locators) m.eid.mask_len s.flags s.reserved s.high s.low 0) s.prefix.written m.locators ≡ m
spelled_mapping text m s =
    let authoritative : is_set s.flags 16 ≡ m.authoritative = ap (λ (n : ℕ). eqb n 1) s.authoritative ∙ eqb-bit m.authoritative in
    rw (from_be_bytes-to_be_bytes_4 m.ttl s.ttl, s.act, authoritative, s.version, s.prefix.masked) refl

-- a record that is spelled in front is read
pub record_again : (text rest : List ℕ) (m : MapRecordValue) → Spells text m → record_at (text ++ rest) ≡ Ok (m, rest)
record_again text rest m s =
    let mask : m.eid.mask_len ≤ max_len s.prefix.written = subst (λ (f : Family). m.eid.mask_len ≤ 8 * width f) (ap family (sym s.prefix.masked) ∙ family-cleared s.prefix.written m.eid.mask_len) s.prefix.block.0 in
    ap record_at (spelling_parts text rest m s)
    ∙ record_read m.ttl m.eid.mask_len s.flags s.reserved s.high s.low s.prefix.written m.locators s.locators rest s.prefix.addr mask s.each
    ∙ ap (λ (n : MapRecordValue). done (n, rest)) (spelled_mapping text m s)

-- the record and the rest in an answer
answer_is : (x y : MapRecordValue × List ℕ) → done x ≡ done y → (x.0 ≡ y.0) × (x.1 ≡ y.1)
answer_is x y e =
    let same : x ≡ y = ok_is x y e in
    (ap (λ (z : MapRecordValue × List ℕ). z.0) same, ap (λ (z : MapRecordValue × List ℕ). z.1) same)

-- bytes spell at most one record
pub one_record : (bytes : List ℕ) (m n : MapRecordValue) → Spells bytes m → Spells bytes n → m ≡ n
one_record bytes m n s t = (answer_is (m, []) (n, []) (sym (record_again bytes [] m s) ∙ record_again bytes [] n t)).0

-- no spelling of a record begins another
pub no_proper_prefix : (bytes more : List ℕ) (m n : MapRecordValue) → Spells bytes m → Spells (bytes ++ more) n → more ≡ []
no_proper_prefix bytes more m n s t =
    let whole : record_at (bytes ++ more) ≡ Ok (n, []) = ap record_at (sym (append-nil (bytes ++ more))) ∙ record_again (bytes ++ more) [] n t in
    (answer_is (m, more) (n, []) (sym (record_again bytes more m s) ∙ whole)).1

-- the written spelling of a locator is one of its spellings
locator_spelled : (l : Locator) → IsLocator l → SpellsLocator (written_locator l) l
locator_spelled l i = record { unused = 0; flags = bit l.local * 4 + bit l.probe * 2 + bit l.reachable; parts = refl; local = omega (arith, bit_below); probe = omega (arith, bit_below); reachable = omega (arith, bit_below); addr = i.addr.width }

-- the written spelling of locators is one of theirs
locators_spelled : (ls : List Locator) → AllByRecursion IsLocator ls → SpellsLocators (written_locators ls) ls
locators_spelled [] all = refl
locators_spelled (l ∷ ls) all = (written_locator l, written_locators ls, refl, locator_spelled l all.0, locators_spelled ls all.1)

-- the written spelling of a record is one of its spellings
pub written_spells : (m : MapRecordValue) → IsMapRecord m → Spells (written m) m
unfolding written
written_spells m i = record {
  flags = m.act * 32 + bit m.authoritative * 16;
  reserved = 0;
  high = m.version / 256;
  low = m.version % 256;
  eid = octets m.eid.addr;
  locators = written_locators m.locators;
  parts = refl;
  ttl = i.ttl;
  act = omega (arith, bit_below, i.act);
  authoritative = omega (arith, bit_below);
  version = omega (arith, i.version);
  prefix = record { written = m.eid.addr; parts = refl; addr = i.eid.width; masked = i.block.1; block = i.block };
  each = locators_spelled m.locators i.locators;
}

-- what was written is read again
pub reads_back : (m : MapRecordValue) (rest : List ℕ) → IsMapRecord m → record_at (written m ++ rest) ≡ Ok (m, rest)
reads_back m rest i = record_again (written m) rest m (written_spells m i)
