-- A locator that is read is spelled so, and a locator that is spelled so is read; likewise for
-- locators one after the other.
use Rattle.std.proofs.Common.{◌≡◌, ℕ, zero, suc, ◌/◌, ◌%◌, ◌≤◌, eqb, List, [], ◌∷◌, ◌++◌, length, drop, Ok, refl, sym, ap, subst, ◌∙◌, append_assoc, arith}
use Rattle.std.specs.Int.{w16, to_be_bytes}
use Rattle.lisp_records.specs.declared.address.Addr.{Addr}
use Rattle.lisp_records.specs.declared.address.Addr.TheVariants.{V4, V6}
use Rattle.lisp_records.specs.declared.address.Family.{Family}
use Rattle.lisp_records.specs.declared.locator.Locator.{Locator}
use Rattle.lisp_records.specs.Address.{afi, family, octets, HasWidth}
use Rattle.lisp_records.specs.Spelling.{IsBytes, SpellsLocator, SpellsLocators}
use Rattle.lisp_records.specs.Result.{◌>>=◌}
use Rattle.lisp_records.specs.Reading.{after, number_at, family_of, address_at, is_set, locator_of, locator_at, locators_at}
use Rattle.lisp_records.proofs.Fields.{Takes, IsBytes-rest, bind_ok, done, ok_is, two_bytes, bit-eqb, eqb-bit, after_takes, after_again, family_takes, address_takes, address_again}

-- eight bytes with a family's number in the last two, and an address of it, spell a locator
locator_made : (bytes : List ℕ) (a : Addr) (rest : List ℕ) → IsBytes bytes → 8 ≤ length bytes → number_at bytes 6 ≡ afi (family a) → drop 8 bytes ≡ octets a ++ rest → HasWidth a → Takes (λ text. SpellsLocator text (locator_of bytes a)) bytes rest
locator_made (b0 ∷ b1 ∷ b2 ∷ b3 ∷ b4 ∷ b5 ∷ b6 ∷ b7 ∷ bytes) a rest fits long number behind whole =
    let named : to_be_bytes w16 (afi (family a)) ≡ b6 ∷ b7 ∷ [] = two_bytes b6 b7 (afi (family a)) (fits 6) (fits 7) number in
    record {
      text = b0 ∷ b1 ∷ b2 ∷ b3 ∷ b4 ∷ b5 ∷ b6 ∷ b7 ∷ octets a;
      parts = ap (λ (t : List ℕ). b0 ∷ b1 ∷ b2 ∷ b3 ∷ b4 ∷ b5 ∷ b6 ∷ b7 ∷ t) behind;
      kind = record {
        unused = b4;
        flags = b5;
        parts = ap (λ (t : List ℕ). b0 ∷ b1 ∷ b2 ∷ b3 ∷ b4 ∷ b5 ∷ (t ++ octets a)) (sym named);
        local = bit-eqb (b5 / 4 % 2) (omega arith);
        probe = bit-eqb (b5 / 2 % 2) (omega arith);
        reachable = (let same : b5 % 2 ≡ b5 / 1 % 2 = omega arith in same ∙ bit-eqb (b5 / 1 % 2) (omega arith));
        addr = whole;
      };
    }
locator_made _ a rest fits long number behind whole = absurd (omega arith)

-- the steps of reading a locator, together
locator_steps : (bytes rest : List ℕ) (f : Family) (addr : Addr × List ℕ) → IsBytes bytes → after 8 bytes ≡ Ok rest → family_of (number_at bytes 6) ≡ Ok f → address_at f rest ≡ Ok addr → Takes (λ text. SpellsLocator text (locator_of bytes addr.0)) bytes addr.1
locator_steps bytes rest f addr fits passed named taken =
    let head = after_takes 8 bytes rest passed in
    let a = address_takes f rest addr taken in
    locator_made bytes addr.0 addr.1 fits head.0 (family_takes (number_at bytes 6) f named ∙ ap afi (sym a.2)) (head.1 ∙ a.0) a.1

-- a locator that was read is spelled by the bytes in front
pub locator_takes : (bytes : List ℕ) (x : Locator × List ℕ) → IsBytes bytes → locator_at bytes ≡ Ok x → Takes (λ text. SpellsLocator text x.0) bytes x.1
unfolding locator_at
locator_takes bytes x fits e =
    let a = bind_ok (after 8 bytes) (λ rest. family_of (number_at bytes 6) >>= λ f. address_at f rest >>= λ addr. done (locator_of bytes addr.0, addr.1)) x e in
    let b = bind_ok (family_of (number_at bytes 6)) (λ f. address_at f a.0 >>= λ addr. done (locator_of bytes addr.0, addr.1)) x a.2 in
    let c = bind_ok (address_at b.0 a.0) (λ addr. done (locator_of bytes addr.0, addr.1)) x b.2 in
    let made : Locator × List ℕ = (locator_of bytes c.0.0, c.0.1) in
    subst (λ (y : Locator × List ℕ). Takes (λ text. SpellsLocator text y.0) bytes y.1) {x = made} (ok_is made x c.2) (locator_steps bytes a.0 b.0 c.0 fits a.1 b.1 c.1)

-- eight bytes with an address's family in the last two, and the address, are read
locator_read : (b0 b1 b2 b3 b4 b5 : ℕ) (a : Addr) (rest : List ℕ) → HasWidth a → locator_at ((b0 ∷ b1 ∷ b2 ∷ b3 ∷ b4 ∷ b5 ∷ to_be_bytes w16 (afi (family a))) ++ (octets a ++ rest)) ≡ Ok (locator_of (b0 ∷ b1 ∷ b2 ∷ b3 ∷ b4 ∷ b5 ∷ []) a, rest)
unfolding locator_at
locator_read b0 b1 b2 b3 b4 b5 (V4 bytes) rest whole = rw (after_again 8 (b0 ∷ b1 ∷ b2 ∷ b3 ∷ b4 ∷ b5 ∷ 0 ∷ 1 ∷ []) (bytes ++ rest) refl, address_again (V4 bytes) rest whole) refl
locator_read b0 b1 b2 b3 b4 b5 (V6 bytes) rest whole = rw (after_again 8 (b0 ∷ b1 ∷ b2 ∷ b3 ∷ b4 ∷ b5 ∷ 0 ∷ 2 ∷ []) (bytes ++ rest) refl, address_again (V6 bytes) rest whole) refl

-- a locator that is spelled in front is read
pub locator_again : (text rest : List ℕ) (l : Locator) → SpellsLocator text l → locator_at (text ++ rest) ≡ Ok (l, rest)
locator_again text rest l s =
    let whole : text ++ rest ≡ (l.priority ∷ l.weight ∷ l.m_priority ∷ l.m_weight ∷ s.unused ∷ s.flags ∷ to_be_bytes w16 (afi (family l.addr))) ++ (octets l.addr ++ rest) = ap (λ (t : List ℕ). t ++ rest) s.parts in
    let read = locator_read l.priority l.weight l.m_priority l.m_weight s.unused s.flags l.addr rest s.addr in
    let local : is_set s.flags 4 ≡ l.local = ap (λ (n : ℕ). eqb n 1) s.local ∙ eqb-bit l.local in
    let probe : is_set s.flags 2 ≡ l.probe = ap (λ (n : ℕ). eqb n 1) s.probe ∙ eqb-bit l.probe in
    let same : s.flags / 1 % 2 ≡ s.flags % 2 = omega arith in
    let reachable : is_set s.flags 1 ≡ l.reachable = ap (λ (n : ℕ). eqb n 1) (same ∙ s.reachable) ∙ eqb-bit l.reachable in
    ap locator_at whole ∙ read ∙ rw (local, probe, reachable) refl

-- a locator and then locators are locators
locators_joined : (bytes middle rest : List ℕ) (l : Locator) (ls : List Locator) → Takes (λ text. SpellsLocator text l) bytes middle → Takes (λ text. SpellsLocators text ls) middle rest → Takes (λ text. SpellsLocators text (l ∷ ls)) bytes rest
locators_joined bytes middle rest l ls first others = record {
  text = first.text ++ others.text;
  parts = first.parts ∙ ap (λ (t : List ℕ). first.text ++ t) others.parts ∙ sym (append_assoc first.text others.text rest);
  kind = (first.text, others.text, refl, first.kind, others.kind);
}

-- locators that were read are spelled by the bytes in front, and are as many as were asked for
pub locators_take : (n : ℕ) (bytes : List ℕ) (x : List Locator × List ℕ) → IsBytes bytes → locators_at n bytes ≡ Ok x → Takes (λ text. SpellsLocators text x.0) bytes x.1 × (length x.0 ≡ n)
unfolding locators_at
locators_take zero bytes x fits e =
    let made : List Locator × List ℕ = ([], bytes) in
    subst (λ (y : List Locator × List ℕ). Takes (λ text. SpellsLocators text y.0) bytes y.1 × (length y.0 ≡ 0)) {x = made} (ok_is made x e) (record { text = []; parts = refl; kind = refl }, refl)
locators_take (suc n) bytes x fits e =
    let a = bind_ok (locator_at bytes) (λ first. locators_at n first.1 >>= λ others. done (first.0 ∷ others.0, others.1)) x e in
    let b = bind_ok (locators_at n a.0.1) (λ others. done (a.0.0 ∷ others.0, others.1)) x a.2 in
    let first = locator_takes bytes a.0 fits a.1 in
    let others = locators_take n a.0.1 b.0 (IsBytes-rest bytes first.text a.0.1 first.parts fits) b.1 in
    let made : List Locator × List ℕ = (a.0.0 ∷ b.0.0, b.0.1) in
    subst (λ (y : List Locator × List ℕ). Takes (λ text. SpellsLocators text y.0) bytes y.1 × (length y.0 ≡ suc n)) {x = made} (ok_is made x b.2) (locators_joined bytes a.0.1 b.0.1 a.0.0 b.0.0 first others.0, ap suc others.1)

-- locators that are spelled in front are read
pub locators_again : (text rest : List ℕ) (ls : List Locator) → SpellsLocators text ls → locators_at (length ls) (text ++ rest) ≡ Ok (ls, rest)
unfolding locators_at
locators_again text rest [] s = ap (λ (t : List ℕ). done ([], t ++ rest)) s
locators_again text rest (l ∷ ls) s =
    let whole : text ++ rest ≡ s.0 ++ (s.1 ++ rest) = ap (λ (t : List ℕ). t ++ rest) s.2 ∙ append_assoc s.0 s.1 rest in
    ap (locators_at (suc (length ls))) whole ∙ rw (locator_again s.0 (s.1 ++ rest) l s.3, locators_again s.1 rest ls s.4) refl
