-- The written spelling: how long it is, and how it is appended part by part.
use Rattle.std.proofs.Common.{◌≡◌, ℕ, ◌+◌, ◌<◌, List, [], ◌∷◌, ◌++◌, length, get_or, take, Result, refl, sym, ap, ◌∙◌, append_assoc, arith, length-append}
use Rattle.std.specs.Prelude.{is_ok, if◌then◌else◌}
use Rattle.std.proofs.lemmas.Grind.{flat_map-append}
use Rattle.std.proofs.lemmas.List.{append-nil, take_more}
use Rattle.lisp_records.specs.declared.address.Addr.{Addr}
use Rattle.lisp_records.specs.declared.locator.Locator.{Locator}
use Rattle.lisp_records.specs.Address.{family, width, octets, IsWhole}
use Rattle.lisp_records.specs.Record.{MapRecordValue}
use Rattle.lisp_records.specs.Written.{written_head, written_afi, written_address, written_locator, written_locators, written}

-- a record is its head, its EID-Prefix and its locators
pub length-written : (m : MapRecordValue) → IsWhole m.eid.addr → length (written m) ≡ 12 + width (family m.eid.addr) + length (written_locators m.locators)
unfolding written
length-written m whole =
    omega (arith, length-append (written_head m) (written_address m.eid.addr ++ written_locators m.locators), length-append (written_address m.eid.addr) (written_locators m.locators), whole.width)

-- bytes in front of an address, and its own, that were appended at once
pub front_appended : {T E : Type 0} (r : Result T E) (old new part head front bytes : List ℕ) (a : Addr) → new ≡ (if is_ok r then old ++ part else old) → part ≡ head ++ bytes → head ≡ front → octets a ≡ bytes
    → new ≡ (if is_ok r then old ++ (front ++ octets a) else old)
front_appended r old new part head front bytes a items joined made own =
    items ∙ ap (λ (t : List ℕ). if is_ok r then old ++ t else old) (joined ∙ ap (λ (t : List ℕ). t ++ bytes) made ∙ ap (λ (t : List ℕ). front ++ t) (sym own))

-- a record that was appended part by part
pub written_from : (m : MapRecordValue) (a b c : List ℕ) → b ≡ a ++ ((written_head m ++ written_afi m.eid.addr) ++ octets m.eid.addr) → c ≡ b ++ written_locators m.locators → c ≡ a ++ written m
unfolding written
written_from m a b c to_b to_c =
    to_c ∙ rw (to_b, append_assoc, append_assoc, append_assoc, append_assoc) refl

-- one more locator is written behind those before it
written_more : (ls : List Locator) (i : ℕ) (d : Locator) → i < length ls → written_locators (take (i + 1) ls) ≡ written_locators (take i ls) ++ written_locator (get_or ls i d)
written_more ls i d lt =
    ap written_locators (take_more ls i d lt) ∙ flat_map-append written_locator (take i ls) (get_or ls i d ∷ []) ∙ ap (λ (t : List ℕ). written_locators (take i ls) ++ t) (append-nil (written_locator (get_or ls i d)))

-- and counted
pub length_goes_on : (base sum one : ℕ) (ls : List Locator) (i : ℕ) (d : Locator) → i < length ls → sum ≡ base + length (written_locators (take i ls)) → one ≡ length (written_locator (get_or ls i d)) → sum + one ≡ base + length (written_locators (take (i + 1) ls))
length_goes_on base sum one ls i d lt so_far next =
    let more = ap length (written_more ls i d lt) ∙ length-append (written_locators (take i ls)) (written_locator (get_or ls i d)) in
    omega (arith, so_far, next, more)

-- and appended
pub written_goes_on : (old out new : List ℕ) (ls : List Locator) (i : ℕ) (d : Locator) → i < length ls → out ≡ old ++ written_locators (take i ls) → new ≡ out ++ written_locator (get_or ls i d) → new ≡ old ++ written_locators (take (i + 1) ls)
written_goes_on old out new ls i d lt so_far appended =
    let front = written_locators (take i ls) in
    let next = written_locator (get_or ls i d) in
    appended ∙ ap (λ (t : List ℕ). t ++ next) so_far ∙ append_assoc old front next ∙ ap (λ (t : List ℕ). old ++ t) (sym (written_more ls i d lt))
