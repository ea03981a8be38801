-- Where the control message of an encapsulated one stands.
use Rattle.std.proofs.Common.{◌≡◌, ℕ, ◌+◌, List, [], ◌∷◌, ◌++◌, length, take, drop, refl, ap, ◌∙◌, append_assoc, arith}
use Rattle.std.proofs.lemmas.List.{take_at, drop_at, length-append}
use Rattle.lisp_records.specs.declared.address.Addr.{Addr}
use Rattle.lisp_records.specs.declared.address.Addr.TheVariants.{V4, V6}
use Rattle.lisp_requests.specs.Encapsulated.{EncapsulatedValue, SpellsEncapsulated, SpellsHeader, StandsAt, header_len, message_place, udp_header}

-- a part among others
part_stands : (bytes front part back : List ℕ) (at : ℕ) → bytes ≡ front ++ (part ++ back) → length front ≡ at → StandsAt bytes at part
part_stands bytes front part back at is size = (
  ap (λ (t : List ℕ). take (length part) (drop at t)) is ∙ ap (take (length part)) (drop_at front (part ++ back) at size) ∙ take_at part back (length part) refl,
  omega (arith, ap length is, length-append front (part ++ back), length-append part back, size),
)

-- the message begins after the headers
header_long : (bytes header rest : List ℕ) (source destination : Addr) (len : ℕ) → SpellsHeader header source destination len → drop 4 bytes ≡ header ++ rest → 4 + (length header + 8) ≡ message_place bytes source
header_long bytes header rest (V4 s) (V4 d) len spells is =
    let first : header_len (drop 4 bytes) ≡ length header = ap header_len is ∙ ap (λ (t : List ℕ). header_len (t ++ rest)) spells.2.parts ∙ spells.2.ihl in
    omega (arith, first)
header_long bytes header rest (V6 s) (V6 d) len spells is =
    omega (arith, ap length spells.2.parts, length-append s d, spells.0, spells.1)
header_long bytes header rest _ _ len spells is = absurd spells

pub message_stands : (bytes : List ℕ) (m : EncapsulatedValue) → SpellsEncapsulated bytes m → StandsAt bytes (message_place bytes m.source) m.message
message_stands bytes m s =
    let header = s.carries.header in
    let udp : List ℕ = udp_header m.port (8 + length m.message) s.udp.checksum in
    let lisp : List ℕ = s.kind ∷ s.reserved_high ∷ s.reserved_mid ∷ s.reserved_low ∷ [] in
    let inner : s.datagram ≡ header ++ (((udp ++ m.message) ++ s.udp.tail) ++ s.carries.tail) = s.carries.parts ∙ ap (λ (t : List ℕ). header ++ (t ++ s.carries.tail)) s.udp.parts in
    let whole : bytes ≡ (lisp ++ (header ++ udp)) ++ (m.message ++ (s.udp.tail ++ s.carries.tail)) = s.parts ∙ ap (λ (t : List ℕ). lisp ++ t) inner ∙ simp append_assoc in
    let eight : length udp ≡ 8 = refl in
    let size : length (lisp ++ (header ++ udp)) ≡ 4 + (length header + 8) = omega (arith, length-append header udp, eight) in
    part_stands bytes (lisp ++ (header ++ udp)) m.message (s.udp.tail ++ s.carries.tail) (message_place bytes m.source) whole
    (size ∙ header_long bytes header (((udp ++ m.message) ++ s.udp.tail) ++ s.carries.tail) m.source m.destination _ s.carries.spells (ap (drop 4) s.parts ∙ inner))
