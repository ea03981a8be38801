-- An encapsulated message that is read is spelled so, and one that is spelled so is read.
use Rattle.std.proofs.Common.{◌≡◌, ℕ, zero, suc, ◌+◌, ◌-◌, ◌/◌, ◌%◌, ◌<◌, ◌≤◌, Bool, true, eqb, leb, ◌&&◌, List, [], ◌∷◌, ◌++◌, length, take, drop, get_or, Ok, refl, sym, ap, subst, ◌∙◌, arith}
use Rattle.std.specs.Prelude.{not}
use Rattle.std.specs.Int.{w16, to_be_bytes}
use Rattle.std.proofs.lemmas.Bool.{and_parts, leb-true, le-leb, eqb-true}
use Rattle.std.proofs.lemmas.List.{take_at, drop_at, take-append-drop, length-append, length-take-le}
use Rattle.std.proofs.lemmas.Nat.{from_be_bytes-to_be_bytes_2}
use Rattle.std.proofs.Math.Seq.{take-append-add}
use Rattle.lisp_records.specs.declared.address.Addr.{Addr}
use Rattle.lisp_records.specs.declared.address.Addr.TheVariants.{V4, V6}
use Rattle.lisp_records.specs.Address.{family}
use Rattle.lisp_records.specs.Spelling.{IsBytes}
use Rattle.lisp_records.specs.Reading.{number_at, is_set}
use Rattle.lisp_records.specs.Result.{◌>>=◌}
use Rattle.lisp_records.proofs.Fields.{two_bytes, IsBytes-first, IsBytes-rest}
use Rattle.lisp_requests.specs.declared.fault.RequestFault.TheVariants as faults
use Rattle.lisp_requests.specs.Reading.{after, require}
use Rattle.lisp_requests.specs.Encapsulated.{DatagramValue, EncapsulatedValue, SpellsHeader, SpellsDatagram, SpellsUdp, SpellsEncapsulated, control_port, udp_header, is_summed, datagram_at, udp_at, lisp_at, encapsulated_at}
use Rattle.lisp_requests.proofs.Fields.{bind_ok, require_takes, done, ok_is, after_takes, after_again}
use Rattle.lisp_requests.proofs.InnerLaws.{after_long, datagram_takes, datagram_again}

-- ---- UDP

-- what the tests of a UDP datagram say
record Passes (source destination : Addr) (bytes : List ℕ) : Type 0 where
  pub long : 8 ≤ length bytes
  pub port : number_at bytes 2 ≡ control_port
  pub inside : 8 ≤ number_at bytes 4
  pub within : number_at bytes 4 ≤ length bytes
  pub summed : is_summed source destination (take (number_at bytes 4) bytes) ≡ true

abbrev carried : DatagramValue → EncapsulatedValue
carried d = record { source = d.source; destination = d.destination; port = number_at d.payload 0; message = drop 8 (take (number_at d.payload 4) d.payload) }

udp_passes : (d : DatagramValue) (m : EncapsulatedValue) → udp_at d ≡ Ok m → Passes d.source d.destination d.payload × (carried d ≡ m)
unfolding udp_at
udp_passes d m e =
    let bytes = d.payload in
    let p = eqb (number_at bytes 2) control_port in
    let l = leb 8 (number_at bytes 4) && leb (number_at bytes 4) (length bytes) in
    let s = is_summed d.source d.destination (take (number_at bytes 4) bytes) in
    let end = done (carried d) in
    let by_s = require faults.UdpChecksum s >>= λ _. end in
    let by_l = require faults.UdpLength l >>= λ _. by_s in
    let a = bind_ok (after 8 bytes) (λ _. require faults.Port p >>= λ _. by_l) m e in
    let b = bind_ok (require faults.Port p) (λ _. by_l) m a.2 in
    let c = bind_ok (require faults.UdpLength l) (λ _. by_s) m b.2 in
    let g = bind_ok (require faults.UdpChecksum s) (λ _. end) m c.2 in
    let lens = and_parts (leb 8 (number_at bytes 4)) (leb (number_at bytes 4) (length bytes)) (require_takes faults.UdpLength l c.0 c.1) in (
      record {
        long = (after_takes 8 bytes a.0 a.1).0;
        port = eqb-true (number_at bytes 2) control_port (require_takes faults.Port p b.0 b.1);
        inside = leb-true 8 (number_at bytes 4) lens.0;
        within = leb-true (number_at bytes 4) (length bytes) lens.1;
        summed = require_takes faults.UdpChecksum s g.0 g.1;
      },
      ok_is (carried d) m g.2,
    )

udp_read : (d : DatagramValue) → Passes d.source d.destination d.payload → udp_at d ≡ Ok (carried d)
unfolding udp_at
udp_read d p =
    let port : eqb (number_at d.payload 2) control_port ≡ true = ap (λ (n : ℕ). eqb n control_port) p.port in
    rw (after_long 8 d.payload p.long, port, le-leb 8 (number_at d.payload 4) p.inside, le-leb (number_at d.payload 4) (length d.payload) p.within, p.summed) refl

-- a UDP datagram, by its first 8 bytes
udp_made : (source destination : Addr) (bytes : List ℕ) → IsBytes bytes → Passes source destination bytes → SpellsUdp bytes (carried (record { source = source; destination = destination; payload = bytes }))
udp_made source destination (b0 ∷ b1 ∷ b2 ∷ b3 ∷ b4 ∷ b5 ∷ b6 ∷ b7 ∷ bytes) fits p =
    let front : List ℕ = b0 ∷ b1 ∷ b2 ∷ b3 ∷ b4 ∷ b5 ∷ b6 ∷ b7 ∷ [] in
    let len : ℕ = number_at (front ++ bytes) 4 in
    let more : ℕ = len - 8 in
    let is : len ≡ length front + more = omega (arith, p.inside) in
    let cut : take len (front ++ bytes) ≡ front ++ take more bytes = ap (λ (n : ℕ). take n (front ++ bytes)) is ∙ take-append-add front bytes more in
    let message : drop 8 (take len (front ++ bytes)) ≡ take more bytes = ap (drop 8) cut in
    let long : 8 + length (drop 8 (take len (front ++ bytes))) ≡ len = omega (arith, ap length message, length-take-le more bytes (omega (arith, p.inside, p.within)), p.inside) in
    let port : ℕ = number_at (front ++ bytes) 0 in
    let sum : ℕ = number_at (front ++ bytes) 6 in
    let header : udp_header port len sum ≡ front =
    ap (λ (t : List ℕ). t ++ to_be_bytes w16 control_port ++ to_be_bytes w16 len ++ to_be_bytes w16 sum) (two_bytes b0 b1 port (fits 0) (fits 1) refl)
    ∙ ap (λ (t : List ℕ). b0 ∷ b1 ∷ (t ++ to_be_bytes w16 len ++ to_be_bytes w16 sum)) (two_bytes b2 b3 control_port (fits 2) (fits 3) p.port)
    ∙ ap (λ (t : List ℕ). b0 ∷ b1 ∷ b2 ∷ b3 ∷ (t ++ to_be_bytes w16 sum)) (two_bytes b4 b5 len (fits 4) (fits 5) refl)
    ∙ ap (λ (t : List ℕ). b0 ∷ b1 ∷ b2 ∷ b3 ∷ b4 ∷ b5 ∷ t) (two_bytes b6 b7 sum (fits 6) (fits 7) refl) in
    let datagram : udp_header port (8 + length (drop 8 (take len (front ++ bytes)))) sum ++ drop 8 (take len (front ++ bytes)) ≡ take len (front ++ bytes) =
    ap (λ (n : ℕ). udp_header port n sum ++ drop 8 (take len (front ++ bytes))) long ∙ ap (λ (t : List ℕ). t ++ drop 8 (take len (front ++ bytes))) header ∙ ap (λ (t : List ℕ). front ++ t) message ∙ sym cut in
    record {
      checksum = sum;
      tail = drop len (front ++ bytes);
      parts = sym (ap (λ (t : List ℕ). t ++ drop len (front ++ bytes)) datagram ∙ take-append-drop len (front ++ bytes));
      port = omega (arith, fits 0, fits 1);
      length_fits = omega (arith, long, fits 4, fits 5);
      checksum_fits = omega (arith, fits 6, fits 7);
      summed = ap (is_summed source destination) datagram ∙ p.summed;
    }
udp_made source destination _ fits p = absurd (omega (arith, p.long))

udp_takes : (d : DatagramValue) (m : EncapsulatedValue) → IsBytes d.payload → udp_at d ≡ Ok m → SpellsUdp d.payload m × (carried d ≡ m)
udp_takes d m fits e =
    let all = udp_passes d m e in
    (subst (SpellsUdp d.payload) all.1 (udp_made d.source d.destination d.payload fits all.0), all.1)

udp_again : (payload : List ℕ) (m : EncapsulatedValue) → SpellsUdp payload m → udp_at (record { source = m.source; destination = m.destination; payload = payload }) ≡ Ok m
udp_again payload m s =
    let d : DatagramValue = record { source = m.source; destination = m.destination; payload = payload } in
    let len : ℕ = 8 + length m.message in
    let header : List ℕ = udp_header m.port len s.checksum in
    let datagram : List ℕ = header ++ m.message in
    let second : number_at payload 2 ≡ control_port = ap (λ (t : List ℕ). number_at t 2) s.parts ∙ from_be_bytes-to_be_bytes_2 control_port (omega arith) in
    let third : number_at payload 4 ≡ len = ap (λ (t : List ℕ). number_at t 4) s.parts ∙ from_be_bytes-to_be_bytes_2 len s.length_fits in
    let first : number_at payload 0 ≡ m.port = ap (λ (t : List ℕ). number_at t 0) s.parts ∙ from_be_bytes-to_be_bytes_2 m.port s.port in
    let whole : length datagram ≡ len = omega arith in
    let cut : take (number_at payload 4) payload ≡ datagram = rw (third, s.parts) (take_at datagram s.tail len whole) in
    let long : length payload ≡ len + length s.tail = ap length s.parts ∙ length-append datagram s.tail ∙ ap (λ (n : ℕ). n + length s.tail) whole in
    let passes : Passes m.source m.destination payload = record {
      long = omega (arith, long);
      port = second;
      inside = omega (arith, third);
      within = omega (arith, third, long);
      summed = ap (is_summed m.source m.destination) cut ∙ s.summed;
    } in
    let message : drop 8 (take (number_at payload 4) payload) ≡ m.message = ap (drop 8) cut ∙ drop_at header m.message 8 refl in
    udp_read d passes ∙ rw (first, message) refl

-- ---- the whole

-- what the tests of the LISP header say
record PassesLisp (bytes rest : List ℕ) : Type 0 where
  pub long : 4 ≤ length bytes
  pub behind : drop 4 bytes ≡ rest
  pub kind : get_or bytes 0 0 / 16 ≡ 8
  pub plain : get_or bytes 0 0 / 8 % 2 ≡ 0

-- a bit that is tested to be clear is 0
clear : (n : ℕ) → n < 2 → not (eqb n 1) ≡ true → n ≡ 0
clear zero lt e = refl
clear (suc zero) lt e = absurd cc
clear (suc (suc n)) lt e = absurd (omega arith)

lisp_passes : (bytes rest : List ℕ) → lisp_at bytes ≡ Ok rest → PassesLisp bytes rest
unfolding lisp_at
lisp_passes bytes rest e =
    let kind : Bool = eqb (get_or bytes 0 0 / 16) 8 in
    let plain : Bool = not (is_set (get_or bytes 0 0) 8) in
    let a = bind_ok (after 4 bytes) (λ r. require faults.Kind kind >>= λ _. require faults.Security plain >>= λ _. done r) rest e in
    let b = bind_ok (require faults.Kind kind) (λ _. require faults.Security plain >>= λ _. done a.0) rest a.2 in
    let c = bind_ok (require faults.Security plain) (λ _. done a.0) rest b.2 in
    let g = after_takes 4 bytes a.0 a.1 in
    record {
      long = g.0;
      behind = g.1 ∙ ok_is a.0 rest c.2;
      kind = eqb-true (get_or bytes 0 0 / 16) 8 (require_takes faults.Kind kind b.0 b.1);
      plain = clear (get_or bytes 0 0 / 8 % 2) (omega arith) (require_takes faults.Security plain c.0 c.1);
    }

lisp_read : (kind high mid low : ℕ) (rest : List ℕ) → kind / 16 ≡ 8 → kind / 8 % 2 ≡ 0 → lisp_at (kind ∷ high ∷ mid ∷ low ∷ rest) ≡ Ok rest
unfolding lisp_at
lisp_read kind high mid low rest type plain = rw (after_again 4 (kind ∷ high ∷ mid ∷ low ∷ []) rest refl, type, plain) refl

encapsulated_made : (bytes rest : List ℕ) (d : DatagramValue) (m : EncapsulatedValue) → PassesLisp bytes rest → SpellsDatagram rest d → SpellsUdp d.payload m → carried d ≡ m → SpellsEncapsulated bytes m
encapsulated_made (b0 ∷ b1 ∷ b2 ∷ b3 ∷ bytes) rest d m head carries udp is = record {
  kind = b0;
  reserved_high = b1;
  reserved_mid = b2;
  reserved_low = b3;
  datagram = rest;
  payload = d.payload;
  parts = ap (λ (t : List ℕ). b0 ∷ b1 ∷ b2 ∷ b3 ∷ t) head.behind;
  encapsulated = head.kind;
  plain = head.plain;
  carries = subst (λ (x : EncapsulatedValue). SpellsDatagram rest (record { source = x.source; destination = x.destination; payload = d.payload })) is carries;
  udp = udp;
}
encapsulated_made _ rest d m head carries udp is = absurd (omega (arith, head.long))

-- an encapsulated message that was read is spelled by the bytes
pub encapsulated_takes : (bytes : List ℕ) (m : EncapsulatedValue) → IsBytes bytes → encapsulated_at bytes ≡ Ok m → SpellsEncapsulated bytes m
unfolding encapsulated_at
encapsulated_takes bytes m fits e =
    let a = bind_ok (lisp_at bytes) (λ rest. datagram_at rest >>= λ datagram. udp_at datagram) m e in
    let b = bind_ok (datagram_at a.0) (λ datagram. udp_at datagram) m a.2 in
    let head = lisp_passes bytes a.0 a.1 in
    let rest = IsBytes-rest bytes (take 4 bytes) a.0 (sym (take-append-drop 4 bytes) ∙ ap (λ (t : List ℕ). take 4 bytes ++ t) head.behind) fits in
    let carries = datagram_takes a.0 b.0 rest b.1 in
    let behind = IsBytes-rest a.0 carries.header (b.0.payload ++ carries.tail) carries.parts rest in
    let udp = udp_takes b.0 m (IsBytes-first b.0.payload carries.tail behind) b.2 in
    encapsulated_made bytes a.0 b.0 m head carries udp.0 udp.1

-- an encapsulated message that is spelled is read
pub encapsulated_again : (bytes : List ℕ) (m : EncapsulatedValue) → SpellsEncapsulated bytes m → encapsulated_at bytes ≡ Ok m
unfolding encapsulated_at
encapsulated_again bytes m s =
    let first = lisp_read s.kind s.reserved_high s.reserved_mid s.reserved_low s.datagram s.encapsulated s.plain in
    let second = datagram_again s.datagram (record { source = m.source; destination = m.destination; payload = s.payload }) s.carries in
    rw (s.parts, first, second) (udp_again s.payload m s.udp)

-- bytes spell at most one encapsulated message
pub one_encapsulated : (bytes : List ℕ) (m n : EncapsulatedValue) → SpellsEncapsulated bytes m → SpellsEncapsulated bytes n → m ≡ n
one_encapsulated bytes m n s t = ok_is m n (sym (encapsulated_again bytes m s) ∙ encapsulated_again bytes n t)

-- a header has addresses of one family
header_family : (header : List ℕ) (source destination : Addr) (len : ℕ) → SpellsHeader header source destination len → family source ≡ family destination
header_family header (V4 source) (V4 destination) len s = refl
header_family header (V6 source) (V6 destination) len s = refl
header_family header _ _ len s = absurd s

pub one_family : (bytes : List ℕ) (m : EncapsulatedValue) → SpellsEncapsulated bytes m → family m.source ≡ family m.destination
one_family bytes m s = header_family s.carries.header m.source m.destination (length s.payload) s.carries.spells
