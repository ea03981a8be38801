-- The inner headers that are written, by what the program makes of them.
use Rattle.std.proofs.Common.{◌≡◌, ℕ, ◌+◌, ◌-◌, List, [], ◌++◌, length, Result, Ok, Err, refl, sym, ap, ◌∙◌, append_assoc, arith}
use Rattle.std.specs.Prelude.{OnOk, is_ok, if◌then◌else◌}
use Rattle.lisp_records.specs.declared.address.Addr.{Addr}
use Rattle.lisp_records.specs.declared.address.Addr.TheVariants.{V4}
use Rattle.lisp_records.specs.Address.{IsWhole, octets}
use Rattle.lisp_requests.specs.Checksum.{words, sum_from, sum_of, pseudo_header}
use Rattle.lisp_requests.specs.Encapsulated.{EncapsulatedValue, ipv4_head, ipv4_sum, ip_head, addresses, lisp_head, udp_header, summed_header, bare_sum, written_encapsulated}
use Rattle.lisp_requests.proofs.Sums.{sum_header, sum_parts}

-- what was written where there was memory
pub where_ok : {E : Type 0} (r : Result (Unit {0}) E) (new a b : List ℕ) → new ≡ (if is_ok r then a else b) → OnOk r (new ≡ a)
where_ok (Ok x) new a b is = is
where_ok (Err e) new a b is = tt

-- IPv4 before the addresses
pub v4_head : (source destination : Addr) (bytes head : List ℕ) (len sum : ℕ) → source ≡ V4 bytes → sum ≡ ipv4_sum source destination len → head ≡ ipv4_head len (65535 - sum) → head ≡ ip_head source destination len
v4_head source destination bytes head len sum is summed made = made ∙ rw (summed, is) refl

-- the sum of an IPv4 header, part by part
pub v4_sum : (source destination : Addr) (head : List ℕ) (len a b c : ℕ) → IsWhole source → head ≡ ipv4_head len 0 → a ≡ sum_from 0 (words head) → b ≡ sum_from a (words (octets source)) → c ≡ sum_from b (words (octets destination)) → c ≡ ipv4_sum source destination len
v4_sum source destination head len a b c whole made first second third =
    third ∙ rw (second, first, made) (sym (sum_header 0 6 (ipv4_head len 0) source destination refl whole))

-- the sum of a UDP datagram, part by part
pub bare_parts : (m : EncapsulatedValue) (len a b c : ℕ) → len ≡ 8 + length m.message → a ≡ sum_of (pseudo_header m.source m.destination len) → b ≡ sum_from a (words (udp_header m.port len 0)) → c ≡ sum_from b (words m.message) → c ≡ bare_sum m
bare_parts m len a b c is first second third =
    let header = udp_header m.port (8 + length m.message) 0 in
    let whole : length (header ++ m.message) ≡ 8 + length m.message = omega arith in
    third ∙ rw (second, first, is) (sym (rw whole (sum_parts (sum_of (pseudo_header m.source m.destination (8 + length m.message))) 4 header m.message refl)))

-- the LISP header, the IP header, then the UDP datagram
pub encapsulated_put : (m : EncapsulatedValue) (old one two new : List ℕ) (len : ℕ) → old ≡ [] → len ≡ 8 + length m.message → one ≡ old ++ lisp_head → two ≡ one ++ (ip_head m.source m.destination len ++ addresses m.source m.destination) → new ≡ two ++ (summed_header m ++ m.message) → new ≡ written_encapsulated m
unfolding written_encapsulated
encapsulated_put m old one two new len empty is first second third =
    let head = ip_head m.source m.destination (8 + length m.message) in
    let both = addresses m.source m.destination in
    let end = summed_header m ++ m.message in
    third ∙ rw (second, first, empty, is) (append_assoc lisp_head (head ++ both) end ∙ ap (λ (t : List ℕ). lisp_head ++ t) (append_assoc head both end))
