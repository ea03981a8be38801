-- The written spelling of an encapsulated message is one of its spellings: both headers carry their checksums.
use Rattle.std.proofs.Common.{◌≡◌, ℕ, ◌+◌, ◌-◌, ◌^◌, ◌<◌, ◌≤◌, true, eqb, List, [], ◌∷◌, ◌++◌, length, take, Ok, refl, sym, ap, subst, ◌∙◌, append_assoc, append-nil, arith}
use Rattle.std.specs.Int.{w16, to_be_bytes}
use Rattle.std.proofs.lemmas.Bool.{ne_eqb, or_right}
use Rattle.std.proofs.lemmas.List.{length-append}
use Rattle.std.proofs.lemmas.Nat.{from_be_bytes-to_be_bytes_2}
use Rattle.lisp_records.specs.declared.address.Addr.{Addr}
use Rattle.lisp_records.specs.declared.address.Addr.TheVariants.{V4, V6}
use Rattle.lisp_records.specs.Address.{IsWhole, family, octets}
use Rattle.lisp_records.specs.Reading.{number_at}
use Rattle.lisp_records.proofs.Fields.{each_byte}
use Rattle.lisp_requests.specs.Checksum.{AreWords, plus, words, sum_from, sum_of, pseudo_end, pseudo_header, udp_sum, udp_checksum_of}
use Rattle.lisp_requests.specs.Encapsulated.{EncapsulatedValue, IsEncapsulated, SpellsIpv4, SpellsHeader, SpellsEncapsulated, udp_header, is_summed, ipv4_head, ipv4_sum, ip_head, addresses, bare_sum, summed_header, written_encapsulated, encapsulated_at}
use Rattle.lisp_requests.proofs.EncapsulatedLaws.{encapsulated_again}
use Rattle.lisp_requests.proofs.Sums.{AreBytes, words-fit, bytes-append, sum-fits, carries, without-fits, checks, udp_checks, udp_checksum-fits, udp_checksum-some}

-- ---- IPv4

-- the words before the checksum
abbrev front4 : ℕ → List ℕ
front4 len = words (take 10 (ipv4_head len 0))

words4 : (len checksum : ℕ) (rest : List ℕ) → checksum < 2 ^ 16 → words (ipv4_head len checksum ++ rest) ≡ front4 len ++ checksum ∷ words rest
unfolding words
words4 len checksum rest fits = ap (λ (w : ℕ). front4 len ++ w ∷ words rest) (from_be_bytes-to_be_bytes_2 checksum fits)

front4-fits : (len : ℕ) → 20 + len < 2 ^ 16 → AreWords (front4 len)
unfolding words
front4-fits len fits = (omega arith, (omega (arith, from_be_bytes-to_be_bytes_2 (20 + len) fits), (omega arith, (omega arith, (omega arith, tt)))))

-- an IPv4 header with its checksum sums to all ones
summed4 : (source destination : List ℕ) (len : ℕ) → AreBytes source → AreBytes destination → 20 + len < 2 ^ 16 → sum_of (ipv4_head len (65535 - ipv4_sum (V4 source) (V4 destination) len) ++ (source ++ destination)) ≡ 65535
summed4 source destination len one two fits =
    let rest : List ℕ = source ++ destination in
    let sum : ℕ = ipv4_sum (V4 source) (V4 destination) len in
    let checksum : ℕ = 65535 - sum in
    let back : AreWords (words rest) = words-fit rest (bytes-append source destination one two) in
    let front : AreWords (front4 len) = front4-fits len fits in
    let bare : sum ≡ sum_from 0 (front4 len ++ 0 ∷ words rest) = ap (sum_from 0) (words4 len 0 rest (omega arith)) in
    let small : sum ≤ 65535 = rw bare (without-fits 0 (front4 len) (words rest) (omega arith) front back) in
    ap (sum_from 0) (words4 len checksum rest (omega arith)) ∙ carries 0 checksum (front4 len) (words rest) (omega arith) (omega arith) front back (ap (λ (n : ℕ). plus n checksum) (sym bare) ∙ checks sum small)

spelled4 : (source destination : List ℕ) (len : ℕ) → IsWhole (V4 source) → IsWhole (V4 destination) → 20 + len < 2 ^ 16
    → SpellsIpv4 (ip_head (V4 source) (V4 destination) len ++ (source ++ destination)) source destination (length (ip_head (V4 source) (V4 destination) len ++ (source ++ destination)) + len)
spelled4 source destination len one two fits =
    let checksum : ℕ = 65535 - ipv4_sum (V4 source) (V4 destination) len in
    let header : List ℕ = ipv4_head len checksum ++ (source ++ destination) in
    let twenty : length header ≡ 20 = omega (arith, length-append source destination, one.width, two.width) in
    let total : 20 + len ≡ length header + len = omega (arith, twenty) in
    let end = λ (n : ℕ) (rest : List ℕ). 69 ∷ 0 ∷ to_be_bytes w16 n ++ 0 ∷ 0 ∷ 0 ∷ 0 ∷ 64 ∷ 17 ∷ to_be_bytes w16 checksum ++ (source ++ rest) in
    record {
      first = 69;
      service = 0;
      id_high = 0;
      id_low = 0;
      fragment_high = 0;
      fragment_low = 0;
      hops = 64;
      sum_high = _;
      sum_low = _;
      options = [];
      parts = ap (λ (t : List ℕ). end (20 + len) t) (sym (append-nil destination)) ∙ ap (λ (n : ℕ). end n (destination ++ [])) total;
      version = refl;
      ihl = sym twenty;
      total_fits = omega (arith, total, fits);
      unfragmented = refl;
      summed = summed4 source destination len one.bytes two.bytes fits;
    }

header_spelled : (source destination : Addr) (len : ℕ) → family source ≡ family destination → IsWhole source → IsWhole destination → 20 + len < 2 ^ 16 → SpellsHeader (ip_head source destination len ++ addresses source destination) source destination len
header_spelled (V4 source) (V4 destination) len same one two fits = (one.width, two.width, spelled4 source destination len one two fits)
header_spelled (V6 source) (V6 destination) len same one two fits = (one.width, two.width, record { first = 96; label_high = 0; label_mid = 0; label_low = 0; hops = 64; parts = refl; version = refl; len_fits = omega arith })
header_spelled _ _ len same one two fits = absurd cc

-- ---- UDP

-- the words before the checksum
abbrev front_udp : ℕ → ℕ → List ℕ
front_udp port len = words (take 6 (udp_header port len 0))

words_udp : (port len checksum : ℕ) (message : List ℕ) → checksum < 2 ^ 16 → words (udp_header port len checksum ++ message) ≡ front_udp port len ++ checksum ∷ words message
unfolding words
words_udp port len checksum message fits = ap (λ (w : ℕ). front_udp port len ++ w ∷ words message) (from_be_bytes-to_be_bytes_2 checksum fits)

front_udp-fits : (port len : ℕ) → port < 2 ^ 16 → len < 2 ^ 16 → AreWords (front_udp port len)
unfolding words
front_udp-fits port len lp ll = (omega (arith, from_be_bytes-to_be_bytes_2 port lp), (omega arith, (omega (arith, from_be_bytes-to_be_bytes_2 len ll), tt)))

pseudo_end-bytes : (source : Addr) (len : ℕ) → AreBytes (pseudo_end source len)
pseudo_end-bytes (V4 bytes) len = (omega arith, (omega arith, (omega arith, (omega arith, tt))))
pseudo_end-bytes (V6 bytes) len = (omega arith, (omega arith, (omega arith, (omega arith, (omega arith, (omega arith, (omega arith, (omega arith, tt))))))))

pseudo-fits : (source destination : Addr) (len : ℕ) → IsWhole source → IsWhole destination → sum_of (pseudo_header source destination len) ≤ 65535
pseudo-fits source destination len one two =
    let bytes = bytes-append (octets source) (octets destination ++ pseudo_end source len) one.bytes (bytes-append (octets destination) (pseudo_end source len) two.bytes (pseudo_end-bytes source len)) in
    sum-fits 0 (words (pseudo_header source destination len)) (omega arith) (words-fit (pseudo_header source destination len) bytes)

-- the sum without the checksum has 16 bits, and with it is all ones
udp_summed : (m : EncapsulatedValue) → IsEncapsulated m → (bare_sum m ≤ 65535) × (udp_sum m.source m.destination (summed_header m ++ m.message) ≡ 65535)
udp_summed m is =
    let len : ℕ = 8 + length m.message in
    let whole : ℕ = length (udp_header m.port len 0 ++ m.message) in
    let start : ℕ = sum_of (pseudo_header m.source m.destination whole) in
    let sum : ℕ = bare_sum m in
    let checksum : ℕ = udp_checksum_of sum in
    let le : start ≤ 65535 = pseudo-fits m.source m.destination whole is.source is.destination in
    let front : AreWords (front_udp m.port len) = front_udp-fits m.port len is.port (omega (arith, is.fits)) in
    let back : AreWords (words m.message) = words-fit m.message (each_byte m.message is.message) in
    let bare : sum ≡ sum_from start (front_udp m.port len ++ 0 ∷ words m.message) = ap (sum_from start) (words_udp m.port len 0 m.message (omega arith)) in
    let small : sum ≤ 65535 = rw bare (without-fits start (front_udp m.port len) (words m.message) le front back) in
    let fits : checksum ≤ 65535 = udp_checksum-fits sum in
    (small, ap (sum_from start) (words_udp m.port len checksum m.message (omega (arith, fits))) ∙ carries start checksum (front_udp m.port len) (words m.message) le fits front back (ap (λ (n : ℕ). plus n checksum) (sym bare) ∙ udp_checks sum small))

tested : (source destination : Addr) (datagram : List ℕ) (checksum : ℕ) → number_at datagram 6 ≡ checksum → (checksum ≡ 0 → ⊥) → udp_sum source destination datagram ≡ 65535 → is_summed source destination datagram ≡ true
tested (V4 source) destination datagram checksum number some sums = or_right (eqb (number_at datagram 6) 0) _ (ap (λ (n : ℕ). eqb n 65535) sums)
tested (V6 source) destination datagram checksum number some sums = rw (number, ne_eqb checksum 0 some, sums) refl

-- ---- the whole

-- the written spelling of an encapsulated message is one of its spellings
pub encapsulated_spelled : (m : EncapsulatedValue) → IsEncapsulated m → SpellsEncapsulated (written_encapsulated m) m
unfolding written_encapsulated
encapsulated_spelled m is =
    let len : ℕ = 8 + length m.message in
    let payload : List ℕ = summed_header m ++ m.message in
    let head = ip_head m.source m.destination len in
    let both = addresses m.source m.destination in
    let checksum : ℕ = udp_checksum_of (bare_sum m) in
    let sums = udp_summed m is in
    let fits : checksum ≤ 65535 = udp_checksum-fits (bare_sum m) in
    let whole : length payload ≡ len = omega arith in
    record {
      kind = 128;
      reserved_high = 0;
      reserved_mid = 0;
      reserved_low = 0;
      datagram = head ++ (both ++ payload);
      payload = payload;
      parts = refl;
      encapsulated = refl;
      plain = refl;
      carries = record {
        header = head ++ both;
        tail = [];
        parts = sym (append_assoc head both payload) ∙ ap (λ (t : List ℕ). (head ++ both) ++ t) (sym (append-nil payload));
        spells = subst (SpellsHeader (head ++ both) m.source m.destination) (sym whole) (header_spelled m.source m.destination len is.one_family is.source is.destination (omega (arith, is.fits)));
      };
      udp = record {
        checksum = checksum;
        tail = [];
        parts = sym (append-nil payload);
        port = is.port;
        length_fits = omega (arith, is.fits);
        checksum_fits = omega (arith, fits);
        summed = tested m.source m.destination payload checksum (from_be_bytes-to_be_bytes_2 checksum (omega (arith, fits))) (udp_checksum-some (bare_sum m) sums.0) sums.1;
      };
    }

-- what was written is read again
pub reads_back : (m : EncapsulatedValue) → IsEncapsulated m → encapsulated_at (written_encapsulated m) ≡ Ok m
reads_back m is = encapsulated_again (written_encapsulated m) m (encapsulated_spelled m is)
