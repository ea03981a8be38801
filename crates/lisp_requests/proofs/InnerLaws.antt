-- An IP datagram that is read is spelled so, and one that is spelled so is read.
use Rattle.std.proofs.Common.{◌≡◌, ℕ, suc, ◌+◌, ◌-◌, ◌*◌, ◌/◌, ◌%◌, ◌≤◌, Bool, true, false, cond, eqb, leb, ◌&&◌, List, [], ◌∷◌, ◌++◌, length, take, drop, get_or, Result, Ok, Err, refl, sym, ap, subst, ◌∙◌, append_assoc, arith}
use Rattle.std.specs.Int.{w16, to_be_bytes}
use Rattle.std.proofs.lemmas.Bool.{and_parts, leb-true, le-leb, eqb-true, le-ltb}
use Rattle.std.proofs.lemmas.List.{take_at, drop_at, drop-take, take-take, take-append-drop, length-append, length-take-le, length-drop}
use Rattle.std.proofs.lemmas.Nat.{from_be_bytes-to_be_bytes_2}
use Rattle.std.proofs.Math.Seq.{take-append-add}
use Rattle.lisp_records.specs.declared.address.Addr.{Addr}
use Rattle.lisp_records.specs.declared.address.Addr.TheVariants.{V4, V6}
use Rattle.lisp_records.specs.Spelling.{IsBytes}
use Rattle.lisp_records.specs.Reading.{number_at}
use Rattle.lisp_records.specs.Result.{◌>>=◌}
use Rattle.lisp_records.proofs.Fields.{two_bytes}
use Rattle.lisp_requests.specs.declared.fault.RequestFault.{RequestFault}
use Rattle.lisp_requests.specs.declared.fault.RequestFault.TheVariants as faults
use Rattle.lisp_requests.specs.Checksum.{sum_of}
use Rattle.lisp_requests.specs.Reading.{after, require}
use Rattle.lisp_requests.specs.Encapsulated.{DatagramValue, SpellsIpv4, SpellsIpv6, SpellsHeader, SpellsDatagram, header_len, ipv4_at, ipv6_at, datagram_at}
use Rattle.lisp_requests.proofs.Fields.{bind_ok, require_takes, done, ok_is, after_takes}

-- a field of so many bytes is there
pub after_long : (n : ℕ) (bytes : List ℕ) → n ≤ length bytes → after n bytes ≡ Ok (drop n bytes)
after_long n bytes long = rw (le-ltb (length bytes) n long) refl

-- ---- IPv4

-- what the tests of an IPv4 header say
record Passes4 (bytes : List ℕ) : Type 0 where
  pub long : 20 ≤ length bytes
  pub header : 20 ≤ header_len bytes
  pub inside : header_len bytes ≤ number_at bytes 2
  pub within : number_at bytes 2 ≤ length bytes
  pub whole : number_at bytes 6 % 16384 ≡ 0
  pub udp : get_or bytes 9 0 ≡ 17
  pub summed : sum_of (take (header_len bytes) bytes) ≡ 65535

-- the datagram of an IPv4 header
abbrev datagram4 : List ℕ → DatagramValue
datagram4 bytes = record { source = V4 (take 4 (drop 12 bytes)); destination = V4 (take 4 (drop 16 bytes)); payload = drop (header_len bytes) (take (number_at bytes 2) bytes) }

ipv4_passes : (bytes : List ℕ) (d : DatagramValue) → ipv4_at bytes ≡ Ok d → Passes4 bytes × (datagram4 bytes ≡ d)
unfolding ipv4_at
ipv4_passes bytes d e =
    let h = leb 20 (header_len bytes) in
    let l = leb (header_len bytes) (number_at bytes 2) && leb (number_at bytes 2) (length bytes) in
    let f = eqb (number_at bytes 6 % 16384) 0 in
    let p = eqb (get_or bytes 9 0) 17 in
    let s = eqb (sum_of (take (header_len bytes) bytes)) 65535 in
    let end = done (datagram4 bytes) in
    let by_s = require faults.IpChecksum s >>= λ _. end in
    let by_p = require faults.Protocol p >>= λ _. by_s in
    let by_f = require faults.Fragment f >>= λ _. by_p in
    let by_l = require faults.IpLength l >>= λ _. by_f in
    let a = bind_ok (after 20 bytes) (λ _. require faults.IpHeaderLength h >>= λ _. by_l) d e in
    let b = bind_ok (require faults.IpHeaderLength h) (λ _. by_l) d a.2 in
    let c = bind_ok (require faults.IpLength l) (λ _. by_f) d b.2 in
    let g = bind_ok (require faults.Fragment f) (λ _. by_p) d c.2 in
    let u = bind_ok (require faults.Protocol p) (λ _. by_s) d g.2 in
    let t = bind_ok (require faults.IpChecksum s) (λ _. end) d u.2 in
    let lens = and_parts (leb (header_len bytes) (number_at bytes 2)) (leb (number_at bytes 2) (length bytes)) (require_takes faults.IpLength l c.0 c.1) in (
      record {
        long = (after_takes 20 bytes a.0 a.1).0;
        header = leb-true 20 (header_len bytes) (require_takes faults.IpHeaderLength h b.0 b.1);
        inside = leb-true (header_len bytes) (number_at bytes 2) lens.0;
        within = leb-true (number_at bytes 2) (length bytes) lens.1;
        whole = eqb-true (number_at bytes 6 % 16384) 0 (require_takes faults.Fragment f g.0 g.1);
        udp = eqb-true (get_or bytes 9 0) 17 (require_takes faults.Protocol p u.0 u.1);
        summed = eqb-true (sum_of (take (header_len bytes) bytes)) 65535 (require_takes faults.IpChecksum s t.0 t.1);
      },
      ok_is (datagram4 bytes) d t.2,
    )

ipv4_read : (bytes : List ℕ) → Passes4 bytes → ipv4_at bytes ≡ Ok (datagram4 bytes)
unfolding ipv4_at
ipv4_read bytes p =
    let sum : eqb (sum_of (take (header_len bytes) bytes)) 65535 ≡ true = ap (λ (n : ℕ). eqb n 65535) p.summed in
    let udp : eqb (get_or bytes 9 0) 17 ≡ true = ap (λ (n : ℕ). eqb n 17) p.udp in
    let whole : eqb (number_at bytes 6 % 16384) 0 ≡ true = ap (λ (n : ℕ). eqb n 0) p.whole in
    rw (after_long 20 bytes p.long, le-leb 20 (header_len bytes) p.header, le-leb (header_len bytes) (number_at bytes 2) p.inside, le-leb (number_at bytes 2) (length bytes) p.within, whole, udp, sum) refl

-- an IPv4 header, by its first 20 bytes
header4 : (bytes : List ℕ) → IsBytes bytes → get_or bytes 0 0 / 16 ≡ 4 → Passes4 bytes → SpellsIpv4 (take (header_len bytes) bytes) (take 4 (drop 12 bytes)) (take 4 (drop 16 bytes)) (number_at bytes 2)
header4 (b0 ∷ b1 ∷ b2 ∷ b3 ∷ b4 ∷ b5 ∷ b6 ∷ b7 ∷ b8 ∷ b9 ∷ b10 ∷ b11 ∷ b12 ∷ b13 ∷ b14 ∷ b15 ∷ b16 ∷ b17 ∷ b18 ∷ b19 ∷ bytes) fits version p =
    let front : List ℕ = b0 ∷ b1 ∷ b2 ∷ b3 ∷ b4 ∷ b5 ∷ b6 ∷ b7 ∷ b8 ∷ b9 ∷ b10 ∷ b11 ∷ b12 ∷ b13 ∷ b14 ∷ b15 ∷ b16 ∷ b17 ∷ b18 ∷ b19 ∷ [] in
    let h : ℕ = b0 % 16 * 4 in
    let more : ℕ = h - 20 in
    let is : h ≡ length front + more = omega (arith, p.header) in
    let options : List ℕ = take more bytes in
    let cut : take h (front ++ bytes) ≡ front ++ options = ap (λ (n : ℕ). take n (front ++ bytes)) is ∙ take-append-add front bytes more in
    let total : ℕ = number_at (front ++ bytes) 2 in
    let two : to_be_bytes w16 total ≡ b2 ∷ b3 ∷ [] = two_bytes b2 b3 total (fits 2) (fits 3) refl in
    let after_total = λ (udp : ℕ). b4 ∷ b5 ∷ b6 ∷ b7 ∷ b8 ∷ udp ∷ b10 ∷ b11 ∷ b12 ∷ b13 ∷ b14 ∷ b15 ∷ b16 ∷ b17 ∷ b18 ∷ b19 ∷ options in
    record {
      first = b0;
      service = b1;
      id_high = b4;
      id_low = b5;
      fragment_high = b6;
      fragment_low = b7;
      hops = b8;
      sum_high = b10;
      sum_low = b11;
      options = options;
      parts = cut ∙ ap (λ (t : List ℕ). b0 ∷ b1 ∷ (t ++ after_total b9)) (sym two) ∙ ap (λ (udp : ℕ). b0 ∷ b1 ∷ (to_be_bytes w16 total ++ after_total udp)) p.udp;
      version = version;
      ihl = sym (length-take-le h (front ++ bytes) (omega (arith, p.inside, p.within)));
      total_fits = omega (arith, fits 2, fits 3);
      unfragmented = p.whole;
      summed = p.summed;
    }
header4 _ fits version p = absurd (omega (arith, p.long))

-- a header, the payload that its length leaves, and what follows
split : (bytes : List ℕ) (h t : ℕ) → h ≤ t → t ≤ length bytes → (bytes ≡ take h bytes ++ (drop h (take t bytes) ++ drop (t - h) (drop h bytes))) × (length (take h bytes) + length (drop h (take t bytes)) ≡ t)
split bytes h t inside within =
    let p : ℕ = t - h in
    let is : t ≡ h + p = omega arith in
    let cut : drop h (take t bytes) ≡ take p (drop h bytes) = ap (λ (n : ℕ). drop h (take n bytes)) is ∙ drop-take h p bytes in
    let len : length (drop h (take t bytes)) ≡ p = ap length cut ∙ length-take-le p (drop h bytes) (omega (arith, length-drop h bytes)) in (
      sym (ap (λ (x : List ℕ). take h bytes ++ (x ++ drop p (drop h bytes))) cut ∙ ap (λ (x : List ℕ). take h bytes ++ x) (take-append-drop p (drop h bytes)) ∙ take-append-drop h bytes),
      omega (arith, len, length-take-le h bytes (omega arith)),
    )

four : (n : ℕ) (bytes : List ℕ) → n + 4 ≤ length bytes → length (take 4 (drop n bytes)) ≡ 4
four n bytes long = length-take-le 4 (drop n bytes) (omega (arith, length-drop n bytes))

ipv4_takes : (bytes : List ℕ) (d : DatagramValue) → IsBytes bytes → get_or bytes 0 0 / 16 ≡ 4 → ipv4_at bytes ≡ Ok d → SpellsDatagram bytes d
ipv4_takes bytes d fits version e =
    let all = ipv4_passes bytes d e in
    let p = all.0 in
    let cut = split bytes (header_len bytes) (number_at bytes 2) p.inside p.within in
    subst (SpellsDatagram bytes) all.1 (record {
      header = take (header_len bytes) bytes;
      tail = _;
      parts = cut.0;
      spells = (four 12 bytes (omega (arith, p.long)), four 16 bytes (omega (arith, p.long)), subst (SpellsIpv4 (take (header_len bytes) bytes) (take 4 (drop 12 bytes)) (take 4 (drop 16 bytes))) (sym cut.1) (header4 bytes fits version p));
    })

-- bytes that begin with so many bytes of a header and with a payload
payload_of : (header payload tail : List ℕ) → drop (length header) (take (length header + length payload) (header ++ (payload ++ tail))) ≡ payload
payload_of header payload tail =
    ap (drop (length header)) (take-append-add header (payload ++ tail) (length payload) ∙ ap (λ (t : List ℕ). header ++ t) (take_at payload tail (length payload) refl)) ∙ drop_at header payload (length header) refl

ipv4_again : (header source destination payload tail : List ℕ) → length source ≡ 4 → length destination ≡ 4 → SpellsIpv4 header source destination (length header + length payload)
    → (ipv4_at (header ++ (payload ++ tail)) ≡ Ok (record { source = V4 source; destination = V4 destination; payload = payload })) × (get_or (header ++ (payload ++ tail)) 0 0 / 16 ≡ 4)
ipv4_again header source destination payload tail one two s =
    let total : ℕ = length header + length payload in
    let bytes : List ℕ = header ++ (payload ++ tail) in
    let cells : List ℕ = s.first ∷ s.service ∷ to_be_bytes w16 total ++ s.id_high ∷ s.id_low ∷ s.fragment_high ∷ s.fragment_low ∷ s.hops ∷ 17 ∷ s.sum_high ∷ s.sum_low ∷ [] in
    let end : List ℕ = destination ++ (s.options ++ (payload ++ tail)) in
    let whole : bytes ≡ cells ++ (source ++ end) =
    ap (λ (t : List ℕ). t ++ (payload ++ tail)) s.parts ∙ ap (λ (t : List ℕ). cells ++ t) (append_assoc source (destination ++ s.options) (payload ++ tail) ∙ ap (λ (t : List ℕ). source ++ t) (append_assoc destination s.options (payload ++ tail))) in
    let ihl : header_len bytes ≡ length header = ap header_len whole ∙ s.ihl in
    let number : number_at bytes 2 ≡ total = ap (λ (t : List ℕ). number_at t 2) whole ∙ from_be_bytes-to_be_bytes_2 total s.total_fits in
    let cut : take (header_len bytes) bytes ≡ header = take_at header (payload ++ tail) (header_len bytes) (sym ihl) in
    let twenty : 20 ≤ length header = omega (arith, ap length s.parts, length-append source (destination ++ s.options), length-append destination s.options, one, two) in
    let long : length bytes ≡ length header + (length payload + length tail) = length-append header (payload ++ tail) ∙ ap (λ (n : ℕ). length header + n) (length-append payload tail) in
    let passes : Passes4 bytes = record {
      long = omega (arith, twenty, long);
      header = omega (arith, twenty, ihl);
      inside = omega (arith, ihl, number);
      within = omega (arith, number, long);
      whole = ap (λ (t : List ℕ). number_at t 6 % 16384) whole ∙ s.unfragmented;
      udp = ap (λ (t : List ℕ). get_or t 9 0) whole;
      summed = ap sum_of cut ∙ s.summed;
    } in
    let by_source : take 4 (drop 12 bytes) ≡ source = ap (λ (t : List ℕ). take 4 (drop 12 t)) whole ∙ take_at source end 4 one in
    let by_destination : take 4 (drop 16 bytes) ≡ destination = ap (λ (t : List ℕ). take 4 (drop 16 t)) whole ∙ ap (take 4) (drop_at source end 4 one) ∙ take_at destination (s.options ++ (payload ++ tail)) 4 two in
    let by_payload : drop (header_len bytes) (take (number_at bytes 2) bytes) ≡ payload = rw (ihl, number) (payload_of header payload tail) in
    (ipv4_read bytes passes ∙ rw (by_source, by_destination, by_payload) refl, ap (λ (t : List ℕ). get_or t 0 0 / 16) whole ∙ s.version)

-- ---- IPv6

-- what the tests of an IPv6 header say
record Passes6 (bytes : List ℕ) : Type 0 where
  pub long : 40 ≤ length bytes
  pub within : number_at bytes 4 ≤ length (drop 40 bytes)
  pub udp : get_or bytes 6 0 ≡ 17

abbrev datagram6 : List ℕ → List ℕ → DatagramValue
datagram6 bytes rest = record { source = V6 (take 16 (drop 8 bytes)); destination = V6 (take 16 (drop 24 bytes)); payload = take (number_at bytes 4) rest }

ipv6_passes : (bytes : List ℕ) (d : DatagramValue) → ipv6_at bytes ≡ Ok d → Passes6 bytes × (datagram6 bytes (drop 40 bytes) ≡ d)
unfolding ipv6_at
ipv6_passes bytes d e =
    let l = λ (rest : List ℕ). leb (number_at bytes 4) (length rest) in
    let p = eqb (get_or bytes 6 0) 17 in
    let end = λ (rest : List ℕ). done (datagram6 bytes rest) in
    let a = bind_ok (after 40 bytes) (λ rest. require faults.IpLength (l rest) >>= λ _. require faults.Protocol p >>= λ _. end rest) d e in
    let b = bind_ok (require faults.IpLength (l a.0)) (λ _. require faults.Protocol p >>= λ _. end a.0) d a.2 in
    let c = bind_ok (require faults.Protocol p) (λ _. end a.0) d b.2 in
    let g = after_takes 40 bytes a.0 a.1 in (
      record {
        long = g.0;
        within = subst (λ (t : List ℕ). number_at bytes 4 ≤ length t) (sym g.1) (leb-true (number_at bytes 4) (length a.0) (require_takes faults.IpLength (l a.0) b.0 b.1));
        udp = eqb-true (get_or bytes 6 0) 17 (require_takes faults.Protocol p c.0 c.1);
      },
      ap (datagram6 bytes) g.1 ∙ ok_is (datagram6 bytes a.0) d c.2,
    )

ipv6_read : (bytes : List ℕ) → Passes6 bytes → ipv6_at bytes ≡ Ok (datagram6 bytes (drop 40 bytes))
unfolding ipv6_at
ipv6_read bytes p =
    let udp : eqb (get_or bytes 6 0) 17 ≡ true = ap (λ (n : ℕ). eqb n 17) p.udp in
    rw (after_long 40 bytes p.long, le-leb (number_at bytes 4) (length (drop 40 bytes)) p.within, udp) refl

-- two parts of 16 bytes are 32
sixteens : (bytes : List ℕ) → take 32 bytes ≡ take 16 bytes ++ take 16 (drop 16 bytes)
sixteens bytes = sym (take-append-drop 16 (take 32 bytes)) ∙ ap (λ (t : List ℕ). t ++ drop 16 (take 32 bytes)) (take-take 16 32 bytes (omega arith)) ∙ ap (λ (t : List ℕ). take 16 bytes ++ t) (drop-take 16 16 bytes)

header6 : (bytes : List ℕ) → IsBytes bytes → get_or bytes 0 0 / 16 ≡ 6 → Passes6 bytes → SpellsIpv6 (take 40 bytes) (take 16 (drop 8 bytes)) (take 16 (drop 24 bytes)) (number_at bytes 4)
header6 (b0 ∷ b1 ∷ b2 ∷ b3 ∷ b4 ∷ b5 ∷ b6 ∷ b7 ∷ bytes) fits version p =
    let len : ℕ = number_at (b0 ∷ b1 ∷ b2 ∷ b3 ∷ b4 ∷ b5 ∷ b6 ∷ b7 ∷ bytes) 4 in
    let two : to_be_bytes w16 len ≡ b4 ∷ b5 ∷ [] = two_bytes b4 b5 len (fits 4) (fits 5) refl in
    let both = take 16 bytes ++ take 16 (drop 16 bytes) in
    record {
      first = b0;
      label_high = b1;
      label_mid = b2;
      label_low = b3;
      hops = b7;
      parts = ap (λ (t : List ℕ). b0 ∷ b1 ∷ b2 ∷ b3 ∷ b4 ∷ b5 ∷ b6 ∷ b7 ∷ t) (sixteens bytes) ∙ ap (λ (t : List ℕ). b0 ∷ b1 ∷ b2 ∷ b3 ∷ (t ++ (b6 ∷ b7 ∷ both))) (sym two) ∙ ap (λ (udp : ℕ). b0 ∷ b1 ∷ b2 ∷ b3 ∷ (to_be_bytes w16 len ++ (udp ∷ b7 ∷ both))) p.udp;
      version = version;
      len_fits = omega (arith, fits 4, fits 5);
    }
header6 _ fits version p = absurd (omega (arith, p.long))

sixteen : (n : ℕ) (bytes : List ℕ) → n + 16 ≤ length bytes → length (take 16 (drop n bytes)) ≡ 16
sixteen n bytes long = length-take-le 16 (drop n bytes) (omega (arith, length-drop n bytes))

ipv6_takes : (bytes : List ℕ) (d : DatagramValue) → IsBytes bytes → get_or bytes 0 0 / 16 ≡ 6 → ipv6_at bytes ≡ Ok d → SpellsDatagram bytes d
ipv6_takes bytes d fits version e =
    let all = ipv6_passes bytes d e in
    let p = all.0 in
    let len : ℕ = number_at bytes 4 in
    let rest : List ℕ = drop 40 bytes in
    let is : length (take len rest) ≡ len = length-take-le len rest p.within in
    subst (SpellsDatagram bytes) all.1 (record {
      header = take 40 bytes;
      tail = drop len rest;
      parts = sym (ap (λ (t : List ℕ). take 40 bytes ++ t) (take-append-drop len rest) ∙ take-append-drop 40 bytes);
      spells = (sixteen 8 bytes (omega (arith, p.long)), sixteen 24 bytes (omega (arith, p.long)), subst (SpellsIpv6 (take 40 bytes) (take 16 (drop 8 bytes)) (take 16 (drop 24 bytes))) (sym is) (header6 bytes fits version p));
    })

ipv6_again : (header source destination payload tail : List ℕ) → length source ≡ 16 → length destination ≡ 16 → SpellsIpv6 header source destination (length payload)
    → (ipv6_at (header ++ (payload ++ tail)) ≡ Ok (record { source = V6 source; destination = V6 destination; payload = payload })) × (get_or (header ++ (payload ++ tail)) 0 0 / 16 ≡ 6)
ipv6_again header source destination payload tail one two s =
    let bytes : List ℕ = header ++ (payload ++ tail) in
    let cells : List ℕ = s.first ∷ s.label_high ∷ s.label_mid ∷ s.label_low ∷ to_be_bytes w16 (length payload) ++ 17 ∷ s.hops ∷ [] in
    let end : List ℕ = payload ++ tail in
    let whole : bytes ≡ cells ++ (source ++ (destination ++ end)) = ap (λ (t : List ℕ). t ++ end) s.parts ∙ ap (λ (t : List ℕ). cells ++ t) (append_assoc source destination end) in
    let forty : length header ≡ 40 = omega (arith, ap length s.parts, length-append source destination, one, two) in
    let number : number_at bytes 4 ≡ length payload = ap (λ (t : List ℕ). number_at t 4) whole ∙ from_be_bytes-to_be_bytes_2 (length payload) s.len_fits in
    let rest : drop 40 bytes ≡ end = drop_at header end 40 forty in
    let passes : Passes6 bytes = record {
      long = omega (arith, forty, length-append header end);
      within = omega (arith, number, ap length rest, length-append payload tail);
      udp = ap (λ (t : List ℕ). get_or t 6 0) whole;
    } in
    let by_source : take 16 (drop 8 bytes) ≡ source = ap (λ (t : List ℕ). take 16 (drop 8 t)) whole ∙ take_at source (destination ++ end) 16 one in
    let by_destination : take 16 (drop 24 bytes) ≡ destination = ap (λ (t : List ℕ). take 16 (drop 24 t)) whole ∙ ap (take 16) (drop_at source (destination ++ end) 16 one) ∙ take_at destination end 16 two in
    let by_payload : take (number_at bytes 4) (drop 40 bytes) ≡ payload = rw (rest, number) (take_at payload tail (length payload) refl) in
    (ipv6_read bytes passes ∙ rw (by_source, by_destination, by_payload) refl, ap (λ (t : List ℕ). get_or t 0 0 / 16) whole ∙ s.version)

-- ---- either

-- by the version
abbrev chosen : Bool → Bool → List ℕ → Result DatagramValue RequestFault
chosen v4 v6 bytes = cond v4 (ipv4_at bytes) (cond v6 (ipv6_at bytes) (Err faults.IpVersion))

chosen_takes : (v4 v6 : Bool) (bytes : List ℕ) (d : DatagramValue) → IsBytes bytes → (v4 ≡ true → get_or bytes 0 0 / 16 ≡ 4) → (v6 ≡ true → get_or bytes 0 0 / 16 ≡ 6) → chosen v4 v6 bytes ≡ Ok d → SpellsDatagram bytes d
chosen_takes true v6 bytes d fits four six e = ipv4_takes bytes d fits (four refl) e
chosen_takes false true bytes d fits four six e = ipv6_takes bytes d fits (six refl) e
chosen_takes false false bytes d fits four six e = absurd cc

pub datagram_takes : (bytes : List ℕ) (d : DatagramValue) → IsBytes bytes → datagram_at bytes ≡ Ok d → SpellsDatagram bytes d
unfolding datagram_at
datagram_takes bytes d fits e =
    let version : ℕ = get_or bytes 0 0 / 16 in
    let a = bind_ok (after 1 bytes) (λ _. chosen (eqb version 4) (eqb version 6) bytes) d e in
    chosen_takes (eqb version 4) (eqb version 6) bytes d fits (eqb-true version 4) (eqb-true version 6) a.2

some_byte : (bytes : List ℕ) (n : ℕ) → get_or bytes 0 0 / 16 ≡ suc n → 1 ≤ length bytes
some_byte [] n is = absurd (omega (arith, is))
some_byte (b ∷ bytes) n is = omega arith

read4 : (bytes : List ℕ) (d : DatagramValue) → get_or bytes 0 0 / 16 ≡ 4 → ipv4_at bytes ≡ Ok d → datagram_at bytes ≡ Ok d
unfolding datagram_at
read4 bytes d version reads = rw (after_long 1 bytes (some_byte bytes 3 version), version, reads) refl

read6 : (bytes : List ℕ) (d : DatagramValue) → get_or bytes 0 0 / 16 ≡ 6 → ipv6_at bytes ≡ Ok d → datagram_at bytes ≡ Ok d
unfolding datagram_at
read6 bytes d version reads = rw (after_long 1 bytes (some_byte bytes 5 version), version, reads) refl

header_again : (header : List ℕ) (source destination : Addr) (payload tail : List ℕ) → SpellsHeader header source destination (length payload) → datagram_at (header ++ (payload ++ tail)) ≡ Ok (record { source = source; destination = destination; payload = payload })
header_again header (V4 source) (V4 destination) payload tail (one, two, s) =
    let all = ipv4_again header source destination payload tail one two s in
    read4 (header ++ (payload ++ tail)) _ all.1 all.0
header_again header (V6 source) (V6 destination) payload tail (one, two, s) =
    let all = ipv6_again header source destination payload tail one two s in
    read6 (header ++ (payload ++ tail)) _ all.1 all.0
header_again header _ _ payload tail s = absurd s

pub datagram_again : (bytes : List ℕ) (d : DatagramValue) → SpellsDatagram bytes d → datagram_at bytes ≡ Ok d
datagram_again bytes d s = ap datagram_at s.parts ∙ header_again s.header d.source d.destination d.payload s.tail s.spells
