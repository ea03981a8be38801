-- A Map-Request that is read is spelled so, and one that is spelled so is read.
use Rattle.std.proofs.Common.{◌≡◌, ◌≢◌, ℕ, suc, ◌+◌, ◌/◌, ◌%◌, ◌≤◌, Bool, eqb, List, [], ◌∷◌, ◌++◌, length, take, drop, get_or, Option, Ok, refl, sym, ap, subst, ◌∙◌, append-nil, arith}
use Rattle.std.specs.Prelude.{not}
use Rattle.std.specs.Int.{w64, from_be_bytes, to_be_bytes}
use Rattle.std.proofs.lemmas.Bool.{eqb-false, eqb-true, ne_eqb, not-true}
use Rattle.std.proofs.lemmas.List.{take-append-drop}
use Rattle.std.proofs.lemmas.Nat.{from_be_bytes-to_be_bytes_8}
use Rattle.lisp_records.specs.declared.address.Addr.{Addr}
use Rattle.lisp_records.specs.Address.{PrefixValue, IsWhole}
use Rattle.lisp_records.specs.Record.{bit}
use Rattle.lisp_records.specs.Spelling.{IsBytes}
use Rattle.lisp_records.specs.Written.{written_address}
use Rattle.lisp_records.specs.Result.{◌>>=◌}
use Rattle.lisp_records.proofs.Fields.{Takes, IsBytes-rest, IsBytes-take, bit-eqb, eqb-bit, bit_below}
use Rattle.lisp_requests.specs.declared.fault.RequestFault.TheVariants as faults
use Rattle.lisp_requests.specs.Format.{SpellsEach}
use Rattle.lisp_requests.specs.Reading.{after, require, items_at}
use Rattle.lisp_requests.specs.Request.{MapRequestValue, IsMapRequest, IsEid, SpellsAddress, SpellsSource, SpellsRecord, SpellsRequest, rloc_at, source_at, eid_at, head_at, front_at, map_request_of, rloc_count, request_at, request_kind, request_flags, request_counts, written_source, written_rlocs, written_eid, written_eids, written_request}
use Rattle.lisp_requests.proofs.EachLaws.{items_take, items_again, each_spelled}
use Rattle.lisp_requests.proofs.Fields.{bind_ok, require_takes, done, ok_is, after_takes, after_again, eight_bytes, eight_below}
use Rattle.lisp_requests.proofs.PartLaws.{rloc_takes, rloc_again, address_spelled, source_takes, source_again, source_spelled, eid_takes, eid_again, eid_spelled}

-- what the tests before the Source EID say
pub record Passes (bytes rest : List ℕ) : Type 0 where
  pub long : 12 ≤ length bytes
  pub behind : drop 12 bytes ≡ rest
  pub kind : get_or bytes 0 0 / 16 ≡ 1
  pub some : get_or bytes 3 0 ≢ 0

pub head_passes : (bytes rest : List ℕ) → head_at bytes ≡ Ok rest → Passes bytes rest
unfolding head_at
head_passes bytes rest e =
    let some : Bool = not (eqb (get_or bytes 3 0) 0) in
    let kind : Bool = eqb (get_or bytes 0 0 / 16) 1 in
    let a = bind_ok (after 12 bytes) (λ r. require faults.Kind kind >>= λ _. require faults.NoRecord some >>= λ _. done r) rest e in
    let b = bind_ok (require faults.Kind kind) (λ _. require faults.NoRecord some >>= λ _. done a.0) rest a.2 in
    let c = bind_ok (require faults.NoRecord some) (λ _. done a.0) rest b.2 in
    let g = after_takes 12 bytes a.0 a.1 in
    record {
      long = g.0;
      behind = g.1 ∙ ok_is a.0 rest c.2;
      kind = eqb-true (get_or bytes 0 0 / 16) 1 (require_takes faults.Kind kind b.0 b.1);
      some = eqb-false (get_or bytes 3 0) 0 (not-true (eqb (get_or bytes 3 0) 0) (require_takes faults.NoRecord some c.0 c.1));
    }

-- twelve bytes that pass the tests, a Source EID, ITR-RLOCs and records spell a Map-Request, whatever follows
request_made : (bytes middle : List ℕ) (source : Option Addr) (one : List ℕ) (rlocs : List Addr) (two : List ℕ) (eids : List PrefixValue) (tail : List ℕ) → IsBytes bytes → Passes bytes middle
    → Takes (λ text. SpellsSource text source) middle one → Takes (λ text. SpellsEach SpellsAddress text rlocs) one two → length rlocs ≡ rloc_count bytes → Takes (λ text. SpellsEach SpellsRecord text eids) two tail → length eids ≡ get_or bytes 3 0
    → SpellsRequest bytes (map_request_of bytes source rlocs eids)
request_made (b0 ∷ b1 ∷ b2 ∷ b3 ∷ b4 ∷ b5 ∷ b6 ∷ b7 ∷ b8 ∷ b9 ∷ b10 ∷ b11 ∷ bytes) middle source one rlocs two eids tail fits head from each rloc_number asked eid_number =
    let nonce : List ℕ = b4 ∷ b5 ∷ b6 ∷ b7 ∷ b8 ∷ b9 ∷ b10 ∷ b11 ∷ [] in
    let fit : IsBytes nonce = IsBytes-take 8 (b4 ∷ b5 ∷ b6 ∷ b7 ∷ b8 ∷ b9 ∷ b10 ∷ b11 ∷ bytes) (λ i. fits (suc (suc (suc (suc i))))) in
    let n : ℕ = from_be_bytes w64 nonce in
    let end : List ℕ = from.text ++ (each.text ++ (asked.text ++ tail)) in
    let behind : bytes ≡ end = head.behind ∙ from.parts ∙ ap (λ (t : List ℕ). from.text ++ t) (each.parts ∙ ap (λ (t : List ℕ). each.text ++ t) asked.parts) in
    let by_nonce = ap (λ (t : List ℕ). b0 ∷ b1 ∷ b2 ∷ b3 ∷ (t ++ bytes)) (sym (eight_bytes nonce refl fit)) in
    let by_count = ap (λ (k : ℕ). b0 ∷ b1 ∷ b2 ∷ k ∷ (to_be_bytes w64 n ++ bytes)) (sym eid_number) in
    let by_end = ap (λ (t : List ℕ). b0 ∷ b1 ∷ b2 ∷ length eids ∷ (to_be_bytes w64 n ++ t)) behind in
    record {
      kind = b0;
      flags = b1;
      counts = b2;
      source = from.text;
      itr_rlocs = each.text;
      eids = asked.text;
      tail = tail;
      parts = by_nonce ∙ by_count ∙ by_end;
      request = head.kind;
      authoritative = bit-eqb (b0 / 8 % 2) (omega arith);
      probe = bit-eqb (b0 / 2 % 2) (omega arith);
      smr = let same : b0 / 1 % 2 ≡ b0 % 2 = omega arith in sym same ∙ bit-eqb (b0 / 1 % 2) (omega arith);
      pitr = bit-eqb (b1 / 128 % 2) (omega arith);
      smr_invoked = bit-eqb (b1 / 64 % 2) (omega arith);
      local = bit-eqb (b2 / 64 % 2) (omega arith);
      no_reply = bit-eqb (b2 / 32 % 2) (omega arith);
      irc = rloc_number;
      some = λ is. head.some (sym eid_number ∙ is);
      nonce = eight_below nonce refl fit;
      from = from.kind;
      each_rloc = each.kind;
      each_eid = asked.kind;
    }
request_made _ middle source one rlocs two eids tail fits head from each rloc_number asked eid_number = absurd (omega (arith, head.long))

pub IsBytes-drop : (n : ℕ) (bytes rest : List ℕ) → n ≤ length bytes → drop n bytes ≡ rest → IsBytes bytes → IsBytes rest
IsBytes-drop n bytes rest long behind fits = IsBytes-rest bytes (take n bytes) rest (sym (take-append-drop n bytes) ∙ ap (λ (t : List ℕ). take n bytes ++ t) behind) fits

-- a Map-Request that was read is spelled by the bytes
pub request_takes : (bytes : List ℕ) (m : MapRequestValue) → IsBytes bytes → request_at bytes ≡ Ok m → SpellsRequest bytes m
unfolding request_at front_at
request_takes bytes m fits e =
    let end = λ (source : Option Addr) (rlocs : List Addr) (eids : List PrefixValue). done (map_request_of bytes source rlocs eids) in
    let a = bind_ok (head_at bytes >>= λ rest. source_at rest) (λ source. items_at rloc_at (rloc_count bytes) source.1 >>= λ rlocs. items_at eid_at (get_or bytes 3 0) rlocs.1 >>= λ eids. end source.0 rlocs.0 eids.0) m e in
    let h = bind_ok (head_at bytes) (λ rest. source_at rest) a.0 a.1 in
    let b = bind_ok (items_at rloc_at (rloc_count bytes) a.0.1) (λ rlocs. items_at eid_at (get_or bytes 3 0) rlocs.1 >>= λ eids. end a.0.0 rlocs.0 eids.0) m a.2 in
    let c = bind_ok (items_at eid_at (get_or bytes 3 0) b.0.1) (λ eids. end a.0.0 b.0.0 eids.0) m b.2 in
    let head = head_passes bytes h.0 h.1 in
    let middle = IsBytes-drop 12 bytes h.0 head.long head.behind fits in
    let source = source_takes h.0 a.0 middle h.2 in
    let one = IsBytes-rest h.0 source.text a.0.1 source.parts middle in
    let rlocs = items_take rloc_at SpellsAddress rloc_takes (rloc_count bytes) a.0.1 b.0 one b.1 in
    let two = IsBytes-rest a.0.1 rlocs.0.text b.0.1 rlocs.0.parts one in
    let eids = items_take eid_at SpellsRecord eid_takes (get_or bytes 3 0) b.0.1 c.0 two c.1 in
    let made : MapRequestValue = map_request_of bytes a.0.0 b.0.0 c.0.0 in
    subst (SpellsRequest bytes) {x = made} (ok_is made m c.2) (request_made bytes h.0 a.0.0 a.0.1 b.0.0 b.0.1 c.0.0 c.0.1 fits head source rlocs.0 rlocs.1 eids.0 eids.1)

-- the twelve bytes in front of the Source EID
abbrev head_bytes : ℕ → ℕ → ℕ → ℕ → ℕ → List ℕ
head_bytes kind flags counts count nonce = kind ∷ flags ∷ counts ∷ count ∷ to_be_bytes w64 nonce

head_read : (kind flags counts count nonce : ℕ) (rest : List ℕ) → kind / 16 ≡ 1 → count ≢ 0 → head_at (head_bytes kind flags counts count nonce ++ rest) ≡ Ok rest
unfolding head_at
head_read kind flags counts count nonce rest request some = rw (after_again 12 (head_bytes kind flags counts count nonce) rest refl, request, ne_eqb count 0 some) refl

-- the parts of a Map-Request are read
request_read : (kind flags counts nonce : ℕ) (source : Option Addr) (rlocs : List Addr) (eids : List PrefixValue) (from each asked tail : List ℕ) → kind / 16 ≡ 1 → length eids ≢ 0 → length rlocs ≡ counts % 32 + 1
    → SpellsSource from source → SpellsEach SpellsAddress each rlocs → SpellsEach SpellsRecord asked eids
    → request_at (head_bytes kind flags counts (length eids) nonce ++ (from ++ (each ++ (asked ++ tail)))) ≡ Ok (map_request_of (head_bytes kind flags counts (length eids) nonce) source rlocs eids)
unfolding request_at front_at
request_read kind flags counts nonce source rlocs eids from each asked tail request some irc s r e =
    let first = head_read kind flags counts (length eids) nonce (from ++ (each ++ (asked ++ tail))) request some in
    let second = source_again from (each ++ (asked ++ tail)) source s in
    let third = items_again rloc_at SpellsAddress rloc_again each (asked ++ tail) rlocs r in
    let fourth = items_again eid_at SpellsRecord eid_again asked tail eids e in
    rw (first, second, ← irc, third, fourth) refl

pub flag_is : (n : ℕ) (b : Bool) → n ≡ bit b → eqb n 1 ≡ b
flag_is n b is = ap (λ (k : ℕ). eqb k 1) is ∙ eqb-bit b

-- what is read from the fields of a Map-Request's spelling is the Map-Request
spelled_request : (bytes : List ℕ) (m : MapRequestValue) (s : SpellsRequest bytes m) → map_request_of (head_bytes s.kind s.flags s.counts (length m.eids) m.nonce) m.source m.itr_rlocs m.eids ≡ m
spelled_request bytes m s =
    let same : s.kind / 1 % 2 ≡ s.kind % 2 = omega arith in
    rw (flag_is (s.kind / 8 % 2) m.authoritative s.authoritative, flag_is (s.kind / 2 % 2) m.probe s.probe, flag_is (s.kind / 1 % 2) m.smr (same ∙ s.smr), flag_is (s.flags / 128 % 2) m.pitr s.pitr, flag_is (s.flags / 64 % 2) m.smr_invoked s.smr_invoked, flag_is (s.counts / 64 % 2) m.local s.local, flag_is (s.counts / 32 % 2) m.no_reply s.no_reply, from_be_bytes-to_be_bytes_8 m.nonce s.nonce) refl

-- a Map-Request that is spelled is read
pub request_again : (bytes : List ℕ) (m : MapRequestValue) → SpellsRequest bytes m → request_at bytes ≡ Ok m
request_again bytes m s =
    ap request_at s.parts ∙ request_read s.kind s.flags s.counts m.nonce m.source m.itr_rlocs m.eids s.source s.itr_rlocs s.eids s.tail s.request s.some s.irc s.from s.each_rloc s.each_eid ∙ ap done (spelled_request bytes m s)

-- bytes spell at most one Map-Request
pub one_request : (bytes : List ℕ) (m n : MapRequestValue) → SpellsRequest bytes m → SpellsRequest bytes n → m ≡ n
one_request bytes m n s t = ok_is m n (sym (request_again bytes m s) ∙ request_again bytes n t)

-- the written spelling of a Map-Request is one of its spellings
pub request_spelled : (m : MapRequestValue) → IsMapRequest m → SpellsRequest (written_request m) m
unfolding written_request
request_spelled m is =
    let few = is.fits in
    record {
      kind = request_kind m;
      flags = request_flags m;
      counts = request_counts m;
      source = written_source m.source;
      itr_rlocs = written_rlocs m.itr_rlocs;
      eids = written_eids m.eids;
      tail = [];
      parts = ap (λ (t : List ℕ). request_kind m ∷ request_flags m ∷ request_counts m ∷ length m.eids ∷ to_be_bytes w64 m.nonce ++ (written_source m.source ++ (written_rlocs m.itr_rlocs ++ t))) (sym (append-nil (written_eids m.eids)));
      request = omega (arith, bit_below);
      authoritative = omega (arith, bit_below);
      probe = omega (arith, bit_below);
      smr = omega (arith, bit_below);
      pitr = omega (arith, bit_below);
      smr_invoked = omega (arith, bit_below);
      local = omega (arith, bit_below, few.0, few.1);
      no_reply = omega (arith, bit_below, few.0, few.1);
      irc = omega (arith, bit_below, few.0, few.1);
      some = λ none. omega (arith, none, few.2);
      nonce = is.nonce;
      from = source_spelled m.source is.source;
      each_rloc = each_spelled SpellsAddress written_address IsWhole address_spelled m.itr_rlocs is.itr_rlocs;
      each_eid = each_spelled SpellsRecord written_eid IsEid eid_spelled m.eids is.eids;
    }

-- what was written is read again
pub reads_back : (m : MapRequestValue) → IsMapRequest m → request_at (written_request m) ≡ Ok m
reads_back m is = request_again (written_request m) m (request_spelled m is)
