-- What bytes spell fits the format.
use Rattle.std.proofs.Common.{ℕ, List, [], ◌∷◌, ◌++◌, length, Option, Some, None, refl, subst, arith}
use Rattle.std.specs.Int.{w16, w64, to_be_bytes}
use Rattle.std.specs.List.{AllByRecursion}
use Rattle.lisp_records.specs.declared.address.Addr.{Addr}
use Rattle.lisp_records.specs.Address.{PrefixValue, IsWhole, afi, family, octets}
use Rattle.lisp_records.specs.Record.{IsMapRecord}
use Rattle.lisp_records.specs.Spelling.{IsBytes, Spells}
use Rattle.lisp_records.proofs.AddressLemmas.{IsWhole-cleared}
use Rattle.lisp_records.proofs.Fields.{IsBytes-first, IsBytes-rest, each_byte}
use Rattle.lisp_records.proofs.FitLaws.{record_fits}
use Rattle.lisp_requests.specs.Format.{SpellsEach}
use Rattle.lisp_requests.specs.Reply.{MapReplyValue, IsMapReply, SpellsReply}
use Rattle.lisp_requests.specs.Request.{MapRequestValue, IsMapRequest, IsEid, IsSource, SpellsAddress, SpellsSource, SpellsRecord, SpellsRequest}

address_fits : (bytes : List ℕ) (a : Addr) → IsBytes bytes → SpellsAddress bytes a → IsWhole a
address_fits bytes a fits s = record { width = s.whole; bytes = each_byte (octets a) (IsBytes-rest bytes (to_be_bytes w16 (afi (family a))) (octets a) s.parts fits) }

source_fits : (bytes : List ℕ) (source : Option Addr) → IsBytes bytes → SpellsSource bytes source → IsSource source
source_fits bytes None fits s = tt
source_fits bytes (Some a) fits s = address_fits bytes a fits s

eid_fits : (bytes : List ℕ) (eid : PrefixValue) → IsBytes bytes → SpellsRecord bytes eid → IsEid eid
eid_fits bytes eid fits s =
    let a : Addr = s.prefix.written in
    let address = IsBytes-rest bytes (s.reserved ∷ eid.mask_len ∷ to_be_bytes w16 (afi (family eid.addr))) s.address s.parts fits in
    let whole : IsWhole a = record { width = s.prefix.addr; bytes = each_byte (octets a) (subst IsBytes s.prefix.parts address) } in
    (s.prefix.block, subst IsWhole s.prefix.masked (IsWhole-cleared a eid.mask_len whole))

each_fits : {X : Type 0} (Kind : List ℕ → X → Type 0) (P : X → Type 0) → ((bytes : List ℕ) (x : X) → IsBytes bytes → Kind bytes x → P x) → (bytes : List ℕ) (xs : List X) → IsBytes bytes → SpellsEach Kind bytes xs → AllByRecursion P xs
each_fits Kind P one bytes [] fits s = tt
each_fits Kind P one bytes (x ∷ xs) fits s = (one s.0 x (IsBytes-first s.0 s.1 (subst IsBytes s.2 fits)) s.3, each_fits Kind P one s.1 xs (IsBytes-rest bytes s.0 s.1 s.2 fits) s.4)

pub request_fits : (bytes : List ℕ) (m : MapRequestValue) → IsBytes bytes → SpellsRequest bytes m → IsMapRequest m
request_fits bytes m fits s =
    let head : List ℕ = s.kind ∷ s.flags ∷ s.counts ∷ length m.eids ∷ to_be_bytes w64 m.nonce in
    let asked : List ℕ = s.eids ++ s.tail in
    let all = IsBytes-rest bytes head (s.source ++ (s.itr_rlocs ++ asked)) s.parts fits in
    let one = IsBytes-rest (s.source ++ (s.itr_rlocs ++ asked)) s.source (s.itr_rlocs ++ asked) refl all in
    let two = IsBytes-rest (s.itr_rlocs ++ asked) s.itr_rlocs asked refl one in
    record {
      fits = (omega (arith, s.irc), omega (arith, s.irc), omega (arith, s.some), subst IsBytes s.parts fits 3);
      nonce = s.nonce;
      source = source_fits s.source m.source (IsBytes-first s.source (s.itr_rlocs ++ asked) all) s.from;
      itr_rlocs = each_fits SpellsAddress IsWhole address_fits s.itr_rlocs m.itr_rlocs (IsBytes-first s.itr_rlocs asked one) s.each_rloc;
      eids = each_fits SpellsRecord IsEid eid_fits s.eids m.eids (IsBytes-first s.eids s.tail two) s.each_eid;
    }

pub reply_fits : (bytes : List ℕ) (m : MapReplyValue) → IsBytes bytes → SpellsReply bytes m → IsMapReply m
reply_fits bytes m fits s =
    let head : List ℕ = s.kind ∷ s.reserved ∷ s.more ∷ length m.records ∷ to_be_bytes w64 m.nonce in
    record {
      nonce = s.nonce;
      count = subst IsBytes s.parts fits 3;
      records = each_fits Spells IsMapRecord record_fits s.records m.records (IsBytes-rest bytes head s.records s.parts fits) s.each;
    }
