-- A Map-Reply that is read is spelled so, and one that is spelled so is read.
use Rattle.std.proofs.Common.{◌≡◌, ℕ, suc, ◌/◌, ◌%◌, ◌≤◌, Bool, eqb, List, [], ◌∷◌, ◌++◌, length, drop, get_or, Ok, refl, sym, ap, subst, ◌∙◌, append-nil, arith}
use Rattle.std.specs.Int.{w64, from_be_bytes, to_be_bytes}
use Rattle.std.proofs.lemmas.Bool.{eqb-true}
use Rattle.std.proofs.lemmas.Nat.{from_be_bytes-to_be_bytes_8}
use Rattle.lisp_records.specs.Record.{MapRecordValue, IsMapRecord}
use Rattle.lisp_records.specs.Spelling.{IsBytes, Spells}
use Rattle.lisp_records.specs.Written.{written}
use Rattle.lisp_records.specs.Reading.{record_at}
use Rattle.lisp_records.specs.Result.{◌>>=◌}
use Rattle.lisp_records.proofs.Fields.{Takes, IsBytes-take, bit-eqb, bit_below}
use Rattle.lisp_records.proofs.RecordLaws.{record_takes, record_again, written_spells}
use Rattle.lisp_requests.specs.declared.fault.RequestFault.TheVariants as faults
use Rattle.lisp_requests.specs.Format.{SpellsEach}
use Rattle.lisp_requests.specs.Reading.{after, require, lifted, items_at}
use Rattle.lisp_requests.specs.Reply.{MapReplyValue, IsMapReply, SpellsReply, reply_record_at, reply_head_at, map_reply_of, reply_at, reply_kind, written_records, written_reply}
use Rattle.lisp_requests.proofs.EachLaws.{TakesItem, ReadsItem, items_take, items_again, each_spelled}
use Rattle.lisp_requests.proofs.Fields.{bind_ok, require_takes, done, ok_is, lifted_ok, after_takes, after_again, eight_bytes, eight_below}
use Rattle.lisp_requests.proofs.RequestLaws.{IsBytes-drop, flag_is}

-- one record, each way
one_takes : TakesItem reply_record_at Spells
one_takes bytes x fits e = record_takes bytes x fits (lifted_ok (record_at bytes) x e)

one_again : ReadsItem reply_record_at Spells
one_again text rest m s = ap lifted (record_again text rest m s)

-- what the tests before the records say
record Passes (bytes rest : List ℕ) : Type 0 where
  pub long : 12 ≤ length bytes
  pub behind : drop 12 bytes ≡ rest
  pub kind : get_or bytes 0 0 / 16 ≡ 2

head_passes : (bytes rest : List ℕ) → reply_head_at bytes ≡ Ok rest → Passes bytes rest
unfolding reply_head_at
head_passes bytes rest e =
    let kind : Bool = eqb (get_or bytes 0 0 / 16) 2 in
    let a = bind_ok (after 12 bytes) (λ r. require faults.Kind kind >>= λ _. done r) rest e in
    let b = bind_ok (require faults.Kind kind) (λ _. done a.0) rest a.2 in
    let g = after_takes 12 bytes a.0 a.1 in
    record { long = g.0; behind = g.1 ∙ ok_is a.0 rest b.2; kind = eqb-true (get_or bytes 0 0 / 16) 2 (require_takes faults.Kind kind b.0 b.1) }

no_bytes : (bytes : List ℕ) → length bytes ≡ 0 → bytes ≡ []
no_bytes [] none = refl
no_bytes (b ∷ bytes) none = absurd (omega arith)

-- twelve bytes that pass the tests, and records to the end, spell a Map-Reply
reply_made : (bytes middle : List ℕ) (rs : List MapRecordValue) (tail : List ℕ) → IsBytes bytes → Passes bytes middle → Takes (λ text. SpellsEach Spells text rs) middle tail → length rs ≡ get_or bytes 3 0 → length tail ≡ 0 → SpellsReply bytes (map_reply_of bytes rs)
reply_made (b0 ∷ b1 ∷ b2 ∷ b3 ∷ b4 ∷ b5 ∷ b6 ∷ b7 ∷ b8 ∷ b9 ∷ b10 ∷ b11 ∷ bytes) middle rs tail fits head each number none =
    let nonce : List ℕ = b4 ∷ b5 ∷ b6 ∷ b7 ∷ b8 ∷ b9 ∷ b10 ∷ b11 ∷ [] in
    let fit : IsBytes nonce = IsBytes-take 8 (b4 ∷ b5 ∷ b6 ∷ b7 ∷ b8 ∷ b9 ∷ b10 ∷ b11 ∷ bytes) (λ i. fits (suc (suc (suc (suc i))))) in
    let n : ℕ = from_be_bytes w64 nonce in
    let behind : bytes ≡ each.text = head.behind ∙ each.parts ∙ ap (λ (t : List ℕ). each.text ++ t) (no_bytes tail none) ∙ append-nil each.text in
    let by_nonce = ap (λ (t : List ℕ). b0 ∷ b1 ∷ b2 ∷ b3 ∷ (t ++ bytes)) (sym (eight_bytes nonce refl fit)) in
    let by_count = ap (λ (k : ℕ). b0 ∷ b1 ∷ b2 ∷ k ∷ (to_be_bytes w64 n ++ bytes)) (sym number) in
    let by_end = ap (λ (t : List ℕ). b0 ∷ b1 ∷ b2 ∷ length rs ∷ (to_be_bytes w64 n ++ t)) behind in
    record {
      kind = b0;
      reserved = b1;
      more = b2;
      records = each.text;
      parts = by_nonce ∙ by_count ∙ by_end;
      reply = head.kind;
      probe = bit-eqb (b0 / 8 % 2) (omega arith);
      echo_nonce = bit-eqb (b0 / 4 % 2) (omega arith);
      sec = bit-eqb (b0 / 2 % 2) (omega arith);
      nonce = eight_below nonce refl fit;
      each = each.kind;
    }
reply_made _ middle rs tail fits head each number none = absurd (omega (arith, head.long))

-- a Map-Reply that was read is spelled by the bytes
pub reply_takes : (bytes : List ℕ) (m : MapReplyValue) → IsBytes bytes → reply_at bytes ≡ Ok m → SpellsReply bytes m
unfolding reply_at
reply_takes bytes m fits e =
    let ends = λ (tail : List ℕ). require faults.Trailing (eqb (length tail) 0) in
    let a = bind_ok (reply_head_at bytes) (λ rest. items_at reply_record_at (get_or bytes 3 0) rest >>= λ rs. ends rs.1 >>= λ _. done (map_reply_of bytes rs.0)) m e in
    let b = bind_ok (items_at reply_record_at (get_or bytes 3 0) a.0) (λ rs. ends rs.1 >>= λ _. done (map_reply_of bytes rs.0)) m a.2 in
    let c = bind_ok (ends b.0.1) (λ _. done (map_reply_of bytes b.0.0)) m b.2 in
    let head = head_passes bytes a.0 a.1 in
    let middle = IsBytes-drop 12 bytes a.0 head.long head.behind fits in
    let rs = items_take reply_record_at Spells one_takes (get_or bytes 3 0) a.0 b.0 middle b.1 in
    let none = eqb-true (length b.0.1) 0 (require_takes faults.Trailing (eqb (length b.0.1) 0) c.0 c.1) in
    let made : MapReplyValue = map_reply_of bytes b.0.0 in
    subst (SpellsReply bytes) {x = made} (ok_is made m c.2) (reply_made bytes a.0 b.0.0 b.0.1 fits head rs.0 rs.1 none)

-- the twelve bytes in front of the records
abbrev head_bytes : ℕ → ℕ → ℕ → ℕ → ℕ → List ℕ
head_bytes kind reserved more count nonce = kind ∷ reserved ∷ more ∷ count ∷ to_be_bytes w64 nonce

head_read : (kind reserved more count nonce : ℕ) (rest : List ℕ) → kind / 16 ≡ 2 → reply_head_at (head_bytes kind reserved more count nonce ++ rest) ≡ Ok rest
unfolding reply_head_at
head_read kind reserved more count nonce rest reply = rw (after_again 12 (head_bytes kind reserved more count nonce) rest refl, reply) refl

-- the parts of a Map-Reply are read
reply_read : (kind reserved more nonce : ℕ) (rs : List MapRecordValue) (text : List ℕ) → kind / 16 ≡ 2 → SpellsEach Spells text rs → reply_at (head_bytes kind reserved more (length rs) nonce ++ text) ≡ Ok (map_reply_of (head_bytes kind reserved more (length rs) nonce) rs)
unfolding reply_at
reply_read kind reserved more nonce rs text reply each =
    let first = head_read kind reserved more (length rs) nonce text reply in
    let second : items_at reply_record_at (length rs) text ≡ Ok (rs, []) = ap (items_at reply_record_at (length rs)) (sym (append-nil text)) ∙ items_again reply_record_at Spells one_again text [] rs each in
    rw (first, second) refl

-- what is read from the fields of a Map-Reply's spelling is the Map-Reply
spelled_reply : (bytes : List ℕ) (m : MapReplyValue) (s : SpellsReply bytes m) → map_reply_of (head_bytes s.kind s.reserved s.more (length m.records) m.nonce) m.records ≡ m
spelled_reply bytes m s = rw (flag_is (s.kind / 8 % 2) m.probe s.probe, flag_is (s.kind / 4 % 2) m.echo_nonce s.echo_nonce, flag_is (s.kind / 2 % 2) m.sec s.sec, from_be_bytes-to_be_bytes_8 m.nonce s.nonce) refl

-- a Map-Reply that is spelled is read
pub reply_again : (bytes : List ℕ) (m : MapReplyValue) → SpellsReply bytes m → reply_at bytes ≡ Ok m
reply_again bytes m s = ap reply_at s.parts ∙ reply_read s.kind s.reserved s.more m.nonce m.records s.records s.reply s.each ∙ ap done (spelled_reply bytes m s)

-- bytes spell at most one Map-Reply
pub one_reply : (bytes : List ℕ) (m n : MapReplyValue) → SpellsReply bytes m → SpellsReply bytes n → m ≡ n
one_reply bytes m n s t = ok_is m n (sym (reply_again bytes m s) ∙ reply_again bytes n t)

-- the written spelling of a Map-Reply is one of its spellings
pub reply_spelled : (m : MapReplyValue) → IsMapReply m → SpellsReply (written_reply m) m
unfolding written_reply
reply_spelled m is =
    record {
      kind = reply_kind m;
      reserved = 0;
      more = 0;
      records = written_records m.records;
      parts = refl;
      reply = omega (arith, bit_below);
      probe = omega (arith, bit_below);
      echo_nonce = omega (arith, bit_below);
      sec = omega (arith, bit_below);
      nonce = is.nonce;
      each = each_spelled Spells written IsMapRecord written_spells m.records is.records;
    }

-- what was written is read again
pub reads_back : (m : MapReplyValue) → IsMapReply m → reply_at (written_reply m) ≡ Ok m
reads_back m is = reply_again (written_reply m) m (reply_spelled m is)
