-- A message that is read is spelled so, and a message that is spelled so is read.
use Rattle.std.proofs.Common.{◌≡◌, ℕ, suc, ◌/◌, ◌%◌, ◌^◌, ◌<◌, ◌≤◌, ◌⊎◌, inl, inr, Bool, true, false, eqb, List, [], ◌∷◌, ◌++◌, length, get_or, take, drop, Result, Ok, refl, sym, ap, subst, ◌∙◌, append_assoc, arith}
use Rattle.std.specs.Prelude.{◌||◌}
use Rattle.std.specs.Int.{w16, w64, from_be_bytes, to_be_bytes}
use Rattle.std.proofs.lemmas.Bool.{eqb-true}
use Rattle.std.proofs.lemmas.List.{take-append-drop, length-take-le, length-drop, drop-drop, drop_at}
use Rattle.std.proofs.lemmas.Nat.{from_be_bytes-to_be_bytes_8}
use Rattle.lisp_records.specs.Record.{MapRecordValue, bit}
use Rattle.lisp_records.specs.Reading.{is_set, number_at}
use Rattle.lisp_records.specs.Spelling.{IsBytes}
use Rattle.lisp_records.proofs.Fields.{IsBytes-behind, IsBytes-take, two_bytes, bit-eqb, eqb-bit}
use Rattle.lisp_messages.specs.declared.kind.Kind.{Kind}
use Rattle.lisp_messages.specs.declared.kind.Kind.TheVariants as kinds
use Rattle.lisp_messages.specs.declared.fault.ReadFault.{ReadFault}
use Rattle.lisp_messages.specs.declared.fault.ReadFault.TheVariants as faults
use Rattle.lisp_messages.specs.Message.{MapRegisterValue, MapNotifyValue, MessageValue, Registers, Notifies}
use Rattle.lisp_messages.specs.Spelling.{SpellsRecords, common, SpellsRegister, notify_type, SpellsNotify, Spells}
use Rattle.lisp_records.specs.Result.{◌>>=◌}
use Rattle.lisp_messages.specs.Reading.{after, require, kind_of, records_at, ids_at, nonce_of, map_register_of, map_notify_of, register_at, notify_at, tail_at, kind_at, message_at}
use Rattle.lisp_messages.proofs.Fields.{bind_ok, done, ok_is, require_takes, kind_number, kind_takes, kind_again, after_takes, after_again, eight_bytes, eight_below, IsBytes-drop, Ids, ids_take, ids_again}
use Rattle.lisp_messages.proofs.RecordsLaws.{records_take, records_again}

-- the 16 bytes before the Authentication Data
abbrev pub front : ℕ → ℕ → ℕ → ℕ → ℕ → ℕ → List ℕ
front kind reserved flags count nonce key_id = kind ∷ reserved ∷ flags ∷ common count nonce key_id []

-- those that stand at the beginning of bytes, with a number of records
abbrev front_of : List ℕ → ℕ → List ℕ
front_of bytes count = front (get_or bytes 0 0) (get_or bytes 1 0) (get_or bytes 2 0) count (nonce_of bytes) (get_or bytes 12 0)

-- sixteen bytes that pass the tests are the front of a message, and the nonce fits 64 bits
front_made : (bytes : List ℕ) → IsBytes bytes → 16 ≤ length bytes → get_or bytes 13 0 ≡ 2 → number_at bytes 14 ≡ 16 → (bytes ≡ front_of bytes (get_or bytes 3 0) ++ drop 16 bytes) × (nonce_of bytes < 2 ^ 64)
front_made (b0 ∷ b1 ∷ b2 ∷ b3 ∷ b4 ∷ b5 ∷ b6 ∷ b7 ∷ b8 ∷ b9 ∷ b10 ∷ b11 ∷ b12 ∷ b13 ∷ b14 ∷ b15 ∷ bytes) fits long algorithm number =
    let nonce : List ℕ = b4 ∷ b5 ∷ b6 ∷ b7 ∷ b8 ∷ b9 ∷ b10 ∷ b11 ∷ [] in
    let n : ℕ = from_be_bytes w64 nonce in
    let fit : IsBytes nonce = IsBytes-take 8 (b4 ∷ b5 ∷ b6 ∷ b7 ∷ b8 ∷ b9 ∷ b10 ∷ b11 ∷ b12 ∷ b13 ∷ b14 ∷ b15 ∷ bytes) (λ i. fits (suc (suc (suc (suc i))))) in
    let eight : to_be_bytes w64 n ≡ nonce = eight_bytes nonce refl fit in
    let two : to_be_bytes w16 16 ≡ b14 ∷ b15 ∷ [] = two_bytes b14 b15 16 (fits 14) (fits 15) number in
    let by_nonce = ap (λ (t : List ℕ). b0 ∷ b1 ∷ b2 ∷ b3 ∷ (t ++ (b12 ∷ b13 ∷ b14 ∷ b15 ∷ bytes))) (sym eight) in
    let by_algorithm = ap (λ (k : ℕ). b0 ∷ b1 ∷ b2 ∷ b3 ∷ (to_be_bytes w64 n ++ (b12 ∷ k ∷ b14 ∷ b15 ∷ bytes))) algorithm in
    let by_length = ap (λ (t : List ℕ). b0 ∷ b1 ∷ b2 ∷ b3 ∷ (to_be_bytes w64 n ++ (b12 ∷ 2 ∷ (t ++ bytes)))) (sym two) in
    (by_nonce ∙ by_algorithm ∙ by_length, eight_below nonce refl fit)
front_made _ fits long algorithm number = absurd (omega arith)

-- what the tests before the records say
record Passes (bytes : List ℕ) (k : Kind) : Type 0 where
  pub long : 32 ≤ length bytes
  pub kind : get_or bytes 0 0 / 16 ≡ kind_number k
  pub algorithm : get_or bytes 13 0 ≡ 2
  pub auth_length : number_at bytes 14 ≡ 16

-- what follows the test of the Authentication Data Length
abbrev sized_end : List ℕ → Kind → Result Kind ReadFault
sized_end bytes kind = after 32 bytes >>= λ _. done kind

-- what follows the test of the Algorithm ID
abbrev tested_end : List ℕ → Kind → Result Kind ReadFault
tested_end bytes kind = require faults.AuthLength (eqb (number_at bytes 14) 16) >>= λ _. sized_end bytes kind

-- what follows the test of the message type
abbrev named_end : List ℕ → Kind → Result Kind ReadFault
named_end bytes kind = require faults.Algorithm (eqb (get_or bytes 13 0) 2) >>= λ _. tested_end bytes kind

-- bytes that passed the tests before the records are as these say
kind_at_takes : (bytes : List ℕ) (kind : Kind) → kind_at bytes ≡ Ok kind → Passes bytes kind
unfolding kind_at
kind_at_takes bytes kind e =
    let a = bind_ok (after 16 bytes) (λ _. kind_of (get_or bytes 0 0 / 16) >>= λ k. named_end bytes k) kind e in
    let b = bind_ok (kind_of (get_or bytes 0 0 / 16)) (λ k. named_end bytes k) kind a.2 in
    let c = bind_ok (require faults.Algorithm (eqb (get_or bytes 13 0) 2)) (λ _. tested_end bytes b.0) kind b.2 in
    let d = bind_ok (require faults.AuthLength (eqb (number_at bytes 14) 16)) (λ _. sized_end bytes b.0) kind c.2 in
    let r = bind_ok (after 32 bytes) (λ _. done b.0) kind d.2 in
    record {
      long = (after_takes 32 bytes r.0 r.1).0;
      kind = kind_takes (get_or bytes 0 0 / 16) b.0 b.1 ∙ ap kind_number (ok_is b.0 kind r.2);
      algorithm = eqb-true (get_or bytes 13 0) 2 (require_takes faults.Algorithm (eqb (get_or bytes 13 0) 2) c.0 c.1);
      auth_length = eqb-true (number_at bytes 14) 16 (require_takes faults.AuthLength (eqb (number_at bytes 14) 16) d.0 d.1);
    }

-- what was read before the end of a message: the fields that matter, the records, and what is left
pub record Begins (bytes : List ℕ) (number : ℕ) (ms : List MapRecordValue) (tail : List ℕ) : Type 0 where
  pub kind : get_or bytes 0 0 / 16 ≡ number
  pub nonce : nonce_of bytes < 2 ^ 64
  pub auth : List ℕ
  pub auth_length : length auth ≡ 16
  pub text : List ℕ
  pub each : SpellsRecords text ms
  pub parts : bytes ≡ front_of bytes (length ms) ++ (auth ++ (text ++ tail))
  pub tail_fits : IsBytes tail

-- 32 bytes that pass the tests, then records, begin a message
begins_made : (bytes : List ℕ) (kind : Kind) (ms : List MapRecordValue × List ℕ) → IsBytes bytes → Passes bytes kind → records_at 0 (get_or bytes 3 0) (drop 32 bytes) ≡ Ok ms → Begins bytes (kind_number kind) ms.0 ms.1
begins_made bytes kind ms fits p listed =
    let made = front_made bytes fits (omega arith) p.algorithm p.auth_length in
    let records = records_take 0 (get_or bytes 3 0) (drop 32 bytes) ms (IsBytes-drop 32 bytes fits) listed in
    let auth : List ℕ = take 16 (drop 16 bytes) in
    let wide : length auth ≡ 16 = length-take-le 16 (drop 16 bytes) (omega (arith, length-drop 16 bytes)) in
    let split : drop 16 bytes ≡ auth ++ (records.0.text ++ ms.1) = sym (take-append-drop 16 (drop 16 bytes)) ∙ ap (λ (t : List ℕ). auth ++ t) (drop-drop 16 16 bytes ∙ records.0.parts) in
    record {
      kind = p.kind;
      nonce = made.1;
      auth = auth;
      auth_length = wide;
      text = records.0.text;
      each = records.0.kind;
      parts = made.0 ∙ ap (λ (t : List ℕ). front_of bytes (get_or bytes 3 0) ++ t) split ∙ ap (λ (n : ℕ). front_of bytes n ++ (auth ++ (records.0.text ++ ms.1))) (sym records.1);
      tail_fits = IsBytes-behind 32 bytes records.0.text ms.1 records.0.parts fits;
    }

-- four lists, grouped from the left and from the right
pub regrouped : (a b c d : List ℕ) → a ++ b ++ c ++ d ≡ a ++ (b ++ (c ++ d))
regrouped a b c d = simp append_assoc

-- what begins as a Map-Register and ends with its bit I set, an xTR-ID and a Site-ID is one
register_made : (bytes : List ℕ) (ms : List MapRecordValue) (tail xtr : List ℕ) (site : ℕ) → Begins bytes 3 ms tail → is_set (get_or bytes 0 0) 2 ≡ true → Ids tail xtr site → SpellsRegister bytes (map_register_of bytes ms xtr site)
register_made bytes ms tail xtr site b bit_i ids =
    let k : ℕ = get_or bytes 0 0 in
    let f : ℕ = get_or bytes 2 0 in
    let one : f % 2 ≡ f / 1 % 2 = omega arith in
    let together : b.auth ++ (b.text ++ tail) ≡ b.auth ++ b.text ++ xtr ++ to_be_bytes w64 site = ap (λ (t : List ℕ). b.auth ++ (b.text ++ t)) ids.parts ∙ sym (regrouped b.auth b.text xtr (to_be_bytes w64 site)) in
    record {
      kind = k;
      reserved = get_or bytes 1 0;
      flags = f;
      auth = b.auth;
      records = b.text;
      parts = b.parts ∙ ap (λ (t : List ℕ). front_of bytes (length ms) ++ t) together;
      register = b.kind;
      proxy = bit-eqb (k / 8 % 2) (omega arith);
      sec = bit-eqb (k / 4 % 2) (omega arith);
      ids = eqb-true (k / 2 % 2) 1 bit_i;
      eid_notify = bit-eqb (f / 16 % 2) (omega arith);
      use_ttl = bit-eqb (f / 8 % 2) (omega arith);
      merge = bit-eqb (f / 4 % 2) (omega arith);
      want_notify = one ∙ bit-eqb (f / 1 % 2) (omega arith);
      nonce = b.nonce;
      auth_length = b.auth_length;
      each = b.each;
      xtr = ids.wide;
      site = ids.below;
    }

-- what begins as a Map-Notify or Map-Notify-Ack and ends with nothing or 24 bytes is one
notify_made : (ack : Bool) (bytes : List ℕ) (ms : List MapRecordValue) (tail : List ℕ) → Begins bytes (notify_type ack) ms tail → (length tail ≡ 0) ⊎ (length tail ≡ 24) → SpellsNotify bytes (map_notify_of ack bytes ms)
notify_made ack bytes ms tail b ends = record {
  kind = get_or bytes 0 0;
  reserved = get_or bytes 1 0;
  flags = get_or bytes 2 0;
  auth = b.auth;
  records = b.text;
  tail = tail;
  parts = b.parts ∙ ap (λ (t : List ℕ). front_of bytes (length ms) ++ t) (sym (append_assoc b.auth b.text tail));
  notify = b.kind;
  nonce = b.nonce;
  auth_length = b.auth_length;
  each = b.each;
  ends = ends;
}

-- one of two tests that holds
either_is : (a b : Bool) → (a || b) ≡ true → (a ≡ true) ⊎ (b ≡ true)
either_is true b e = inl refl
either_is false b e = inr e

-- a Map-Register whose end was read is spelled so
register_takes : (bytes : List ℕ) (ms : List MapRecordValue) (tail : List ℕ) (x : MessageValue) → Begins bytes 3 ms tail → register_at bytes ms tail ≡ Ok x → Spells bytes x
unfolding register_at
register_takes bytes ms tail x b e =
    let a = bind_ok (require faults.NoIds (is_set (get_or bytes 0 0) 2)) (λ _. ids_at tail >>= λ ids. done (Registers (map_register_of bytes ms ids.0 ids.1))) x e in
    let i = bind_ok (ids_at tail) (λ ids. done (Registers (map_register_of bytes ms ids.0 ids.1))) x a.2 in
    let made : MessageValue = Registers (map_register_of bytes ms i.0.0 i.0.1) in
    subst (λ (y : MessageValue). Spells bytes y) {x = made} (ok_is made x i.2) (register_made bytes ms tail i.0.0 i.0.1 b (require_takes faults.NoIds (is_set (get_or bytes 0 0) 2) a.0 a.1) (ids_take tail i.0 b.tail_fits i.1))

-- a Map-Notify or Map-Notify-Ack whose end was read is spelled so
notify_takes : (ack : Bool) (bytes : List ℕ) (ms : List MapRecordValue) (tail : List ℕ) (x : MessageValue) → Begins bytes (notify_type ack) ms tail → notify_at ack bytes ms tail ≡ Ok x → Spells bytes x
unfolding notify_at
notify_takes ack bytes ms tail x b e =
    let none : Bool = eqb (length tail) 0 in
    let ids : Bool = eqb (length tail) 24 in
    let a = bind_ok (require faults.Trailing (none || ids)) (λ _. done (Notifies (map_notify_of ack bytes ms))) x e in
    let made : MessageValue = Notifies (map_notify_of ack bytes ms) in
    let ends : (length tail ≡ 0) ⊎ (length tail ≡ 24) = elim (either_is none ids (require_takes faults.Trailing (none || ids) a.0 a.1)) as (λ _. (length tail ≡ 0) ⊎ (length tail ≡ 24)) [ inl is ↦ inl (eqb-true (length tail) 0 is) | inr is ↦ inr (eqb-true (length tail) 24 is) ] in
    subst (λ (y : MessageValue). Spells bytes y) {x = made} (ok_is made x a.2) (notify_made ack bytes ms tail b ends)

-- a message whose end was read is spelled so
tail_takes : (kind : Kind) (bytes : List ℕ) (ms : List MapRecordValue) (tail : List ℕ) (x : MessageValue) → Begins bytes (kind_number kind) ms tail → tail_at kind bytes ms tail ≡ Ok x → Spells bytes x
tail_takes kinds.Register bytes ms tail x b e = register_takes bytes ms tail x b e
tail_takes kinds.Notify bytes ms tail x b e = notify_takes false bytes ms tail x b e
tail_takes kinds.NotifyAck bytes ms tail x b e = notify_takes true bytes ms tail x b e

-- a message that was read is spelled so
pub message_takes : (bytes : List ℕ) (x : MessageValue) → IsBytes bytes → message_at bytes ≡ Ok x → Spells bytes x
unfolding message_at
message_takes bytes x fits e =
    let k = bind_ok (kind_at bytes) (λ kind. records_at 0 (get_or bytes 3 0) (drop 32 bytes) >>= λ ms. tail_at kind bytes ms.0 ms.1) x e in
    let l = bind_ok (records_at 0 (get_or bytes 3 0) (drop 32 bytes)) (λ ms. tail_at k.0 bytes ms.0 ms.1) x k.2 in
    tail_takes k.0 bytes l.0.0 l.0.1 x (begins_made bytes k.0 l.0 fits (kind_at_takes bytes k.0 k.1) l.1) l.2

-- ---- what is spelled so is read

-- a message with all that stands behind its front
abbrev whole : List ℕ → List ℕ → List ℕ → List ℕ → List ℕ
whole first auth text tail = first ++ (auth ++ (text ++ tail))

-- a front and 16 bytes of Authentication Data pass the tests
kind_at_again : (k : Kind) (kind reserved flags count nonce key_id : ℕ) (auth more : List ℕ) → kind / 16 ≡ kind_number k → length auth ≡ 16
    → kind_at (front kind reserved flags count nonce key_id ++ (auth ++ more)) ≡ Ok k
unfolding kind_at
kind_at_again k kind reserved flags count nonce key_id auth more number wide =
    let first : List ℕ = front kind reserved flags count nonce key_id in
    let named : kind_of (kind / 16) ≡ Ok k = ap kind_of number ∙ kind_again k in
    rw (after_again 16 first (auth ++ more) refl, named, after_again 32 (first ++ auth) more (omega arith)) refl

-- the bytes behind a front and 16 bytes of Authentication Data
drop-whole : (kind reserved flags count nonce key_id : ℕ) (auth more : List ℕ) → length auth ≡ 16 → drop 32 (front kind reserved flags count nonce key_id ++ (auth ++ more)) ≡ more
drop-whole kind reserved flags count nonce key_id auth more wide = drop_at auth more 16 wide

-- a front, 16 bytes of Authentication Data and records are read
message_read : (k : Kind) (kind reserved flags nonce key_id : ℕ) (auth text tail : List ℕ) (ms : List MapRecordValue) → kind / 16 ≡ kind_number k → length auth ≡ 16 → SpellsRecords text ms
    → message_at (whole (front kind reserved flags (length ms) nonce key_id) auth text tail) ≡ tail_at k (whole (front kind reserved flags (length ms) nonce key_id) auth text tail) ms tail
unfolding message_at
message_read k kind reserved flags nonce key_id auth text tail ms number wide each =
    rw (kind_at_again k kind reserved flags (length ms) nonce key_id auth (text ++ tail) number wide, drop-whole kind reserved flags (length ms) nonce key_id auth (text ++ tail) wide, records_again 0 text tail ms each) refl

-- the end of a Map-Register is read
register_read : (kind reserved flags nonce key_id : ℕ) (more : List ℕ) (ms : List MapRecordValue) (xtr : List ℕ) (site : ℕ) → kind / 2 % 2 ≡ 1 → length xtr ≡ 16 → site < 2 ^ 64
    → register_at (front kind reserved flags (length ms) nonce key_id ++ more) ms (xtr ++ to_be_bytes w64 site) ≡ Ok (Registers (map_register_of (front kind reserved flags (length ms) nonce key_id) ms xtr site))
unfolding register_at
register_read kind reserved flags nonce key_id more ms xtr site bit_i wide below = rw (bit_i, ids_again xtr site wide below) refl

-- the flag of a bit of the flags
flag_is : (flags worth : ℕ) (b : Bool) → flags / worth % 2 ≡ bit b → is_set flags worth ≡ b
flag_is flags worth b e = ap (λ (n : ℕ). eqb n 1) e ∙ eqb-bit b

-- what is read from the fields of a Map-Register's spelling is the message
spelled_registration : (bytes : List ℕ) (m : MapRegisterValue) (s : SpellsRegister bytes m) → map_register_of (front s.kind s.reserved s.flags (length m.records) m.nonce m.key_id) m.records m.xtr m.site ≡ m
spelled_registration bytes m s =
    let one : s.flags / 1 % 2 ≡ s.flags % 2 = omega arith in
    rw (flag_is s.kind 8 m.proxy s.proxy, flag_is s.kind 4 m.sec s.sec, flag_is s.flags 16 m.eid_notify s.eid_notify, flag_is s.flags 8 m.use_ttl s.use_ttl, flag_is s.flags 4 m.merge s.merge, flag_is s.flags 1 m.want_notify (one ∙ s.want_notify), from_be_bytes-to_be_bytes_8 m.nonce s.nonce) refl

-- a Map-Register that is spelled so is read
register_again : (bytes : List ℕ) (m : MapRegisterValue) → SpellsRegister bytes m → message_at bytes ≡ Ok (Registers m)
register_again bytes m s =
    let first : List ℕ = front s.kind s.reserved s.flags (length m.records) m.nonce m.key_id in
    let tail : List ℕ = m.xtr ++ to_be_bytes w64 m.site in
    let parts : bytes ≡ whole first s.auth s.records tail = s.parts ∙ ap (λ (t : List ℕ). first ++ t) (regrouped s.auth s.records m.xtr (to_be_bytes w64 m.site)) in
    ap message_at parts ∙ message_read kinds.Register s.kind s.reserved s.flags m.nonce m.key_id s.auth s.records tail m.records s.register s.auth_length s.each
    ∙ register_read s.kind s.reserved s.flags m.nonce m.key_id (s.auth ++ (s.records ++ tail)) m.records m.xtr m.site s.ids s.xtr s.site
    ∙ ap (λ (r : MapRegisterValue). done (Registers r)) (spelled_registration bytes m s)

-- the kind of a Map-Notify or Map-Notify-Ack
abbrev notify_kind : Bool → Kind
notify_kind false = kinds.Notify
notify_kind true = kinds.NotifyAck

-- what ends a Map-Notify is accepted
ends_again : (n : ℕ) → (n ≡ 0) ⊎ (n ≡ 24) → (eqb n 0 || eqb n 24) ≡ true
ends_again n (inl is) = rw is refl
ends_again n (inr is) = rw is refl

-- the end of a Map-Notify or Map-Notify-Ack is read
notify_read : (ack : Bool) (bytes : List ℕ) (ms : List MapRecordValue) (tail : List ℕ) → (length tail ≡ 0) ⊎ (length tail ≡ 24) → tail_at (notify_kind ack) bytes ms tail ≡ Ok (Notifies (map_notify_of ack bytes ms))
unfolding notify_at
notify_read false bytes ms tail ends = rw (ends_again (length tail) ends) refl
notify_read true bytes ms tail ends = rw (ends_again (length tail) ends) refl

-- the number of its kind is its type
kind_number-notify_kind : (ack : Bool) → kind_number (notify_kind ack) ≡ notify_type ack
kind_number-notify_kind false = refl
kind_number-notify_kind true = refl

-- a Map-Notify or Map-Notify-Ack that is spelled so is read
notify_again : (bytes : List ℕ) (m : MapNotifyValue) → SpellsNotify bytes m → message_at bytes ≡ Ok (Notifies m)
notify_again bytes m s =
    let first : List ℕ = front s.kind s.reserved s.flags (length m.records) m.nonce m.key_id in
    let parts : bytes ≡ whole first s.auth s.records s.tail = s.parts ∙ ap (λ (t : List ℕ). first ++ t) (append_assoc s.auth s.records s.tail) in
    ap message_at parts ∙ message_read (notify_kind m.ack) s.kind s.reserved s.flags m.nonce m.key_id s.auth s.records s.tail m.records (s.notify ∙ sym (kind_number-notify_kind m.ack)) s.auth_length s.each
    ∙ notify_read m.ack (whole first s.auth s.records s.tail) m.records s.tail s.ends
    ∙ ap (λ (n : ℕ). done (Notifies (record m { nonce = n }))) (from_be_bytes-to_be_bytes_8 m.nonce s.nonce)

-- a message that is spelled so is read
pub message_again : (bytes : List ℕ) (x : MessageValue) → Spells bytes x → message_at bytes ≡ Ok x
message_again bytes (Registers m) s = register_again bytes m s
message_again bytes (Notifies m) s = notify_again bytes m s

-- bytes spell at most one message
pub one_message : (bytes : List ℕ) (x y : MessageValue) → Spells bytes x → Spells bytes y → x ≡ y
one_message bytes x y s t = ok_is x y (sym (message_again bytes x s) ∙ message_again bytes y t)
