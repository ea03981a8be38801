-- What reading gives of the end of a message, by what the program reads there.
use Rattle.std.proofs.Common.{◌≡◌, ◌⊎◌, inl, inr, ℕ, Bool, true, false, eqb, List, length, Ok, Err, refl, sym, ◌∙◌}
use Rattle.std.specs.Prelude.{slice_index}
use Rattle.std.proofs.lemmas.Bool.{ne_eqb}
use Rattle.lisp_records.specs.Record.{MapRecordValue}
use Rattle.lisp_records.specs.Reading.{is_set}
use Rattle.lisp_messages.specs.declared.fault.ReadFault.{ReadFault}
use Rattle.lisp_messages.specs.declared.fault.ReadFault.TheVariants.{NoIds, Trailing}
use Rattle.lisp_messages.specs.Message.{Registers, Notifies}
use Rattle.lisp_messages.specs.Reading.{nonce_of, ids_at, register_at, notify_at}

-- bit I is clear
pub register_refused : (bytes : List ℕ) (ms : List MapRecordValue) (tail : List ℕ) (i : Bool) → i ≡ is_set (slice_index bytes 0) 2 → i ≡ false → register_at bytes ms tail ≡ Err NoIds
unfolding register_at
register_refused bytes ms tail i bit clear = rw (sym bit ∙ clear) refl

-- xTR-ID and Site-ID are not read
pub register_fails : (bytes : List ℕ) (ms : List MapRecordValue) (tail : List ℕ) (i : Bool) (e : ReadFault) → i ≡ is_set (slice_index bytes 0) 2 → i ≡ true → ids_at tail ≡ Err e → register_at bytes ms tail ≡ Err e
unfolding register_at
register_fails bytes ms tail i e bit set fails = rw (sym bit ∙ set, fails) refl

-- the whole is read
pub register_is : (bytes : List ℕ) (ms rs : List MapRecordValue) (tail xtr : List ℕ) (site nonce : ℕ) (i proxy sec eid_notify use_ttl merge want_notify : Bool) → i ≡ is_set (slice_index bytes 0) 2 → i ≡ true → ids_at tail ≡ Ok (xtr, site)
    → proxy ≡ is_set (slice_index bytes 0) 8 → sec ≡ is_set (slice_index bytes 0) 4 → eid_notify ≡ is_set (slice_index bytes 2) 16 → use_ttl ≡ is_set (slice_index bytes 2) 8 → merge ≡ is_set (slice_index bytes 2) 4
    → want_notify ≡ is_set (slice_index bytes 2) 1 → nonce ≡ nonce_of bytes → rs ≡ ms
    → register_at bytes ms tail ≡ Ok (Registers (record { proxy = proxy; sec = sec; eid_notify = eid_notify; use_ttl = use_ttl; merge = merge; want_notify = want_notify; nonce = nonce; key_id = slice_index bytes 12; records = rs; xtr = xtr; site = site }))
unfolding register_at
register_is bytes ms rs tail xtr site nonce i proxy sec eid_notify use_ttl merge want_notify bit set ids p s e t a m n listed = rw (sym bit ∙ set, ids, p, s, e, t, a, m, n, listed) refl

-- neither nothing nor 24 bytes
pub notify_refused : (ack : Bool) (bytes : List ℕ) (ms : List MapRecordValue) (tail : List ℕ) (empty : Bool) → empty ≡ eqb (length tail) 0 → (empty ≡ false) × (length tail ≡ 24 → ⊥) → notify_at ack bytes ms tail ≡ Err Trailing
unfolding notify_at
notify_refused ack bytes ms tail empty test other = rw (sym test ∙ other.0, ne_eqb (length tail) 24 other.1) refl

-- one of the two
pub notify_is : (ack : Bool) (bytes : List ℕ) (ms rs : List MapRecordValue) (tail : List ℕ) (nonce : ℕ) (empty : Bool) → empty ≡ eqb (length tail) 0 → (empty ≡ true) ⊎ ((empty ≡ false) × (length tail ≡ 24)) → nonce ≡ nonce_of bytes → rs ≡ ms
    → notify_at ack bytes ms tail ≡ Ok (Notifies (record { ack = ack; nonce = nonce; key_id = slice_index bytes 12; records = rs }))
unfolding notify_at
notify_is ack bytes ms rs tail nonce empty test (inl none) n listed = rw (sym test ∙ none, n, listed) refl
notify_is ack bytes ms rs tail nonce empty test (inr ids) n listed = rw (ids.1, n, listed) refl
