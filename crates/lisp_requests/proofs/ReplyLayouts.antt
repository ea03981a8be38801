-- The layout of a Map-Reply, by what is read of its parts.
use Rattle.std.proofs.Common.{◌≡◌, ℕ, zero, suc, ◌≤◌, eqb, List, [], ◌∷◌, length, get_or, drop, Result, Ok, Err, sym, ap, ◌∙◌, arith}
use Rattle.std.proofs.lemmas.Bool.{ne_eqb}
use Rattle.std.proofs.lemmas.List.{length-drop, nil_from_length}
use Rattle.lisp_records.specs.Record.{MapRecordValue}
use Rattle.lisp_records.specs.Result.{◌>>=◌}
use Rattle.lisp_records.proofs.Faults.{Passes}
use Rattle.lisp_requests.specs.declared.fault.RequestFault.{RequestFault}
use Rattle.lisp_requests.specs.declared.fault.RequestFault.TheVariants.{Trailing}
use Rattle.lisp_requests.specs.declared.reply_parts.ReplyLayout.{ReplyLayout}
use Rattle.lisp_requests.specs.Reading.{items_at}
use Rattle.lisp_requests.specs.Reply.{reply_at, reply_head_at, reply_record_at}
use Rattle.lisp_requests.specs.ReplyLayout.{HasReplyFields, IsReplyLayout, LaysOutReply}
use Rattle.lisp_requests.proofs.Fields.{bind_ok, done, ok_is}
use Rattle.lisp_requests.proofs.ReplyLemmas.{records_fail, reply_is, trails}

-- a fault that is passed on is the one that reading meets
pub lays_fault : (bytes : List ℕ) (r : Result ReplyLayout RequestFault) (e : RequestFault) → Passes r e → reply_at bytes ≡ Err e → LaysOutReply bytes r
lays_fault bytes (Ok x) e passes fails = absurd passes
lays_fault bytes (Err d) e passes fails = fails ∙ ap Err (sym passes)

-- so many items are read as were asked for
items_count : {X : Type 0} (read : List ℕ → Result (X × List ℕ) RequestFault) (n : ℕ) (bytes : List ℕ) (x : List X × List ℕ) → items_at read n bytes ≡ Ok x → length x.0 ≡ n
unfolding items_at
items_count read zero bytes x e = ap (λ (y : List _ × List ℕ). length y.0) (sym (ok_is ([], bytes) x e))
items_count read (suc n) bytes x e =
    let a = bind_ok (read bytes) (λ first. items_at read n first.1 >>= λ others. done (first.0 ∷ others.0, others.1)) x e in
    let b = bind_ok (items_at read n a.0.1) (λ others. done (a.0.0 ∷ others.0, others.1)) x a.2 in
    ap (λ (y : List _ × List ℕ). length y.0) (sym (ok_is (a.0.0 ∷ b.0.0, b.0.1) x b.2)) ∙ ap suc (items_count read n a.0.1 b.0 b.1)

module _ (bytes : List ℕ) (passed : reply_head_at bytes ≡ Ok (drop 12 bytes)) where
  pub no_records : (e : RequestFault) → items_at reply_record_at (get_or bytes 3 0) (drop 12 bytes) ≡ Err e → reply_at bytes ≡ Err e
  no_records e fails = records_fail bytes (drop 12 bytes) e passed fails

  module _ (end : ℕ) (rs : List MapRecordValue) (within : end ≤ length bytes) (listed : items_at reply_record_at (get_or bytes 3 0) (drop 12 bytes) ≡ Ok (rs, drop end bytes)) where
    pub more : (end ≡ length bytes → ⊥) → reply_at bytes ≡ Err Trailing
    more other = trails bytes (drop 12 bytes) rs (drop end bytes) passed listed (ne_eqb (length (drop end bytes)) 0 (λ none. other (omega (arith, within, length-drop end bytes, none))))

    pub lays_out : end ≡ length bytes → (layout : ReplyLayout) → HasReplyFields layout bytes → layout.record_count ≡ get_or bytes 3 0 → layout.records_at ≡ 12 → IsReplyLayout bytes layout
    lays_out is layout fields count place =
        let none : length (drop end bytes) ≡ 0 = omega (arith, length-drop end bytes, is) in
        record {
          records = rs;
          read = reply_is bytes (drop 12 bytes) rs (drop end bytes) passed listed (ap (λ (n : ℕ). eqb n 0) none) ∙ ap Ok (sym (fields rs));
          count = items_count reply_record_at (get_or bytes 3 0) (drop 12 bytes) (rs, drop end bytes) listed ∙ sym count;
          place = place;
          each = rw (count, place) (listed ∙ ap (λ (t : List ℕ). done {A = List MapRecordValue × List ℕ} (rs, t)) (nil_from_length (drop end bytes) none));
        }
