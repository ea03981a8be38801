-- Records that are read one after the other are spelled so, and records that are spelled so are
-- read; and the written spelling of records is one of theirs.
use Rattle.std.proofs.Common.{◌≡◌, ℕ, zero, suc, List, [], ◌∷◌, ◌++◌, length, Result, Ok, Err, refl, sym, ap, subst, ◌∙◌, append_assoc}
use Rattle.std.specs.List.{AllByRecursion}
use Rattle.lisp_records.specs.declared.fault.RecordFault.{RecordFault}
use Rattle.lisp_records.specs.Record.{MapRecordValue, IsMapRecord}
use Rattle.lisp_records.specs.Spelling.{IsBytes, Spells as SpellsRecord}
use Rattle.lisp_records.specs.Written.{written}
use Rattle.lisp_records.specs.Reading.{record_at}
use Rattle.lisp_records.proofs.Fields.{Takes, IsBytes-rest}
use Rattle.lisp_records.proofs.RecordLaws.{record_takes, record_again, written_spells}
use Rattle.lisp_messages.specs.Spelling.{SpellsRecords}
use Rattle.lisp_messages.specs.Written.{written_records}
use Rattle.lisp_records.specs.Result.{◌>>=◌}
use Rattle.lisp_messages.specs.Reading.{at_place, records_at}
use Rattle.lisp_messages.proofs.Fields.{bind_ok, done, ok_is}

-- a record that was read at its place was read
placed : {X : Type 0} (i : ℕ) (r : Result X RecordFault) (x : X) → at_place i r ≡ Ok x → r ≡ Ok x
placed i (Ok y) x e = cc
placed i (Err f) x e = absurd cc

-- a record and then records are records
records_joined : (bytes middle rest : List ℕ) (m : MapRecordValue) (ms : List MapRecordValue) → Takes (λ text. SpellsRecord text m) bytes middle → Takes (λ text. SpellsRecords text ms) middle rest → Takes (λ text. SpellsRecords text (m ∷ ms)) bytes rest
records_joined bytes middle rest m ms first others = record {
  text = first.text ++ others.text;
  parts = first.parts ∙ ap (λ (t : List ℕ). first.text ++ t) others.parts ∙ sym (append_assoc first.text others.text rest);
  kind = (first.text, others.text, refl, first.kind, others.kind);
}

-- records that were read are spelled by the bytes in front, and are as many as were asked for
pub records_take : (i n : ℕ) (bytes : List ℕ) (x : List MapRecordValue × List ℕ) → IsBytes bytes → records_at i n bytes ≡ Ok x → Takes (λ text. SpellsRecords text x.0) bytes x.1 × (length x.0 ≡ n)
unfolding records_at
records_take i zero bytes x fits e =
    let made : List MapRecordValue × List ℕ = ([], bytes) in
    subst (λ (y : List MapRecordValue × List ℕ). Takes (λ text. SpellsRecords text y.0) bytes y.1 × (length y.0 ≡ 0)) {x = made} (ok_is made x e) (record { text = []; parts = refl; kind = refl }, refl)
records_take i (suc n) bytes x fits e =
    let a = bind_ok (at_place i (record_at bytes)) (λ first. records_at (suc i) n first.1 >>= λ others. done (first.0 ∷ others.0, others.1)) x e in
    let b = bind_ok (records_at (suc i) n a.0.1) (λ others. done (a.0.0 ∷ others.0, others.1)) x a.2 in
    let first = record_takes bytes a.0 fits (placed i (record_at bytes) a.0 a.1) in
    let others = records_take (suc i) n a.0.1 b.0 (IsBytes-rest bytes first.text a.0.1 first.parts fits) b.1 in
    let made : List MapRecordValue × List ℕ = (a.0.0 ∷ b.0.0, b.0.1) in
    subst (λ (y : List MapRecordValue × List ℕ). Takes (λ text. SpellsRecords text y.0) bytes y.1 × (length y.0 ≡ suc n)) {x = made} (ok_is made x b.2) (records_joined bytes a.0.1 b.0.1 a.0.0 b.0.0 first others.0, ap suc others.1)

-- records that are spelled in front are read, from any place on
pub records_again : (i : ℕ) (text rest : List ℕ) (ms : List MapRecordValue) → SpellsRecords text ms → records_at i (length ms) (text ++ rest) ≡ Ok (ms, rest)
unfolding records_at
records_again i text rest [] s = ap (λ (t : List ℕ). done ([], t ++ rest)) s
records_again i text rest (m ∷ ms) s =
    let whole : text ++ rest ≡ s.0 ++ (s.1 ++ rest) = ap (λ (t : List ℕ). t ++ rest) s.2 ∙ append_assoc s.0 s.1 rest in
    ap (records_at i (suc (length ms))) whole ∙ rw (record_again s.0 (s.1 ++ rest) m s.3, records_again (suc i) s.1 rest ms s.4) refl

-- the written spelling of records is one of theirs
pub records_spelled : (ms : List MapRecordValue) → AllByRecursion IsMapRecord ms → SpellsRecords (written_records ms) ms
records_spelled [] all = refl
records_spelled (m ∷ ms) all = (written m, written_records ms, refl, written_spells m all.0, records_spelled ms all.1)
