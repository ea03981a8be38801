-- The written spellings, by their Authentication Data, and their parts.
use Rattle.std.proofs.Common.{◌≡◌, ℕ, ◌*◌, ◌^◌, ◌<◌, List, [], ◌∷◌, ◌++◌, length, take, drop, replicate, All, ◌≤◌, get_or, ◌+◌, Result, Ok, Err, refl, sym, ap, subst, ◌∙◌, append_assoc, arith}
use Rattle.std.specs.Prelude.{OnOk, is_ok, if◌then◌else◌}
use Rattle.std.specs.Int.{from_bool}
use Rattle.std.specs.List.{AllByRecursion}
use Rattle.std.proofs.lemmas.Grind.{flat_map-append}
use Rattle.std.proofs.lemmas.List.{append-nil, length-append, take_at, take_more, drop_at}
use Rattle.std.proofs.lemmas.List.Elements.{All-take, All-drop, recursion_from_All}
use Rattle.lisp_records.specs.Record.{MapRecordValue, IsMapRecord}
use Rattle.lisp_records.specs.Written.{written as written_record}
use Rattle.lisp_records.proofs.Fields.{flag_is}
use Rattle.lisp_messages.specs.declared.kind.Kind.{Kind}
use Rattle.lisp_messages.specs.declared.kind.Kind.TheVariants as kinds
use Rattle.lisp_messages.specs.Message.{MapRegisterValue, MapNotifyValue, IsMapRegister, IsMapNotify}
use Rattle.lisp_messages.specs.Spelling.{common, notify_type}
use Rattle.lisp_messages.specs.Written.{kind_number, register_kind, register_flags, written_notify_head, written_records, written_notify, written_register_head, written_ids, written_register}

-- other Authentication Data in its place
pub written_notify-put : (m : MapNotifyValue) (tag : List ℕ) → take 16 (written_notify m (replicate 16 0)) ++ tag ++ drop 32 (written_notify m (replicate 16 0)) ≡ written_notify m tag
unfolding written_notify
written_notify-put m tag = refl

-- a message has at least the 32 bytes before its records
pub length-written_notify : (m : MapNotifyValue) → 32 ≤ length (written_notify m (replicate 16 0))
unfolding written_notify
length-written_notify m = omega (arith, length-append (written_notify_head m (replicate 16 0)) (written_records m.records))

-- other Authentication Data in the place of a Map-Register's
pub written_register-put : (m : MapRegisterValue) (tag : List ℕ) → take 16 (written_register m (replicate 16 0)) ++ tag ++ drop 32 (written_register m (replicate 16 0)) ≡ written_register m tag
unfolding written_register
written_register-put m tag = refl

-- a Map-Register has at least the 32 bytes before its records
pub length-written_register : (m : MapRegisterValue) → 32 ≤ length (written_register m (replicate 16 0))
unfolding written_register
length-written_register m =
    omega (arith, length-append (written_register_head m (replicate 16 0)) (written_records m.records ++ written_ids m))

-- what was written where there was memory
pub where_ok : {E : Type 0} (r : Result (Unit {0}) E) (new a b : List ℕ) → new ≡ (if is_ok r then a else b) → OnOk r (new ≡ a)
where_ok (Ok x) new a b is = is
where_ok (Err e) new a b is = tt

-- what holds of each item holds of each item of a part
pub All-part : (P : ℕ → Type 0) (front part rest : List ℕ) → All P (front ++ part ++ rest) → All P part
All-part P front part rest all =
    let before : All P (front ++ part) = subst (All P) (take_at (front ++ part) rest (length (front ++ part)) refl) (All-take P (length (front ++ part)) (front ++ part ++ rest) all) in
    subst (All P) (drop_at front part (length front) refl) (All-drop P (length front) (front ++ part) before)

-- ---- a message that was appended part by part

-- its head, then its records
pub notify_put : (m : MapNotifyValue) (old mid new head : List ℕ) (rs : List MapRecordValue) → old ≡ [] → head ≡ written_notify_head m (replicate 16 0) → rs ≡ m.records → mid ≡ old ++ head → new ≡ mid ++ written_records rs → new ≡ written_notify m (replicate 16 0)
unfolding written_notify
notify_put m old mid new head rs empty front listed first next = rw (next, first, empty, front, listed) refl

-- and what its fields promise
pub notify_known : (m : MapNotifyValue) (rs : List MapRecordValue) → rs ≡ m.records → (m.nonce < 2 ^ 64) × (m.key_id < 256) × (length m.records < 256) → All IsMapRecord rs → IsMapNotify m
notify_known m rs listed fits all = record { nonce = fits.0; key = fits.1; records = (fits.2, recursion_from_All IsMapRecord m.records (subst (All IsMapRecord) listed all)) }

-- its head, its records, then xTR-ID and Site-ID
pub register_put : (inside m : MapRegisterValue) (old mid body new head : List ℕ) (rs : List MapRecordValue) → inside ≡ m → old ≡ [] → head ≡ written_register_head m (replicate 16 0) → rs ≡ inside.records → mid ≡ old ++ head → body ≡ mid ++ written_records rs → new ≡ body ++ written_ids inside → new ≡ written_register m (replicate 16 0)
unfolding written_register
register_put inside m old mid body new head rs same empty front listed first next last =
    last ∙ rw (next, first, empty, front, listed, same) (append_assoc (written_register_head m (replicate 16 0)) (written_records m.records) (written_ids m))

-- and what its fields promise
pub register_known : (inside m : MapRegisterValue) (rs : List MapRecordValue) → inside ≡ m → rs ≡ inside.records → (m.nonce < 2 ^ 64) × (m.key_id < 256) × (length m.records < 256) → All IsMapRecord rs → (length inside.xtr ≡ 16) × (inside.site < 2 ^ 64)
    → AllByRecursion (λ n. n < 256) inside.xtr → IsMapRegister m
register_known inside m rs same listed fits all wide bytes = record {
  nonce = fits.0;
  key = fits.1;
  records = (fits.2, recursion_from_All IsMapRecord m.records (subst (All IsMapRecord) (listed ∙ ap (λ (x : MapRegisterValue). x.records) same) all));
  xtr = subst (λ (x : MapRegisterValue). length x.xtr ≡ 16) same wide.0;
  xtr_bytes = subst (λ (x : MapRegisterValue). AllByRecursion (λ n. n < 256) x.xtr) same bytes;
  site = subst (λ (x : MapRegisterValue). x.site < 2 ^ 64) same wide.1;
}

-- ---- the bytes before the records, by what the program reads of a message

pub kind_small : (k : Kind) → kind_number k ≤ 5
kind_small kinds.Register = omega arith
kind_small kinds.Notify = omega arith
kind_small kinds.NotifyAck = omega arith

pub kind_made : (inside m : MapRegisterValue) (number proxy sec : ℕ) → inside ≡ m → number ≡ 3 → proxy ≡ from_bool inside.proxy → sec ≡ from_bool inside.sec → number * 16 + proxy * 8 + sec * 4 + 2 ≡ register_kind m
kind_made inside m number proxy sec same n p s = rw (n, flag_is inside.proxy proxy p, flag_is inside.sec sec s, same) refl

pub flags_made : (inside m : MapRegisterValue) (eid_notify use_ttl merge want_notify : ℕ) → inside ≡ m → eid_notify ≡ from_bool inside.eid_notify → use_ttl ≡ from_bool inside.use_ttl → merge ≡ from_bool inside.merge → want_notify ≡ from_bool inside.want_notify → eid_notify * 16 + use_ttl * 8 + merge * 4 + want_notify * 1 ≡ register_flags m
flags_made inside m eid_notify use_ttl merge want_notify same e t a n =
    let one : want_notify * 1 ≡ want_notify = omega arith in
    rw (one, flag_is inside.eid_notify eid_notify e, flag_is inside.use_ttl use_ttl t, flag_is inside.merge merge a, flag_is inside.want_notify want_notify n, same) refl

pub notify_head : (inside m : MapNotifyValue) (bytes : List ℕ) (number : ℕ) (rs : List MapRecordValue) → inside ≡ m → number ≡ notify_type inside.ack → rs ≡ inside.records → bytes ≡ number * 16 ∷ 0 ∷ 0 ∷ common (length rs) inside.nonce inside.key_id (replicate 16 0) → bytes ≡ written_notify_head m (replicate 16 0)
notify_head inside m bytes number rs same named listed made = made ∙ rw (named, listed, same) refl

pub notify_fits : (inside m : MapNotifyValue) → inside ≡ m → (inside.nonce < 2 ^ 64) × (inside.key_id < 256) → length inside.records < 256 → (m.nonce < 2 ^ 64) × (m.key_id < 256) × (length m.records < 256)
notify_fits inside m same fits few = subst (λ (x : MapNotifyValue). (x.nonce < 2 ^ 64) × (x.key_id < 256) × (length x.records < 256)) same (fits.0, fits.1, few)

pub register_head : (inside m : MapRegisterValue) (bytes : List ℕ) (kind flags : ℕ) (rs : List MapRecordValue) → inside ≡ m → kind ≡ register_kind m → flags ≡ register_flags m → rs ≡ inside.records → bytes ≡ kind ∷ 0 ∷ flags ∷ common (length rs) inside.nonce inside.key_id (replicate 16 0) → bytes ≡ written_register_head m (replicate 16 0)
register_head inside m bytes kind flags rs same first third listed made = made ∙ rw (first, third, listed, same) refl

pub register_fits : (inside m : MapRegisterValue) → inside ≡ m → (inside.nonce < 2 ^ 64) × (inside.key_id < 256) → length inside.records < 256 → (m.nonce < 2 ^ 64) × (m.key_id < 256) × (length m.records < 256)
register_fits inside m same fits few = subst (λ (x : MapRegisterValue). (x.nonce < 2 ^ 64) × (x.key_id < 256) × (length x.records < 256)) same (fits.0, fits.1, few)

-- ---- records that are appended one after the other

records_more : (rs : List MapRecordValue) (i : ℕ) (m : MapRecordValue) → i < length rs → m ≡ get_or rs i m → written_records (take (i + 1) rs) ≡ written_records (take i rs) ++ written_record m
records_more rs i m lt at =
    let one : written_records (get_or rs i m ∷ []) ≡ written_record m = append-nil (written_record (get_or rs i m)) ∙ ap written_record (sym at) in
    ap written_records (take_more rs i m lt) ∙ flat_map-append written_record (take i rs) (get_or rs i m ∷ []) ∙ ap (λ (t : List ℕ). written_records (take i rs) ++ t) one

pub records_go_on : (old out new : List ℕ) (rs : List MapRecordValue) (i : ℕ) (m : MapRecordValue) → i < length rs → m ≡ get_or rs i m → out ≡ old ++ written_records (take i rs) → new ≡ out ++ written_record m → new ≡ old ++ written_records (take (i + 1) rs)
records_go_on old out new rs i m lt at so_far appended =
    let front = written_records (take i rs) in
    appended ∙ ap (λ (t : List ℕ). t ++ written_record m) so_far ∙ append_assoc old front (written_record m) ∙ ap (λ (t : List ℕ). old ++ t) (sym (records_more rs i m lt at))

-- ---- a tag in its place
