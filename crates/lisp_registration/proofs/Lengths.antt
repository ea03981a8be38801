-- How long messages are: no written spelling of records is longer than another one, and a part of a database fits a message.
use Rattle.std.proofs.Common.{◌≡◌, ℕ, zero, suc, ◌+◌, ◌*◌, ◌<◌, ◌≤◌, ◌⊎◌, true, List, [], ◌∷◌, ◌++◌, length, inl, inr, sym, ap, ◌∙◌, arith, length-append}
use Rattle.std.specs.List.{AllByRecursion}
use Rattle.std.specs.Prelude.{slice_index_or, replicate, Ok}
use Rattle.std.proofs.lemmas.List.Concat.{length-flat_map}
use Rattle.lisp_records.specs.declared.address.Addr.{Addr}
use Rattle.lisp_records.specs.declared.address.Addr.TheVariants.{V4, V6}
use Rattle.lisp_records.specs.declared.address.Family.{Family}
use Rattle.lisp_records.specs.declared.address.Family.TheVariants.{Ipv4, Ipv6}
use Rattle.lisp_records.specs.declared.locator.Locator.{Locator}
use Rattle.lisp_records.specs.Address.{family, width, octets, HasWidth}
use Rattle.lisp_records.specs.Record.{MapRecordValue, IsLocator, IsMapRecord}
use Rattle.lisp_records.specs.Spelling.{SpellsLocators, Spells}
use Rattle.lisp_records.specs.Written.{written_locator, written_locators, written}
use Rattle.lisp_records.specs.Parts.{size, fits_message, cut, cut_from, part_at}
use Rattle.lisp_records.proofs.AddressLemmas.{family-cleared}
use Rattle.lisp_records.proofs.Cuts.{cut_induction, fits_is}
use Rattle.lisp_records.proofs.WrittenLemmas.{length-written}
use Rattle.lisp_records.specs.Spelling.{IsBytes}
use Rattle.lisp_hmac.specs.Tag.{tag}
use Rattle.lisp_hmac.proofs.TagLemmas.{length-tag}
use Rattle.lisp_messages.specs.Authentic.{signed}
use Rattle.lisp_messages.specs.Message.{MapRegisterValue, MapNotifyValue, MessageValue, Registers, Notifies, IsMessage}
use Rattle.lisp_messages.specs.Reading.{message_at}
use Rattle.lisp_messages.specs.Spelling.{SpellsRecords, Spells as SpellsMessage}
use Rattle.lisp_messages.specs.Written.{written_records, written_notify_head, written_notify, written_register_head, written_ids, written_register}
use Rattle.lisp_messages.proofs.FitLaws.{said_fits}
use Rattle.lisp_messages.proofs.MessageLaws.{message_takes}
use Rattle.lisp_lookup.specs.Records.{ByPrefix}
use Rattle.std.specs.Int.{w64, to_be_bytes}
use Rattle.std.proofs.lemmas.List.Sorted.{sum_by-IsPermutation}

-- ---- a spelling and the written one

-- locators in any spelling have as many bytes as the written ones
spelled_locators : (bytes : List ℕ) (ls : List Locator) → SpellsLocators bytes ls → length bytes ≡ length (written_locators ls)
spelled_locators bytes [] s = ap length s
spelled_locators bytes (l ∷ ls) (first, others, parts, one, rest) =
    let so_far : length others ≡ length (written_locators ls) = spelled_locators others ls rest in
    let long = ap length one.parts in
    let whole : length bytes ≡ length first + length others = ap length parts ∙ length-append first others in
    let own = length-append (written_locator l) (written_locators ls) in
    omega (arith, so_far, long, whole, own)

-- a record in any spelling has as many bytes as the written one
spelled_record : (bytes : List ℕ) (m : MapRecordValue) → Spells bytes m → IsMapRecord m → length bytes ≡ length (written m)
spelled_record bytes m s is =
    let eid : length s.eid ≡ width (family m.eid.addr) = ap length s.prefix.parts ∙ s.prefix.addr ∙ ap width (sym (family-cleared s.prefix.written m.eid.mask_len)) ∙ ap (λ (a : Addr). width (family a)) s.prefix.masked in
    let locators = spelled_locators s.locators m.locators s.each in
    let whole = ap length s.parts in
    let both = length-append s.eid s.locators in
    let own = length-written m is.eid in
    omega (arith, eid, locators, whole, both, own)

-- so have records
pub spelled_records : (bytes : List ℕ) (rs : List MapRecordValue) → SpellsRecords bytes rs → AllByRecursion IsMapRecord rs → length bytes ≡ length (written_records rs)
spelled_records bytes [] s are = ap length s
spelled_records bytes (r ∷ rs) (first, others, parts, one, rest) are =
    let so_far = spelled_records others rs rest are.1 in
    let front = spelled_record first r one are.0 in
    let whole : length bytes ≡ length first + length others = ap length parts ∙ length-append first others in
    let own = length-append (written r) (written_records rs) in
    omega (arith, so_far, front, whole, own)

-- their size is how many bytes they have
pub length-written_records : (rs : List MapRecordValue) → length (written_records rs) ≡ size rs
length-written_records rs = length-flat_map written rs

-- ---- a part of a database

narrow : (a : Addr) → HasWidth a → length (octets a) ≤ 16
narrow (V4 bytes) wide = omega (arith, wide)
narrow (V6 bytes) wide = omega (arith, wide)

narrow_family : (f : Family) → width f ≤ 16
narrow_family Ipv4 = omega arith
narrow_family Ipv6 = omega arith

-- a locator has at most 24 bytes
small_locators : (ls : List Locator) → AllByRecursion IsLocator ls → length (written_locators ls) ≤ 24 * length ls
small_locators [] are = omega arith
small_locators (l ∷ ls) are =
    let so_far = small_locators ls are.1 in
    let wide : length (octets l.addr) ≤ 16 = narrow l.addr are.0.addr.width in
    let own = length-append (written_locator l) (written_locators ls) in
    omega (arith, so_far, wide, own)

small_record : (m : MapRecordValue) → IsMapRecord m → length (written m) ≤ 16384
small_record m is = omega (arith, length-written m is.eid, narrow_family (family m.eid.addr), small_locators m.locators is.locators, is.count)

-- records fit a message, or are one or none
abbrev Fits : List MapRecordValue → Type 0
Fits part = (fits_message part ≡ true) ⊎ (length part < 2)

all_fit : (part ms : List MapRecordValue) → Fits part → AllByRecursion Fits (cut_from part ms)
all_fit = cut_induction (λ part ms parts. Fits part → AllByRecursion Fits parts)
    (λ part first. (first, tt))
    (λ part m ms parts fit on first. on (inl fit))
    (λ part m ms parts full on first. (first, on (inr (omega arith))))

one_of : (parts : List (List MapRecordValue)) (i : ℕ) → AllByRecursion Fits parts → Fits (slice_index_or parts i [])
one_of [] i fit = inr (omega arith)
one_of (part ∷ parts) zero fit = fit.0
one_of (part ∷ parts) (suc i) fit = one_of parts i fit.1

short : (part : List MapRecordValue) → AllByRecursion IsMapRecord part → Fits part → size part ≤ 16384
short part are (inl fit) = (fits_is part fit).1
short [] are (inr few) = omega arith
short (m ∷ []) are (inr few) = omega (arith, small_record m are.0)
short (m ∷ n ∷ ms) are (inr few) = absurd (omega (arith, few))

-- a part of a database has at most 16,384 bytes
pub part_is_short : (ms : List MapRecordValue) (part : ℕ) → AllByRecursion IsMapRecord (part_at ms part) → size (part_at ms part) ≤ 16384
unfolding cut
part_is_short ms part are = short (part_at ms part) are (one_of (cut_from [] ms) part (all_fit [] ms (inr (omega arith))))

-- ---- messages

-- the records of a message
abbrev pub records_in : MessageValue → List MapRecordValue
records_in (Registers m) = m.records
records_in (Notifies m) = m.records

-- a Map-Notify has 32 bytes before its records
pub length-notify : (secret : List ℕ) (m : MapNotifyValue) → length (signed secret (written_notify m)) ≡ 32 + size m.records
unfolding written_notify
length-notify secret m =
    let auth : List ℕ = tag secret (written_notify m (replicate 16 0)) 16 in
    omega (arith, length-append (written_notify_head m auth) (written_records m.records), length-tag secret (written_notify m (replicate 16 0)) 16, length-written_records m.records)

-- so has a Map-Register, and 24 behind them
pub length-register : (secret : List ℕ) (m : MapRegisterValue) → length m.xtr ≡ 16 → length (signed secret (written_register m)) ≡ 56 + size m.records
unfolding written_register
length-register secret m wide =
    let auth : List ℕ = tag secret (written_register m (replicate 16 0)) 16 in
    omega (
      arith,
      length-append (written_register_head m auth) (written_records m.records ++ written_ids m),
      length-append (written_records m.records) (written_ids m),
      length-append m.xtr (to_be_bytes w64 m.site),
      wide,
      length-tag secret (written_register m (replicate 16 0)) 16,
      length-written_records m.records,
    )

spelled_message : (bytes : List ℕ) (x : MessageValue) → SpellsMessage bytes x → IsMessage x → 32 + size (records_in x) ≤ length bytes
spelled_message bytes (Registers m) s is =
    let whole = ap length s.parts in
    let records = spelled_records s.records m.records s.each is.records.1 in
    let front = length-append (s.auth ++ s.records ++ m.xtr) (to_be_bytes w64 m.site) in
    let middle = length-append (s.auth ++ s.records) m.xtr in
    omega (arith, whole, records, front, middle, length-append s.auth s.records, s.auth_length, length-written_records m.records)
spelled_message bytes (Notifies m) s is =
    let whole = ap length s.parts in
    let records = spelled_records s.records m.records s.each is.records.1 in
    omega (arith, whole, records, length-append (s.auth ++ s.records) s.tail, length-append s.auth s.records, s.auth_length, length-written_records m.records)

-- an answer with the records of a message that was read has no more bytes than the message
pub answer_is_short : (bytes : List ℕ) (x : MessageValue) → IsBytes bytes → message_at bytes ≡ Ok x → 32 + size (records_in x) ≤ length bytes
answer_is_short bytes x fits is =
    let spelled = message_takes bytes x fits is in
    spelled_message bytes x spelled (said_fits bytes x fits spelled)

-- records that fit a message have at most 16,384 bytes, in any order
pub notice_is_short : (live records : List MapRecordValue) → ByPrefix live records → fits_message live ≡ true → size records ≤ 16384
notice_is_short live records by_prefix fit =
    omega (arith, (fits_is live fit).1, sum_by-IsPermutation (λ m. length (written m)) live records by_prefix.same)
