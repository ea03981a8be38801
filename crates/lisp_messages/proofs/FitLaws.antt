-- What bytes spell fits the format.
use Rattle.std.proofs.Common.{◌<◌, ℕ, List, [], ◌∷◌, ◌++◌, length, refl, subst}
use Rattle.std.specs.Int.{w64, to_be_bytes}
use Rattle.std.specs.List.{AllByRecursion}
use Rattle.lisp_records.specs.Record.{MapRecordValue, IsMapRecord}
use Rattle.lisp_records.specs.Spelling.{IsBytes}
use Rattle.lisp_records.proofs.Fields.{IsBytes-first, IsBytes-rest, each_byte}
use Rattle.lisp_records.proofs.FitLaws.{record_fits}
use Rattle.lisp_messages.specs.Message.{MessageValue, Registers, Notifies, IsMessage, AreRecords}
use Rattle.lisp_messages.specs.Spelling.{SpellsRecords, common, Spells}

records_fit : (bytes : List ℕ) (rs : List MapRecordValue) → IsBytes bytes → SpellsRecords bytes rs → AllByRecursion IsMapRecord rs
records_fit bytes [] fits s = tt
records_fit bytes (r ∷ rs) fits (first, others, parts, one, rest) = (record_fits first r (IsBytes-first first others (subst IsBytes parts fits)) one, records_fit others rs (IsBytes-rest bytes first others parts fits) rest)

-- records behind the head of a message
counted : (head records : List ℕ) (rs : List MapRecordValue) → IsBytes (head ++ records) → length rs < 256 → SpellsRecords records rs → AreRecords rs
counted head records rs fits few s = (few, records_fit records rs (IsBytes-rest (head ++ records) head records refl fits) s)

pub said_fits : (bytes : List ℕ) (x : MessageValue) → IsBytes bytes → Spells bytes x → IsMessage x
said_fits bytes (Registers m) fits s =
    let head = s.kind ∷ s.reserved ∷ s.flags ∷ common (length m.records) m.nonce m.key_id s.auth in
    let whole = subst IsBytes s.parts fits in
    let before_site = IsBytes-first (head ++ s.records ++ m.xtr) (to_be_bytes w64 m.site) whole in
    record {
      nonce = s.nonce;
      key = whole 12;
      records = counted head s.records m.records (IsBytes-first (head ++ s.records) m.xtr before_site) (whole 3) s.each;
      xtr = s.xtr;
      xtr_bytes = each_byte m.xtr (IsBytes-rest (head ++ s.records ++ m.xtr) (head ++ s.records) m.xtr refl before_site);
      site = s.site;
    }
said_fits bytes (Notifies m) fits s =
    let head = s.kind ∷ s.reserved ∷ s.flags ∷ common (length m.records) m.nonce m.key_id s.auth in
    let whole = subst IsBytes s.parts fits in
    record { nonce = s.nonce; key = whole 12; records = counted head s.records m.records (IsBytes-first (head ++ s.records) s.tail whole) (whole 3) s.each }
