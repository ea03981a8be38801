-- What the files of a folder keep: for each pair the nonces that its file may hold.
use Rattle.std.specs.Prelude.{◌≡◌, ◌↔◌, ℕ, ◌<◌, ◌^◌, IsTrue, ◌&&◌, nat_lt, nat_eq, if◌then◌else◌, List, [], ◌∷◌, map, slice_range, Option, Some, None, Result, IfOk, IsErrOf, false, ⊤}
use Rattle.std.specs.Cmp.Lexicographic.{pointwise}
use Rattle.std.specs.FinMap.{entries, from_entries}
use Rattle.std.specs.List.{Contains}
use Rattle.std.specs.Str.Parse.{digits_value}
use Rattle.lisp_nonces.specs.declared.pair.Pair.{Pair}
use Rattle.lisp_nonces.specs.declared.fate.Fate.TheVariants.{Done}
use Rattle.lisp_nonces.specs.declared.fault.StoreFault.{StoreFault}
use Rattle.lisp_nonces.specs.declared.fault.StoreFault.TheVariants.{Damaged}
use Rattle.lisp_nonces.specs.Kept.{Kept, kept_at}
use Rattle.lisp_nonces.specs.Store.{StoreState}
use Rattle.lisp_store.specs.Folder.{Files, contents_at, FolderState}
use Rattle.lisp_store.specs.NonceText.{nonce_text}
use Rattle.lisp_store.specs.PairName.{IsPair, pair_name, pair_of_name}

-- the number whose digits stand where those of a nonce do
abbrev pub number_in : List ℕ → ℕ
number_in text = digits_value 10 (slice_range text 6 26)

-- the nonce that a content is the text of; no file, or another text, is that of none
unfoldable pub nonce_in : Option (List ℕ) → Option ℕ
nonce_in None = None
nonce_in (Some text) = if nat_lt (number_in text) (2 ^ 64) && pointwise nat_eq (nonce_text (number_in text)) text then Some (number_in text) else None

-- a content says a nonce where it is its text, and no other content does
abbrev pub TextsSayNonces : Type 0
TextsSayNonces = (content : Option (List ℕ)) (nonce : ℕ) → nonce < 2 ^ 64 → (nonce_in content ≡ Some nonce) ↔ (content ≡ Some (nonce_text nonce))

-- the content that says a value: no file says 'nothing'
abbrev pub content_of : Option ℕ → Option (List ℕ)
content_of None = None
content_of (Some nonce) = Some (nonce_text nonce)

-- a value that stores are given and answer: 'nothing', or a number of 64 bits
abbrev pub IsNonce : Option ℕ → Type 0
IsNonce None = ⊤
IsNonce (Some nonce) = nonce < 2 ^ 64

-- the entry of a file, where its name is that of a pair
abbrev pub with_entry : Option Pair → List (Option (List ℕ)) → List (Pair × List (Option ℕ)) → List (Pair × List (Option ℕ))
with_entry None contents others = others
with_entry (Some pair) contents others = (pair, map nonce_in contents) ∷ others

abbrev pub kept_entries : List (List ℕ × List (Option (List ℕ))) → List (Pair × List (Option ℕ))
kept_entries [] = []
kept_entries (file ∷ files) = with_entry (pair_of_name file.0) file.1 (kept_entries files)

-- what files keep
unfoldable pub kept_by : Files → Kept
kept_by files = from_entries (kept_entries (entries files))

-- for a pair, what the contents of the file of its name say; nothing for what is no pair
abbrev pub FilesKeepNonces : Type 0
FilesKeepNonces = (files : Files) (p : Pair)
    → (IsPair p → kept_at (kept_by files) p ≡ map nonce_in (contents_at files (pair_name p))) × (¬ (IsPair p) → kept_at (kept_by files) p ≡ None ∷ [])

-- a store over a folder is honest where the folder is; it may fail at any time, whatever it is armed with
abbrev pub store_over : FolderState → ℕ → StoreState
store_over folder faults = record { kept = kept_by folder.files; faults = faults; is_honest = folder.is_honest; is_quiet = false; is_obedient = false; fate = Done }

-- of an honest folder, a nonce that is read is one whose text the file of the pair's name may hold; nothing, where it may not be there
abbrev pub ReadsNonceIfHonest : FolderState → Pair → Result (Option ℕ) StoreFault → Type 0
ReadsNonceIfHonest before pair answer = IsTrue before.is_honest
    → IfOk answer (λ value. Contains (contents_at before.files (pair_name pair)) (content_of value))

-- of an honest folder, what is found damaged is a content that the file may have, and that is no text of a nonce
abbrev pub FindsDamageIfHonest : FolderState → Pair → Result (Option ℕ) StoreFault → Type 0
FindsDamageIfHonest before pair answer = IsTrue before.is_honest
    → IsErrOf answer Damaged → (text : List ℕ) × Contains (contents_at before.files (pair_name pair)) (Some text) × (nonce_in (Some text) ≡ None)
