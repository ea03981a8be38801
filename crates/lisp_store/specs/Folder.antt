-- What contracts see of a folder of files, and what each of its calls keeps: for each name what a read may still answer.
use Rattle.std.specs.Prelude.{◌≡◌, ◌≢◌, ◌⊎◌, ℕ, ◌-◌, ◌^◌, ◌<◌, ◌≤◌, Bool, false, IsTrue, List, [], ◌∷◌, ◌++◌, length, take, Option, Some, None, Result, IfOk, OnOk, OnErr}
use Rattle.std.specs.Cmp.Lexicographic.{slice_cmp}
use Rattle.std.specs.FinMap.{FinMap, get}
use Rattle.std.specs.List.{Contains}
use Rattle.std.specs.Option.{unwrap_or}
use Rattle.std.specs.Ordering.{nat_cmp}
use mathlib.Core.Bool.{true≢false}
use mathlib.Core.Path.{sym}
use Rattle.lisp_nonces.specs.declared.fault.StoreFault.{StoreFault}
use Rattle.lisp_nonces.specs.declared.fault.StoreFault.TheVariants as faults
use Rattle.lisp_store.specs.declared.folder.FolderFault.{FolderFault}
use Rattle.lisp_store.specs.declared.folder.FolderFault.TheVariants.{Device, OutOfMemory}

-- by name, the contents that a file may still have, one after the other; 'no file' is a content too
abbrev pub Files : Type 0
Files = FinMap (slice_cmp nat_cmp) (List (Option (List ℕ)))

-- those of a name; of one that was never replaced 'no file' alone
unfoldable pub contents_at : Files → List ℕ → List (Option (List ℕ))
contents_at files name = unwrap_or (get files name) (None ∷ [])

-- the files, how often the device failed, and whether the laws of files are said of the folder
pub record FolderState : Type 0 where
  pub files : Files
  pub faults : ℕ
  pub is_honest : Bool

-- a count rose, or has come to its end
abbrev pub Rises : ℕ → ℕ → Type 0
Rises old new = (old < new) ⊎ (new ≡ 2 ^ 64 - 1)

-- its device failed in between
abbrev pub DeviceFailed : FolderState → FolderState → Type 0
DeviceFailed old new = Rises old.faults new.faults

-- a file has one content at least
abbrev pub HasContents : FolderState → Type 0
HasContents s = IsTrue s.is_honest → (name : List ℕ) → (c : Option (List ℕ)) × Contains (contents_at s.files name) c

-- what a read found fits one of the contents: there is no file, or so many bytes of it as there is room for
abbrev pub IsFront : (room : ℕ) → Option ℕ → List ℕ → Option (List ℕ) → Type 0
IsFront room None buffer content = content ≡ None
IsFront room (Some count) buffer content = (text : List ℕ) × (content ≡ Some text) × (count ≤ room) × (take count buffer ≡ take room text)

-- of an honest folder, a read that is answered gives a content that the file may have
abbrev pub ReadsIfHonest : {E : Type 0} → FolderState → List ℕ → List ℕ → Result (Option ℕ) E → Type 0
ReadsIfHonest before name buffer answer = IsTrue before.is_honest
    → IfOk answer (λ found. (c : Option (List ℕ)) × Contains (contents_at before.files name) c × IsFront (length buffer) found buffer c)

-- of an honest folder, no file changes
abbrev pub KeepsFilesIfHonest : FolderState → FolderState → Type 0
KeepsFilesIfHonest before after = IsTrue before.is_honest → after.files ≡ before.files

-- of an honest folder, the file is replaced: it has these bytes and can have no others
abbrev pub ReplacesIfHonest : {E : Type 0} → FolderState → FolderState → List ℕ → List ℕ → Result (Unit {0}) E → Type 0
ReplacesIfHonest before after name bytes answer = IsTrue before.is_honest → OnOk answer (contents_at after.files name ≡ Some bytes ∷ [])

-- of an honest folder, a file whose replacing failed may have what it had, and perhaps these bytes
abbrev pub DoubtsFileIfHonest : {E : Type 0} → FolderState → FolderState → List ℕ → List ℕ → Result (Unit {0}) E → Type 0
DoubtsFileIfHonest before after name bytes answer = IsTrue before.is_honest → OnErr answer
    ((contents_at after.files name ≡ contents_at before.files name)
    ⊎ (contents_at after.files name ≡ contents_at before.files name ++ Some bytes ∷ []))

-- of an honest folder, every other file keeps what it had
abbrev pub KeepsOtherFilesIfHonest : FolderState → FolderState → List ℕ → Type 0
KeepsOtherFilesIfHonest before after name = IsTrue before.is_honest
    → (other : List ℕ) → other ≢ name → contents_at after.files other ≡ contents_at before.files other

-- a store's fault for a folder's
abbrev pub store_fault : FolderFault → StoreFault
store_fault Device = faults.Device
store_fault OutOfMemory = faults.OutOfMemory

-- of a folder that isn't honest nothing is said
pub has_any_contents : (files : Files) (faults : ℕ) → HasContents (record { files = files; faults = faults; is_honest = false })
has_any_contents files faults honest = absurd (true≢false (sym honest))
