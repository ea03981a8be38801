-- A folder in memory: what each `replace` did, and the files that this makes.
use Rattle.std.specs.Prelude.{◌≢◌, ℕ, ◌+◌, ◌-◌, ◌^◌, ◌==◌, min, Bool, true, false, ◌&&◌, not, List, [], ◌∷◌, ◌++◌, Option, Some, None, Result, Ok, Err, cond, slice_index_or, if◌then◌else◌}
use Rattle.std.specs.Cmp.Lexicographic.{slice_cmp, nat_list_cmp_total}
use Rattle.std.specs.FinMap.{empty, get, insert, get-empty, get-insert}
use Rattle.std.specs.List.{Contains, find}
use Rattle.std.specs.Option.{option_map, unwrap_or}
use Rattle.std.specs.Ordering.{nat_cmp, eq_by_cmp}
use native.Mathlib.Nat.{zero-lt-suc}
use mathlib.Core.Path.{refl, sym, subst}
use Rattle.lisp_store.specs.declared.folder.FolderFault.{FolderFault}
use Rattle.lisp_store.specs.declared.folder.FolderFault.TheVariants.{Device, OutOfMemory}
use Rattle.lisp_store.specs.Folder.{Files, contents_at, FolderState, HasContents}

-- what one `replace` did: the file's name, the bytes that it was given, and whether it failed
pub record ReplacedValue : Type 0 where
  pub name : List ℕ
  pub bytes : List ℕ
  pub failed : Bool

-- the folder: what was done, the last first; which of the next calls of `replace` fails, counted from 1, 0 where none does;
-- and how often one failed
pub record MemoryFolderState : Type 0 where
  pub replaced : List ReplacedValue
  pub turn : ℕ
  pub faults : ℕ

-- the contents that a `replace` leaves of those that the file may have had
abbrev pub contents_left : ReplacedValue → List (Option (List ℕ)) → List (Option (List ℕ))
contents_left r contents = if r.failed then contents ++ Some r.bytes ∷ [] else Some r.bytes ∷ []

-- the files; of a folder in which nothing was done none was ever there
unfoldable pub files_of : List ReplacedValue → Files
files_of [] = empty
files_of (r ∷ rs) = insert (files_of rs) r.name (contents_left r (contents_at (files_of rs) r.name))

abbrev pub memory_files : MemoryFolderState → Files
memory_files m = files_of m.replaced

-- it is honest
abbrev pub memory_folder_state : MemoryFolderState → FolderState
memory_folder_state m = record { files = memory_files m; faults = m.faults; is_honest = true }

-- it was the file of this name
abbrev pub is_named : List ℕ → ReplacedValue → Bool
is_named name r = eq_by_cmp (slice_cmp nat_cmp) name r.name

-- the file of this name had these bytes then
abbrev pub gives_content : List ℕ → ReplacedValue → Bool
gives_content name r = not r.failed && is_named name r

-- the bytes that it has since the last that was done, if there is one
abbrev pub content_found : List ℕ → List ReplacedValue → Option (List ℕ)
content_found name rs = option_map (λ (r : ReplacedValue). r.bytes) (find (gives_content name) rs)

-- the first of the contents that a file may have
abbrev pub first_content : MemoryFolderState → List ℕ → Option (List ℕ)
first_content m name = slice_index_or (contents_at (memory_files m) name) 0 None

-- the next `replace` is the one that fails
abbrev pub replace_fails : MemoryFolderState → Bool
replace_fails m = m.turn == 1

-- what a `replace` answers, where there is memory for it
abbrev pub replace_answer : MemoryFolderState → Result (Unit {0}) FolderFault
replace_answer m = if replace_fails m then Err Device else Ok tt

-- the count that it leaves, where there is memory for it; the count stops at its end
abbrev pub faults_replaced : MemoryFolderState → ℕ
faults_replaced m = if replace_fails m then min (m.faults + 1) (2 ^ 64 - 1) else m.faults

-- the contents that it leaves, where there is memory for it
abbrev pub contents_replaced : MemoryFolderState → List ℕ → List ℕ → List (Option (List ℕ))
contents_replaced m name bytes = if replace_fails m then contents_at (memory_files m) name ++ Some bytes ∷ [] else Some bytes ∷ []

-- there was memory for the call
abbrev pub HadMemory : {X : Type 0} → Result X FolderFault → Type 0
HadMemory answer = answer ≢ Err OutOfMemory

-- ---- a file has one content at least

abbrev HasSome : List (Option (List ℕ)) → Type 0
HasSome contents = (c : Option (List ℕ)) × Contains contents c

has_first : (c : Option (List ℕ)) (others : List (Option (List ℕ))) → HasSome (c ∷ others)
has_first c others = (c, (0, zero-lt-suc _, refl))

has_more : (contents : List (Option (List ℕ))) (c : Option (List ℕ)) → HasSome (contents ++ c ∷ [])
has_more [] c = has_first c []
has_more (first ∷ others) c = has_first first (others ++ c ∷ [])

has_left : (failed : Bool) (bytes : List ℕ) (contents : List (Option (List ℕ))) → HasSome (cond failed (contents ++ Some bytes ∷ []) (Some bytes ∷ []))
has_left true bytes contents = has_more contents (Some bytes)
has_left false bytes contents = has_first (Some bytes) []

abbrev found : Option (List (Option (List ℕ))) → List (Option (List ℕ))
found contents = unwrap_or contents (None ∷ [])

has_found : (is_its : Bool) (left : List (Option (List ℕ))) (before : Option (List (Option (List ℕ)))) → HasSome left → HasSome (found before) → HasSome (found (cond is_its (Some left) before))
has_found true left before some others = some
has_found false left before some others = others

has_some : (rs : List ReplacedValue) (name : List ℕ) → HasSome (contents_at (files_of rs) name)
unfolding files_of contents_at
has_some [] name = subst (λ contents. HasSome (found contents)) (sym (get-empty (slice_cmp nat_cmp) name)) (has_first None [])
has_some (r ∷ rs) name = subst (λ contents. HasSome (found contents)) (sym (get-insert nat_list_cmp_total (files_of rs) r.name _ name))
    (has_found (is_named name r) (contents_left r (contents_at (files_of rs) r.name)) (get (files_of rs) name) (has_left r.failed r.bytes (contents_at (files_of rs) r.name)) (has_some rs name))

pub has_contents : (m : MemoryFolderState) → HasContents (memory_folder_state m)
has_contents m honest name = has_some m.replaced name
