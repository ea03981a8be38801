-- What was done to a folder in memory, and the contents that its files may have.
use Rattle.std.proofs.Common.{◌≡◌, ◌≢◌, ◌⊎◌, inr, reverse, Result, Ok, Err, ℕ, ◌&&◌, not, Bool, true, false, cond, List, [], ◌∷◌, ◌++◌, slice_index_or, Contains, Option, Some, None, option_map, unwrap_or, refl, sym, ap, ◌∙◌, arith}
use Rattle.std.specs.Cmp.{Equal-is, eq_by_cmp_equiv}
use Rattle.std.specs.Cmp.Lexicographic.{slice_cmp, nat_list_cmp_total}
use Rattle.std.specs.FinMap.{get-insert, get-empty}
use Rattle.std.specs.List.{find}
use Rattle.std.specs.Prelude.{OnOk, OnErr}
use Rattle.std.specs.Ordering.{nat_cmp, eq_by_cmp}
use Rattle.std.proofs.lemmas.List.{reverse-append}
use Rattle.std.proofs.lemmas.Bool.{false_from_ne_true}
use Rattle.std.proofs.lemmas.Map.Lookups.{exact_bytes}
use Rattle.lisp_store.specs.declared.folder.FolderFault.{FolderFault}
use Rattle.lisp_store.specs.declared.folder.FolderFault.TheVariants.{Device}
use Rattle.lisp_store.specs.Folder.{contents_at}
use Rattle.lisp_store.specs.MemoryFolder.{ReplacedValue, MemoryFolderState, contents_left, files_of, gives_content, content_found, first_content, replace_fails, replace_answer, contents_replaced}

abbrev same_names : List ℕ → List ℕ → Bool
same_names = eq_by_cmp (slice_cmp nat_cmp)

same_name_is : (a b : List ℕ) → same_names a b ≡ true → a ≡ b
same_name_is a b tie = exact_bytes a b ((Equal-is (slice_cmp nat_cmp a b)).0 tie)

-- ---- what one `replace` more makes

abbrev contents_of : List ReplacedValue → List ℕ → List (Option (List ℕ))
contents_of rs name = contents_at (files_of rs) name

picks : {X : Type 0} (b : Bool) (x d : X) (o : Option X) → unwrap_or (cond b (Some x) o) d ≡ cond b x (unwrap_or o d)
picks true x d o = refl
picks false x d o = refl

pub one_more : (r : ReplacedValue) (rs : List ReplacedValue) (q : List ℕ) → contents_of (r ∷ rs) q ≡ cond (same_names q r.name) (contents_left r (contents_of rs r.name)) (contents_of rs q)
unfolding files_of contents_at
one_more r rs q = ap (λ (o : Option (List (Option (List ℕ)))). unwrap_or o (None ∷ [])) (get-insert nat_list_cmp_total (files_of rs) r.name _ q) ∙ picks (same_names q r.name) _ (None ∷ []) _

pub none : (q : List ℕ) → contents_of [] q ≡ None ∷ []
unfolding files_of contents_at
none q = ap (λ (o : Option (List (Option (List ℕ)))). unwrap_or o (None ∷ [])) (get-empty (slice_cmp nat_cmp) q)

-- the file of its name
pub replaced_here : (r : ReplacedValue) (rs : List ReplacedValue) → contents_of (r ∷ rs) r.name ≡ contents_left r (contents_of rs r.name)
replaced_here r rs = one_more r rs r.name ∙ ap (λ (b : Bool). cond b (contents_left r (contents_of rs r.name)) (contents_of rs r.name)) ((eq_by_cmp_equiv nat_list_cmp_total).refl r.name)

-- any other file
pub replaced_there : (r : ReplacedValue) (rs : List ReplacedValue) (q : List ℕ) → q ≢ r.name → contents_of (r ∷ rs) q ≡ contents_of rs q
replaced_there r rs q differ = one_more r rs q ∙ ap (λ (b : Bool). cond b (contents_left r (contents_of rs r.name)) (contents_of rs q)) (false_from_ne_true (same_names q r.name) (λ tie. differ (same_name_is q r.name tie)))

-- the list of what was done, the last first
pub one_noted : (old new : List ReplacedValue) (r : ReplacedValue) (m : MemoryFolderState) → new ≡ old ++ r ∷ [] → reverse old ≡ m.replaced → reverse new ≡ r ∷ m.replaced
one_noted old new r m is same = ap reverse is ∙ reverse-append old (r ∷ []) ∙ ap (λ (rs : List ReplacedValue). r ∷ rs) same

abbrev answer_case : Bool → Result (Unit {0}) FolderFault
answer_case fails = cond fails (Err Device) (Ok tt)

-- after a `replace` for which there was memory
module _ (m : MemoryFolderState) (name bytes : List ℕ) (r : ReplacedValue) (rs : List ReplacedValue) (last : rs ≡ r ∷ m.replaced) (is : r ≡ record { name = name; bytes = bytes; failed = replace_fails m }) where
  pub contents_then : contents_of rs name ≡ contents_replaced m name bytes
  contents_then = rw (last, is) (replaced_here (record { name = name; bytes = bytes; failed = replace_fails m }) m.replaced)

  pub others_then : (q : List ℕ) → q ≢ name → contents_of rs q ≡ contents_of m.replaced q
  others_then q differ = rw (last, is) (replaced_there (record { name = name; bytes = bytes; failed = replace_fails m }) m.replaced q differ)

  done_case : (fails : Bool) → contents_of rs name ≡ cond fails (contents_of m.replaced name ++ Some bytes ∷ []) (Some bytes ∷ []) → OnOk (answer_case fails) (contents_of rs name ≡ Some bytes ∷ [])
  done_case true contents = tt
  done_case false contents = contents

  doubt_case : (fails : Bool) → contents_of rs name ≡ cond fails (contents_of m.replaced name ++ Some bytes ∷ []) (Some bytes ∷ []) → OnErr (answer_case fails) ((contents_of rs name ≡ contents_of m.replaced name) ⊎ (contents_of rs name ≡ contents_of m.replaced name ++ Some bytes ∷ []))
  doubt_case true contents = inr contents
  doubt_case false contents = tt

  pub done_then : OnOk (replace_answer m) (contents_of rs name ≡ Some bytes ∷ [])
  done_then = done_case (replace_fails m) contents_then

  pub doubt_then : OnErr (replace_answer m) ((contents_of rs name ≡ contents_of m.replaced name) ⊎ (contents_of rs name ≡ contents_of m.replaced name ++ Some bytes ∷ []))
  doubt_then = doubt_case (replace_fails m) contents_then

-- ---- the first content

record Begins (contents : List (Option (List ℕ))) (first : Option (List ℕ)) : Type 0 where
  rest : List (Option (List ℕ))
  whole : contents ≡ first ∷ rest

module _ (q : List ℕ) (r : ReplacedValue) (rs : List ReplacedValue) (earlier : Begins (contents_of rs q) (content_found q rs)) where
  begins_case : (same failed : Bool) → Begins (cond same (cond failed (contents_of rs q ++ Some r.bytes ∷ []) (Some r.bytes ∷ [])) (contents_of rs q)) (option_map (λ (r : ReplacedValue). r.bytes) (cond (not failed && same) (Some r) (find (gives_content q) rs)))
  begins_case true true = record { rest = earlier.rest ++ Some r.bytes ∷ []; whole = ap (λ (cs : List (Option (List ℕ))). cs ++ Some r.bytes ∷ []) earlier.whole }
  begins_case true false = record { rest = []; whole = refl }
  begins_case false true = earlier
  begins_case false false = earlier

  at_name : (same : Bool) → same_names q r.name ≡ same → cond same (contents_left r (contents_of rs r.name)) (contents_of rs q) ≡ cond same (contents_left r (contents_of rs q)) (contents_of rs q)
  at_name true tie = ap (λ (n : List ℕ). contents_left r (contents_of rs n)) (sym (same_name_is q r.name tie))
  at_name false tie = refl

  begins_more : Begins (contents_of (r ∷ rs) q) (content_found q (r ∷ rs))
  begins_more = rw (one_more r rs q, at_name (same_names q r.name) refl) (begins_case (same_names q r.name) r.failed)

begins : (q : List ℕ) (rs : List ReplacedValue) → Begins (contents_of rs q) (content_found q rs)
begins q [] = record { rest = []; whole = none q }
begins q (r ∷ rs) = begins_more q r rs (begins q rs)

-- the first content is what the last `replace` that was done wrote
pub first_found : (m : MemoryFolderState) (name : List ℕ) → first_content m name ≡ content_found name m.replaced
first_found m name = ap (λ (cs : List (Option (List ℕ))). slice_index_or cs 0 None) (begins name m.replaced).whole

is_first : (cs rest : List (Option (List ℕ))) (c : Option (List ℕ)) → cs ≡ c ∷ rest → Contains cs c
is_first cs rest c whole = rw whole (0, omega arith, refl)

-- a file may have the first content
pub has_first : (m : MemoryFolderState) (name : List ℕ) → Contains (contents_of m.replaced name) (first_content m name)
has_first m name = rw (first_found m name) (is_first (contents_of m.replaced name) (begins name m.replaced).rest (content_found name m.replaced) (begins name m.replaced).whole)
