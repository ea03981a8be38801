-- Where the parts of a Map-Request stand.
use Rattle.std.proofs.Common.{◌≡◌, ℕ, ◌-◌, ◌+◌, ◌<◌, ◌≤◌, List, ◌++◌, length, take, drop, get_or, Option, Result, Ok, Err, refl, sym, ap, subst, ◌∙◌, append_assoc, arith}
use Rattle.std.proofs.lemmas.List.{drop_at, drop_all, length-append, length-drop, take-append-drop}
use Rattle.lisp_records.specs.declared.address.Addr.{Addr}
use Rattle.lisp_records.specs.Address.{PrefixValue}
use Rattle.lisp_records.specs.Spelling.{IsBytes}
use Rattle.lisp_records.proofs.Fields.{IsBytes-rest}
use Rattle.lisp_records.proofs.Faults.{Passes}
use Rattle.lisp_requests.specs.declared.fault.RequestFault.{RequestFault}
use Rattle.lisp_requests.specs.declared.fault.RequestFault.TheVariants as faults
use Rattle.lisp_requests.specs.declared.layout.RequestLayout.{RequestLayout}
use Rattle.lisp_requests.specs.Layout.{LaysOut}
use Rattle.lisp_requests.specs.Reading.{items_at}
use Rattle.lisp_requests.specs.Request.{SpellsAddress, SpellsRecord, rloc_at, source_at, eid_at, head_at, front_at, rloc_count, request_at}
use Rattle.lisp_requests.proofs.EachLaws.{items_take}
use Rattle.lisp_requests.proofs.Fields.{bind_ok}
use Rattle.lisp_requests.proofs.PartLaws.{rloc_takes, source_takes, eid_takes}
use Rattle.lisp_requests.proofs.RequestLaws.{head_passes, IsBytes-drop}

-- a fault that is passed on is the one that reading meets
pub lays_fault : (bytes : List ℕ) (r : Result RequestLayout RequestFault) (e : RequestFault) → Passes r e → request_at bytes ≡ Err e → LaysOut bytes r
lays_fault bytes (Ok x) e passes fails = absurd passes
lays_fault bytes (Err d) e passes fails = fails ∙ ap Err (sym passes)

-- bytes that end with others, from a place that their lengths tell
pub record IsLeft (bytes rest : List ℕ) : Type 0 where
  pub text : List ℕ
  pub parts : bytes ≡ text ++ rest
  pub short : length rest ≤ length bytes
  pub behind : drop (length bytes - length rest) bytes ≡ rest

left : (bytes text rest : List ℕ) → bytes ≡ text ++ rest → IsLeft bytes rest
left bytes text rest parts =
    let long : length bytes ≡ length text + length rest = ap length parts ∙ length-append text rest in
    let at : length text ≡ length bytes - length rest = omega (arith, long) in
    record { text = text; parts = parts; short = omega (arith, long); behind = ap (drop (length bytes - length rest)) parts ∙ drop_at text rest (length bytes - length rest) at }

left-again : (bytes middle rest : List ℕ) → IsLeft bytes middle → IsLeft middle rest → IsLeft bytes rest
left-again bytes middle rest one two = left bytes (one.text ++ two.text) rest (one.parts ∙ ap (λ (t : List ℕ). one.text ++ t) two.parts ∙ sym (append_assoc one.text two.text rest))

-- the Source EID, the ITR-RLOCs and the records that are read stand one after the other
pub record Places (bytes one two three : List ℕ) : Type 0 where
  pub first : IsLeft bytes one
  pub second : IsLeft bytes two
  pub third : IsLeft bytes three
  pub rlocs : length two ≤ length one
  pub eids : length three ≤ length two

pub front_left : (bytes : List ℕ) (source : Option Addr) (one : List ℕ) → IsBytes bytes → front_at bytes ≡ Ok (source, one) → IsLeft bytes one
unfolding front_at
front_left bytes source one fits e =
    let a = bind_ok (head_at bytes) (λ rest. source_at rest) (source, one) e in
    let head = head_passes bytes a.0 a.1 in
    let s = source_takes a.0 (source, one) (IsBytes-drop 12 bytes a.0 head.long head.behind fits) a.2 in
    left-again bytes a.0 one (left bytes (take 12 bytes) a.0 (sym (take-append-drop 12 bytes) ∙ ap (λ (t : List ℕ). take 12 bytes ++ t) head.behind)) (left a.0 s.text one s.parts)

pub rlocs_left : (bytes one : List ℕ) (rlocs : List Addr) (two : List ℕ) → IsBytes bytes → IsLeft bytes one → items_at rloc_at (rloc_count bytes) one ≡ Ok (rlocs, two) → IsLeft one two
rlocs_left bytes one rlocs two fits first listed =
    let t = items_take rloc_at SpellsAddress rloc_takes (rloc_count bytes) one (rlocs, two) (IsBytes-rest bytes first.text one first.parts fits) listed in
    left one t.0.text two t.0.parts

pub places : (bytes : List ℕ) (source : Option Addr) (one : List ℕ) (rlocs : List Addr) (two : List ℕ) (eids : List PrefixValue) (three : List ℕ) → IsBytes bytes → front_at bytes ≡ Ok (source, one) → items_at rloc_at (rloc_count bytes) one ≡ Ok (rlocs, two) → items_at eid_at (get_or bytes 3 0) two ≡ Ok (eids, three) → Places bytes one two three
places bytes source one rlocs two eids three fits front listed asked =
    let first = front_left bytes source one fits front in
    let next = rlocs_left bytes one rlocs two fits first listed in
    let second = left-again bytes one two first next in
    let t = items_take eid_at SpellsRecord eid_takes (get_or bytes 3 0) two (eids, three) (IsBytes-rest bytes second.text two second.parts fits) asked in
    let last = left two t.0.text three t.0.parts in
    record { first = first; second = second; third = left-again bytes two three second last; rlocs = next.short; eids = last.short }

-- ---- one part

-- what is read from a place on, and where it ends
pub rloc_left : (bytes text rest : List ℕ) (at : ℕ) (a : Addr) → at ≤ length bytes → IsBytes bytes → text ≡ drop at bytes → rloc_at text ≡ Ok (a, rest) → IsLeft bytes rest × (at ≤ length bytes - length rest)
rloc_left bytes text rest at a le fits is reads =
    let t = rloc_takes text (a, rest) (subst IsBytes (sym is) (IsBytes-drop at bytes (drop at bytes) le refl fits)) reads in
    from bytes text rest at le is (left text t.text rest t.parts)
  where
    from : (bytes text rest : List ℕ) (at : ℕ) → at ≤ length bytes → text ≡ drop at bytes → IsLeft text rest → IsLeft bytes rest × (at ≤ length bytes - length rest)
    from bytes text rest at le is l =
        (left-again bytes text rest (left bytes (take at bytes) text (sym (take-append-drop at bytes) ∙ ap (λ (t : List ℕ). take at bytes ++ t) (sym is))) l, omega (arith, l.short, ap length is, length-drop at bytes, le))

pub eid_left : (bytes text rest : List ℕ) (at : ℕ) (eid : PrefixValue) → at ≤ length bytes → IsBytes bytes → text ≡ drop at bytes → eid_at text ≡ Ok (eid, rest) → IsLeft bytes rest × (at ≤ length bytes - length rest)
eid_left bytes text rest at eid le fits is reads =
    let t = eid_takes text (eid, rest) (subst IsBytes (sym is) (IsBytes-drop at bytes (drop at bytes) le refl fits)) reads in
    let l = left text t.text rest t.parts in
    (left-again bytes text rest (left bytes (take at bytes) text (sym (take-append-drop at bytes) ∙ ap (λ (x : List ℕ). take at bytes ++ x) (sym is))) l, omega (arith, l.short, ap length is, length-drop at bytes, le))

-- past the end nothing is read
pub no_rloc : (bytes : List ℕ) (at : ℕ) → length bytes < at → rloc_at (drop at bytes) ≡ Err faults.Short
unfolding rloc_at
no_rloc bytes at lt = rw (drop_all at bytes (omega arith)) refl

pub no_eid : (bytes : List ℕ) (at : ℕ) → length bytes < at → eid_at (drop at bytes) ≡ Err faults.Short
unfolding eid_at
no_eid bytes at lt = rw (drop_all at bytes (omega arith)) refl
