-- EID-Prefixes that a site doesn't allow, one record after the other.
use Rattle.std.proofs.Common.{◌≡◌, ℕ, ◌+◌, ◌<◌, true, false, not, List, [], ◌∷◌, ◌++◌, map, length, get_or, take, filter, Option, sym, ap, ◌∙◌, refl}
use Rattle.std.proofs.lemmas.List.{append-nil, map_push, take_more}
use Rattle.std.proofs.lemmas.List.Elements.{filter-append}
use Rattle.lisp_records.specs.Address.{PrefixValue}
use Rattle.lisp_records.specs.Record.{MapRecordValue}
use Rattle.lisp_policy.specs.Site.{SiteValue}
use Rattle.lisp_control.specs.Disallowed.{is_allowed_by, disallowed_of}

-- with one more record
next_of : (site : Option SiteValue) (records : List MapRecordValue) (i : ℕ) (r : MapRecordValue) → i < length records → r ≡ get_or records i r
    → disallowed_of site (take (i + 1) records) ≡ disallowed_of site (take i records) ++ filter (λ eid. not (is_allowed_by site eid)) (r.eid ∷ [])
next_of site records i r inside here =
    let all : take (i + 1) records ≡ take i records ++ r ∷ [] = take_more records i r inside ∙ ap (λ (m : MapRecordValue). take i records ++ m ∷ []) (sym here) in
    let mapped : map (λ (m : MapRecordValue). m.eid) (take (i + 1) records) ≡ map (λ (m : MapRecordValue). m.eid) (take i records) ++ r.eid ∷ [] =
    ap (map (λ (m : MapRecordValue). m.eid)) all ∙ map_push (λ (m : MapRecordValue). m.eid) (take i records) r in
    ap (filter (λ eid. not (is_allowed_by site eid))) mapped ∙ filter-append (λ eid. not (is_allowed_by site eid)) (map (λ (m : MapRecordValue). m.eid) (take i records)) (r.eid ∷ [])

-- that is allowed
pub next_allowed : (site : Option SiteValue) (records : List MapRecordValue) (i : ℕ) (r : MapRecordValue) (eids : List PrefixValue) → i < length records → r ≡ get_or records i r → is_allowed_by site r.eid ≡ true
    → eids ≡ disallowed_of site (take i records) → eids ≡ disallowed_of site (take (i + 1) records)
next_allowed site records i r eids inside here allowed so_far =
    let none : filter (λ eid. not (is_allowed_by site eid)) (r.eid ∷ []) ≡ [] = rw allowed refl in
    so_far ∙ sym (next_of site records i r inside here ∙ ap (λ (l : List PrefixValue). disallowed_of site (take i records) ++ l) none ∙ append-nil (disallowed_of site (take i records)))

-- that isn't
pub next_disallowed : (site : Option SiteValue) (records : List MapRecordValue) (i : ℕ) (r : MapRecordValue) (eids next : List PrefixValue) → i < length records → r ≡ get_or records i r → is_allowed_by site r.eid ≡ false
    → eids ≡ disallowed_of site (take i records) → next ≡ eids ++ r.eid ∷ [] → next ≡ disallowed_of site (take (i + 1) records)
next_disallowed site records i r eids next inside here allowed so_far pushed =
    let one : filter (λ eid. not (is_allowed_by site eid)) (r.eid ∷ []) ≡ r.eid ∷ [] = rw allowed refl in
    pushed ∙ ap (λ (l : List PrefixValue). l ++ r.eid ∷ []) so_far ∙ sym (next_of site records i r inside here ∙ ap (λ (l : List PrefixValue). disallowed_of site (take i records) ++ l) one)
