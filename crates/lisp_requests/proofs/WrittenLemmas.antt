-- What is appended part by part.
use Rattle.std.proofs.Common.{◌≡◌, ℕ, ◌+◌, ◌<◌, List, [], ◌∷◌, ◌++◌, length, take, get_or, refl, sym, ap, ◌∙◌, append_assoc}
use Rattle.std.specs.List.{flat_map}
use Rattle.std.proofs.lemmas.Grind.{flat_map-append}
use Rattle.std.proofs.lemmas.List.{append-nil, take_more, get_or_default}
use Rattle.lisp_records.specs.Record.{MapRecordValue}
use Rattle.lisp_requests.specs.Reply.{MapReplyValue, written_reply_head, written_records, written_reply}
use Rattle.lisp_requests.specs.Request.{MapRequestValue, written_source, written_rlocs, written_eids, written_request_head, written_request}

items_more : {X : Type 0} (write : X → List ℕ) (xs : List X) (i : ℕ) (x : X) → i < length xs → x ≡ get_or xs i x → flat_map write (take (i + 1) xs) ≡ flat_map write (take i xs) ++ write x
items_more write xs i x lt at =
    let one : flat_map write (get_or xs i x ∷ []) ≡ write x = append-nil (write (get_or xs i x)) ∙ ap write (sym at) in
    ap (λ (ys : List _). flat_map write ys) (take_more xs i x lt) ∙ flat_map-append write (take i xs) (get_or xs i x ∷ []) ∙ ap (λ (t : List ℕ). flat_map write (take i xs) ++ t) one

-- one more item is appended
pub items_go_on : {X : Type 0} (write : X → List ℕ) (old out new : List ℕ) (xs : List X) (i : ℕ) (x : X) → i < length xs → x ≡ get_or xs i x → out ≡ old ++ flat_map write (take i xs) → new ≡ out ++ write x → new ≡ old ++ flat_map write (take (i + 1) xs)
items_go_on write old out new xs i x lt at so_far appended =
    let front = flat_map write (take i xs) in
    appended ∙ ap (λ (t : List ℕ). t ++ write x) so_far ∙ append_assoc old front (write x) ∙ ap (λ (t : List ℕ). old ++ t) (sym (items_more write xs i x lt at))

-- the same, where the item is read at any default
pub item_goes_on : {X : Type 0} (write : X → List ℕ) (old out new : List ℕ) (xs : List X) (i : ℕ) (d : X) → i < length xs → out ≡ old ++ flat_map write (take i xs) → new ≡ out ++ write (get_or xs i d) → new ≡ old ++ flat_map write (take (i + 1) xs)
item_goes_on write old out new xs i d lt so_far appended = items_go_on write old out new xs i (get_or xs i d) lt (get_or_default xs i d (get_or xs i d) lt) so_far appended

-- the head, the Source EID, the ITR-RLOCs, then the records
pub request_put : (inside m : MapRequestValue) (old one two three new : List ℕ) → inside ≡ m → old ≡ [] → one ≡ old ++ written_request_head m → two ≡ one ++ written_source inside.source → three ≡ two ++ written_rlocs inside.itr_rlocs → new ≡ three ++ written_eids inside.eids → new ≡ written_request m
unfolding written_request
request_put inside m old one two three new same empty first second third last =
    let head = written_request_head m in
    last ∙ rw (third, second, first, empty, same) (append_assoc (head ++ written_source m.source) (written_rlocs m.itr_rlocs) (written_eids m.eids) ∙ append_assoc head (written_source m.source) (written_rlocs m.itr_rlocs ++ written_eids m.eids))

-- the head, then the records
pub reply_put : (inside m : MapReplyValue) (old mid new head : List ℕ) (rs : List MapRecordValue) → inside ≡ m → old ≡ [] → head ≡ written_reply_head m → rs ≡ inside.records → mid ≡ old ++ head → new ≡ mid ++ written_records rs → new ≡ written_reply m
unfolding written_reply
reply_put inside m old mid new head rs same empty front listed first last = last ∙ rw (first, empty, front, listed, same) refl
