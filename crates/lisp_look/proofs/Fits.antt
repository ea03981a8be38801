-- The Map-Request of a look fits a datagram.
use Rattle.std.proofs.Common.{◌≡◌, ℕ, ◌+◌, ◌≤◌, List, [], ◌++◌, length, None, refl, subst, arith}
use Rattle.std.proofs.lemmas.List.{length-append}
use Rattle.lisp_records.specs.declared.address.Addr.{Addr}
use Rattle.lisp_records.specs.declared.address.Addr.TheVariants.{V4, V6}
use Rattle.lisp_records.specs.Address.{IsWhole}
use Rattle.lisp_records.specs.Written.{written_address}
use Rattle.lisp_requests.specs.Request.{MapRequestValue, IsMapRequest, written_eid, written_request, written_request_head, written_source}
use Rattle.lisp_look.specs.Look.{LookValue, request_of}

-- an address behind its AFI
small_address : (a : Addr) → IsWhole a → length (written_address a) ≤ 18
small_address (V4 bytes) whole = omega (arith, whole.width)
small_address (V6 bytes) whole = omega (arith, whole.width)

-- four parts
four_parts : (h s r e : List ℕ) → length (h ++ (s ++ (r ++ e))) ≡ length h + (length s + (length r + length e))
four_parts h s r e = rw (length-append h (s ++ (r ++ e)), length-append s (r ++ e), length-append r e) refl

small : (look : LookValue) → IsMapRequest (request_of look) → length (written_request (request_of look)) ≤ 65507
unfolding written_request
small look whole =
    let rloc : List ℕ = written_address look.from in
    let eid : List ℕ = written_eid look.eid in
    let all : length (written_request (request_of look)) ≡ 12 + (2 + (length (rloc ++ []) + length (eid ++ []))) = four_parts (written_request_head (request_of look)) (written_source None) (rloc ++ []) (eid ++ []) in
    let behind : length eid ≡ 2 + length (written_address look.eid.addr) = omega arith in
    omega (arith, all, behind, length-append rloc [], length-append eid [], small_address look.from whole.itr_rlocs.0, small_address look.eid.addr whole.eids.0.1)

-- its bytes do
pub fits : (look : LookValue) (m : MapRequestValue) (message bytes : List ℕ) → m ≡ request_of look → message ≡ written_request m → bytes ≡ message → IsMapRequest m → length bytes ≤ 65507
fits look m message bytes is written same known =
    rw (same, written, is) (small look (subst IsMapRequest is known))
