-- What reading a Map-Request gives, by what is read of its parts.
use Rattle.std.proofs.Common.{◌≡◌, ℕ, List, Option, Ok, Err, refl}
use Rattle.std.specs.Prelude.{slice_index}
use Rattle.lisp_records.specs.declared.address.Addr.{Addr}
use Rattle.lisp_records.specs.Address.{PrefixValue}
use Rattle.lisp_requests.specs.declared.fault.RequestFault.{RequestFault}
use Rattle.lisp_requests.specs.Reading.{items_at}
use Rattle.lisp_requests.specs.Request.{rloc_at, eid_at, front_at, map_request_of, rloc_count, request_at}

-- what stands before the ITR-RLOCs is not read
pub front_fails : (bytes : List ℕ) (e : RequestFault) → front_at bytes ≡ Err e → request_at bytes ≡ Err e
unfolding request_at
front_fails bytes e fails = rw fails refl

-- an ITR-RLOC is not read
pub rlocs_fail : (bytes : List ℕ) (source : Option Addr) (rest : List ℕ) (e : RequestFault) → front_at bytes ≡ Ok (source, rest) → items_at rloc_at (rloc_count bytes) rest ≡ Err e → request_at bytes ≡ Err e
unfolding request_at
rlocs_fail bytes source rest e front fails = rw (front, fails) refl

-- a record is not read
pub eids_fail : (bytes : List ℕ) (source : Option Addr) (rest : List ℕ) (rlocs : List Addr) (after : List ℕ) (e : RequestFault) → front_at bytes ≡ Ok (source, rest) → items_at rloc_at (rloc_count bytes) rest ≡ Ok (rlocs, after)
    → items_at eid_at (slice_index bytes 3) after ≡ Err e → request_at bytes ≡ Err e
unfolding request_at
eids_fail bytes source rest rlocs after e front listed fails = rw (front, listed, fails) refl

-- all is read
pub request_is : (bytes : List ℕ) (source : Option Addr) (rest : List ℕ) (rlocs : List Addr) (after : List ℕ) (eids : List PrefixValue) (tail : List ℕ) → front_at bytes ≡ Ok (source, rest) → items_at rloc_at (rloc_count bytes) rest ≡ Ok (rlocs, after)
    → items_at eid_at (slice_index bytes 3) after ≡ Ok (eids, tail) → request_at bytes ≡ Ok (map_request_of bytes source rlocs eids)
unfolding request_at
request_is bytes source rest rlocs after eids tail front listed asked = rw (front, listed, asked) refl
