-- A Map-Request where it lies among bytes: what it says but its ITR-RLOCs and records, and where these are (RFC 9301
-- section 5.2).
use Rattle.std.specs.Prelude.{◌≡◌, ℕ, ◌≤◌, List, length, drop, Option, Result, Ok, Err}
use Rattle.lisp_records.specs.declared.address.Addr.{Addr}
use Rattle.lisp_records.specs.Address.{PrefixValue}
use Rattle.lisp_requests.specs.declared.fault.RequestFault.{RequestFault}
use Rattle.lisp_requests.specs.declared.layout.RequestLayout.{RequestLayout}
use Rattle.lisp_requests.specs.Reading.{items_at}
use Rattle.lisp_requests.specs.Request.{MapRequestValue, rloc_at, eid_at, map_request_of, request_at}

-- what a layout says, with these ITR-RLOCs and EID-Prefixes
abbrev pub with_parts : RequestLayout → List Addr → List PrefixValue → MapRequestValue
with_parts layout itr_rlocs eids = record {
  authoritative = layout.authoritative;
  probe = layout.probe;
  smr = layout.smr;
  pitr = layout.pitr;
  smr_invoked = layout.smr_invoked;
  local = layout.local;
  no_reply = layout.no_reply;
  nonce = layout.nonce;
  source = layout.source;
  itr_rlocs = itr_rlocs;
  eids = eids;
}

-- what a layout says stands in the first bytes, but for the Source EID
abbrev pub HasFields : RequestLayout → List ℕ → Option Addr → Type 0
HasFields layout head source = (itr_rlocs : List Addr) (eids : List PrefixValue) → with_parts layout itr_rlocs eids ≡ map_request_of head source itr_rlocs eids

-- the layout of the Map-Request that is read from the bytes: the ITR-RLOCs and the records stand where it says
pub record IsLayout (bytes : List ℕ) (layout : RequestLayout) : Type 0 where
  pub itr_rlocs : List Addr
  pub eids : List PrefixValue
  pub read : request_at bytes ≡ Ok (with_parts layout itr_rlocs eids)
  pub each_rloc : items_at rloc_at layout.rloc_count (drop layout.rlocs_at bytes) ≡ Ok (itr_rlocs, drop layout.eids_at bytes)
  pub each_eid : items_at eid_at layout.eid_count (drop layout.eids_at bytes) ≡ Ok (eids, drop layout.end bytes)
  pub first : layout.rlocs_at ≤ layout.eids_at
  pub second : layout.eids_at ≤ layout.end
  pub within : layout.end ≤ length bytes

-- what is answered is the layout of a Map-Request, or the fault that reading it meets
abbrev pub LaysOut : List ℕ → Result RequestLayout RequestFault → Type 0
LaysOut bytes (Ok layout) = IsLayout bytes layout
LaysOut bytes (Err e) = request_at bytes ≡ Err e
