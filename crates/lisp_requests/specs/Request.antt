-- The Map-Request (RFC 9301 section 5.2): what it says, which bytes spell it, how it is read and written.
use Rattle.std.specs.Prelude.{◌≡◌, ◌≢◌, ℕ, ◌+◌, ◌-◌, ◌*◌, ◌/◌, ◌%◌, ◌^◌, ◌<◌, ◌≤◌, ◌==◌, Bool, not, List, ◌∷◌, ◌++◌, length, take, drop, Option, Some, None, Result, Ok, Err, slice_index, if◌then◌else◌}
use Rattle.std.specs.Int.{w16, w64, from_be_bytes, to_be_bytes}
use Rattle.std.specs.List.{AllByRecursion, flat_map}
use Rattle.lisp_records.specs.declared.address.Addr.{Addr}
use Rattle.lisp_records.specs.Address.{PrefixValue, IsPrefix, IsWhole, HasWidth, afi, family, octets, prefix_around}
use Rattle.lisp_records.specs.Record.{bit}
use Rattle.lisp_records.specs.Result.{◌>>=◌}
use Rattle.lisp_records.specs.Reading.{number_at, named_at, is_set}
use Rattle.lisp_records.specs.Spelling.{SpellsEid}
use Rattle.lisp_records.specs.Written.{written_address}
use Rattle.lisp_requests.specs.declared.fault.RequestFault.{RequestFault}
use Rattle.lisp_requests.specs.declared.fault.RequestFault.TheVariants as faults
use Rattle.lisp_requests.specs.Format.{SpellsEach}
use Rattle.lisp_requests.specs.Reading.{after, require, lifted, items_at}

-- what a Map-Request says: A, P, S, p, s, L, D, nonce, Source EID, ITR-RLOCs and EID-Prefixes
pub record MapRequestValue : Type 0 where
  pub authoritative : Bool
  pub probe : Bool
  pub smr : Bool
  pub pitr : Bool
  pub smr_invoked : Bool
  pub local : Bool
  pub no_reply : Bool
  pub nonce : ℕ
  pub source : Option Addr
  pub itr_rlocs : List Addr
  pub eids : List PrefixValue

-- from 1 to 32 ITR-RLOCs, and from 1 to 255 EID-Prefixes
abbrev pub FitRequest : List Addr → List PrefixValue → Type 0
FitRequest itr_rlocs eids = (0 < length itr_rlocs) × (length itr_rlocs ≤ 32) × (0 < length eids) × (length eids < 256)

-- a block whose address is whole
abbrev pub IsEid : PrefixValue → Type 0
IsEid eid = IsPrefix eid × IsWhole eid.addr

abbrev pub IsSource : Option Addr → Type 0
IsSource None = Unit {0}
IsSource (Some addr) = IsWhole addr

-- a Map-Request that has a spelling: each number fits its place, and each address is whole
pub record IsMapRequest (m : MapRequestValue) : Type 0 where
  pub fits : FitRequest m.itr_rlocs m.eids
  pub nonce : m.nonce < 2 ^ 64
  pub source : IsSource m.source
  pub itr_rlocs : AllByRecursion IsWhole m.itr_rlocs
  pub eids : AllByRecursion IsEid m.eids

-- ---- which bytes spell it

-- an AFI, and an address of it
pub record SpellsAddress (bytes : List ℕ) (addr : Addr) : Type 0 where
  pub parts : bytes ≡ to_be_bytes w16 (afi (family addr)) ++ octets addr
  pub whole : HasWidth addr

-- the Source EID: AFI 0, and no address; or an address
abbrev pub SpellsSource : List ℕ → Option Addr → Type 0
SpellsSource bytes None = bytes ≡ to_be_bytes w16 0
SpellsSource bytes (Some addr) = SpellsAddress bytes addr

-- a record: a reserved byte, the mask length, an AFI, and any address of the EID-Prefix
pub record SpellsRecord (bytes : List ℕ) (eid : PrefixValue) : Type 0 where
  pub reserved : ℕ
  pub address : List ℕ
  pub parts : bytes ≡ reserved ∷ eid.mask_len ∷ to_be_bytes w16 (afi (family eid.addr)) ++ address
  pub prefix : SpellsEid address eid

-- a Map-Request: an equation for the whole list, then one for each field. Bits that stand in no equation are free: M, R,
-- I, the reserved ones, the EIDs' bits past their masks, and what follows the records
pub record SpellsRequest (bytes : List ℕ) (m : MapRequestValue) : Type 0 where
  pub kind : ℕ
  pub flags : ℕ
  pub counts : ℕ
  pub source : List ℕ
  pub itr_rlocs : List ℕ
  pub eids : List ℕ
  pub tail : List ℕ
  pub parts : bytes ≡ kind ∷ flags ∷ counts ∷ length m.eids ∷ to_be_bytes w64 m.nonce ++ (source ++ (itr_rlocs ++ (eids ++ tail)))
  pub request : kind / 16 ≡ 1
  pub authoritative : kind / 8 % 2 ≡ bit m.authoritative
  pub probe : kind / 2 % 2 ≡ bit m.probe
  pub smr : kind % 2 ≡ bit m.smr
  pub pitr : flags / 128 % 2 ≡ bit m.pitr
  pub smr_invoked : flags / 64 % 2 ≡ bit m.smr_invoked
  pub local : counts / 64 % 2 ≡ bit m.local
  pub no_reply : counts / 32 % 2 ≡ bit m.no_reply
  pub irc : length m.itr_rlocs ≡ counts % 32 + 1
  pub some : length m.eids ≢ 0
  pub nonce : m.nonce < 2 ^ 64
  pub from : SpellsSource source m.source
  pub each_rloc : SpellsEach SpellsAddress itr_rlocs m.itr_rlocs
  pub each_eid : SpellsEach SpellsRecord eids m.eids

-- ---- how it is read

-- an AFI, and an address of it
unfoldable pub rloc_at : List ℕ → Result (Addr × List ℕ) RequestFault
rloc_at bytes = do
  rest ← after 2 bytes
  lifted (named_at (number_at bytes 0) 0 rest)

-- the Source EID
unfoldable pub source_at : List ℕ → Result (Option Addr × List ℕ) RequestFault
source_at bytes = do
  rest ← after 2 bytes
  if number_at bytes 0 == 0 then Ok (None, rest) else (rloc_at bytes >>= λ addr. Ok (Some addr.0, addr.1))

-- a record: the EID-Prefix that is asked for
unfoldable pub eid_at : List ℕ → Result (PrefixValue × List ℕ) RequestFault
eid_at bytes = do
  rest ← after 4 bytes
  addr ← lifted (named_at (number_at bytes 2) (slice_index bytes 1) rest)
  Ok (prefix_around addr.0 (slice_index bytes 1), addr.1)

-- the bytes after the first 12, where these are as they must be
unfoldable pub head_at : List ℕ → Result (List ℕ) RequestFault
head_at bytes = do
  rest ← after 12 bytes
  _ ← require faults.Kind (slice_index bytes 0 / 16 == 1)
  _ ← require faults.NoRecord (not (slice_index bytes 3 == 0))
  Ok rest

-- the Source EID, and the bytes after it, which are those of the ITR-RLOCs; nothing takes memory so far
unfoldable pub front_at : List ℕ → Result (Option Addr × List ℕ) RequestFault
front_at bytes = do
  rest ← head_at bytes
  source_at rest

-- the nonce of any message
abbrev pub nonce_of : List ℕ → ℕ
nonce_of bytes = from_be_bytes w64 (take 8 (drop 4 bytes))

abbrev pub map_request_of : List ℕ → Option Addr → List Addr → List PrefixValue → MapRequestValue
map_request_of bytes source itr_rlocs eids = record {
  authoritative = is_set (slice_index bytes 0) 8;
  probe = is_set (slice_index bytes 0) 2;
  smr = is_set (slice_index bytes 0) 1;
  pitr = is_set (slice_index bytes 1) 128;
  smr_invoked = is_set (slice_index bytes 1) 64;
  local = is_set (slice_index bytes 2) 64;
  no_reply = is_set (slice_index bytes 2) 32;
  nonce = nonce_of bytes;
  source = source;
  itr_rlocs = itr_rlocs;
  eids = eids;
}

-- IRC is the number of ITR-RLOCs less one
abbrev pub rloc_count : List ℕ → ℕ
rloc_count bytes = slice_index bytes 2 % 32 + 1

-- what follows the records isn't read
unfoldable pub request_at : List ℕ → Result MapRequestValue RequestFault
request_at bytes = do
  source ← front_at bytes
  itr_rlocs ← items_at rloc_at (rloc_count bytes) source.1
  eids ← items_at eid_at (slice_index bytes 3) itr_rlocs.1
  Ok (map_request_of bytes source.0 itr_rlocs.0 eids.0)

-- the bytes before the ITR-RLOCs have no fault: only then reading takes memory
abbrev pub TakesMemory : List ℕ → Type 0
TakesMemory bytes = (fault : RequestFault) → front_at bytes ≢ Err fault

-- ---- how it is written: each free bit 0, and nothing after the records

abbrev pub written_source : Option Addr → List ℕ
written_source None = to_be_bytes w16 0
written_source (Some addr) = written_address addr

abbrev pub written_rlocs : List Addr → List ℕ
written_rlocs addrs = flat_map written_address addrs

abbrev pub written_eid : PrefixValue → List ℕ
written_eid eid = 0 ∷ eid.mask_len ∷ written_address eid.addr

abbrev pub written_eids : List PrefixValue → List ℕ
written_eids eids = flat_map written_eid eids

-- the first byte: type 1, A, P and S
abbrev pub request_kind : MapRequestValue → ℕ
request_kind m = 16 + bit m.authoritative * 8 + bit m.probe * 2 + bit m.smr

-- the second byte: p and s
abbrev pub request_flags : MapRequestValue → ℕ
request_flags m = bit m.pitr * 128 + bit m.smr_invoked * 64

-- the third byte: L, D and IRC
abbrev pub request_counts : MapRequestValue → ℕ
request_counts m = bit m.local * 64 + bit m.no_reply * 32 + (length m.itr_rlocs - 1)

-- the 12 bytes before the Source EID
abbrev pub written_request_head : MapRequestValue → List ℕ
written_request_head m = request_kind m ∷ request_flags m ∷ request_counts m ∷ length m.eids ∷ to_be_bytes w64 m.nonce

unfoldable pub written_request : MapRequestValue → List ℕ
written_request m = written_request_head m ++ (written_source m.source ++ (written_rlocs m.itr_rlocs ++ written_eids m.eids))
