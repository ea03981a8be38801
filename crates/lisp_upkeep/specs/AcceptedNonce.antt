-- The nonce that a Map-Server accepted last of a router under a key.
use Rattle.std.specs.Prelude.{◌^◌, ◌&&◌, nat_lt, Bool, IsTrue, List, Option, Some, None}
use Rattle.std.specs.List.{filter_map}
use Rattle.std.specs.List.Sorted.{IsPermutation, IsSorted}
use Rattle.std.specs.Ordering.{nat_cmp, ordering_then}
use Rattle.std.specs.declared.cmp.Ordering.{Ordering}
use Rattle.lisp_records.specs.Router.{router_cmp}
use Rattle.lisp_nonces.specs.declared.pair.Pair.{Pair}
use Rattle.lisp_nonces.specs.declared.pair.PairKind.{PairKind}
use Rattle.lisp_nonces.specs.declared.pair.PairKind.TheVariants.{Received}
use Rattle.lisp_store.specs.declared.kept_nonce.KeptNonce.{KeptNonce}
use Rattle.lisp_store.specs.PairName.{is_pair}
use Rattle.lisp_upkeep.specs.declared.accepted_nonce.AcceptedNonce.{AcceptedNonce}

-- what it is kept for: a received nonce
abbrev pub pair_of : AcceptedNonce → Pair
pair_of n = record { kind = Received; router = n.router; key = n.key }

-- its numbers have their sizes: a Site-ID of 64 bits, an xTR-ID of 16 bytes, a Key ID of one, a nonce of 64 bits
abbrev pub is_accepted : AcceptedNonce → Bool
is_accepted n = is_pair (pair_of n) && nat_lt n.nonce (2 ^ 64)

abbrev pub IsAccepted : AcceptedNonce → Type 0
IsAccepted n = IsTrue (is_accepted n)

-- a nonce that a store keeps, if it was accepted: no nonce that was sent, and none of a notice
abbrev pub accepted_in : PairKind → KeptNonce → Option AcceptedNonce
accepted_in Received k = Some (record { router = k.pair.router; key = k.pair.key; nonce = k.nonce })
accepted_in _ k = None

abbrev pub accepted_of : KeptNonce → Option AcceptedNonce
accepted_of k = accepted_in k.pair.kind k

-- by router, then key, then nonce
abbrev pub nonce_cmp : AcceptedNonce → AcceptedNonce → Ordering
nonce_cmp a b = ordering_then (router_cmp a.router b.router) (ordering_then (nat_cmp a.key b.key) (nat_cmp a.nonce b.nonce))

-- the accepted ones among nonces that are kept, in their order
abbrev pub ListsAccepted : List KeptNonce → List AcceptedNonce → Type 0
ListsAccepted kept nonces = IsPermutation (filter_map accepted_of kept) nonces × IsSorted nonce_cmp nonces
