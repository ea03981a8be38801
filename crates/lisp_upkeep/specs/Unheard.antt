-- Which nonces of a list are still kept.
use Rattle.std.specs.Prelude.{◌≡◌, ◌==◌, ◌&&◌, Bool, List}
use Rattle.std.specs.BTreeSet.{BTreeSet, contains}
use Rattle.std.specs.Cmp.Lexicographic.{pointwise}
use Rattle.std.specs.Prelude.{nat_eq}
use Rattle.std.specs.List.{filter, list_any}
use Rattle.std.specs.declared.cmp.Ordering.{Ordering}
use Rattle.lisp_upkeep.specs.declared.accepted_nonce.AcceptedNonce.{AcceptedNonce}

-- those of the items that equal one of the members
abbrev pub members_of : {X : Type 0} → (X → X → Bool) → List X → List X → List X
members_of eq members items = filter (λ item. list_any (λ member. eq member item) members) items

-- the same nonce of the same router under the same key
abbrev pub same_nonce : AcceptedNonce → AcceptedNonce → Bool
same_nonce a b = (a.router.site == b.router.site && pointwise nat_eq a.router.xtr b.router.xtr) && (a.key == b.key && a.nonce == b.nonce)

-- those that are kept and stand in the list too: no Map-Register of these routers was accepted under these keys since
abbrev pub unheard : List AcceptedNonce → List AcceptedNonce → List AcceptedNonce
unheard listed kept = members_of same_nonce listed kept

-- a set has just these members
unfoldable pub AreMembers : {X : Type 0} → (X → X → Ordering) → (X → X → Bool) → BTreeSet X → List X → Type 0
AreMembers {X = X} cmp eq set members = (x : X) → contains cmp set x ≡ list_any (λ member. eq member x) members
