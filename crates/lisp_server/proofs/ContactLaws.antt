-- Setting contacts.
use Rattle.std.proofs.Common.{◌≡◌, ◌≢◌, ℕ, Bool, cond, List, [], length, slice_set, slice_index_or, Some, None, Result, IfOk, IfErr, ap, ◌∙◌}
use Rattle.std.specs.Bool.{Decides}
use Rattle.std.specs.List.{find, position, insert}
use Rattle.std.specs.List.Sorted.{IsStrictlySortedBy, IsSearchInRange, IsBinarySearchResult}
use Rattle.std.specs.Option.{option_or}
use Rattle.lisp_records.proofs.RouterLaws.{router_eq-Decides}
use Rattle.lisp_records.specs.declared.router.RouterId.{RouterId}
use Rattle.lisp_server.specs.declared.contacts.Contact.{Contact}
use Rattle.lisp_server.specs.Contacts.{contact_at, is_contact_of, SetsContact}
use Rattle.lisp_records.specs.Router.{router_cmp}
use Rattle.lisp_policy.specs.Order.{KeysRise, IsGap}
use Rattle.lisp_policy.proofs.Halving as halving
use Rattle.lisp_lookup.proofs.Orders.{router_total, same_router}
use Rattle.lisp_lookup.proofs.TableLaws.{found_holds}
use Rattle.lisp_policy.proofs.Found.{nowhere, there, at_place, put_set, has_own, has_no_other}

decides : (q : RouterId) (c : Contact) → Decides (is_contact_of q c) (c.router ≡ q)
decides q c = router_eq-Decides c.router q

set_by : (old new : List Contact) (y : Contact) → ((q : RouterId) → find (is_contact_of q) new ≡ option_or (cond (is_contact_of q y) (Some y) None) (find (is_contact_of q) old)) → SetsContact old new y
unfolding contact_at
set_by old new y put = record {
  here = put y.router ∙ ap (λ (b : Bool). option_or (cond b (Some y) None) (find (is_contact_of y.router) old)) (has_own (λ c. c.router) is_contact_of decides y);
  others = λ q differ. put q ∙ ap (λ (b : Bool). option_or (cond b (Some y) None) (find (is_contact_of q) old)) (has_no_other (λ c. c.router) is_contact_of decides q y differ);
}

pub contact_set : (cs : List Contact) (i : ℕ) (y : Contact) → position (is_contact_of y.router) cs ≡ Some i → SetsContact cs (slice_set cs i y) y
contact_set cs i y at = set_by cs (slice_set cs i y) y (put_set (λ c. c.router) is_contact_of decides cs i y at)

-- what halving finds among contacts
pub searched : (cs : List Contact) (q : RouterId) (r : Result ℕ ℕ) → KeysRise (λ k. k.router) router_cmp cs → IsSearchInRange r (length cs) → IsBinarySearchResult (λ k. router_cmp k.router q) cs r → record { found : IfOk r (λ i. position (is_contact_of q) cs ≡ Some i); gap : IfErr r (IsGap (λ k. k.router) router_cmp cs q) }
searched cs q r rise within is = halving.searched (λ k. k.router) router_cmp router_total same_router is_contact_of decides cs q r rise within is

gap_nowhere : (cs : List Contact) (q : RouterId) (i : ℕ) → IsGap (λ k. k.router) router_cmp cs q i → position (is_contact_of q) cs ≡ None
gap_nowhere cs q i gap = halving.gap_nowhere (λ k. k.router) router_cmp router_total same_router is_contact_of decides cs q i gap

pub contact_inserted : (cs : List Contact) (i : ℕ) (y : Contact) → IsGap (λ k. k.router) router_cmp cs y.router i → SetsContact cs (insert cs i y) y
contact_inserted cs i y gap = set_by cs (insert cs i y) y (halving.put_insert (λ k. k.router) router_cmp router_total same_router is_contact_of decides cs i y (gap_nowhere cs y.router i gap))

pub no_contacts : KeysRise {X = Contact} (λ k. k.router) router_cmp []
unfolding IsStrictlySortedBy
no_contacts = tt

pub rises_set : (cs : List Contact) (i : ℕ) (y : Contact) → position (is_contact_of y.router) cs ≡ Some i → KeysRise (λ k. k.router) router_cmp cs → KeysRise (λ k. k.router) router_cmp (slice_set cs i y)
rises_set cs i y at rise = halving.rises_set (λ k. k.router) router_cmp router_total same_router is_contact_of decides cs i y at rise

pub rises_insert : (cs : List Contact) (i : ℕ) (y : Contact) → KeysRise (λ k. k.router) router_cmp cs → IsGap (λ k. k.router) router_cmp cs y.router i → KeysRise (λ k. k.router) router_cmp (insert cs i y)
rises_insert cs i y rise gap = halving.rises_insert (λ k. k.router) router_cmp router_total same_router is_contact_of decides cs i y rise gap

pub contact_gap : (cs : List Contact) (q : RouterId) (i : ℕ) → IsGap (λ k. k.router) router_cmp cs q i → contact_at cs q ≡ None
unfolding contact_at
contact_gap cs q i gap = nowhere (is_contact_of q) cs (gap_nowhere cs q i gap)

pub contact_found : (cs : List Contact) (q : RouterId) (i : ℕ) (d : Contact) → position (is_contact_of q) cs ≡ Some i → contact_at cs q ≡ Some (slice_index_or cs i d)
unfolding contact_at
contact_found cs q i d at = at_place (is_contact_of q) cs i d at

-- a contact that is found is that of the router
pub contact_router : (cs : List Contact) (q : RouterId) (c : Contact) → contact_at cs q ≡ Some c → c.router ≡ q
unfolding contact_at
contact_router cs q c at = (decides q c).0 (found_holds (is_contact_of q) cs c at).1

pub contact_there : (cs : List Contact) (q : RouterId) (i : ℕ) → position (is_contact_of q) cs ≡ Some i → contact_at cs q ≢ None
unfolding contact_at
contact_there cs q i at = there (is_contact_of q) cs i at
