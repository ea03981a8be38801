-- Where each router was heard last: the source address and the key of its last accepted Map-Register.
use Rattle.std.specs.Prelude.{◌≡◌, ◌≢◌, ◌<◌, ℕ, List, Bool, Option, Some, None}
use Rattle.std.specs.List.{find}
use Rattle.lisp_records.specs.declared.router.RouterId.{RouterId}
use Rattle.lisp_records.specs.Address.{PrefixValue}
use Rattle.lisp_records.specs.Router.{router_eq}
use Rattle.lisp_records.specs.Row.{RowValue}
use Rattle.lisp_policy.specs.Site.{SiteValue}
use Rattle.lisp_lookup.specs.Table.{row_at}
use Rattle.lisp_server.specs.declared.contacts.Contact.{Contact}
use Rattle.lisp_admission.specs.Checks.{secret_at}

abbrev pub is_contact_of : RouterId → Contact → Bool
is_contact_of router c = router_eq c.router router

unfoldable pub contact_at : List Contact → RouterId → Option Contact
contact_at contacts router = find (is_contact_of router) contacts

-- the contact was set for its router, and no other was touched
pub record SetsContact (old new : List Contact) (c : Contact) : Type 0 where
  pub here : contact_at new c.router ≡ Some c
  pub others : (other : RouterId) → other ≢ c.router → contact_at new other ≡ contact_at old other

-- the router was heard, under a key that its site has a secret for
pub record IsHeard (sites : List SiteValue) (contacts : List Contact) (router : RouterId) : Type 0 where
  pub contact : Contact
  pub heard : contact_at contacts router ≡ Some contact
  pub secret : List ℕ
  pub signs : secret_at sites router.site contact.key ≡ Some secret

-- the router of each row was heard
abbrev pub Knows : List SiteValue → List RowValue → List Contact → Type 0
Knows sites rows contacts = (router : RouterId) (eid : PrefixValue) (h : RowValue) → row_at rows router eid ≡ Some h → IsHeard sites contacts router

-- the contacts, and how many more there is room for
pub record ContactsState : Type 0 where
  pub contacts : List Contact
  pub spare : ℕ

-- there is room for the contact of a router, or it has one
abbrev pub HasContactRoom : ContactsState → RouterId → Type 0
HasContactRoom contacts router = contact_at contacts.contacts router ≡ None → 0 < contacts.spare
