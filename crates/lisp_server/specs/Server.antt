-- What a Map-Server is (RFC 9301 section 8.2).
use Rattle.std.specs.Prelude.{◌≡◌, ◌<◌, ◌≤◌, ℕ, List, [], None, if◌then◌else◌}
use Rattle.std.specs.FinMap.{empty}
use Rattle.lisp_records.specs.declared.address.Addr.{Addr}
use Rattle.lisp_records.specs.declared.router.RouterId.{RouterId}
use Rattle.lisp_records.specs.Row.{RowValue}
use Rattle.lisp_policy.specs.Site.{SiteValue}
use Rattle.lisp_policy.specs.Extends.{extends}
use Rattle.lisp_server.specs.declared.contacts.Contact.{Contact}
use Rattle.lisp_server.specs.declared.tables.Tables.{Tables}
use Rattle.lisp_nonces.specs.declared.pair.Pair.{Pair}
use Rattle.lisp_admission.specs.Pairs.{notice_pair}
use Rattle.lisp_server.specs.Contacts.{contact_at, SetsContact}
use Rattle.lisp_server.specs.LastNonces.{Nonces, nonce_at, SetsNonce}
use Rattle.lisp_server.specs.Notices.{StandingNoticeValue, notice_at}

-- its sites; the rows that it holds, dead ones too; the last nonce of each pair, where each router was
-- heard last, and the unsolicited Map-Notifies (notices) that stand, all since the start
pub record ServerState : Type 0 where
  pub sites : List SiteValue
  pub rows : List RowValue
  pub nonces : Nonces
  pub contacts : List Contact
  pub notices : List StandingNoticeValue

-- a Map-Server of these sites that holds nothing
abbrev pub empty_server : List SiteValue → ServerState
empty_server sites = record { sites = sites; rows = []; nonces = empty; contacts = []; notices = [] }

-- a Map-Server that took other sites: it goes on with what it holds where they have all that its own had, else it starts anew
abbrev pub reloaded : ServerState → List SiteValue → ServerState
reloaded s sites = if extends s.sites sites then record s { sites = sites } else empty_server sites

abbrev pub state_of : {A : Type 0} → List SiteValue → Tables A → ServerState
state_of sites t = record { sites = sites; rows = t.rows.rows; nonces = t.nonces.nonces; contacts = t.contacts.contacts; notices = t.notices.notices }

-- only the room changed
pub record SameTables {A : Type 0} (old new : Tables A) : Type 0 where
  pub rows : new.rows.rows ≡ old.rows.rows
  pub nonces : new.nonces.nonces ≡ old.nonces.nonces
  pub contacts : new.contacts.contacts ≡ old.contacts.contacts
  pub notices : new.notices.notices ≡ old.notices.notices

-- the router of a pair was heard at an address under the pair's key
abbrev pub SetsPairContact : {A : Type 0} → Tables A → Tables A → Pair → Addr → Type 0
SetsPairContact old new pair from = SetsContact old.contacts.contacts new.contacts.contacts (record { router = pair.router; key = pair.key; from = from })

-- the last nonce of all notices was set
abbrev pub SetsNoticeNonce : {A : Type 0} → Tables A → Tables A → ℕ → Type 0
SetsNoticeNonce old new nonce = SetsNonce old.nonces.nonces new.nonces.nonces notice_pair nonce

-- there is room for what a Map-Register with so many records brings under a pair
pub record HasRoom {A : Type 0} (t : Tables A) (count : ℕ) (pair : Pair) : Type 0 where
  pub rows : count ≤ t.rows.spare
  pub nonces : nonce_at t.nonces.nonces pair ≡ None → 0 < t.nonces.spare
  pub contacts : contact_at t.contacts.contacts pair.router ≡ None → 0 < t.contacts.spare

-- there is room for a notice to a router
pub record HasNoticeRoom {A : Type 0} (t : Tables A) (router : RouterId) : Type 0 where
  pub nonces : nonce_at t.nonces.nonces notice_pair ≡ None → 0 < t.nonces.spare
  pub notices : notice_at t.notices.notices router ≡ None → 0 < t.notices.spare
