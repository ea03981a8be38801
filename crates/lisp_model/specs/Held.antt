-- Held: what a server holds of the Map-Registers that it accepted since its start (RFC 9301 section 8.2).
use Rattle.std.specs.Prelude.{ℕ, Bool, List, [], ◌∷◌, map, reverse, Option}
use Rattle.std.specs.List.{find, filter, flat_map}
use Rattle.std.specs.Option.{option_map, option_and_then}
use Rattle.std.specs.Ordering.{eq_by_cmp}
use Rattle.std.specs.declared.cmp.Ordering.{Ordering}
use Rattle.std.specs.declared.cmp.Ordering.TheVariants.{Less, Equal, Greater}
use Rattle.lisp_records.specs.declared.address.Addr.{Addr}
use Rattle.lisp_records.specs.declared.router.RouterId.{RouterId}
use Rattle.lisp_records.specs.Address.{PrefixValue}
use Rattle.lisp_records.specs.Record.{MapRecordValue}
use Rattle.lisp_records.specs.Router.{router_eq}
use Rattle.lisp_records.specs.Row.{RowValue, is_alive}
use Rattle.lisp_nonces.specs.declared.pair.Pair.{Pair}
use Rattle.lisp_nonces.specs.Pair.{pair_cmp}
use Rattle.lisp_messages.specs.Message.{MapRegisterValue}
use Rattle.lisp_lookup.specs.Table.{IsHeld, is_row_of, if_alive, row_cmp}
use Rattle.lisp_lookup.specs.Growth.{LiveRows}
use Rattle.lisp_admission.specs.Pairs.{router_of, pair_of}
use Rattle.lisp_admission.specs.AcceptedRows.{row_values}

-- a Map-Register that a server accepted, from which address and at which moment
pub record Acceptance : Type 0 where
  pub message : MapRegisterValue
  pub from : Addr
  pub moment : ℕ

-- the last nonce of a pair; lists of acceptances have the last one first
abbrev pub is_of_pair : Pair → Acceptance → Bool
is_of_pair pair a = eq_by_cmp pair_cmp pair (pair_of a.message)

abbrev pub last_of : Pair → List Acceptance → Option ℕ
last_of pair since = option_map (λ a. a.message.nonce) (find (is_of_pair pair) since)

-- where a router was heard last
abbrev pub heard_last : RouterId → List Acceptance → Option Acceptance
heard_last router since = find (λ a. router_eq (router_of a.message) router) since

-- the rows of all records of these messages, the last record of the last message first
abbrev pub accepted_rows : List Acceptance → List RowValue
accepted_rows since = flat_map (λ a. reverse (row_values a.message a.from a.moment)) since

-- what is held for a router and a prefix at a moment: the last record for the prefix of the last message
-- of the router that names it, if it is alive
abbrev pub held_row : List Acceptance → RouterId → PrefixValue → ℕ → Option RowValue
held_row since router eid now = option_and_then (if_alive now) (find (is_row_of router eid) (accepted_rows since))

-- the same for each router and prefix
abbrev pub held_rows : List Acceptance → ℕ → LiveRows
held_rows since now router eid = held_row since router eid now

-- rows by router, then prefix; of two for one router and prefix the one that comes first
abbrev pub insert_row_by : Ordering → RowValue → RowValue → List RowValue → List RowValue → List RowValue
insert_row_by Less h g gs later = h ∷ g ∷ gs
insert_row_by Equal h g gs later = h ∷ gs
insert_row_by Greater h g gs later = g ∷ later

abbrev pub insert_row : RowValue → List RowValue → List RowValue
insert_row h [] = h ∷ []
insert_row h (g ∷ gs) = insert_row_by (row_cmp h g) h g gs (insert_row h gs)

abbrev pub in_row_order : List RowValue → List RowValue
in_row_order [] = []
in_row_order (h ∷ hs) = insert_row h (in_row_order hs)

-- all that is held at a moment
abbrev pub rows : List Acceptance → ℕ → List RowValue
rows since now = filter (λ h. is_alive h now) (in_row_order (accepted_rows since))

-- these rows are all that is held at a moment, by router, then prefix
abbrev pub ListsAllHeld : List Acceptance → ℕ → List RowValue → Type 0
ListsAllHeld since now listed = IsHeld (accepted_rows since) now listed

-- the records of a router that are held at a moment, by prefix
abbrev pub records_of : List Acceptance → RouterId → ℕ → List MapRecordValue
records_of since router now = map (λ h. h.mapping) (filter (λ h. router_eq h.router router) (rows since now))
