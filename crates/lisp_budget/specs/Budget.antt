-- What a budget knows of what was sent, when it lets a message go, and which messages it accounts for.
use Rattle.std.specs.Prelude.{◌≡◌, ◌⊎◌, ℕ, ◌+◌, ◌/◌, ◌≤◌, ◌==◌, nat_le, nat_lt, Bool, true, ◌&&◌, ◌||◌, List, [], ◌∷◌, ◌++◌, length, map, filter, Option, None, unwrap_or, is_some, if◌then◌else◌}
use Rattle.std.specs.List.{All, find, list_any}
use Rattle.lisp_records.specs.declared.address.Addr.{Addr}
use Rattle.lisp_records.specs.declared.address.Addr.TheVariants.{V4, V6}
use Rattle.lisp_records.specs.Address.{PrefixValue, prefix_around, prefix_eq}
use Rattle.lisp_budget.specs.declared.rows.Row.{Row}
use Rattle.lisp_budget.specs.Sent.{SentValue, is_to, bytes_of, KeepsBudget}

-- ---- destinations and slots

-- the destination of an address: an IPv4 address, or the /64 of an IPv6 address
abbrev pub destination : Addr → PrefixValue
destination (V4 bytes) = prefix_around (V4 bytes) 32
destination (V6 bytes) = prefix_around (V6 bytes) 64

-- time is cut into slots of 1,000 ms: the slot of a moment, in ms
abbrev pub slot_of : ℕ → ℕ
slot_of now = now / 1000

-- how many destinations are known at a time, at most
abbrev pub most_known : ℕ
most_known = 4096

-- ---- what a budget knows

-- the present slot; of each known destination how many bytes were sent to it in the slot before and in the present one; the sums of
-- all destinations; and how many bytes a second may be sent to each, and to all
pub record BudgetState : Type 0 where
  pub slot : ℕ
  pub rows : List Row
  pub before : ℕ
  pub present : ℕ
  pub each : ℕ
  pub all : ℕ

-- a budget of which nothing was used
abbrev pub unused : ℕ → ℕ → BudgetState
unused each all = record { slot = 0; rows = []; before = 0; present = 0; each = each; all = all }

-- the row of a destination
abbrev pub is_of : PrefixValue → Row → Bool
is_of to r = prefix_eq r.to to

abbrev pub row_of : List Row → PrefixValue → Option Row
row_of rows to = find (is_of to) rows

-- the same; a row of nothing, where there is none
abbrev pub spent_on : List Row → PrefixValue → Row
spent_on rows to = unwrap_or (row_of rows to) (record { to = to; before = 0; present = 0 })

-- no two rows are of one destination
abbrev pub Differ : List Row → Type 0
Differ [] = Unit {0}
Differ (r ∷ rows) = (row_of rows r.to ≡ None) × Differ rows

-- a message of so many bytes to an address, at a moment
abbrev pub message : Addr → ℕ → ℕ → SentValue
message to bytes now = record { at = now; to = destination to; bytes = bytes }

-- ---- slots pass

-- the next slot comes: what was present is before; rows that have nothing then go
abbrev pub passed : Row → Row
passed r = record r { before = r.present; present = 0 }

abbrev pub passed_rows : List Row → List Row
passed_rows rows = map passed (filter (λ r. nat_lt 0 r.present) rows)

abbrev pub next : BudgetState → BudgetState
next b = record b { slot = b.slot + 1; rows = passed_rows b.rows; before = b.present; present = 0 }

-- a later one comes: nothing was sent in it, nor in the slot before
abbrev pub later : BudgetState → ℕ → BudgetState
later b slot = record b { slot = slot; rows = []; before = 0; present = 0 }

-- what is known in a slot; one that is over counts as the present one
abbrev pub at_slot : BudgetState → ℕ → BudgetState
at_slot b slot = if nat_le slot b.slot then b else (if slot == b.slot + 1 then next b else later b slot)

-- ---- messages are taken

-- a message to a destination may be sent in the present slot: to it and to all no more were sent in two slots than in a second may
-- be, and the destination has a row or finds room for one
abbrev pub may_send : BudgetState → PrefixValue → ℕ → Bool
may_send b to bytes = nat_le ((spent_on b.rows to).before + (spent_on b.rows to).present + bytes) b.each
    && nat_le (b.before + b.present + bytes) b.all
    && (is_some (row_of b.rows to) || nat_lt (length b.rows) most_known)

-- its bytes count: in its destination's row, or in a new one, and in the sum
abbrev pub counted_in : List Row → PrefixValue → ℕ → List Row
counted_in [] to bytes = record { to = to; before = 0; present = bytes } ∷ []
counted_in (r ∷ rows) to bytes = if is_of to r then record r { present = r.present + bytes } ∷ rows else r ∷ counted_in rows to bytes

abbrev pub counted : BudgetState → PrefixValue → ℕ → BudgetState
counted b to bytes = record b { rows = counted_in b.rows to bytes; present = b.present + bytes }

-- whether one is taken at a moment; what is known then: the same as before, where it isn't
abbrev pub takes : BudgetState → SentValue → Bool
takes b s = may_send (at_slot b (slot_of s.at)) s.to s.bytes

abbrev pub after_take : BudgetState → SentValue → BudgetState
after_take b s = if takes b s then counted (at_slot b (slot_of s.at)) s.to s.bytes else b

-- ---- what is known is what was sent

-- a message was sent in a slot; in the slot before it; in one of both
abbrev pub is_in : ℕ → SentValue → Bool
is_in slot s = slot_of s.at == slot

abbrev pub is_before : ℕ → SentValue → Bool
is_before slot s = slot_of s.at + 1 == slot

abbrev pub is_recent : ℕ → SentValue → Bool
is_recent slot s = is_before slot s || is_in slot s

-- the bytes of those messages that pass a test
abbrev pub bytes_where : (SentValue → Bool) → List SentValue → ℕ
bytes_where test sent = bytes_of (filter test sent)

-- each number is the bytes that were sent, and no destination is known to which nothing was sent in both slots
pub record IsCountOf (b : BudgetState) (sent : List SentValue) : Type 0 where
  pub differ : Differ b.rows
  pub past : All (λ s. slot_of s.at ≤ b.slot) sent
  pub before_each : (to : PrefixValue) → (spent_on b.rows to).before ≡ bytes_where (λ s. is_to to s && is_before b.slot s) sent
  pub present_each : (to : PrefixValue) → (spent_on b.rows to).present ≡ bytes_where (λ s. is_to to s && is_in b.slot s) sent
  pub known : (to : PrefixValue) → is_some (row_of b.rows to) ≡ true → list_any (λ s. is_to to s && is_recent b.slot s) sent ≡ true
  pub before_all : b.before ≡ bytes_where (is_before b.slot) sent
  pub present_all : b.present ≡ bytes_where (is_in b.slot) sent

-- a budget accounts for the messages that were sent: it counts them, the present slot is that of the last one, and they keep to it
pub record Accounts (b : BudgetState) (sent : List SentValue) : Type 0 where
  pub counts : IsCountOf b sent
  pub last : (b.slot ≡ 0) ⊎ (list_any (is_in b.slot) sent ≡ true)
  pub keeps : KeepsBudget sent b.each b.all

-- the messages that were sent, with one more where it was taken
abbrev pub sent_after : List SentValue → Bool → SentValue → List SentValue
sent_after sent taken s = if taken then sent ++ s ∷ [] else sent

-- where no message was sent later, a budget that accounts for those that were sent accounts for one more
abbrev pub KeepsAccount : BudgetState → BudgetState → Bool → SentValue → Type 0
KeepsAccount old new taken s = (sent : List SentValue) → Accounts old sent → All (λ x. x.at ≤ s.at) sent
    → Accounts new (sent_after sent taken s)

-- what a budget accounts for keeps to it
abbrev pub BudgetIsKept : Type 0
BudgetIsKept = (state : BudgetState) (sent : List SentValue) → Accounts state sent → KeepsBudget sent state.each state.all

-- however many messages come, no more destinations are known than there is room for
abbrev pub FewAreKnown : Type 0
FewAreKnown = (old : BudgetState) (s : SentValue) → length old.rows ≤ most_known → length (after_take old s).rows ≤ most_known
