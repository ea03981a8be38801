-- A budget of 100 bytes a second to each destination and of 150 to all, and messages around the ends of slots.
use Rattle.std.proofs.Common.{ℕ, true, false, [], ◌∷◌, ◌≡◌, refl}
use Rattle.lisp_records.specs.declared.address.Addr.{Addr}
use Rattle.lisp_records.specs.declared.address.Addr.TheVariants.{V4, V6}
use Rattle.lisp_records.specs.Address.{PrefixValue, masked}
use Rattle.lisp_budget.specs.declared.rows.Row.{Row}
use Rattle.lisp_budget.specs.Sent.{SentValue}
use Rattle.lisp_budget.specs.Budget.{BudgetState, destination, unused, at_slot, takes, after_take}

-- ---- destinations

abbrev pub ipv4 : ℕ → Addr
ipv4 last = V4 (192 ∷ 0 ∷ 2 ∷ last ∷ [])

-- an address 2001:db8:0:n::, with its last byte
abbrev pub ipv6 : ℕ → ℕ → Addr
ipv6 n last = V6 (32 ∷ 1 ∷ 13 ∷ 184 ∷ 0 ∷ 0 ∷ 0 ∷ n ∷ 0 ∷ 0 ∷ 0 ∷ 0 ∷ 0 ∷ 0 ∷ 0 ∷ last ∷ [])

-- an IPv4 address is one by itself; the addresses of a /64 are one
alone : destination (ipv4 1) ≡ record { addr = ipv4 1; mask_len = 32 }
unfolding masked
alone = refl

together : destination (ipv6 7 1) ≡ record { addr = ipv6 7 0; mask_len = 64 }
unfolding masked
together = refl

-- ---- messages

abbrev pub one : PrefixValue
one = record { addr = ipv4 1; mask_len = 32 }

abbrev pub other : PrefixValue
other = record { addr = ipv6 7 0; mask_len = 64 }

abbrev pub sent : ℕ → PrefixValue → ℕ → SentValue
sent now to bytes = record { at = now; to = to; bytes = bytes }

abbrev pub row : PrefixValue → ℕ → ℕ → Row
row to before present = record { to = to; before = before; present = present }

abbrev pub fresh : BudgetState
fresh = unused 100 150

-- 60 bytes are sent at 900 ms
abbrev pub used : BudgetState
used = record fresh { rows = row one 0 60 ∷ []; present = 60 }

first : takes fresh (sent 900 one 60) ≡ true
first = refl

its_bytes_count : after_take fresh (sent 900 one 60) ≡ used
its_bytes_count = refl

-- at 1,100 ms another slot has begun, and they still count: 40 bytes are left to the destination, and 90 to all
forty_more : takes used (sent 1100 one 40) ≡ true
forty_more = refl

one_too_many : takes used (sent 1100 one 41) ≡ false
one_too_many = refl

nothing_changes : after_take used (sent 1100 one 41) ≡ used
nothing_changes = refl

ninety_to_another : takes used (sent 1100 other 90) ≡ true
ninety_to_another = refl

too_many_for_all : takes used (sent 1100 other 91) ≡ false
too_many_for_all = refl

what_is_known_then : after_take used (sent 1100 one 40) ≡ record { slot = 1; rows = row one 60 40 ∷ []; before = 60; present = 40; each = 100; all = 150 }
what_is_known_then = refl

-- from 2,000 ms on they don't count any more
all_again : takes used (sent 2000 one 100) ≡ true
all_again = refl

-- a row goes where the slot before has nothing for it
goes : at_slot (record fresh { rows = row one 60 0 ∷ row other 0 60 ∷ []; before = 60; present = 60 }) 1
    ≡ record { slot = 1; rows = row other 60 0 ∷ []; before = 60; present = 0; each = 100; all = 150 }
goes = refl

-- a moment of a slot that is over counts as of the present one
over : at_slot (record used { slot = 3 }) 2 ≡ record used { slot = 3 }
over = refl
