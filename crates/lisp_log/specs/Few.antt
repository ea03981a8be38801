-- How many lines of what repeats a node prints in a second.
use Rattle.std.specs.Prelude.{ℕ, ◌^◌, ◌<◌, ◌≤◌, List, [], ◌∷◌, ◌++◌, length, map, count_by, IfSome}
use Rattle.std.specs.List.{All, Contains}
use Rattle.lisp_turns.specs.declared.outside.Printed.{Printed}
use Rattle.lisp_log.specs.declared.repeats.Repeat.{Repeat}
use Rattle.lisp_log.specs.declared.repeats.Repeated.{Repeated}
use Rattle.lisp_log.specs.declared.repeats.Repeated.TheVariants.{Refused, Replied, Negative, Forwarded, Unanswered}
use Rattle.lisp_log.specs.Repeats.{Event, Leaves, most_entries}
use Rattle.lisp_log.specs.Log.{repeating, sums as sums_of}

-- the numbers of refusals: of a router, of a Map-Server, and of Map-Requests
abbrev pub router_numbers : List ℕ
router_numbers = 35 ∷ 36 ∷ 37 ∷ 38 ∷ 40 ∷ 41 ∷ 42 ∷ 43 ∷ 44 ∷ 45 ∷ 46 ∷ 47 ∷ 48 ∷ 49 ∷ []

abbrev pub server_numbers : List ℕ
server_numbers = 50 ∷ 51 ∷ 52 ∷ 53 ∷ 54 ∷ 55 ∷ 56 ∷ 57 ∷ 58 ∷ 59 ∷ 60 ∷ 61 ∷ 62 ∷ 63 ∷ 64 ∷ 65 ∷ 66 ∷ 67 ∷ 68 ∷ 69 ∷ 136 ∷ 137 ∷ 138 ∷ 139 ∷ 140 ∷ []

abbrev pub request_numbers : List ℕ
request_numbers = 9 ∷ 110 ∷ 111 ∷ 112 ∷ 113 ∷ 114 ∷ 115 ∷ 116 ∷ 117 ∷ 118 ∷ 119 ∷ 120 ∷ 121 ∷ 122 ∷ 123 ∷ 124 ∷ 125 ∷ 126 ∷ 127 ∷ 128 ∷ 129 ∷ 130 ∷ 135 ∷ []

-- all that may repeat, which is fewer than 80; and it is all
abbrev pub kinds : List Repeated
kinds = map Refused (router_numbers ++ server_numbers ++ request_numbers) ++ Replied ∷ Negative ∷ Forwarded ∷ Unanswered ∷ []

abbrev pub KindsAreAll : Type 0
KindsAreAll = (line : Printed) → IfSome (repeating line) (λ it. Contains kinds it.0)

-- of the events of a second, at most as many lines are told, and then sums, as there may be entries
pub record FewLines (events : List Event) (entries : List Repeat) : Type 0 where
  pub lines : count_by (λ e. e.told) events ≤ most_entries
  pub sums : (name : List ℕ) → length (sums_of name entries) ≤ most_entries

abbrev pub FewAreTold : Type 0
FewAreTold = (events : List Event) (entries : List Repeat) → Leaves events entries → All (λ e. Contains kinds e.what) events → length events < 2 ^ 64 → FewLines events entries
