-- How a router stands with one of its Map-Servers: a round for each part of its database, and what was acknowledged of
-- each (RFC 9301 section 8.2).
use Rattle.std.specs.Prelude.{ℕ, ◌==◌, ◌&&◌, max, nat_le, not, is_some, Bool, List, [], ◌∷◌, map, position, replicate, slice_get, slice_index_or, slice_set, take, Option, Some, None}
use Rattle.std.specs.Option.{option_and_then, option_map, unwrap_or}
use Rattle.lisp_records.specs.Parts.{most_parts}
use Rattle.lisp_etr.specs.declared.round.Round.{Round}
use Rattle.lisp_etr.specs.declared.rounds.Rounds.{Rounds}
use Rattle.lisp_etr.specs.Round.{first_round, new_round, rotated_round, round_after_send, round_after_count}

-- the router starts
abbrev pub first_rounds : ℕ → Rounds
first_rounds now = record { parts = replicate most_parts (first_round now); acked = replicate most_parts None }

-- a new round of each part is due now
abbrev pub new_rounds : ℕ → Rounds → Rounds
new_rounds now rs = record rs { parts = map (new_round now) rs.parts }

-- so it is under another key
abbrev pub rotated_rounds : ℕ → Rounds → Rounds
rotated_rounds now rs = record rs { parts = map (rotated_round now) rs.parts }

-- the round of a part
abbrev pub round_of : Rounds → ℕ → Round
round_of rs part = slice_index_or rs.parts part (first_round 0)

-- a Map-Register of a part went out
abbrev pub rounds_after_send : ℕ → ℕ → ℕ → Rounds → Rounds
rounds_after_send part nonce now rs = record rs { parts = slice_set rs.parts part (round_after_send nonce now (round_of rs part)) }

-- the last one of a part was acknowledged
abbrev pub rounds_after_count : ℕ → ℕ → Rounds → Rounds
rounds_after_count key part rs = record {
  parts = slice_set rs.parts part (round_after_count (round_of rs part));
  acked = slice_set rs.acked part (Some (key, (round_of rs part).latest));
}

-- the nonces of the last Map-Registers, part by part
abbrev pub latest_of : Rounds → List ℕ
latest_of rs = map (λ r. r.latest) rs.parts

-- the nonce is that of the last Map-Register; no nonce is 0
abbrev pub is_latest : ℕ → ℕ → Bool
is_latest nonce latest = not (nonce == 0) && (nonce == latest)

-- the part whose last Map-Register had the nonce
abbrev pub part_with : ℕ → List ℕ → Option ℕ
part_with nonce latest = position (λ l. is_latest nonce l) latest

-- the greatest of some numbers, 0 where there are none
abbrev pub greatest : List ℕ → ℕ
greatest [] = 0
greatest (n ∷ ns) = max n (greatest ns)

-- the first of so many parts that is due
abbrev pub due_part : ℕ → ℕ → Rounds → Option ℕ
due_part now parts rs = position (λ r. nat_le r.due now) (take parts rs.parts)

-- the first place in a list where a part is found, and the part
abbrev pub first_part : {X : Type 0} → (X → Option ℕ) → List X → Option (ℕ × ℕ)
first_part {X} part_of xs =
    option_and_then (λ place. option_map (λ part. (place, part)) (option_and_then part_of (slice_get xs place)))
    (position (λ x. is_some (part_of x)) xs)

-- how the router stands with a Map-Server
abbrev pub rounds_at : List Rounds → ℕ → Rounds
rounds_at all server = slice_index_or all server (record { parts = []; acked = [] })

-- for each part, the Key ID and the nonce of the last Map-Register to a Map-Server that was acknowledged; nothing for one
-- that isn't in the list
abbrev pub acked_at : List Rounds → ℕ → List (Option (ℕ × ℕ))
acked_at all server = unwrap_or (option_map (λ rs. rs.acked) (slice_get all server)) []
