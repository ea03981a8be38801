-- When a node answers its user: one that asks in a loop takes at most half of the time that datagrams leave, or an eighth of theirs.
use Rattle.std.specs.Prelude.{ℕ, Bool, false, ◌+◌, ◌-◌, ◌*◌, ◌^◌, ◌==◌, ◌||◌, ◌&&◌, nat_le, min}
use Rattle.lisp_udp.specs.declared.pace.Pace.{Pace}

-- so many us of the turns that take datagrams are worth one us of rest
abbrev pub work_per_rest : ℕ
work_per_rest = 8

-- a datagram comes closely after another where it rests for no more than so many us between them
abbrev pub most_between : ℕ
most_between = 1000

-- nobody asked lately: it owes nothing
abbrev pub cleared : Pace
cleared = record { rest_left = 0; work_left = 0; rested = 0; is_close = false }

-- it rested so long
abbrev pub rested_for : Pace → ℕ → Pace
rested_for p us = record p { rest_left = p.rest_left - us; rested = min (p.rested + us) (2 ^ 64 - 1) }

-- it took datagrams for so long
abbrev pub worked_for : Pace → ℕ → Pace
worked_for p us = record p { work_left = p.work_left - us }

-- a datagram came
abbrev pub heard : Pace → Pace
heard p = record p { rested = 0; is_close = nat_le p.rested most_between }

-- it answered for so long: it owes as long a rest, or eight times as long a time in which it takes datagrams
abbrev pub answered_for : Pace → ℕ → Pace
answered_for p us = record p { rest_left = us; work_left = min (work_per_rest * us) (2 ^ 64 - 1) }

-- it answers where it owes nothing
abbrev pub answers : Pace → Bool
answers p = (p.rest_left == 0) || (p.work_left == 0)

-- it waits for the next datagram where that one came closely after the one before it, and it didn't rest since
abbrev pub awaits_next : Pace → Bool
awaits_next p = p.is_close && (p.rested == 0)
