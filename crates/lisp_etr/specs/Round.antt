-- A round of a router's Map-Registers of one part of its database to one of its Map-Servers, and what changes it (RFC
-- 9301 section 8.2).
use Rattle.std.specs.Prelude.{◌≡◌, ℕ, ◌+◌, ◌==◌, min, List, [], ◌∷◌, length, if◌then◌else◌}
use Rattle.lisp_etr.specs.declared.round.Round.{Round}
use Rattle.lisp_records.specs.Moment.{minute}
use Rattle.lisp_etr.specs.Timers.{gap, due_after}

-- the router starts
abbrev pub first_round : ℕ → Round
first_round now = record { due = now; sends = 0; renewal = 0; latest = 0 }

-- a new round is due now
abbrev pub new_round : ℕ → Round → Round
new_round now r = record r { due = now; sends = 0 }

-- a new round is due now, under another key: no Map-Register went out under it
abbrev pub rotated_round : ℕ → Round → Round
rotated_round now r = record r { due = now; sends = 0; latest = 0 }

-- a Map-Register went out; from six on, sends stays six
abbrev pub round_after_send : ℕ → ℕ → Round → Round
round_after_send nonce now r = record r { due = now + gap r.sends; sends = min (r.sends + 1) 6; renewal = now + minute; latest = nonce }

-- the last send was acknowledged: where it is of this round, a new round is due a minute after it
abbrev pub round_after_count : Round → Round
round_after_count r = if r.sends == 0 then r else record r { due = r.renewal; sends = 0 }

-- after a send the next round would be due a minute later
abbrev pub IsRenewal : ℕ → List ℕ → Type 0
IsRenewal renewal [] = Unit {0}
IsRenewal renewal (last ∷ before) = renewal ≡ last + minute

-- the timer is that of a round with this beginning and the sends at these times, the last one first
pub record KeepsRoundTime (r : Round) (begin : ℕ) (moments : List ℕ) : Type 0 where
  pub due : r.due ≡ due_after begin moments
  pub sends : r.sends ≡ min (length moments) 6
  pub renewal : IsRenewal r.renewal moments

-- a round begins at the start, at each change of the database or the key, and a minute after a send of a round
-- that is acknowledged; a send goes on with it
pub record KeepsTime : Type 0 where
  pub start : (now : ℕ) → KeepsRoundTime (first_round now) now []
  pub begin : (now : ℕ) (r : Round) → KeepsRoundTime (new_round now r) now []
  pub rotate : (now : ℕ) (r : Round) → KeepsRoundTime (rotated_round now r) now []
  pub send : (r : Round) (begin : ℕ) (moments : List ℕ) (nonce now : ℕ) → KeepsRoundTime r begin moments
      → KeepsRoundTime (round_after_send nonce now r) begin (now ∷ moments)
  pub renew : (r : Round) (begin last : ℕ) (before : List ℕ) → KeepsRoundTime r begin (last ∷ before)
      → KeepsRoundTime (round_after_count r) (last + minute) []
  pub idle : (r : Round) (begin : ℕ) → KeepsRoundTime r begin [] → KeepsRoundTime (round_after_count r) begin []
