-- Map-Servers that don't acknowledge: one that hasn't for three minutes is told, and at most once in ten.
use Rattle.std.specs.Prelude.{◌≡◌, ℕ, ◌+◌, ◌-◌, ◌≤◌, nat_eq, List, map, slice_get, slice_set, Some, if◌then◌else◌}
use Rattle.std.specs.List.{All}
use Rattle.lisp_log.specs.declared.silences.Silence.{Silence}

-- how long a Map-Server may take before its silence is told; and how long after that it is told again, in ms
abbrev pub patience : ℕ
patience = 180000

abbrev pub again : ℕ
again = 600000

-- none of them has acknowledged since a moment, at which their time begins
abbrev pub never_heard : ℕ → List ℕ → List Silence
never_heard now servers = map (λ server. record { server = server; acknowledged = now; next_line = now }) servers

-- a Map-Server acknowledges at a moment
abbrev pub heard : ℕ → ℕ → Silence → Silence
heard server now s = if nat_eq s.server server then record s { acknowledged = now } else s

abbrev pub Acknowledges : List Silence → List Silence → ℕ → ℕ → Type 0
Acknowledges old new server now = new ≡ map (heard server now) old

-- it has been silent for three minutes, and ten are over since that was told
abbrev pub IsSilent : ℕ → Silence → Type 0
IsSilent now s = (patience ≤ now - s.acknowledged) × (s.next_line ≤ now)

abbrev pub NoneSilent : List Silence → ℕ → Type 0
NoneSilent servers now = All (λ s. IsSilent now s → ⊥) servers

-- one that is silent is told, with how long it has been
pub record TellsSilence (old new : List Silence) (now : ℕ) (told : ℕ × ℕ) : Type 0 where
  pub place : ℕ
  pub one : Silence
  pub there : slice_get old place ≡ Some one
  pub silent : IsSilent now one
  pub told_is : told ≡ (one.server, now - one.acknowledged)
  pub left : new ≡ slice_set old place (record one { next_line = now + again })
