-- What failed is tried again a second later, and told once a minute.
use Rattle.std.specs.Prelude.{ℕ, ◌+◌, nat_le, Bool, if◌then◌else◌}
use Rattle.lisp_records.specs.Moment.{second, minute}
use Rattle.lisp_turns.specs.declared.pause.Pause.{Pause}

-- it may be tried at a moment; and it would be told then
abbrev pub may_try : Pause → ℕ → Bool
may_try p now = nat_le p.next_try now

abbrev pub is_told : Pause → ℕ → Bool
is_told p now = nat_le p.next_line now

-- after a failure at a moment
abbrev pub failed : Pause → ℕ → Pause
failed p now = record { next_try = now + second; next_line = if is_told p now then now + minute else p.next_line }

-- nothing failed yet
abbrev pub no_pause : Pause
no_pause = record { next_try = 0; next_line = 0 }
