-- What was sent, and what a budget promises of it: no more than so many bytes in any second, to one destination and to all.
use Rattle.std.specs.Prelude.{ℕ, ◌+◌, ◌≤◌, Bool, ◌&&◌, nat_le, nat_lt, List}
use Rattle.std.specs.List.{filter, sum_by}
use Rattle.lisp_records.specs.Address.{PrefixValue, prefix_eq}

-- a message that was sent: when, in ms; whereto; how many bytes
pub record SentValue : Type 0 where
  pub at : ℕ
  pub to : PrefixValue
  pub bytes : ℕ

-- it was sent in the second from a moment on
abbrev pub is_within : ℕ → SentValue → Bool
is_within from s = nat_le from s.at && nat_lt s.at (from + 1000)

-- to a destination
abbrev pub is_to : PrefixValue → SentValue → Bool
is_to to s = prefix_eq s.to to

-- the bytes of all of them
abbrev pub bytes_of : List SentValue → ℕ
bytes_of sent = sum_by (λ s. s.bytes) sent

-- in no second more than so many bytes were sent to one destination, nor more than so many to all
pub record KeepsBudget (sent : List SentValue) (each all : ℕ) : Type 0 where
  pub of_each : (to : PrefixValue) (from : ℕ) → bytes_of (filter (λ s. is_to to s && is_within from s) sent) ≤ each
  pub of_all : (from : ℕ) → bytes_of (filter (is_within from) sent) ≤ all
