-- No source takes more than its share while others wait.
use Rattle.std.specs.Prelude.{◌≡◌, Some, false}
use Rattle.std.specs.List.{Contains}
use Rattle.lisp_queue.specs.Queue.{WaitingValue, QueueState, may_take, TakesNext}

-- a datagram of a source that has half the places of the group, or more, is taken only where none waits whose source has fewer
abbrev pub SharesAreFair : Type 0
SharesAreFair = (old new : QueueState) (taken other : WaitingValue) → TakesNext old new (Some taken) → may_take old taken.from ≡ false
    → Contains old.waiting other → may_take old other.from ≡ false
