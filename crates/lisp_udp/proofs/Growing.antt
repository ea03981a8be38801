-- Datagrams come, and wait behind the others.
use Rattle.std.proofs.Common.{ℕ, List, ◌++◌, append_assoc, ap, ◌∙◌}
use Rattle.lisp_queue.specs.Queue.{QueueState, WaitingValue}
use Rattle.lisp_turns.specs.declared.outside.Received.{Received}
use Rattle.lisp_turns.specs.declared.outside.Received.TheVariants as received
use Rattle.lisp_udp.specs.Inbox.{Grows, TakesHeard, TakesFirst, HearsGrown}

-- more came behind those that came
pub grows_more : (old between new : QueueState) → Grows old between → Grows between new → Grows old new
grows_more old between new grows more = record {
  came = grows.came ++ more.came;
  is = more.is ∙ ap (λ (q : QueueState). record q { waiting = q.waiting ++ more.came }) grows.is
      ∙ ap (λ (waiting : List WaitingValue). record old { waiting = waiting }) (append_assoc old.waiting grows.came more.came);
}

takes_first : (old new : QueueState) (buffer : List ℕ) (result : Received) → TakesHeard old new buffer result → TakesFirst old new buffer result
takes_first old new buffer (received.Datagram from count) takes = takes
takes_first old new buffer received.Nothing takes = takes
takes_first old new buffer received.Failed takes = absurd takes

-- what is taken once some came
pub takes_grown : (old grown new : QueueState) (buffer : List ℕ) (result : Received) → Grows old grown → TakesHeard grown new buffer result → HearsGrown old new buffer result
takes_grown old grown new buffer result grows takes = (grown, grows, takes_first grown new buffer result takes)
