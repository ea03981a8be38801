use Rattle.std.proofs.Common.{◌≡◌, ◌+◌, ◌*◌, length}
use Rattle.lisp_requests.specs.Checksum.{words, sum_from}
use Rattle.lisp_requests.proofs.checksum.sum_from.Given as goal

-- the sum so far, with the words still to come, is the sum of all
abbrev pub invariant-loop : goal.invariant-loop
invariant-loop l = record {
  so_far : sum_from l.sum (words l.rest) ≡ sum_from l.start (words l.bytes);
  left : length l.rest + 2 * l.counter ≡ length l.bytes;
}
