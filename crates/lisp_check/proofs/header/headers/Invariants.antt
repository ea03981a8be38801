use Rattle.std.proofs.Common.{◌≡◌, ◌≤◌, ◌+◌, ◌++◌, length}
use Rattle.lisp_check.specs.Header.{headers_from, headers_in}
use Rattle.lisp_check.proofs.header.headers.Given as goal

-- the headers so far, and those of what is left, behind so many bytes and at most as many ends of lines
abbrev pub invariant-loop-rest : goal.invariant-loop-rest
invariant-loop-rest l =
    (l.headers.items ++ headers_from l.line l.mode l.offset l.rest ≡ headers_in l.text) × (l.offset + length l.rest ≡ length l.text) × (l.line ≤ l.offset + 1)

abbrev pub decreases-loop-rest : goal.decreases-loop-rest
decreases-loop-rest l = length l.rest
