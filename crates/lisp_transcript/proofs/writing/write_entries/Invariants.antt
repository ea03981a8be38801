use Rattle.std.proofs.Common.{length}
use Rattle.lisp_transcript.specs.Schedule.{entries_of}
use Rattle.lisp_transcript.proofs.Written.{IsWriting}
use Rattle.lisp_transcript.proofs.writing.write_entries.Given as goal

-- the entries so far went out
abbrev pub invariant-loop-entry : goal.invariant-loop-entry
invariant-loop-entry g l = IsWriting (entries_of l.config l.fn.schedule) (entries_of l.config l.schedule) (g.W.Write.contents l.fn.writer) (g.W.Write.contents l.writer)

-- each takes a packet
abbrev pub decreases-loop-entry : goal.decreases-loop-entry
decreases-loop-entry g l = length l.schedule.packets
