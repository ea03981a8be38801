use Rattle.std.proofs.Common.{length}
use Rattle.lisp_transcript.specs.Line.{lines_of}
use Rattle.lisp_transcript.proofs.Written.{IsWriting}
use Rattle.lisp_transcript.proofs.writing.write_lines.Given as goal

-- the lines so far went out
abbrev pub invariant-loop-line : goal.invariant-loop-line
invariant-loop-line g l = IsWriting (lines_of l.sites l.fn.transcript) (lines_of l.sites l.transcript) (g.W.Write.contents l.fn.writer) (g.W.Write.contents l.writer)

-- each takes a packet
abbrev pub decreases-loop-line : goal.decreases-loop-line
decreases-loop-line g l = length l.transcript.packets
