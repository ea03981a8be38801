use Rattle.std.specs.Prelude.{vec_len}
use Rattle.std.proofs.Common.{◌≤◌}
use Rattle.std.specs.Io.KnownBytes.{Consumes}
use Rattle.lisp_answer.specs.Input.{most_bytes}
use Rattle.lisp_answer.proofs.InputLemmas.{TakesFront}
use Rattle.lisp_answer.proofs.input.read_line.Given as goal

-- the bytes so far are the front of the line, and there are not too many
abbrev pub invariant-loop : goal.invariant-loop
invariant-loop g l = record {
  so_far : TakesFront (g.R.Read.remaining l.fn.reader) (g.R.Read.remaining l.reader) l.line.items;
  consumed : Consumes (g.R.Read.remaining l.fn.reader) (g.R.Read.remaining l.reader) l.line.items;
  short : vec_len l.line ≤ most_bytes;
}
