use Rattle.std.specs.Prelude.{vec_len}
use Rattle.std.proofs.Common.{◌≤◌}
use Rattle.std.specs.Io.KnownBytes.{Consumes}
use Rattle.lisp_script.specs.Input.{most_bytes}
use Rattle.lisp_script.proofs.input.read_to_end.Given as goal

-- these bytes were read, and there are not too many
abbrev pub invariant-loop : goal.invariant-loop
invariant-loop g l = record {
  consumed : Consumes (g.R.Read.remaining l.fn.reader) (g.R.Read.remaining l.reader) l.bytes.items;
  short : vec_len l.bytes ≤ most_bytes;
}
