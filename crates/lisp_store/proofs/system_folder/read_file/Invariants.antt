use Rattle.std.proofs.Common.{◌≤◌, length}
use Rattle.lisp_store.proofs.system_folder.read_file.Given as goal

abbrev pub invariant-loop : goal.invariant-loop
invariant-loop g l = l.count ≤ length l.buffer
