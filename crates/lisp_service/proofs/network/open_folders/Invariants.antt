use Rattle.std.proofs.Common.{◌≡◌, length}
use Rattle.lisp_service.proofs.network.open_folders.Given as goal

-- a folder for each node so far
abbrev pub invariant-loop-number : goal.invariant-loop-number
invariant-loop-number g l = length l.folders.items ≡ l.number
