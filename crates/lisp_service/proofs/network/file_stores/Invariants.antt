use Rattle.std.proofs.Common.{◌≡◌, length}
use Rattle.lisp_service.proofs.network.file_stores.Given as goal

-- a store for each folder so far
abbrev pub invariant-loop-folder : goal.invariant-loop-folder
invariant-loop-folder l = length l.stores.items ≡ l.folder-index
