use Rattle.std.proofs.Common.{◌≡◌, ◌++◌, drop}
use Rattle.lisp_check.specs.Warning.{each, each_from, of_node}
use Rattle.lisp_check.proofs.nodes.warn_of_nodes.Given as goal

-- those that were added, and those that are left
abbrev pub invariant-loop-node : goal.invariant-loop-node
invariant-loop-node g l = l.warnings.items ++ each_from (of_node l.config l.addresses) l.node (drop l.node l.addresses) ≡ l.fn.warnings.items ++ each (of_node l.config l.addresses) l.addresses
