use Rattle.std.proofs.Common.{◌≡◌, ◌+◌, drop}
use Rattle.toml.specs.View.{items_view}
use Rattle.lisp_sites.specs.Table.{each}
use Rattle.lisp_sites.proofs.entries.read_each.Given as goal

-- what is still read after the entries so far
abbrev pub invariant-loop-index : goal.invariant-loop-index
invariant-loop-index g l = each l.array (g.L.Entries.read l.given) (g.L.Entries.entries l.list) (l.index + 1) (items_view (drop l.index l.values)) ≡ each l.array (g.L.Entries.read l.given) (g.L.Entries.entries l.fn.list) 1 (items_view l.values)
