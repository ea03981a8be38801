use Rattle.std.proofs.Common.{◌≡◌, ◌++◌, take}
use Rattle.std.specs.Prelude.{string_bytes}
use Rattle.std.specs.List.{flat_map}
use Rattle.lisp_lines.specs.Nodes.{router_words}
use Rattle.lisp_lines.proofs.nodes.put_routers.Given as goal

-- those so far
abbrev pub invariant-loop-router : goal.invariant-loop-router
invariant-loop-router g l = string_bytes l.text ≡ string_bytes l.fn.text ++ flat_map router_words (take l.router-index l.routers)
