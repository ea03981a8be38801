use Rattle.std.proofs.Common.{◌≡◌, ◌++◌, take}
use Rattle.std.specs.Prelude.{string_bytes}
use Rattle.std.specs.List.{flat_map}
use Rattle.lisp_lines.specs.Nodes.{resolve_words}
use Rattle.lisp_lines.proofs.nodes.put_resolve.Given as goal

-- those so far
abbrev pub invariant-loop-prefix : goal.invariant-loop-prefix
invariant-loop-prefix g l = string_bytes l.text ≡ string_bytes l.fn.text ++ flat_map resolve_words (take l.prefix-index l.resolve)
