use Rattle.std.proofs.Common.{◌≡◌, ◌++◌, take}
use Rattle.std.specs.Prelude.{string_bytes}
use Rattle.std.specs.List.{flat_map}
use Rattle.lisp_lines.specs.Nodes.{server_words}
use Rattle.lisp_lines.proofs.nodes.put_servers.Given as goal

-- those so far
abbrev pub invariant-loop-server : goal.invariant-loop-server
invariant-loop-server g l = string_bytes l.text ≡ string_bytes l.fn.text ++ flat_map server_words (take l.server-index l.servers)
