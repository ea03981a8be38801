use Rattle.std.proofs.Common.{◌≡◌, ◌++◌, take}
use Rattle.std.specs.List.{flat_map}
use Rattle.std.specs.Map.{keys_of}
use Rattle.std.specs.String.{string_bytes}
use Rattle.lisp_statistics.specs.Never.{never_words}
use Rattle.lisp_statistics.proofs.never.put_each_never.Given as goal

-- the routers so far
abbrev pub invariant-loop-router : goal.invariant-loop-router
invariant-loop-router g l = string_bytes l.text ≡ string_bytes l.fn.text ++ flat_map (never_words l.number (keys_of l.heard.entries)) (take l.router-index l.routers)
