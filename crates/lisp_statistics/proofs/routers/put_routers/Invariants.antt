use Rattle.std.proofs.Common.{◌≡◌, ◌++◌}
use Rattle.std.specs.List.{flat_map}
use Rattle.std.specs.String.{string_bytes}
use Rattle.lisp_statistics.specs.Routers.{counted_text}
use Rattle.lisp_statistics.proofs.routers.put_routers.Given as goal

-- what is appended so far, and what is left to append
abbrev pub invariant-loop-router : goal.invariant-loop-router
invariant-loop-router g l = string_bytes l.text ++ flat_map (counted_text l.config l.now l.counts) l.router-iterator ≡ string_bytes l.fn.text ++ flat_map (counted_text l.config l.now l.counts) l.heard.entries
