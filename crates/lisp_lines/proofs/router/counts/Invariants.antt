use Rattle.std.proofs.Common.{◌≡◌, ℕ, List, Option, take}
use Rattle.std.specs.List.{flat_map}
use Rattle.std.specs.String.{string_bytes}
use Rattle.lisp_lines.specs.Query.{ack_text}
use Rattle.lisp_lines.specs.Router.{CountedFrom}
use Rattle.lisp_lines.proofs.router.counts.Given as goal

-- the lines of the Map-Servers so far
abbrev pub invariant-loop-place : goal.invariant-loop-place
invariant-loop-place g l = (counted : ℕ → List (Option (ℕ × ℕ))) → CountedFrom l.core l.servers counted → string_bytes l.text ≡ flat_map (λ server. ack_text l.config l.number server (counted server)) (take l.place l.servers)
