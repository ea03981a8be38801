use Rattle.std.proofs.Common.{◌≡◌, ◌++◌, take}
use Rattle.std.specs.String.{string_bytes}
use Rattle.lisp_lines.specs.Query.{acks_from}
use Rattle.lisp_lines.proofs.query.put_acks.Given as goal

-- the lines of the parts so far
abbrev pub invariant-loop-part : goal.invariant-loop-part
invariant-loop-part g l = string_bytes l.text ≡ string_bytes l.fn.text ++ acks_from l.config l.router l.server 0 (take l.part l.counted)
