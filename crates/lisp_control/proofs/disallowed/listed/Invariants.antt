use Rattle.std.proofs.Common.{◌≡◌, ◌++◌, take, length}
use Rattle.std.specs.Prelude.{string_bytes}
use Rattle.std.specs.List.{flat_map}
use Rattle.lisp_control.specs.Disallowed.{disallowed_head, eid_line}
use Rattle.lisp_control.proofs.disallowed.listed.Given as goal

-- the line of their number, and the EID-Prefixes so far
abbrev pub invariant-loop-eid : goal.invariant-loop-eid
invariant-loop-eid l = string_bytes l.text ≡ disallowed_head l.router (length l.eids) ++ flat_map eid_line (take l.eid-index l.eids)
