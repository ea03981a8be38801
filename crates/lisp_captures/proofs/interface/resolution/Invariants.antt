use Rattle.std.proofs.Common.{◌≡◌, ◌-◌, length}
use Rattle.lisp_captures.specs.Interface.{resolution_in, resolution_of}
use Rattle.lisp_captures.proofs.interface.resolution.Given as goal

-- what the options still to pass say is what was to be read
abbrev pub invariant-loop : goal.invariant-loop
invariant-loop l = resolution_in (length l.options - l.counter) l.order l.rest ≡ resolution_of l.order l.options
