use Rattle.std.proofs.Common.{[], ◌∷◌, None}
use Rattle.lisp_look.specs.Asking.{Asks}
use Rattle.lisp_look.specs.Outside.{Reads, logged}
use Rattle.lisp_look.proofs.asking.ask.Given as goal

-- one Map-Request for each try so far, and nothing answered
abbrev pub invariant-loop : goal.invariant-loop
invariant-loop g l = Asks l.look l.server l.started l.counter (logged (Reads l.started ∷ []) (g.O.Outside.seen l.fn.outside)) (g.O.Outside.seen l.outside) None
