use Rattle.std.proofs.Common.{take}
use Rattle.lisp_log.specs.Log.{PutsAll, sums}
use Rattle.lisp_log.proofs.log.put_sums.Given as goal

-- those so far wait
abbrev pub invariant-loop-repeat : goal.invariant-loop-repeat
invariant-loop-repeat g l = PutsAll g.A.Memory.may_refuse l.fn.waiting l.waiting (sums l.name (take l.repeat-index l.entries))
