use Rattle.std.proofs.Common.{◌≡◌, ◌++◌, map, take, drop}
use Rattle.lisp_log.specs.Silences.{heard}
use Rattle.lisp_log.proofs.silences.hear_each.Given as goal

-- those so far have it, and the others are to have it
abbrev pub invariant-loop-silence : goal.invariant-loop-silence
invariant-loop-silence l = take l.silence-index l.servers ++ map (heard l.server l.now) (drop l.silence-index l.servers) ≡ map (heard l.server l.now) l.fn.servers
