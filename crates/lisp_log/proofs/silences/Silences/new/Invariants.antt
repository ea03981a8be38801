-- Those so far.
use Rattle.std.proofs.Common.{◌≡◌, take}
use Rattle.lisp_log.specs.Silences.{never_heard}
use Rattle.lisp_log.proofs.silences.Silences.new.Given as goal

abbrev pub invariant-loop-server : goal.invariant-loop-server
invariant-loop-server g l = l.silences.items ≡ never_heard l.now (take l.server-index l.servers)
