use Rattle.std.proofs.Common.{◌≡◌, []}
use Rattle.lisp_mapping.specs.Sends.{gone_after, sends}
use Rattle.lisp_mapping.proofs.sending.sends.Given as goal

-- what was sent for those that were gone through, and to which routers the Map-Request has gone
abbrev pub invariant-loop-reply : goal.invariant-loop-reply
invariant-loop-reply g l = record {
  sent : l.sent.items ≡ sends l.asked l.bytes [] l.yielded;
  gone : l.gone.items ≡ gone_after [] l.yielded;
}
