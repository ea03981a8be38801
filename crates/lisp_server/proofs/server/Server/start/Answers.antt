use Rattle.lisp_server.proofs.KnownLaws.{none_known}
use Rattle.lisp_server.proofs.server.Server.start.Goals as goal

pub invariant_of-result : goal.invariant_of-result
invariant_of-result g c = none_known c.args.sites _ _ c.new.ensures.none
