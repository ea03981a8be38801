use Rattle.std.proofs.Common.{refl}
use Rattle.lisp_turns.proofs.Asked.{resent_act}
use Rattle.lisp_turns.proofs.server.act_of_resend.Goals as goal

pub returns : goal.returns
returns g = resent_act g.args.server g.args.router g.args.answer g.resent-line.result _ g.resent-line.ensures refl
