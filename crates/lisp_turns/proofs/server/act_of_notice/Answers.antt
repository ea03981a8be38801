use Rattle.std.proofs.Common.{refl}
use Rattle.lisp_turns.proofs.Asked.{notice_act}
use Rattle.lisp_turns.proofs.server.act_of_notice.Goals as goal

pub returns : goal.returns
returns g = notice_act g.args.server g.args.router g.args.answer g.noticed-line.result _ g.noticed-line.ensures refl
