use Rattle.lisp_replies.proofs.FitLaws.{hole_there}
use Rattle.lisp_replies.proofs.server.negative.Goals as goal

pub unwrap-requires : goal.unwrap-requires
unwrap-requires g c = hole_there c.args.table.now.rows c.args.sites.now c.args.addr.now c.args.now c.hole.result c.requires.blocks c.requires.whole c.requires.none c.hole.ensures.hole
