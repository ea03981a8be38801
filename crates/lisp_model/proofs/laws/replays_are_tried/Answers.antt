use Rattle.lisp_model.proofs.laws.replays_are_tried.Goals as goal
use Rattle.lisp_model.proofs.RisingLaws.{replays_tried}

pub returns : goal.returns
returns c = replays_tried
