use Rattle.lisp_queue.specs.Queue.{may_take}
use Rattle.lisp_queue.proofs.Fair.{none_passes}
use Rattle.lisp_queue.proofs.laws.shares_are_fair.Goals as goal

pub returns : goal.returns
returns c old new taken other takes fails there = none_passes (λ w. may_take old w.from) old.waiting taken other takes.0 fails there
