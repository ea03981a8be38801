use Rattle.lisp_world.proofs.world.World.take.Goals as goal

pub returns-in-Change : goal.returns-in-Change
returns-in-Change g c = rw c.in-Change.is c.change.ensures

pub returns-in-Send : goal.returns-in-Send
returns-in-Send g c = rw c.in-Send.is c.send.ensures

pub returns-in-Deliver : goal.returns-in-Deliver
returns-in-Deliver g c = rw c.in-Deliver.is c.deliver.ensures

pub returns-in-Junk : goal.returns-in-Junk
returns-in-Junk g c = rw (c.in-Junk.is, ← c.as_slice.ensures) c.junk.ensures

pub returns-in-Restart : goal.returns-in-Restart
returns-in-Restart g c = rw c.in-Restart.is c.restart.ensures

pub returns-in-Rotate : goal.returns-in-Rotate
returns-in-Rotate g c = rw c.in-Rotate.is c.rotate.ensures

pub returns-in-Lose : goal.returns-in-Lose
returns-in-Lose g c = rw c.in-Lose.is c.lose.ensures

pub returns-in-Notice : goal.returns-in-Notice
returns-in-Notice g c = rw c.in-Notice.is c.notice.ensures

pub returns-in-Resend : goal.returns-in-Resend
returns-in-Resend g c = rw c.in-Resend.is c.resend.ensures

pub returns-in-Reload : goal.returns-in-Reload
returns-in-Reload g c = rw c.in-Reload.is c.reload.ensures
