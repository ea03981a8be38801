use Rattle.std.proofs.Common.{Option, List, inl, inr, sym, subst, ◌∙◌}
use Rattle.lisp_records.specs.Record.{MapRecordValue}
use Rattle.lisp_model.specs.{Restarting.Fits, Memory.MayTell}
use Rattle.lisp_refinement.specs.Events.{NetworkRestartsRouter}
use Rattle.lisp_world.proofs.Taking.{event_taken}
use Rattle.lisp_world.proofs.world.World.restart.Goals as goal

pub returns-then-is_server : goal.returns-then-is_server
returns-then-is_server g c =
    let none = c.in_ok-check_restart.ensures.none (sym c.is_server.ensures ∙ c.if-is_server.true) in
    event_taken _ _ (Unit {0}) _ _ _ _ (sym c.in_ok-check_restart.ensures.fault)
    (subst Fits (sym none) tt, inl (none, c.restart_server.ensures)) (subst (MayTell _ _) (sym c.restart_server.ensures.said) tt)

pub returns : goal.returns
returns g c =
    event_taken _ _ (Unit {0}) _ _ _ _ (sym c.in_ok-check_restart.ensures.fault)
    (c.in_ok-db.ensures.fits, inr (subst (λ (given : Option (List MapRecordValue)). NetworkRestartsRouter c.args.self.now c.restart_router.new.self c.args.node c.args.pick given c.restart_router.result) c.in_ok-db.ensures.equal c.restart_router.ensures.restarts))
    c.restart_router.ensures.tells
