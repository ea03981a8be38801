use Rattle.std.proofs.Common.{Global}
use Rattle.lisp_memory.specs.Refusal.{MachineMayRefuse}
use Rattle.lisp_player.specs.Playing.{Wrote}
use Rattle.lisp_script.specs.Command.{command_value}
use Rattle.lisp_udp.proofs.Taken.{taken_more}
use Rattle.lisp_udp.proofs.network.RunningNetwork.run.Goals as goal

pub loop-at-preserved : goal.loop-at-preserved
loop-at-preserved g c =
    let same = c.loop-at.invariant.0 in (
      rw same at c.take.ensures.config,
      taken_more command_value (λ old new orders. Wrote Global MachineMayRefuse g.S.NonceStore.may_refuse old new c.args.self.now.config.now orders)
          c.args.self.now.world c.args.self.now.sockets.sockets.items (g.W.Write.contents c.args.writer.now) c.args.commands.now
          c.loop-at.self.world c.take.new.self.world _ _ _ _ c.loop-at.at c.loop-at.invariant.1 c.loop-at-test.true (rw same at c.in_ok-take.ensures.takes),
    )
