use Rattle.std.proofs.Common.{◌≡◌, Global}
use Rattle.lisp_memory.specs.Refusal.{MachineMayRefuse}
use Rattle.lisp_player.specs.Playing.{Wrote}
use Rattle.lisp_script.specs.Command.{command_value}
use Rattle.lisp_udp.proofs.Taken.{TakenSoFar}
use Rattle.lisp_udp.proofs.network.RunningNetwork.run.Given as goal

-- those before it were taken
abbrev pub invariant-loop-at : goal.invariant-loop-at
invariant-loop-at g l = (l.self.config ≡ l.fn.self.config)
    × TakenSoFar command_value (λ old new orders. Wrote Global MachineMayRefuse g.S.NonceStore.may_refuse old new l.fn.self.config.now orders)
    l.fn.self.world l.fn.self.sockets.sockets.items (g.W.Write.contents l.fn.writer) l.commands l.self.world l.self.sockets.sockets.items (g.W.Write.contents l.writer) l.at
