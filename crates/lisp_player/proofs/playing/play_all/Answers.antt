use Rattle.std.proofs.Common.{List, map, subst, arith}
use Rattle.std.proofs.lemmas.List.{length-map, take_all}
use Rattle.std.proofs.lemmas.Result.{err_from_is_err_and}
use Rattle.lisp_script.specs.Command.{CommandValue, command_value}
use Rattle.lisp_player.specs.Playing.{Wrote}
use Rattle.lisp_player.proofs.Leading.{no_fault, wrote_none, wrote_next, stops_next, breaks_next}
use Rattle.lisp_player.proofs.playing.play_all.Goals as goal

pub loop-place-init : goal.loop-place-init
loop-place-init g c = wrote_none _ _ _ _ _ _

pub returns-in_err-play_one-clause-stops : goal.returns-in_err-play_one-clause-stops
returns-in_err-play_one-clause-stops g c =
    let p = err_from_is_err_and c.from_residual.result c.from_residual.ensures.1 in
    rw (p.1, p.2) (λ is. stops_next _ _ _ _ _ _ _ c.args.commands.now c.loop-place.place c.index-commands-place.result _ _ _ c.loop-place-test.true c.index-commands-place.is c.loop-place.invariant (c.in_err-play_one.ensures.keeps is) (c.in_err-play_one.ensures.lost is))

pub returns-in_err-play_one-clause-breaks : goal.returns-in_err-play_one-clause-breaks
returns-in_err-play_one-clause-breaks g c =
    let p = err_from_is_err_and c.from_residual.result c.from_residual.ensures.1 in
    rw (p.1, p.2) (λ is.
    breaks_next _ _ _ _ _ _ _ c.args.commands.now c.loop-place.place c.index-commands-place.result _ _ _ c.loop-place-test.true c.index-commands-place.is c.loop-place.invariant (c.in_err-play_one.ensures.breaks is))

pub loop-place-preserved : goal.loop-place-preserved
loop-place-preserved g c =
    wrote_next _ _ _ _ _ _ _ c.args.commands.now c.loop-place.place c.index-commands-place.result _ _ _ c.loop-place-test.true c.index-commands-place.is c.loop-place.invariant c.in_ok-play_one.ensures.plays

pub returns-clause-plays : goal.returns-clause-plays
returns-clause-plays g c =
    let long = length-map c.args.commands.now command_value in
    subst (λ (orders : List CommandValue). Wrote g.row.A.Denot g.A.Memory.may_refuse g.S.NonceStore.may_refuse c.args.world.now c.loop-place.world c.args.config.now orders (g.W.Write.contents c.args.writer.now) (g.W.Write.contents c.loop-place.writer))
    (take_all c.loop-place.place (map command_value c.args.commands.now) (omega (arith, c.loop-place-test.false, long))) c.loop-place.invariant

pub returns-clause-stops : goal.returns-clause-stops
returns-clause-stops g c = no_fault _ _

pub returns-clause-breaks : goal.returns-clause-breaks
returns-clause-breaks g c = no_fault _ _

pub returns-clause-memory : goal.returns-clause-memory
returns-clause-memory g c = no_fault _ _
