use Rattle.std.proofs.Common.{Global, sym, ◌∙◌}
use Rattle.lisp_database_store.specs.Keeper.{shared_store}
use Rattle.lisp_udp.proofs.LivesInOrder.{starts_lives, lives_on, lives_fewer, ends_cut, ends_all}
use Rattle.lisp_udp.proofs.lives.live.Goals as goal

pub loop-life-init : goal.loop-life-init
loop-life-init g c = starts_lives Global c.args.config.now c.args.number shared_store c.args.places c.args.answering c.args.turns (λ n. n) g.O.Outside.seen _ c.in_ok-life.life c.args.outside (c.in_ok-sites.ensures.equal ∙ c.sites.ensures) (rw c.store-store.ensures at c.in_ok-life.ensures.turns)

pub loop-life-preserved : goal.loop-life-preserved
loop-life-preserved g c =
    lives_on Global c.args.config.now c.args.number shared_store c.args.places c.args.answering c.args.turns (λ n. n) g.O.Outside.seen _ _ _ c.in_ok-life-2.life c.args.outside c.loop-life.invariant c.in-Err.is c.rest.ensures (sym c.if-is_cut.ensures) c.stop-sites.ensures (rw (c.in-Err.is, c.store-store-in-Err.ensures) at c.in_ok-life-2.ensures.turns)

pub loop-life-smaller : goal.loop-life-smaller
loop-life-smaller g c =
    lives_fewer Global c.args.config.now _ c.args.number shared_store c.args.places c.args.answering (λ n. n) g.O.Outside.seen _ c.in_ok-life-2.life c.in-Err.is (rw (c.in-Err.is, c.store-store-in-Err.ensures) at c.in_ok-life-2.ensures.turns)

pub returns-then-is_cut : goal.returns-then-is_cut
returns-then-is_cut g c =
    ends_cut Global c.args.config.now c.args.number shared_store c.args.places c.args.answering c.args.turns (λ n. n) g.O.Outside.seen c.loop-life.life.node c.args.outside c.loop-life.invariant c.in-Err.is c.rest.ensures (sym c.if-is_cut.ensures)

pub returns : goal.returns
returns g c = ends_all Global c.args.config.now c.args.number shared_store c.args.places c.args.answering c.args.turns (λ n. n) g.O.Outside.seen c.loop-life.life.node c.loop-life.life.outside c.args.outside c.loop-life.invariant c.in_default.is
