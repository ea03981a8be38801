use Rattle.std.proofs.Common.{rules, ◌≡◌, ◌≢◌, ◌<◌, length, Some, sym, ap, ◌∙◌, arith, slice_get}
use Rattle.std.proofs.lemmas.Option.{slice_get-get_or}
use Rattle.lisp_udp.proofs.Places.{found_here, one_more, none_at_all}
use Rattle.lisp_udp.proofs.datagrams.Sockets.place_of.Goals as goal

pub loop-at-init : goal.loop-at-init
loop-at-init g c = λ k s small there same. absurd (omega (arith, small))

pub returns-then-is_at-clause-found : goal.returns-then-is_at-clause-found
returns-then-is_at-clause-found g c =
    let bound : c.loop-at.at < length c.args.self.now.sockets.items = search rules in
    let at : slice_get c.args.self.now.sockets.items c.loop-at.at ≡ Some c.index.result.now = slice_get-get_or c.args.self.now.sockets.items c.loop-at.at c.index.result.now bound ∙ ap Some (sym c.index.ensures) in
    found_here _ _ _ _ at (search rules)

pub loop-at-preserved : goal.loop-at-preserved
loop-at-preserved g c =
    let bound : c.loop-at.at < length c.args.self.now.sockets.items = search rules in
    let at : slice_get c.args.self.now.sockets.items c.loop-at.at ≡ Some c.index.result.now = slice_get-get_or c.args.self.now.sockets.items c.loop-at.at c.index.result.now bound ∙ ap Some (sym c.index.ensures) in
    let isnt : c.index.result.now.address ≢ c.args.address.now = search rules in
    one_more _ _ _ _ c.loop-at.invariant at isnt

pub returns-clause-none : goal.returns-clause-none
returns-clause-none g c = λ _. none_at_all _ _ _ c.loop-at.invariant (search rules)
