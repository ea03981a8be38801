use Rattle.std.proofs.Common.{◌≡◌, [], Some, inl, refl, sym, ap, ◌∙◌, slice_get}
use Rattle.std.proofs.lemmas.Option.{slice_get-get_or}
use Rattle.lisp_udp.specs.Sockets.{IsPlaceOf}
use Rattle.lisp_udp.proofs.Places.{arrival_told, arrival_cut}
use Rattle.lisp_upkeep.proofs.Written.{nothing}
use Rattle.lisp_udp.proofs.datagrams.Sockets.arrives.Goals as goal

pub returns-in_default-clause-told : goal.returns-in_default-clause-told
returns-in_default-clause-told g c = rw (← c.datagram.view_is) ([], inl (c.place_of.ensures.none c.in_default.is, refl, refl, refl), nothing _)

pub returns-clause-told : goal.returns-clause-told
returns-clause-told g c =
    let at : slice_get c.args.self.now.sockets.items c.in-Some.at ≡ Some c.index_mut.result.now = slice_get-get_or c.args.self.now.sockets.items c.in-Some.at c.index_mut.result.now c.in-Some.ensures.found.0 ∙ ap Some (sym c.index_mut.ensures.value) in
    let is : IsPlaceOf c.args.self.now.sockets.items c.args.datagram.now.to c.in-Some.at = rw (← c.datagram.view_is) c.in-Some.ensures.found in
    arrival_told g.W.Write.contents _ _ _ _ _ _ c.args.datagram.now at c.arrives_at.result _ is c.arrives_at.ensures.told

pub returns-clause-cut : goal.returns-clause-cut
returns-clause-cut g c =
    let at : slice_get c.args.self.now.sockets.items c.in-Some.at ≡ Some c.index_mut.result.now = slice_get-get_or c.args.self.now.sockets.items c.in-Some.at c.index_mut.result.now c.in-Some.ensures.found.0 ∙ ap Some (sym c.index_mut.ensures.value) in
    let is : IsPlaceOf c.args.self.now.sockets.items c.args.datagram.now.to c.in-Some.at = rw (← c.datagram.view_is) c.in-Some.ensures.found in
    arrival_cut g.W.Write.contents _ _ _ _ _ _ c.args.datagram.now at c.arrives_at.result _ is c.arrives_at.ensures.cut
