use Rattle.std.proofs.Common.{◌≡◌, [], Some, inl, inr, refl, sym, ap, ◌∙◌, slice_get}
use Rattle.std.proofs.lemmas.Option.{slice_get-get_or}
use Rattle.lisp_udp.specs.Sockets.{IsPlaceOf}
use Rattle.lisp_udp.proofs.Places.{sending_told, sending_cut}
use Rattle.lisp_upkeep.proofs.Written.{nothing}
use Rattle.lisp_udp.proofs.datagrams.Sockets.send.Goals as goal

pub returns-in_default-clause-told : goal.returns-in_default-clause-told
returns-in_default-clause-told g c = rw (← c.datagram.view_is) ([], inl (inl (c.place_of.ensures.none c.in_default.is), refl, refl), nothing _)

pub returns-in_default-place_of-clause-told : goal.returns-in_default-place_of-clause-told
returns-in_default-place_of-clause-told g c = rw (← c.datagram.view_is) ([], inl (inr (c.place_of-2.ensures.none c.in_default-place_of.is), refl, refl), nothing _)

pub returns-clause-told : goal.returns-clause-told
returns-clause-told g c =
    let at : slice_get c.args.self.now.sockets.items c.in-Some-place_of.from ≡ Some c.index_mut.result.now = slice_get-get_or c.args.self.now.sockets.items c.in-Some-place_of.from c.index_mut.result.now c.in-Some-place_of.ensures.found.0 ∙ ap Some (sym c.index_mut.ensures.value) in
    let is : IsPlaceOf c.args.self.now.sockets.items c.args.datagram.now.from c.in-Some-place_of.from = rw (← c.datagram.view_is) c.in-Some-place_of.ensures.found in
    sending_told g.W.Write.contents _ _ _ _ _ _ c.args.datagram.now at c.send_from.result is c.send_from.ensures.told

pub returns-clause-cut : goal.returns-clause-cut
returns-clause-cut g c =
    let at : slice_get c.args.self.now.sockets.items c.in-Some-place_of.from ≡ Some c.index_mut.result.now = slice_get-get_or c.args.self.now.sockets.items c.in-Some-place_of.from c.index_mut.result.now c.in-Some-place_of.ensures.found.0 ∙ ap Some (sym c.index_mut.ensures.value) in
    let is : IsPlaceOf c.args.self.now.sockets.items c.args.datagram.now.from c.in-Some-place_of.from = rw (← c.datagram.view_is) c.in-Some-place_of.ensures.found in
    sending_cut g.W.Write.contents _ _ _ _ _ _ c.args.datagram.now at c.send_from.result is c.send_from.ensures.cut
