use Rattle.lisp_look.proofs.Fits.{fits}
use Rattle.lisp_look.proofs.look.datagram_of.Goals as goal

pub write_encapsulated-requires : goal.write_encapsulated-requires
write_encapsulated-requires g c =
    (c.inner_source.ensures.family, fits c.args.look.now _ c.in_ok-message.message.items c.deref.result.now c.in_ok-request.ensures.request c.in_ok-message.ensures.written c.deref.ensures.value c.in_ok-message.ensures.known)
