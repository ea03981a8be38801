-- What the calls of a Map-Server come to, as the turns of a notice, a resend and a restart want it.
use Rattle.std.proofs.Common.{◌≡◌, ℕ, ◌<◌, List, ◌++◌, get_or, refl, sym, ap, subst, ◌∙◌}
use Rattle.std.proofs.lemmas.Option.{slice_get_read}
use Rattle.std.specs.Prelude.{Option, IsSome, length, slice_set}
use Rattle.lisp_records.specs.declared.{address.Addr.Addr, router.RouterId.RouterId}
use Rattle.lisp_messages.specs.{declared.head.Head.Head, Head.head_at, Message.Notifies}
use Rattle.lisp_nonces.specs.Store.{StoreState}
use Rattle.lisp_admission.specs.Nonces.{nonce_after}
use Rattle.lisp_server.specs.SendNotice.{Announces, notice_of}
use Rattle.lisp_server.specs.Server.{ServerState}
use Rattle.lisp_refinement.specs.World.{DatagramValue, ServerNodeState, WorldState}
use Rattle.lisp_refinement.specs.Events.{ServerActs}
use Rattle.lisp_refinement.proofs.Heads.{head_written}

-- the Map-Server with a number changed, and these datagrams went to the end of the bag
abbrev pub server_acted : (old : WorldState) (node : ℕ) (before after : ServerNodeState) (bag more : List DatagramValue)
    → node < length old.servers → before ≡ get_or old.servers node before → bag ≡ old.bag ++ more
    → ServerActs old (record old { bag = bag; servers = slice_set old.servers node after }) node more
server_acted old node before after bag more within at posts = record {
  before = before;
  after = after;
  was = slice_get_read old.servers _ node before refl within at;
  left = ap (λ (bag : List DatagramValue). record old { bag = bag; servers = slice_set old.servers node after }) posts;
}

-- a notice's bytes have a Key ID and a nonce
pub notice_head : (old new : ServerState) (armed called : StoreState) (router : RouterId) (now : ℕ) (to : Addr) (bytes : List ℕ)
    → Announces old new armed called router now to bytes → IsSome (head_at bytes)
notice_head old new armed called router now to bytes announced =
    let heard = announced.registered.heard in
    let notice = notice_of heard.contact.key (nonce_after announced.last) announced.records in
    let read = ap head_at announced.datagram ∙ head_written heard.secret (Notifies notice) announced.fits in
    subst (λ (head : Option Head). IsSome head) (sym read) refl
