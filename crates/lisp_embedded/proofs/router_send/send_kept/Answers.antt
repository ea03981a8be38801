use Rattle.std.proofs.Common.{◌≡◌, ◌+◌, ◌<◌, ◌≤◌, List, [], get_or, length, Some, sym, ap, subst, ◌∙◌}
use Rattle.std.specs.Prelude.{slice_get}
use Rattle.std.proofs.lemmas.Option.{slice_get-get_or}
use Rattle.lisp_records.specs.declared.address.Addr.{Addr}
use Rattle.lisp_records.specs.declared.address.Addr.TheVariants.{V4}
use Rattle.lisp_etr.specs.Config.{EtrConfigValue}
use Rattle.lisp_etr.specs.Sending.{safe_after}
use Rattle.lisp_embedded.proofs.Routers.{has_server, was_safe, is_saved}
use Rattle.lisp_embedded.proofs.router_send.send_kept.Goals as goal
use Rattle.lisp_embedded.proofs.router_send.send_kept.Goals.{then-safe-before, else-safe-before}

pub returns-clause-sends : goal.returns-clause-sends
returns-clause-sends g c =
    let is : c.safe-safe.result ≡ safe_after c.args.router.now.safe (c.args.router.now.last + 1) c.args.router.now.config.nonce_block = c.safe-safe.ensures ∙ c.in-Ok.ensures.sends.safe in
    let above : c.args.router.now.last + 1 ≤ c.safe-safe.result = rw c.safe-safe.ensures c.in-Ok.ensures.store.safe in
    let servers : c.as_slice.result.now ≡ c.args.router.now.config.servers = c.as_slice.ensures ∙ ap (λ (s : EtrConfigValue). s.servers) (c.behind-router.view_is ∙ c.config.ensures ∙ c.in-Ok.ensures.sends.config) in
    let there : c.args.server < length c.as_slice.result.now = rw servers (has_server c.args.router.now c.args.server c.in-Ok.bytes c.in-Ok.ensures.no_server) in
    record {
      sends = c.in-Ok.ensures.sends;
      datagram = c.in-Ok.ensures.datagram;
      fits = c.in-Ok.ensures.known;
      address = subst (λ (l : List Addr). slice_get l c.args.server ≡ Some (get_or c.as_slice.result.now c.args.server (V4 []))) servers (slice_get-get_or c.as_slice.result.now c.args.server (V4 []) there);
      saves = elim c.if-safe-before.branch [
        | then-safe-before w ↦ w.save-is ∙ was_safe c.args.router.now c.safe-safe.result is above (w.if-safe-before.true ∙ c.safe-before.ensures)
        | else-safe-before w ↦ w.save-is ∙ is_saved c.args.router.now c.safe-safe.result is above (λ same. w.if-safe-before.false (same ∙ sym c.safe-before.ensures))
      ];
    }
