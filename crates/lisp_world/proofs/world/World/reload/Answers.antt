use Rattle.std.proofs.Common.{[], ◌∙◌, List, append-nil, length, sym, ap, arith}
use Rattle.std.proofs.lemmas.List.{length-set}
use Rattle.lisp_policy.specs.{Extends.extends, Site.SiteValue}
use Rattle.lisp_refinement.specs.Events.{reload_line}
use Rattle.lisp_nodes.proofs.ServerCalls.{server_acted}
use Rattle.lisp_world.proofs.Taking.{event_taken, reloaded_tells}
use Rattle.lisp_world.proofs.world.World.reload.Goals as goal

pub returns : goal.returns
returns g c =
    let server = rw (← c.self.view_is) at c.in_ok-check_server.ensures.server in
    let possible = rw (← c.self.view_is) at c.in_ok-check_server.ensures.fault in
    let bag = c.self.inside.bag.items in
    let before = c.index_mut.result.now in
    let goes_on = c.reload-goes_on.ensures.kept ∙ ap (λ (given : List SiteValue). extends before.core.sites given) c.in_ok-copy.ensures.equal in
    let counted = ap (λ (given : List SiteValue). length given) c.as_slice-count.ensures in
    let said = c.reloaded.ensures ∙ (λ i. reload_line c.args.server (goes_on i) (counted i)) in
    rw (← c.self.view_is)
    (event_taken _ _ (Unit {0}) _ _ _ _ (sym possible) (record {
      acts = server_acted _ c.args.server before c.reload-goes_on.new.self bag [] server c.index_mut.ensures.value (sym (append-nil bag));
      reloads = rw (← c.in_ok-copy.ensures.equal) c.reload-goes_on.ensures.reloads;
      said = said;
    }) (reloaded_tells _ _ c.args.server _ _ _ said))

pub index_mut-requires : goal.index_mut-requires
index_mut-requires g c =
    omega (arith, rw (← c.self.view_is) at c.in_ok-check_server.ensures.server, c.self.inside.servers.ok.0)

-- as many Map-Servers as before
pub invariant_of-self : goal.invariant_of-self
invariant_of-self g c = (c.self.invariant.0, omega (arith, length-set c.self.inside.servers.items c.args.server c.reload-goes_on.new.self, c.self.invariant.1))
