use Rattle.std.proofs.Common.{Some, sym, ap, ◌∙◌}
use Rattle.std.specs.Option.{option_map}
use Rattle.lisp_policy.specs.Configuration.{RouterEntryValue}
use Rattle.lisp_sites.specs.Numbers.{node_value}
use Rattle.lisp_turns.proofs.Answering.{router_makes}
use Rattle.lisp_turns.proofs.router.RouterNodeNode.handle.Goals as goal

pub returns-clause-makes : goal.returns-clause-makes
returns-clause-makes g c =
    router_makes c.args.place.now.config.now c.args.place.now.number c.in-Some-Router.entry.now c.args.self.now c.in_ok-etr.etr.now c.args._quiet c.args._now _ c.router_handles.result c.deref.result.now c.entry.inside.address
    (sym c.node.ensures ∙ ap (option_map node_value) c.in-Some-Router.is ∙ ap (λ n. Some (node_value n)) c.in-Some-Router.field-0-is) (sym c.etr.ensures ∙ ap (option_map (λ e. e.now)) c.in_ok-etr.was) (c.deref.ensures.value ∙ ap (λ (e : RouterEntryValue). e.resolve) c.entry.view_is)
    (ap (λ (e : RouterEntryValue). e.address) c.entry.view_is) c.router_handles.ensures.handles
