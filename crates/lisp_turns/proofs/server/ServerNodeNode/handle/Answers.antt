use Rattle.std.proofs.Common.{Some, sym, ap, ◌∙◌}
use Rattle.std.specs.Option.{option_map}
use Rattle.lisp_policy.specs.Configuration.{ServerEntryValue}
use Rattle.lisp_records.specs.Address.{family}
use Rattle.lisp_sites.specs.Numbers.{node_value}
use Rattle.lisp_turns.proofs.Answering.{server_makes}
use Rattle.lisp_turns.proofs.server.ServerNodeNode.handle.Goals as goal

pub returns-clause-makes : goal.returns-clause-makes
returns-clause-makes g c =
    server_makes c.args.place.now.config.now c.args.place.now.number c.in-Some-Server.entry.now c.args.self.now c.args.quiet c.args.now _ c.server_handles.result c.core.result.now c.deref.result.now c.family.result c.is_starting-starting.result
    (sym c.node.ensures ∙ ap (option_map node_value) c.in-Some-Server.is ∙ ap (λ n. Some (node_value n)) c.in-Some-Server.field-0-is) c.core.ensures (c.deref.ensures.value ∙ ap (λ (e : ServerEntryValue). e.resolve) c.entry.view_is)
    (c.family.ensures ∙ ap (λ (e : ServerEntryValue). family e.address) c.entry.view_is) (rw c.started.ensures at c.is_starting-starting.ensures) c.server_handles.ensures.handles
