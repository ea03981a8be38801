use Rattle.std.proofs.Common.{sym, ◌∙◌}
use Rattle.lisp_server.proofs.KnownLaws.{known_under}
use Rattle.lisp_server.proofs.server.Server.reload.Goals as goal

pub invariant_of-self : goal.invariant_of-self
invariant_of-self g c = known_under c.self.inside.sites c.args.sites c.self.inside.tables.rows.rows c.self.inside.tables.contacts.contacts (sym c.extends.ensures ∙ c.if-extends.true) c.self.invariant
