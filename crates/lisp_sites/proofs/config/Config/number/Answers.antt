use Rattle.std.proofs.Common.{sym, ◌∙◌}
use Rattle.lisp_sites.proofs.NumberLaws.{number_of_server, number_of_router, is_named}
use Rattle.lisp_sites.proofs.config.Config.number.Goals as goal

pub returns-in-Some-clause-number : goal.returns-in-Some-clause-number
returns-in-Some-clause-number g c = number_of_server c.args.self.now c.args.name.now c.in-Some.number (sym c.server_number.ensures ∙ c.in-Some.is)

pub returns-in-Some-clause-named : goal.returns-in-Some-clause-named
returns-in-Some-clause-named g c = is_named c.args.self.now c.args.name.now _ (returns-in-Some-clause-number g c)

pub returns-in-None-clause-number : goal.returns-in-None-clause-number
returns-in-None-clause-number g c = c.router_number.ensures ∙ number_of_router c.args.self.now c.args.name.now (sym c.server_number.ensures ∙ c.in-None.is)

pub returns-in-None-clause-named : goal.returns-in-None-clause-named
returns-in-None-clause-named g c = is_named c.args.self.now c.args.name.now _ (returns-in-None-clause-number g c)
