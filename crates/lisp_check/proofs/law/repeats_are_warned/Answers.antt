use Rattle.lisp_check.proofs.Repeats.{addresses_are_warned, identities_are_warned}
use Rattle.lisp_check.proofs.law.repeats_are_warned.Goals as goal

pub returns-clause-addresses : goal.returns-clause-addresses
returns-clause-addresses c = addresses_are_warned

pub returns-clause-identities : goal.returns-clause-identities
returns-clause-identities c = identities_are_warned
