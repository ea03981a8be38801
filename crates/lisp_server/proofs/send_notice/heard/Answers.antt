use Rattle.std.proofs.Common.{sym, refl, ◌∙◌}
use Rattle.lisp_server.proofs.send_notice.heard.Goals as goal

pub returns-clause-some : goal.returns-clause-some
returns-clause-some g c = (record { contact = c.in_ok-contact.contact; heard = sym c.get.ensures ∙ c.in_ok-contact.was; secret = c.in_ok-key.key.now; signs = sym c.in_ok-key.ensures }, refl, refl)
