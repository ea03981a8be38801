use Rattle.std.proofs.lemmas.Str.{is_utf8-from_IsUtf8}
use Rattle.std.proofs.Common.{Err, refl, sym, ap, subst, ◌∙◌}
use Rattle.lisp_registration.specs.Starting.{Comes, configured}
use Rattle.lisp_registration.specs.Starting.Asked.{it_may}
use Rattle.lisp_registration.specs.declared.fault.NodeFault.TheVariants.{Configuration}
use Rattle.lisp_registration.proofs.Configured.{fails_so, is_read, not_text}
use Rattle.lisp_registration.proofs.starting.read.Goals as goal

pub returns-in_default-clause-config : goal.returns-in_default-clause-config
returns-in_default-clause-config c = rw (not_text c.args.configuration.now c.in_default.ensures.cases.0) refl

pub returns-in-Ok-from_toml-clause-config : goal.returns-in-Ok-from_toml-clause-config
returns-in-Ok-from_toml-clause-config c = sym (is_read c.args.configuration.now c.in-Ok.text.now c.in-Ok.ensures.cases.0 c.in-Ok.ensures.cases.1) ∙ ap configured c.in-Ok-from_toml.ensures

pub returns-in-Err-clause-config : goal.returns-in-Err-clause-config
returns-in-Err-clause-config c = subst (Comes (λ x. x) (Err (Configuration c.in-Err.fault))) (is_read c.args.configuration.now c.in-Ok.text.now c.in-Ok.ensures.cases.0 c.in-Ok.ensures.cases.1) (fails_so (λ x. x) c.in-Err.fault _ c.in-Err.ensures)

pub returns-in-Err-clause-reading : goal.returns-in-Err-clause-reading
returns-in-Err-clause-reading c = λ _. it_may c.args.configuration.now (is_utf8-from_IsUtf8 c.args.configuration.now c.in-Ok.ensures.cases.1)
