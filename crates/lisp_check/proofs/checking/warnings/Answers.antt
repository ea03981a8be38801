use Rattle.std.proofs.Common.{◌++◌, ◌∙◌, [], append-nil}
use Rattle.lisp_check.specs.declared.warning.Warning.TheVariants.{NoNodes}
use Rattle.lisp_check.specs.Warning.{given_if}
use Rattle.lisp_check.proofs.Each.{all_added}
use Rattle.lisp_check.proofs.checking.warnings.Goals as goal

pub returns-clause-order : goal.returns-clause-order
returns-clause-order g c =
    all_added c.args.config.now c.as_slice-addresses.result.now c.as_slice-sites.result.now c.routers-routers.result.now
    (c.as_slice-addresses.ensures.value ∙ c.in_ok-addresses.ensures.addresses) (c.as_slice-sites.ensures ∙ c.sites.ensures) c.routers-routers.ensures.routers _ _ _ _
    (c.in_ok-warn_of.ensures.added ∙ (λ i. c.new-warnings.ensures.items i ++ (given_if (c.is_empty.ensures i) NoNodes ++ [])) ∙ append-nil _)
    c.in_ok-warn_of_sites.ensures.added c.in_ok-warn_of_nodes.ensures.added c.in_ok-warn_of_routers.ensures.added
