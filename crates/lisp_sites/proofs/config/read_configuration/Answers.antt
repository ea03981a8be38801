use Rattle.toml.specs.View.{view}
use Rattle.lisp_sites.proofs.ConfigLaws.{is_configuration}
use Rattle.lisp_sites.proofs.config.read_configuration.Goals as goal

pub invariant_of-result : goal.invariant_of-result
invariant_of-result g c =
    rw (c.into_vec.ensures, c.into_vec-2.ensures) (is_configuration (view c.args.document.now) c.in_ok-sites.sites c.in_ok-servers.servers c.in_ok-routers.routers
    c.in_ok-sites.ensures.gives c.in_ok-servers.ensures.gives c.in_ok-routers.ensures.gives)
