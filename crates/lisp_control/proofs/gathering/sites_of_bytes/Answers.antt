use Rattle.lisp_control.proofs.Gathered.{no_text, of_text}
use Rattle.lisp_control.proofs.gathering.sites_of_bytes.Goals as goal

pub returns-in_default : goal.returns-in_default
returns-in_default c = no_text c.args.bytes.now c.in_default.ensures.cases.0

pub returns-in-Ok-sites_from_toml : goal.returns-in-Ok-sites_from_toml
returns-in-Ok-sites_from_toml c = of_text c.args.bytes.now c.in-Ok.text.now c.in-Ok-sites_from_toml.sites c.in-Ok.ensures.cases.0 c.in-Ok.ensures.cases.1 c.in-Ok-sites_from_toml.ensures
