use Rattle.std.proofs.Common.{codes, sym, ap, ◌∙◌}
use Rattle.std.specs.Option.{option_map}
use Rattle.lisp_sites.specs.Numbers.{node_value}
use Rattle.lisp_lines.proofs.NodeNames.{name_of_node, name_of_none}
use Rattle.lisp_lines.proofs.name.node_name.Goals as goal

pub returns-in-Some : goal.returns-in-Some
returns-in-Some g c = c.name.ensures ∙ name_of_node c.args.config.now c.args.node (codes "other") c.in-Some.node (ap (option_map node_value) (sym c.in-Some.is) ∙ c.node.ensures)

pub returns-in-None : goal.returns-in-None
returns-in-None g c = name_of_none c.args.config.now c.args.node (codes "other") (ap (option_map node_value) (sym c.in-None.is) ∙ c.node.ensures)
