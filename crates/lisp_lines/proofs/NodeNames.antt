-- The name of the node with a number.
use Rattle.std.proofs.Common.{◌≡◌, ℕ, List, get_or, Option, Some, None, ap, ◌∙◌}
use Rattle.std.specs.Prelude.{unwrap_or}
use Rattle.std.specs.Option.{option_map}
use Rattle.std.proofs.lemmas.Option.{unwrap_or-slice_get}
use Rattle.lisp_policy.specs.Configuration.{ConfigValue, names}
use Rattle.lisp_sites.specs.declared.node.ConfigNode.{ConfigNode}
use Rattle.lisp_sites.specs.Numbers.{NodeValue, node_value, name_of, node_at}
use Rattle.lisp_sites.proofs.NumberLaws.{name_at-names}

-- the name of a node is the one at its number in the list of all names; another where no node has the number
name_or : (c : ConfigValue) (n : ℕ) (other : List ℕ) (node : Option NodeValue) → node ≡ node_at c n → unwrap_or (option_map name_of node) other ≡ get_or (names c) n other
name_or c n other node is =
    ap (λ (o : Option NodeValue). unwrap_or (option_map name_of o) other) is
    ∙ ap (λ (o : Option (List ℕ)). unwrap_or o other) (name_at-names c n) ∙ unwrap_or-slice_get (names c) n other

pub name_of_node : {A : Type 0} (c : ConfigValue) (n : ℕ) (other : List ℕ) (node : ConfigNode A) → Some (node_value node) ≡ node_at c n → name_of (node_value node) ≡ get_or (names c) n other
name_of_node c n other node is = name_or c n other (Some (node_value node)) is

pub name_of_none : (c : ConfigValue) (n : ℕ) (other : List ℕ) → None ≡ node_at c n → other ≡ get_or (names c) n other
name_of_none c n other is = name_or c n other None is
