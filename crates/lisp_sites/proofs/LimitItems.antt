-- An array that is a limit has items.
use Rattle.std.proofs.Common.{◌≡◌, false, ◌==◌, List, [], ◌∷◌, length, Option, Some, Ok, refl, ap, ◌∙◌, true≢false}
use Rattle.std.specs.Prelude.{ok_or, option_and_then}
use Rattle.toml.specs.Data.{Items}
use Rattle.toml.specs.View.{items_view}
use Rattle.toml.specs.declared.value.Value.{Value}
use Rattle.lisp_sites.specs.declared.fault.ConfigFault.{ConfigFault}
use Rattle.lisp_sites.specs.Table.{some_items}

some_there : (values : List Value) → (length values == 0) ≡ false → some_items (items_view values) ≡ Some (items_view values)
some_there [] none = absurd (true≢false none)
some_there (v ∷ values) some = refl

-- the items of an array that is not empty
pub items_there : (values : List Value) (found : Option Items) (w : ConfigFault) → found ≡ Some (items_view values) → (length values == 0) ≡ false → ok_or (option_and_then some_items found) w ≡ Ok (items_view values)
items_there values found w is some = ap (λ (o : Option Items). ok_or (option_and_then some_items o) w) is ∙ ap (λ (o : Option Items). ok_or o w) (some_there values some)
