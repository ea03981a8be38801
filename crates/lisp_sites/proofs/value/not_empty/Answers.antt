use Rattle.std.proofs.Common.{◌==◌, ℕ, List, Some, sym, ap, ◌∙◌}
use Rattle.std.specs.Option.{option_map}
use Rattle.toml.specs.View.{array_view, items_view}
use Rattle.toml.specs.declared.value.Value.{Value}
use Rattle.lisp_sites.specs.declared.fault.ConfigFault.TheVariants.{BadValue}
use Rattle.lisp_sites.proofs.LimitItems.{items_there}
use Rattle.lisp_sites.proofs.value.not_empty.Goals as goal

pub returns-in-Some-clause-reads : goal.returns-in-Some-clause-reads
returns-in-Some-clause-reads c =
    let found = sym c.as_array.ensures ∙ ap (option_map (λ v. array_view v.now)) c.in-Some.is ∙ ap (λ (vs : List Value). Some (items_view vs)) (sym c.deref.ensures.value) in
    let some = ap (λ (n : ℕ). n == 0) c.deref.ensures.len ∙ sym c.is_empty.ensures ∙ c.if-not-is_empty.true in
    items_there c.deref.result.now _ (BadValue c.args.name) found some
