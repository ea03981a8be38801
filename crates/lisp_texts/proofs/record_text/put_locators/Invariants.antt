use Rattle.std.proofs.Common.{◌≡◌, ◌∷◌, ◌++◌, take}
use Rattle.std.specs.Prelude.{string_bytes}
use Rattle.std.specs.List.{flat_map}
use Rattle.lisp_texts.specs.Written.{locator_text}
use Rattle.lisp_texts.proofs.record_text.put_locators.Given as goal

abbrev pub invariant-loop-locator : goal.invariant-loop-locator
invariant-loop-locator g l = string_bytes l.text ≡ string_bytes l.fn.text ++ flat_map (λ x. 43 ∷ locator_text x) (take l.locator-index l.locators)
