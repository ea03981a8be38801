use Rattle.std.proofs.Common.{◌≡◌, Bool, true, false, ◌&&◌, sym, ap, ◌∙◌}
use Rattle.lisp_lookup.proofs.best.may_answer.Goals as goal

-- two tests as one
both : (a b test : Bool) → a ≡ true → test ≡ b → test ≡ a && b
both a b test first second = second ∙ ap (λ (t : Bool). t && b) (sym first)

no_first : (a b test : Bool) → a ≡ false → test ≡ false → test ≡ a && b
no_first a b test first none = none ∙ ap (λ (t : Bool). t && b) (sym first)
