use Rattle.std.proofs.Common.{◌∙◌, Bool, nat_eq, Some, ap, sym}
use Rattle.lisp_store.proofs.PairNames.{none_named, formless, named_by}
use Rattle.std.specs.Bool.{then_some}
use Rattle.std.specs.Cmp.Lexicographic.{pointwise}
use Rattle.std.proofs.lemmas.Option.{none-some}
use Rattle.lisp_store.specs.PairName.{ReadsPair}
use Rattle.lisp_store.proofs.name.pair_from_name.Goals as goal

-- src/name.rt:43:9
pub returns-then-not-is_name : goal.returns-then-not-is_name
returns-then-not-is_name c = sym (formless c.args.name.now (λ has. let is = c.is_name.ensures.1 has in cc))

-- src/name.rt:46:16
pub returns-in_err-pair : goal.returns-in_err-pair
returns-in_err-pair c = c.from_residual.ensures ∙ sym (none_named c.args.name.now (λ p is same. let read = c.in_err-pair.ensures p is (same ∙ sym c.as_bytes-text.ensures.value) in none-some p read))

-- src/name.rt:39:1
pub returns : goal.returns
returns c =
    let text = c.as_bytes-text.ensures.value in
    let reads : ReadsPair c.args.name.now (Some c.in_ok-pair.pair) = λ p is same. c.in_ok-pair.ensures p is (same ∙ sym text) in
    c.then_some.ensures
    ∙ ap (λ (b : Bool). then_some b c.in_ok-pair.pair) (c.eq.ensures ∙ (λ i. pointwise nat_eq ((c.as_slice.ensures ∙ c.pair_name.ensures.name) i) (text i)))
    ∙ named_by c.args.name.now c.in_ok-pair.pair c.pair_name.ensures.pair reads
