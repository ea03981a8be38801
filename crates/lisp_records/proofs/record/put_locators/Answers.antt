use Rattle.std.proofs.Common.{List, ◌++◌, ap, ◌∙◌}
use Rattle.std.proofs.lemmas.List.{take_all}
use Rattle.lisp_records.specs.declared.locator.Locator.{Locator}
use Rattle.lisp_records.specs.Written.{written_locators}
use Rattle.lisp_records.proofs.Grown.{Grew-to, on_err}
use Rattle.lisp_records.proofs.WrittenLemmas.{written_goes_on}
use Rattle.lisp_records.proofs.record.put_locators.Goals as goal

pub returns-in_err-put_locator-clause-err : goal.returns-in_err-put_locator-clause-err
returns-in_err-put_locator-clause-err g c =
    on_err c.from_residual.result (Grew-to _ _ _ (c.in_err-put_locator.ensures.items ∙ c.loop-locator.invariant))

pub loop-locator-preserved : goal.loop-locator-preserved
loop-locator-preserved g c =
    written_goes_on c.args.out.now.items c.loop-locator.out.items c.put_locator.new.out.items c.args.locators.now c.loop-locator.locator-index _ c.loop-locator-test.true c.loop-locator.invariant c.in_ok-put_locator.ensures.items

pub returns-clause-ok : goal.returns-clause-ok
returns-clause-ok g c =
    let all = take_all c.loop-locator.locator-index c.args.locators.now c.loop-locator-test.false in
    c.loop-locator.invariant ∙ ap (λ (ls : List Locator). c.args.out.now.items ++ written_locators ls) all
