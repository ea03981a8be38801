use Rattle.std.proofs.Common.{List, ◌++◌, ap, ◌∙◌}
use Rattle.lisp_records.specs.declared.locator.Locator.{Locator}
use Rattle.lisp_records.specs.Written.{written_locators}
use Rattle.lisp_records.proofs.Grown.{cut_back, on_err}
use Rattle.lisp_records.proofs.WrittenLemmas.{written_from}
use Rattle.lisp_records.proofs.record.write_record.Goals as goal

pub returns-in_err-put_front-clause-err : goal.returns-in_err-put_front-clause-err
returns-in_err-put_front-clause-err g c = on_err c.from_residual.result c.in_err-put_front.ensures.items

pub returns-in_err-put_front-clause-memory : goal.returns-in_err-put_front-clause-memory
returns-in_err-put_front-clause-memory g c = on_err c.from_residual.result c.in_err-put_front.ensures.memory

pub returns-in-Err-clause-err : goal.returns-in-Err-clause-err
returns-in-Err-clause-err g c =
    cut_back _ c.args.out.now.items c.put_front.new.out.items c.put_locators.new.out.items _ c.len-start.result (c.len-start.ensures ∙ c.args.out.now.ok.0) c.in_ok-put_front.ensures.items c.in-Err.ensures.err assumption

pub returns-clause-ok : goal.returns-clause-ok
returns-clause-ok g c =
    written_from c.args.entry.now c.args.out.now.items c.put_front.new.out.items c.put_locators.new.out.items c.in_ok-put_front.ensures.items (c.in_default.ensures.ok ∙ ap (λ (ls : List Locator). c.put_front.new.out.items ++ written_locators ls) c.locators-locators.ensures.value)
