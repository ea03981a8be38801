use Rattle.std.proofs.Common.{sym, ◌∙◌, arith}
use Rattle.std.proofs.lemmas.List.{take_all}
use Rattle.lisp_records.proofs.WrittenLemmas.{length-written, length_goes_on}
use Rattle.lisp_records.proofs.record.MapRecord.written_len.Goals as goal

pub returns-clause-len : goal.returns-clause-len
returns-clause-len g c =
    let all = take_all c.loop-locator.locator-index c.locators-locator-items.result.now c.loop-locator-test.false in
    c.loop-locator.invariant.len ∙ rw (all, c.locators-locator-items.ensures.value) (sym (length-written c.args.self.now c.locators-locator-items.ensures.known.eid))

pub loop-locator-preserved : goal.loop-locator-preserved
loop-locator-preserved g c = record {
  len = length_goes_on _ c.loop-locator.len c.written_len-len.result c.locators-locator-items.result.now c.loop-locator.locator-index _ c.loop-locator-test.true c.loop-locator.invariant.len c.written_len-len.ensures.len;
  small = omega (arith, c.loop-locator.invariant.small, c.written_len-len.ensures.small);
}
