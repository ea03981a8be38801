use Rattle.std.proofs.Common.{All, length, refl, subst, ◌∙◌, arith}
use Rattle.std.proofs.lemmas.List.{take_all}
use borrow.Author.Rules.{scaled_Fits}
use Rattle.lisp_nonces.specs.Entries.{HasValues}
use Rattle.lisp_nonces.proofs.Restart.{all_narrowed, narrowed_more, one_more, others_stay}
use Rattle.lisp_nonces.proofs.memory.narrow.Goals as goal

pub loop-entry-preserved : goal.loop-entry-preserved
loop-entry-preserved g c = record {
  narrowed = narrowed_more c.args.pick c.loop-entry.entry-index c.loop-entry.entries c.entry-item.result c.narrow.new.self (omega (arith, c.loop-entry-test.true, c.loop-entry.auto.entries)) (λ i. record { pair = c.narrow.ensures.pair i; values = c.narrow.ensures.values i }) ∙ c.loop-entry.invariant.narrowed;
  some = one_more c.loop-entry.entry-index c.loop-entry.entries c.args.entries.now c.entry-item.result c.loop-entry-test.true c.loop-entry.invariant.others c.loop-entry.invariant.some c.narrow.ensures.some;
  others = others_stay c.loop-entry.entry-index c.loop-entry.entries c.args.entries.now c.narrow.new.self c.loop-entry.invariant.others;
}

pub returns-clause-some : goal.returns-clause-some
returns-clause-some g c = subst (All HasValues) (take_all c.loop-entry.entry-index c.args.entries.now c.loop-entry-test.false) c.loop-entry.invariant.some

pub returns-clause-narrowed : goal.returns-clause-narrowed
returns-clause-narrowed g c = all_narrowed c.args.pick c.loop-entry.entry-index c.loop-entry.entries c.args.entries.now (omega (arith, c.loop-entry-test.false, c.loop-entry.auto.entries)) c.loop-entry.invariant.narrowed

pub loop-entry-init : goal.loop-entry-init
loop-entry-init g c = record { narrowed = refl; some = λ k d lt. absurd (omega (arith, lt)); others = refl }

-- the size of an entry is a long term, over which a search takes seconds: the lemma and its facts are named
pub offset_bounds-entries-entry-index : goal.offset_bounds-entries-entry-index
offset_bounds-entries-entry-index g c = scaled_Fits _ (length c.args.entries.now) _ c.loop-entry-test.true c.well_formed.0.1
