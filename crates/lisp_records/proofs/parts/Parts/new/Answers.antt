use Rattle.std.proofs.Common.{refl, sym, ◌∙◌, arith}
use Rattle.lisp_records.proofs.Filling.{start_filling, fills_on, fills_next, one_too_many, are_starts, few_parts, each_alone}
use Rattle.lisp_records.proofs.parts.Parts.new.Goals as goal

pub loop-i-init : goal.loop-i-init
loop-i-init g c = start_filling c.args.records.now _ refl refl

pub loop-i-preserved-then-fits_message : goal.loop-i-preserved-then-fits_message
loop-i-preserved-then-fits_message g c =
    fills_on c.args.records.now c.loop-i.starts c.loop-i.last c.loop-i.start c.loop-i.size c.loop-i.i c.written_len-len.result c.index-records-i.result c.loop-i.invariant c.loop-i-test.true c.index-records-i.is
    c.written_len-len.ensures.len c.written_len-len.ensures.small (sym c.fits_message.ensures ∙ c.if-fits_message.true)

pub returns-then-last-eq-MAX_PARTS-clause-many : goal.returns-then-last-eq-MAX_PARTS-clause-many
returns-then-last-eq-MAX_PARTS-clause-many g c = λ is.
    one_too_many c.args.records.now c.loop-i.starts c.loop-i.last c.loop-i.start c.loop-i.size c.loop-i.i c.written_len-len.result c.index-records-i.result c.loop-i.invariant c.loop-i-test.true c.index-records-i.is
    c.written_len-len.ensures.len c.written_len-len.ensures.small (sym c.fits_message.ensures ∙ c.if-fits_message.false) (omega (arith, c.if-last-eq-MAX_PARTS.true))

pub loop-i-preserved : goal.loop-i-preserved
loop-i-preserved g c =
    fills_next c.args.records.now c.loop-i.starts c.loop-i.last c.loop-i.start c.loop-i.size c.loop-i.i c.written_len-len.result c.index-records-i.result c.loop-i.invariant c.loop-i-test.true c.index-records-i.is
    c.written_len-len.ensures.len c.written_len-len.ensures.small (sym c.fits_message.ensures ∙ c.if-fits_message.false) (omega (arith, c.if-last-eq-MAX_PARTS.false, c.loop-i.invariant.parts))

pub returns-clause-starts : goal.returns-clause-starts
returns-clause-starts g c = are_starts c.args.records.now c.loop-i.starts c.loop-i.last c.loop-i.start c.loop-i.size c.loop-i.i c.loop-i.invariant c.loop-i-test.false

pub returns-clause-few : goal.returns-clause-few
returns-clause-few g c = few_parts c.args.records.now c.loop-i.starts c.loop-i.last c.loop-i.start c.loop-i.size c.loop-i.i c.loop-i.invariant c.loop-i-test.false

pub returns-clause-alone : goal.returns-clause-alone
returns-clause-alone g c = each_alone c.args.records.now c.loop-i.starts c.loop-i.last c.loop-i.start c.loop-i.size c.loop-i.i c.loop-i.invariant c.loop-i-test.false
