use Rattle.lisp_texts.specs.Reading.{texts, locators_of}
use Rattle.lisp_texts.proofs.Locators.{no_locator, goes_on, is_done}
use Rattle.lisp_texts.proofs.record_text.locators.Goals as goal

pub returns-in_default-clause-value : goal.returns-in_default-clause-value
returns-in_default-clause-value g c = no_locator c.loop-piece.locators.items c.args.pieces.now c.loop-piece.piece-index _ (locators_of (texts c.args.pieces.now)) c.loop-piece-test.true c.in_default.ensures c.loop-piece.invariant

pub loop-piece-preserved : goal.loop-piece-preserved
loop-piece-preserved g c = rw c.in_ok-try_push.ensures.items (goes_on c.loop-piece.locators.items c.args.pieces.now c.loop-piece.piece-index _ c.in-Some.locator (locators_of (texts c.args.pieces.now)) c.loop-piece-test.true c.in-Some.ensures c.loop-piece.invariant)

pub returns-clause-value : goal.returns-clause-value
returns-clause-value g c = is_done c.loop-piece.locators.items c.args.pieces.now c.loop-piece.piece-index (locators_of (texts c.args.pieces.now)) c.loop-piece-test.false c.loop-piece.invariant
