use Rattle.std.proofs.Common.{◌≡◌, drop}
use Rattle.lisp_texts.specs.Reading.{texts, locators_of}
use Rattle.lisp_texts.proofs.Locators.{with_front}
use Rattle.lisp_texts.proofs.record_text.locators.Given as goal

-- the locators so far, and those still to read, are what was to be read
abbrev pub invariant-loop-piece : goal.invariant-loop-piece
invariant-loop-piece g l = with_front l.locators.items (locators_of (texts (drop l.piece-index l.pieces))) ≡ locators_of (texts l.pieces)
