use Rattle.std.proofs.Common.{◌≡◌, drop}
use Rattle.lisp_script.specs.Words.{texts, records_in}
use Rattle.lisp_script.proofs.Records.{with_front}
use Rattle.lisp_script.proofs.words.records.Given as goal

-- the records so far, and those still to read, are what was to be read
abbrev pub invariant-loop-word : goal.invariant-loop-word
invariant-loop-word g l = with_front l.records.items (records_in (texts (drop l.word-index l.words))) ≡ records_in (texts l.words)
