use Rattle.std.proofs.Common.{◌≡◌, take, fold, None}
use Rattle.lisp_json.specs.Told.{take_word}
use Rattle.lisp_json.specs.Views.{told_view, text_if}
use Rattle.lisp_json.specs.Words.{texts}
use Rattle.lisp_json.proofs.told.Told.take_words.Given as goal

-- the words so far
abbrev pub invariant-loop-word : goal.invariant-loop-word
invariant-loop-word g l = (told_view l.self, text_if l.key) ≡ fold take_word (told_view l.fn.self, None) (texts (take l.word-index l.words))
