-- Commands that a network doesn't take, by their texts.
use Rattle.std.specs.Prelude.{ℕ, ◌==◌, List, [], ◌∷◌, codes, Option, Some, None, if◌then◌else◌}
use Rattle.std.specs.List.{before_first, after_first}
use Rattle.lisp_script.specs.Words.{is_word}
use Rattle.lisp_texts.specs.Number.{number_of}
use Rattle.lisp_player.specs.declared.untaken.Untaken.{Untaken}

-- the number of a text that is a fault, a line `fault N`: behind the space (32), up to the line feed (10)
abbrev pub fault_number : List ℕ → Option ℕ
fault_number text =
    if is_word (codes "fault") (before_first (λ b. b == 32) text) then number_of (before_first (λ b. b == 10) (after_first (λ b. b == 32) text)) else None

-- a command whose text is a fault, by its line, where that is known
abbrev pub untaken_by : ℕ → Option ℕ → List Untaken
untaken_by line (Some number) = record { line = line; number = number } ∷ []
untaken_by line None = []

abbrev pub untaken_at : Option ℕ → List ℕ → List Untaken
untaken_at (Some line) text = untaken_by line (fault_number text)
untaken_at None text = []
