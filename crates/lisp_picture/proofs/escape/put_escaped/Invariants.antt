use Rattle.std.proofs.Common.{◌≡◌, ◌++◌, IsUtf8, chars, string_bytes}
use Rattle.std.specs.List.{flat_map}
use Rattle.std.specs.Str.Iter.{chars_rest}
use Rattle.lisp_picture.specs.Markup.{written}
use Rattle.lisp_picture.proofs.escape.put_escaped.Given as goal

-- the characters so far were appended, and the iterator has the others
abbrev pub invariant-loop-character : goal.invariant-loop-character
invariant-loop-character g l = IsUtf8 (chars_rest l.character-iterator)
    × (chars l.words ≡ l.yielded ++ chars (chars_rest l.character-iterator))
    × (string_bytes l.text ≡ string_bytes l.fn.text ++ flat_map written l.yielded)
