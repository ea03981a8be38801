-- What a place of a TOML text is in, by the bytes before it. 34 and 39 are the two quotes, 92 is the backslash, 35 begins a comment, and
-- 10 ends a line.
use Rattle.std.specs.Prelude.{ℕ, ◌==◌, ◌&&◌, ◌||◌, Bool, true, false, if◌then◌else◌}
use Rattle.lisp_check.specs.declared.mode.Mode.{Mode}
use Rattle.lisp_check.specs.declared.mode.Mode.TheVariants.{Start, Line, Comment, Opened, OpenedTwice, Text, TextEscape, Long, LongOnce, LongTwice, LongEscape, Closed}

-- at the start of a line
abbrev pub is_start : Mode → Bool
is_start Start = true
is_start _ = false

-- in a line: its end, a comment, a string, or more of it; at its start blanks leave it there
abbrev pub in_line : ℕ → Mode
in_line b = if b == 10 then Start else if b == 35 then Comment else if (b == 34) || (b == 39) then Opened b else Line

abbrev pub at_start : ℕ → Mode
at_start b = if (b == 32) || (b == 9) || (b == 13) then Start else in_line b

abbrev pub in_comment : ℕ → Mode
in_comment b = if b == 10 then Start else Comment

-- a backslash says that the next byte ends no string, but not between single quotes
abbrev pub is_escape : ℕ → ℕ → Bool
is_escape quote b = (b == 92) && (quote == 34)

-- in a string of one line, and of several, which three quotes end
abbrev pub in_text : ℕ → ℕ → Mode
in_text quote b = if b == quote then Line else if is_escape quote b then TextEscape else Text quote

abbrev pub in_long : ℕ → ℕ → Mode → Mode
in_long quote b further = if b == quote then further else if is_escape quote b then LongEscape else Long quote

-- behind one more byte
abbrev pub step : Mode → ℕ → Mode
step Start b = at_start b
step Line b = in_line b
step Comment b = in_comment b
step (Opened quote) b = if b == quote then OpenedTwice quote else in_text quote b
step (OpenedTwice quote) b = if b == quote then Long quote else in_line b
step (Text quote) b = in_text quote b
step TextEscape b = Text 34
step (Long quote) b = in_long quote b (LongOnce quote)
step (LongOnce quote) b = in_long quote b (LongTwice quote)
step (LongTwice quote) b = in_long quote b (Closed quote)
step LongEscape b = Long 34
step (Closed quote) b = if b == quote then Closed quote else in_line b
