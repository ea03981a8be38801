-- The headers of a document, in its text. 91 is the bracket that a header begins with, and 10 ends a line.
use Rattle.std.specs.Prelude.{ℕ, ◌+◌, ◌==◌, ◌&&◌, List, [], ◌∷◌, ◌++◌, ◌≡◌, cond, Result, OnOk, Vec}
use Rattle.std.specs.List.{Contains}
use Rattle.lisp_check.specs.declared.mode.Mode.{Mode}
use Rattle.lisp_check.specs.declared.mode.Mode.TheVariants.{Start}
use Rattle.lisp_check.specs.declared.header.Header.{Header}
use Rattle.lisp_check.specs.Mode.{is_start, step}

-- what callers see of a document
pub record DocumentValue : Type 0 where
  pub text : List ℕ

-- a header, where a byte begins one: only at the start of a line
abbrev pub header_if : Header → Mode → ℕ → List Header
header_if header mode byte = cond (is_start mode && (byte == 91)) (header ∷ []) []

-- the ends of lines that a byte is
abbrev pub line_feeds : ℕ → ℕ
line_feeds byte = cond (byte == 10) 1 0

-- the headers from a line on, in the mode there, behind so many bytes of a text
abbrev pub headers_from : ℕ → Mode → ℕ → List ℕ → List Header
headers_from line mode offset [] = []
headers_from line mode offset (b ∷ bs) = header_if (record { line = line; offset = offset }) mode b ++ headers_from (line + line_feeds b) (step mode b) (offset + 1) bs

-- all headers of a text, whose lines are counted from 1
abbrev pub headers_in : List ℕ → List Header
headers_in bytes = headers_from 1 Start 0 bytes

-- the header was added, where it is one
abbrev pub AddsHeader : {T E Z : Type 0} → Result T E → Vec Header Z → Vec Header Z → Header → Mode → ℕ → Type 0
AddsHeader result old new header mode byte = OnOk result (new.items ≡ old.items ++ header_if header mode byte)

-- headers that are among others
abbrev pub AreAmong : List Header → List Header → Type 0
AreAmong some all = (h : Header) → Contains some h → Contains all h
