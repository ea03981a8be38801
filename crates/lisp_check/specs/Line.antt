-- The lines of entries.
use Rattle.std.specs.Prelude.{◌≡◌, ℕ, List}
use Rattle.std.specs.List.{Contains}
use Rattle.lisp_check.specs.declared.header.Header.{Header}
use Rattle.lisp_check.specs.Header.{headers_in}

-- a line is that of one of these headers, and of one of a text's
abbrev pub IsLineOf : List Header → ℕ → Type 0
IsLineOf headers line = (h : Header) × Contains headers h × (line ≡ h.line)

abbrev pub IsHeaderLine : List ℕ → ℕ → Type 0
IsHeaderLine text line = IsLineOf (headers_in text) line
