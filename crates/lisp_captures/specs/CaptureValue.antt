-- What is still to come of a capture.
use Rattle.std.specs.Prelude.{ℕ, List}
use Rattle.lisp_captures.specs.declared.header.Format.{Format}
use Rattle.lisp_captures.specs.declared.interface.Interface.{Interface}
use Rattle.lisp_captures.specs.declared.numbers.ByteOrder.{ByteOrder}

-- its records or blocks, how many packets came before, the byte order, the format, and the interfaces that the section
-- described so far
pub record CaptureValue : Type 0 where
  pub rest : List ℕ
  pub count : ℕ
  pub order : ByteOrder
  pub format : Format
  pub interfaces : List Interface
