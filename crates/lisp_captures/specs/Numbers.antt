-- Numbers among bytes, in either byte order.
use Rattle.std.specs.Prelude.{ℕ, ◌+◌, List, [], ◌∷◌, slice_index}
use Rattle.std.specs.Int.{w16, w32, from_be_bytes, from_le_bytes}
use Rattle.lisp_captures.specs.declared.numbers.ByteOrder.{ByteOrder}
use Rattle.lisp_captures.specs.declared.numbers.ByteOrder.TheVariants.{Little, Big}

-- two bytes from a place on
abbrev pub two_at : List ℕ → ℕ → List ℕ
two_at bytes at = slice_index bytes at ∷ slice_index bytes (at + 1) ∷ []

-- four bytes from a place on
abbrev pub four_at : List ℕ → ℕ → List ℕ
four_at bytes at = slice_index bytes at ∷ slice_index bytes (at + 1) ∷ slice_index bytes (at + 2) ∷ slice_index bytes (at + 3) ∷ []

abbrev pub u16_at : ByteOrder → List ℕ → ℕ → ℕ
u16_at Little bytes at = from_le_bytes w16 (two_at bytes at)
u16_at Big bytes at = from_be_bytes w16 (two_at bytes at)

abbrev pub u32_at : ByteOrder → List ℕ → ℕ → ℕ
u32_at Little bytes at = from_le_bytes w32 (four_at bytes at)
u32_at Big bytes at = from_be_bytes w32 (four_at bytes at)
