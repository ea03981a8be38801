-- The texts of identities and secrets: which digits are of the form, and what they stand for.
use Rattle.std.specs.Prelude.{ℕ, ◌&&◌, List, length, Option, nat_le}
use Rattle.std.specs.Int.{w64, from_be_bytes}
use Rattle.std.specs.Option.{option_map}
use Rattle.std.specs.Result.{result_ok}
use Rattle.hex.specs.Hex.{decode_of, decode_sized}
use Rattle.lisp_texts.specs.Reading.{◌>>=◌, if_so}

-- a Site-ID: 16 hexadecimal digits, in either letter case
abbrev pub site_id_of : List ℕ → Option ℕ
site_id_of text = option_map (from_be_bytes w64) (result_ok (decode_sized text 8))

-- an xTR-ID: 32 hexadecimal digits
abbrev pub xtr_of : List ℕ → Option (List ℕ)
xtr_of text = result_ok (decode_sized text 16)

-- a secret: hexadecimal digits of 1 to 256 bytes
abbrev pub secret_text_of : List ℕ → Option (List ℕ)
secret_text_of text = result_ok (decode_of text) >>= λ bytes. if_so (nat_le 1 (length bytes) && nat_le (length bytes) 256) bytes
