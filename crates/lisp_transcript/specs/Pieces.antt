-- The pieces that lines are put together from.
use Rattle.std.specs.Prelude.{ℕ, ◌/◌, ◌%◌, List, ◌++◌, Option, Some, None, codes}
use Rattle.std.specs.Fmt.{decimal}
use Rattle.std.specs.Int.{w64, to_be_bytes}
use Rattle.std.specs.List.{flat_map}
use Rattle.lisp_texts.specs.Written.{hex_text}

-- bytes, each as two lower case hexadecimal digits
abbrev pub hex_bytes : List ℕ → List ℕ
hex_bytes bytes = flat_map hex_text bytes

-- a Site-ID as 16 digits
unfoldable pub site_text : ℕ → List ℕ
site_text site = hex_bytes (to_be_bytes w64 site)

-- microseconds as seconds, with six digits behind the point
abbrev pub seconds_text : ℕ → List ℕ
seconds_text us = decimal (us / 1000000) ++ (codes "." ++ (decimal (us / 100000 % 10) ++ (decimal (us / 10000 % 10) ++ (decimal (us / 1000 % 10)
    ++ (decimal (us / 100 % 10) ++ (decimal (us / 10 % 10) ++ decimal (us % 10)))))))

-- a time, where it is known
abbrev pub time_text : Option ℕ → List ℕ
time_text (Some us) = seconds_text us
time_text None = codes "-"
