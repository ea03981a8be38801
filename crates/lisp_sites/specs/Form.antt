-- The forms that a field's value may have: which values are of the form, and what they stand for.
use Rattle.std.specs.Prelude.{ℕ, ℤ, pos, negsuc, ◌-◌, ◌^◌, ◌&&◌, List, Option, Some, None, nat_le, nat_lt}
use Rattle.std.specs.Option.{option_map}
use Rattle.toml.specs.Data.{Data, as_str, as_integer}
use Rattle.lisp_policy.specs.Configuration.{is_name}
use Rattle.lisp_texts.specs.Reading.{◌>>=◌, if_so}

-- a name
abbrev pub name_of : List ℕ → Option (List ℕ)
name_of text = if_so (is_name text) text

-- a value that is a text of a form
abbrev pub text_as : {X : Type 0} → (List ℕ → Option X) → Data → Option X
text_as form d = as_str d >>= form

-- a whole number from 0 to 255
abbrev pub byte_from : ℤ → Option ℕ
byte_from (pos n) = if_so (nat_lt n 256) n
byte_from (negsuc n) = None

abbrev pub byte_as : Data → Option ℕ
byte_as d = as_integer d >>= byte_from

-- a whole number from 1 to 1,024
abbrev pub nonce_block_from : ℤ → Option ℕ
nonce_block_from (pos n) = if_so (nat_le 1 n && nat_le n 1024) n
nonce_block_from (negsuc n) = None

abbrev pub nonce_block_as : Data → Option ℕ
nonce_block_as d = as_integer d >>= nonce_block_from

-- a limit: a whole number from 1 to a greatest one
abbrev pub limit_from : ℕ → ℤ → Option ℕ
limit_from most (pos n) = if_so (nat_le 1 n && nat_le n most) n
limit_from most (negsuc n) = None

abbrev pub limit_as : ℕ → Data → Option (Option ℕ)
limit_as most d = option_map Some (as_integer d >>= limit_from most)

-- of a TTL in minutes, which 0xffffffff is not
abbrev pub minutes_as : Data → Option (Option ℕ)
minutes_as = limit_as 4294967294

-- of how many are held of a site
abbrev pub held_as : Data → Option (Option ℕ)
held_as = limit_as (2 ^ 32 - 1)

-- of what a nonce may rise by
abbrev pub jump_as : Data → Option (Option ℕ)
jump_as = limit_as (2 ^ 63 - 1)
