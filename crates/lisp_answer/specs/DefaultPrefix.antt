-- The prefix that the default site may register.
use Rattle.std.specs.Prelude.{[], ◌∷◌}
use Rattle.lisp_records.specs.declared.address.Addr.TheVariants.{V4}
use Rattle.lisp_records.specs.Address.{PrefixValue}

-- 10.1.0.0/16
abbrev pub default_prefix : PrefixValue
default_prefix = record { addr = V4 (10 ∷ 1 ∷ 0 ∷ 0 ∷ []); mask_len = 16 }
