-- The configuration of a text was asked for, and memory ran out.
use Rattle.std.specs.Prelude.{◌≡◌, true, List, ℕ}
use Rattle.std.specs.Str.{is_utf8}
use Rattle.lisp_registration.specs.Starting.{MayRunOut}

pub it_may : (text : List ℕ) → is_utf8 text ≡ true → MayRunOut text
unfolding MayRunOut
it_may text is = is
