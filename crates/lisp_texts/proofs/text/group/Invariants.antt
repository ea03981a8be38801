use Rattle.std.proofs.Common.{◌≡◌, take}
use Rattle.std.specs.Str.Parse.{AllDigits, digits_value}
use Rattle.lisp_texts.proofs.text.group.Given as goal

-- the digits so far, and their value
abbrev pub invariant-loop-digit : goal.invariant-loop-digit
invariant-loop-digit l = record {
  digits : AllDigits 16 (take l.digit-index l.text);
  value : l.value ≡ digits_value 16 (take l.digit-index l.text);
}
