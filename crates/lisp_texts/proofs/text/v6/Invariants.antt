use Rattle.std.proofs.Common.{◌≡◌, ◌-◌, ◌*◌, length, take}
use Rattle.lisp_texts.specs.Reading.{groups_at}
use Rattle.lisp_texts.proofs.Groups.{with_front}
use Rattle.lisp_texts.proofs.text.v6.Given as goal

-- the octets so far, and those still to read, are what was to be read
abbrev pub invariant-loop-at : goal.invariant-loop-at
invariant-loop-at l = record {
  size : length l.octets ≡ 16;
  read : with_front (take (2 * l.at) l.octets) (groups_at (7 - l.at) l.rest) ≡ groups_at 7 l.text;
}
