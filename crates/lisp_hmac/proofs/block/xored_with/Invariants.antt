use Rattle.std.proofs.Common.{◌≡◌, ◌++◌, take, drop}
use Rattle.lisp_hmac.specs.Tag.{xored}
use Rattle.lisp_hmac.proofs.block.xored_with.Given as goal

-- the bytes so far are xored, and those to come are as they were
abbrev pub invariant-loop-byte : goal.invariant-loop-byte
invariant-loop-byte l = take l.byte-index l.byte-items ++ xored (drop l.byte-index l.byte-items) l.pad ≡ xored l.fn.block l.pad
