use Rattle.std.proofs.Common.{◌≡◌, take}
use Rattle.lisp_policy.proofs.site.copy_keys.Given as goal

-- the keys so far are copied
abbrev pub invariant-loop-key : goal.invariant-loop-key
invariant-loop-key g l = l.copies.items ≡ take l.key-index l.keys
