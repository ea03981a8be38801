use Rattle.std.proofs.Common.{◌≡◌, take}
use Rattle.std.specs.List.{filter_map}
use Rattle.lisp_upkeep.specs.AcceptedNonce.{accepted_of}
use Rattle.lisp_upkeep.proofs.accepted_nonce.collected.Given as goal

-- those of the nonces so far
abbrev pub invariant-loop-nonce : goal.invariant-loop-nonce
invariant-loop-nonce g l = l.nonces.items ≡ filter_map accepted_of (take l.nonce-index l.kept)
