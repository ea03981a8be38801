use Rattle.std.proofs.Common.{List, ℕ, ◌++◌, length, ap}
use Rattle.std.proofs.lemmas.List.{drop-replicate}
use Rattle.lisp_hmac.proofs.block.zero_padded.Goals as goal

-- What is left of the block behind the bytes is zeros.
pub returns : goal.returns
returns c =
    rw c.copy_from_slice.ensures.after (ap (λ (t : List ℕ). c.args.bytes.now ++ t) (drop-replicate (length c.args.bytes.now) 64 0))
