use Rattle.lisp_records.proofs.AddressLemmas.{IsBlock-cleared}
use Rattle.lisp_records.proofs.prefix.Prefix.masked.Goals as goal

pub invariant_of-result : goal.invariant_of-result
invariant_of-result c = (c.cleared.ensures.whole, rw c.cleared.ensures.cleared (IsBlock-cleared c.args.addr c.args.mask_len c.requires))
