use Rattle.std.proofs.Common.{sym, subst, arith}
use Rattle.std.specs.Prelude.{slice_index}
use Rattle.lisp_records.specs.Record.{IsMapRecord}
use Rattle.lisp_records.proofs.AddressLemmas.{fits-cleared}
use Rattle.lisp_records.proofs.Steps.{mapping_is}
use Rattle.lisp_records.proofs.record.record_of.Goals as goal

pub masked-requires : goal.masked-requires
masked-requires g c = fits-cleared c.args.addr (slice_index c.args.head.now 5) c.requires.fits.block.0

pub invariant_of-result : goal.invariant_of-result
invariant_of-result g c =
    subst IsMapRecord (sym (mapping_is c.args.head.now c.args.addr c.args.locators.items c.from_be_bytes.result c.from_be_bytes-2.result c.is_set.result c.masked.result (omega (arith, c.requires.head)) c.from_be_bytes.ensures c.is_set.ensures c.from_be_bytes-2.ensures c.masked.ensures)) c.requires.fits

pub returns : goal.returns
returns g c =
    mapping_is c.args.head.now c.args.addr c.args.locators.items c.from_be_bytes.result c.from_be_bytes-2.result c.is_set.result c.masked.result (omega (arith, c.requires.head)) c.from_be_bytes.ensures c.is_set.ensures c.from_be_bytes-2.ensures c.masked.ensures
