use Rattle.lisp_records.proofs.Faults.{reads_fault}
use Rattle.lisp_records.proofs.Steps.{locator_cut, locator_fails, locator_is}
use Rattle.lisp_records.proofs.locator.read_locator.Goals as goal

pub returns-in_default : goal.returns-in_default
returns-in_default c = locator_cut c.args.bytes.now (assumption)

pub returns-in_err-addr : goal.returns-in_err-addr
returns-in_err-addr c =
    reads_fault _ c.from_residual.result c.in_err-addr.field-0.0 _ c.from_residual.ensures.1 (locator_fails c.args.bytes.now c.from_be_bytes.result c.in_err-addr.field-0.0 (assumption) c.from_be_bytes.ensures c.in_err-addr.ensures)

pub returns : goal.returns
returns c =
    rw (c.is_set.ensures, c.is_set-2.ensures, c.is_set-3.ensures) (locator_is c.args.bytes.now c.in_ok-addr.rest.now c.from_be_bytes.result c.in_ok-addr.addr (assumption) c.from_be_bytes.ensures c.in_ok-addr.ensures)
