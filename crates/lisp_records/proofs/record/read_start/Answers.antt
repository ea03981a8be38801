use Rattle.lisp_records.proofs.Steps.{start_cut, start_is}
use Rattle.lisp_records.proofs.record.read_start.Goals as goal

pub returns-then-bytes-lt-HEAD_LEN-clause-start : goal.returns-then-bytes-lt-HEAD_LEN-clause-start
returns-then-bytes-lt-HEAD_LEN-clause-start c = start_cut c.args.bytes.now c.if-bytes-lt-HEAD_LEN.true

pub returns-clause-start : goal.returns-clause-start
returns-clause-start c =
    rw (start_is c.args.bytes.now c.from_be_bytes.result c.if-bytes-lt-HEAD_LEN.false c.from_be_bytes.ensures, ← c.split_at.ensures.back) c.read_address.ensures
