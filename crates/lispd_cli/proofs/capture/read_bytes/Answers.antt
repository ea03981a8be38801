use Rattle.std.proofs.Common.{arith}
use Rattle.lispd_cli.specs.Capture.{most_bytes}
use Rattle.lispd_cli.proofs.Taken.{all_taken}
use Rattle.lispd_cli.proofs.capture.read_bytes.Goals as goal

pub returns-in-Ok-2-clause-whole : goal.returns-in-Ok-2-clause-whole
returns-in-Ok-2-clause-whole g c =
    let taken = rw (c.new-bytes.ensures.items, c.take.ensures.inner) at c.in-Ok.ensures.bytes in
    all_taken most_bytes c.take.result.limit (g.R.Read.remaining c.args.reader) c.read_to_end.new.buf.items (omega (arith, c.take.ensures.limit)) taken (omega (arith, c.len.ensures, c.if-len-gt-MOST_BYTES.false, c.read_to_end.new.buf.ok))
