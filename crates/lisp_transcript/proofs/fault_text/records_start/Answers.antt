use Rattle.std.proofs.Common.{sym, ◌∙◌, arith}
use Rattle.std.proofs.lemmas.List.{drop_all}
use Rattle.lisp_transcript.proofs.fault_text.records_start.Goals as goal

pub returns-then-bytes-lt-HEAD_LEN-clause-start : goal.returns-then-bytes-lt-HEAD_LEN-clause-start
returns-then-bytes-lt-HEAD_LEN-clause-start c = drop_all _ c.args.bytes.now (omega arith) ∙ sym (drop_all 32 c.args.bytes.now (omega arith))
