use Rattle.std.proofs.Common.{arith}
use Rattle.sqlite_wal.specs.Recovery.{frames_len}
use Rattle.lisp_database_log.proofs.frame.sum_before.Goals as goal

pub frame-requires : goal.frame-requires
unfolding frames_len
frame-requires c = omega (arith, c.requires, c.in-Some.ensures)
