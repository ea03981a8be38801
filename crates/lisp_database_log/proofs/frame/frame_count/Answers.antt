use Rattle.std.proofs.Common.{arith}
use Rattle.sqlite_wal.specs.Recovery.{frames_len}
use Rattle.lisp_database_log.proofs.frame.frame_count.Goals as goal

pub returns : goal.returns
unfolding frames_len
returns c i = (λ low. omega (arith, low, c.saturating_sub.ensures), λ whole. omega (arith, whole, c.saturating_sub.ensures))
