-- The text of what taking gathered sites would do.
use Rattle.std.proofs.Common.{append_assoc}
use Rattle.lisp_statistics.proofs.SiteCounting.{site_digits}

pub ruleset written = (site_digits, append_assoc)
