use Rattle.std.proofs.Common.{sym, true≢false, rules}
use Rattle.lisp_nonces.proofs.memory.load_fails.Goals as goal

pub returns-in-Done : goal.returns-in-Done
returns-in-Done c = (λ fails. absurd (true≢false (sym fails)), search rules)
