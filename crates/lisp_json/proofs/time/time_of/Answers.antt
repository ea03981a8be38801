use Rattle.std.proofs.Common.{ℕ, ◌*◌, pos, ap, ◌∙◌}
use Rattle.lisp_json.proofs.time.time_of.Goals as goal

pub returns : goal.returns
returns c = (c.moment_at.result, c.moment_at.ensures ∙ ap (λ (ms : ℕ). pos (ms * 1000000)) c.min.ensures, c.moment_text.ensures)
