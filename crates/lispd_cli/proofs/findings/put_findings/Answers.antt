use Rattle.std.proofs.Common.{arith}
use Rattle.lispd_cli.proofs.Numbers.{one_less}
use Rattle.lispd_cli.proofs.Warned.{lines_none, lines_more}
use Rattle.lispd_cli.proofs.findings.put_findings.Goals as goal

pub loop-rest-preserved : goal.loop-rest-preserved
loop-rest-preserved c = λ new added.
    c.loop-rest.invariant new (lines_more c.args.path.now _ _ new _ _ _ c.in_ok-put_warning.ensures added (one_less c.loop-rest.rest.now c.in-len1-up.len_at_least))

pub returns : goal.returns
returns c = c.loop-rest.invariant _ (lines_none c.args.path.now _ _ (omega (arith, c.in_default.len_below)))
