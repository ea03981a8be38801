use Rattle.std.proofs.Common.{arith}
use Rattle.std.proofs.lemmas.List.{nil_from_length}
use Rattle.lispd_cli.proofs.Warned.{placed_none, placed_more}
use Rattle.lispd_cli.proofs.findings.add_warnings.Goals as goal

pub loop-rest-preserved : goal.loop-rest-preserved
loop-rest-preserved c = λ new added.
    c.loop-rest.invariant new (placed_more c.args.checked.now.document.text c.loop-rest.rest.now _ _ _ new _ c.in-len1-up.len_at_least c.entry_line-line.ensures.header c.in_ok-try_push.ensures.items added)

pub returns : goal.returns
returns c = c.loop-rest.invariant _ (placed_none c.args.checked.now.document.text _ _ (nil_from_length c.loop-rest.rest.now (omega (arith, c.in_default.len_below))))
