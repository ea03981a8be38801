use Rattle.std.proofs.Common.{sym, ◌∙◌}
use Rattle.lispd_cli.proofs.Numbers.{takes_value}
use Rattle.lispd_cli.proofs.printed_line.add_carried.Goals as goal

pub returns-then-not-branch-clause-numbers : goal.returns-then-not-branch-clause-numbers
returns-then-not-branch-clause-numbers g c =
    let read = takes_value c.loop-rest.numbers.items _ c.loop-rest.rest.now _ _ _ c.in_ok-add_told.field-0 c.in-len1-up.len_at_least c.in-len1-up-behind.len_at_least (sym c.is_kind.ensures ∙ c.if-is_kind.false) c.in_ok-add_told.ensures.numbers c.loop-rest.invariant in
    rw c.if-not-branch.true at read

pub loop-rest-preserved : goal.loop-rest-preserved
loop-rest-preserved g c =
    let read = takes_value c.loop-rest.numbers.items _ c.loop-rest.rest.now _ _ _ c.in_ok-add_told.field-0 c.in-len1-up.len_at_least c.in-len1-up-behind.len_at_least (sym c.is_kind.ensures ∙ c.if-is_kind.false) c.in_ok-add_told.ensures.numbers c.loop-rest.invariant in
    rw c.if-not-branch.false at read
