use Rattle.std.proofs.Common.{◌<◌, ◌^◌, Bool, subst, rules, arith}
use Rattle.std.specs.String.{string_bytes}
use Rattle.lisp_lines.specs.Listing.{PutsRow}
use Rattle.lisp_lines.proofs.Rows.{nothing_put, line_put, last_put, all_put}
use Rattle.lisp_lines.proofs.Walking.{none_taken}
use Rattle.lisp_lines.proofs.listing.put_rows.Goals as goal

pub loop-count-init : goal.loop-count-init
loop-count-init g c =
    let few : c.args.walk.now.rows < 2 ^ 64 = search rules in
    nothing_put c.args.config.now c.args.core.now.rows c.args.walk.now (string_bytes c.args.text.now) (none_taken c.args.core.now.rows c.args.walk.now few)

pub returns-then-not-branch-clause-lines : goal.returns-then-not-branch-clause-lines
returns-then-not-branch-clause-lines g c =
    let text = string_bytes c.loop-count.text in
    let after = string_bytes c.put_next.new.text in
    let row = subst (λ (is_row : Bool). PutsRow c.args.config.now c.args.core.now.rows c.loop-count.walk c.put_next.new.walk text after is_row) c.if-not-branch.true c.in_ok-put_next.ensures.line in
    last_put c.args.config.now c.args.core.now.rows c.args.walk.now c.loop-count.walk c.put_next.new.walk (string_bytes c.args.text.now) text after c.loop-count._count
    c.loop-count.invariant c.loop-count-test.true row

pub loop-count-preserved : goal.loop-count-preserved
loop-count-preserved g c =
    let text = string_bytes c.loop-count.text in
    let after = string_bytes c.put_next.new.text in
    let row = subst (λ (is_row : Bool). PutsRow c.args.config.now c.args.core.now.rows c.loop-count.walk c.put_next.new.walk text after is_row) c.if-not-branch.false c.in_ok-put_next.ensures.line in
    line_put c.args.config.now c.args.core.now.rows c.args.walk.now c.loop-count.walk c.put_next.new.walk (string_bytes c.args.text.now) text after c.loop-count._count
    c.loop-count.invariant row

pub returns-clause-lines : goal.returns-clause-lines
returns-clause-lines g c =
    all_put c.args.config.now c.args.core.now.rows c.args.walk.now c.loop-count.walk (string_bytes c.args.text.now) (string_bytes c.loop-count.text) c.loop-count._count c.loop-count.invariant (omega (arith, c.loop-count-test.false, c.loop-count.auto._count-end))
