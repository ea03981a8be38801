use Rattle.std.proofs.Common.{◌<◌, ◌^◌, Bool, subst, rules, arith}
use Rattle.std.specs.String.{string_bytes}
use Rattle.lisp_statistics.specs.RouterList.{PutsRouter, listed_text}
use Rattle.lisp_statistics.proofs.Listed.{nothing_put, line_put, last_put, all_put}
use Rattle.lisp_statistics.proofs.router_list.put_next_routers.Goals as goal

pub loop-count-init : goal.loop-count-init
loop-count-init g c =
    let few : c.args.list.now.lines < 2 ^ 64 = search rules in
    nothing_put (listed_text c.args.config.now) c.args.heard.now.entries c.args.list.now (string_bytes c.args.text.now) few

pub returns-then-not-branch-clause-lines : goal.returns-then-not-branch-clause-lines
returns-then-not-branch-clause-lines g c =
    let heard = c.args.heard.now.entries in
    let text = string_bytes c.loop-count.text in
    let after = string_bytes c.put_next.new.text in
    let router = subst (λ (is_router : Bool). PutsRouter (listed_text c.args.config.now c.loop-count.list.rows) heard c.loop-count.list c.put_next.new.list text after is_router) c.if-not-branch.true c.in_ok-put_next.ensures.line in
    last_put (listed_text c.args.config.now) heard c.args.list.now (string_bytes c.args.text.now) c.loop-count.list c.put_next.new.list text after c.loop-count._count c.loop-count.invariant c.loop-count-test.true router

pub loop-count-preserved : goal.loop-count-preserved
loop-count-preserved g c =
    let heard = c.args.heard.now.entries in
    let text = string_bytes c.loop-count.text in
    let after = string_bytes c.put_next.new.text in
    let router = subst (λ (is_router : Bool). PutsRouter (listed_text c.args.config.now c.loop-count.list.rows) heard c.loop-count.list c.put_next.new.list text after is_router) c.if-not-branch.false c.in_ok-put_next.ensures.line in
    line_put (listed_text c.args.config.now) heard c.args.list.now (string_bytes c.args.text.now) c.loop-count.list c.put_next.new.list text after c.loop-count._count c.loop-count.invariant router

pub returns-clause-lines : goal.returns-clause-lines
returns-clause-lines g c =
    all_put (listed_text c.args.config.now) c.args.heard.now.entries c.args.list.now (string_bytes c.args.text.now) c.loop-count.list (string_bytes c.loop-count.text) c.loop-count._count c.loop-count.invariant (omega (arith, c.loop-count-test.false, c.loop-count.auto._count-end))
