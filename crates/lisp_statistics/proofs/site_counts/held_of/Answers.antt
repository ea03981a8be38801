use Rattle.std.proofs.Common.{◌≡◌, ℕ, length, arith, List, [], ap, ◌∙◌}
use Rattle.std.specs.List.{sum_by}
use Rattle.lisp_records.specs.declared.router.RouterId.{RouterId}
use Rattle.lisp_statistics.specs.SiteCounts.{routers_of, site_rows, site_routers}
use Rattle.lisp_statistics.proofs.site_counts.held_of.Goals as goal

pub loop-more-init : goal.loop-more-init
loop-more-init g c =
    let all : c.into_iter-more-iterator.result ≡ routers_of c.args.counts.now.entries c.args.site = c.into_iter-more-iterator.ensures.into_iter_gives ∙ c.range-more-items.ensures.between tt in
    let rows = ap (λ (es : List (RouterId × ℕ)). sum_by (λ e. e.1) es) all in
    let routers = ap (λ (es : List (RouterId × ℕ)). length es) all in
    record { rows = omega (arith, rows); routers = omega (arith, routers); few_rows = omega arith; few_routers = omega arith }

pub returns : goal.returns
returns g c =
    let none : c.loop-more.more-iterator ≡ [] = c.in-None.ensures.steps.0 in
    let no_rows : sum_by (λ e. e.1) c.loop-more.more-iterator ≡ 0 = ap (λ (es : List (RouterId × ℕ)). sum_by (λ e. e.1) es) none in
    let no_routers : length c.loop-more.more-iterator ≡ 0 = ap (λ (es : List (RouterId × ℕ)). length es) none in
    let rows : c.loop-more.rows ≡ site_rows c.args.counts.now.entries c.args.site = omega (arith, no_rows, c.loop-more.invariant.rows, c.loop-more.invariant.few_rows) in
    let routers : c.loop-more.routers ≡ site_routers c.args.counts.now.entries c.args.site = omega (arith, no_routers, c.loop-more.invariant.routers, c.loop-more.invariant.few_routers) in
    λ i. record { rows = rows i; routers = routers i }
