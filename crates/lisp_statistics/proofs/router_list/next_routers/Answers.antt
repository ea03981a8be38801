use Rattle.std.proofs.Common.{rules, ◌≡◌, ℕ, List, subst}
use Rattle.std.specs.String.{string_bytes}
use Rattle.lisp_records.specs.declared.router.RouterId.{RouterId}
use Rattle.lisp_statistics.specs.RouterList.{ListsRouters, listed_text}
use Rattle.lisp_statistics.specs.Routers.{heard_text, router_text}
use Rattle.lisp_statistics.specs.declared.hearing.Hearing.{Hearing}
use Rattle.lisp_statistics.proofs.router_list.next_routers.Goals as goal

-- the same lines, with the rows that are each router's
pub returns-clause-rows : goal.returns-clause-rows
returns-clause-rows g c = λ counted counts.
    let config = c.args.config.now in
    let old = c.args.list.now in
    let now = old.rows.walk.moment in
    let same : listed_text config old.rows ≡ heard_text config now counted = λ i h. router_text config now h.0 h.1 (counts h.0 i) in
    let lines : ListsRouters config c.args.number (listed_text config old.rows) c.args.statistics.now.heard.entries c.args.runs.now old c.put_next_routers.new.list (string_bytes c.if-is_last.text) c.in_ok-is_last.is_last = search rules in
    subst
    (λ (shown : RouterId × Hearing → List ℕ). ListsRouters config c.args.number shown c.args.statistics.now.heard.entries c.args.runs.now old c.put_next_routers.new.list (string_bytes c.if-is_last.text) c.in_ok-is_last.is_last)
    same lines
