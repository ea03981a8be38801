use Rattle.std.proofs.Common.{◌≡◌, ℕ, Option, Some, ap, subst}
use Rattle.std.specs.Option.{option_map}
use Rattle.lisp_lines.specs.Walk.{LooksAt}
use Rattle.lisp_lines.specs.declared.walk.Walk.{Walk}
use Rattle.lisp_records.specs.Row.{RowValue}
use Rattle.lisp_records.specs.declared.router.RouterId.{RouterId}
use Rattle.lisp_statistics.specs.Gathering.{AddsSite}
use Rattle.lisp_statistics.specs.Routers.{AddsRow}
use Rattle.lisp_statistics.proofs.Gathered.{counted_one}
use Rattle.lisp_statistics.proofs.gathering.Gathering.count_next.Goals as goal

pub returns-clause-counts : goal.returns-clause-counts
returns-clause-counts g c =
    let h = c.in-Some.row.now in
    let looks : LooksAt c.args.core.now.rows c.args.self.now.walk c.next.new.self (Some h) = subst (λ o. LooksAt c.args.core.now.rows c.args.self.now.walk c.next.new.self (option_map (λ row. row.now) o)) c.in-Some.is c.next.ensures in
    let router = subst (λ (r : RouterId). AddsRow c.args.self.now.routers c.add_row.new.counts r) (ap (λ (h : RowValue). h.router) c.row.view_is) c.in_ok-add_row.ensures.adds in
    let site = subst (λ (s : ℕ). AddsSite c.args.self.now.known_sites c.add_site.new.known c.args.self.now.sites c.add_site.new.sites s) (ap (λ (h : RowValue). h.router.site) c.row.view_is) c.in_ok-add_site.ensures.adds in
    (h, looks, λ seen was. counted_one c.args.self.now _ h seen was (ap (λ (w : Walk). w.rows) looks.0) router site)
