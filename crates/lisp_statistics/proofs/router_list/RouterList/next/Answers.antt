use Rattle.std.proofs.Common.{◌≡◌, ◌∷◌, ℕ, List, ap, sym, ◌∙◌}
use Rattle.std.specs.BTreeMap.Range.{entries_between}
use Rattle.std.specs.declared.ops.Bound.TheVariants.{Excluded, Unbounded}
use Rattle.lisp_lookup.proofs.Orders.{router_total}
use Rattle.lisp_records.specs.declared.router.RouterId.{RouterId}
use Rattle.lisp_records.specs.Router.{router_cmp}
use Rattle.lisp_statistics.specs.declared.hearing.Hearing.{Hearing}
use Rattle.lisp_statistics.proofs.Listed.{past_first}
use Rattle.lisp_statistics.proofs.router_list.RouterList.next.Goals as goal

pub returns : goal.returns
returns g c =
    let old = c.args.self.now in
    let heard = c.args.heard.now.entries in
    let first : RouterId × Hearing = (c.in_ok-router.router.now, c.in_ok-router.hearing.now) in
    let those : entries_between router_cmp old.left Unbounded heard ≡ first ∷ c.next.new.self = sym (c.range.ensures.between tt) ∙ c.in_ok-router.ensures.steps in (
      ap (λ (n : ℕ). record old { left = Excluded first.0; lines = n }) c.saturating_add-self.ensures,
      those ∙ ap (λ (t : List (RouterId × Hearing)). first ∷ t) (sym (past_first router_total old.left first heard c.next.new.self c.range.ensures.ordered those)),
    )
