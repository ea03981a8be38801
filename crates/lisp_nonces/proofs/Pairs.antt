-- The order of pairs is total, and only equal pairs tie.
use Rattle.std.proofs.Common.{◌≡◌, ap, sym, ◌∙◌}
use Rattle.std.specs.Cmp.{IsTotalOrder, on_total, then_total, nat_cmp_total}
use Rattle.std.specs.Cmp.Lexicographic.{slice_cmp, nat_list_cmp_total}
use Rattle.std.specs.Ordering.{nat_cmp, ordering_then}
use Rattle.std.specs.declared.cmp.Ordering.TheVariants.{Equal}
use Rattle.std.proofs.lemmas.Map.Lookups.{exact_pairs, exact_unsigned, exact_bytes}
use Rattle.lisp_records.specs.declared.router.RouterId.{RouterId}
use Rattle.lisp_records.specs.Router.{router_cmp}
use Rattle.lisp_nonces.specs.declared.pair.Pair.{Pair}
use Rattle.lisp_nonces.specs.Pair.{kind_number, pair_cmp, parts, from_parts, again}

router_total : IsTotalOrder router_cmp
router_total = then_total (on_total (λ (r : RouterId). r.site) nat_cmp_total) (on_total (λ (r : RouterId). r.xtr) nat_list_cmp_total)

pub pair_total : IsTotalOrder pair_cmp
pair_total = then_total (on_total (λ (p : Pair). kind_number p.kind) nat_cmp_total) (then_total (on_total (λ (p : Pair). p.router) router_total) (on_total (λ (p : Pair). p.key) nat_cmp_total))

-- only equal pairs tie
pub same_pair : (p q : Pair) → pair_cmp p q ≡ Equal → p ≡ q
same_pair p q tie =
    let routers = exact_pairs nat_cmp (slice_cmp nat_cmp) exact_unsigned exact_bytes in
    let others = exact_pairs (λ x y. ordering_then (nat_cmp x.0 y.0) (slice_cmp nat_cmp x.1 y.1)) nat_cmp routers exact_unsigned in
    let equal = exact_pairs nat_cmp (λ x y. ordering_then (ordering_then (nat_cmp x.0.0 y.0.0) (slice_cmp nat_cmp x.0.1 y.0.1)) (nat_cmp x.1 y.1)) exact_unsigned others (parts p) (parts q) tie in
    sym (again p) ∙ ap from_parts equal ∙ again q
