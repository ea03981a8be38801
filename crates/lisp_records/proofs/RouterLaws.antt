-- The test of routers decides whether they are equal.
use Rattle.std.proofs.Common.{◌≡◌, ap}
use Rattle.std.specs.Bool.{Decides}
use Rattle.std.proofs.lemmas.Bool.Decides.{Decides-eqb, Decides-and}
use Rattle.std.proofs.lemmas.Slice.Eq.{bytes_eq-Decides}
use Rattle.lisp_records.specs.declared.router.RouterId.{RouterId}
use Rattle.lisp_records.specs.Router.{router_eq}

pub router_eq-Decides : (a b : RouterId) → Decides (router_eq a b) (a ≡ b)
router_eq-Decides a b =
    let both = Decides-and _ _ (Decides-eqb a.site b.site) (bytes_eq-Decides a.xtr b.xtr) in
    (λ t. (let e = both.0 t in λ i. record { site = e.0 i; xtr = e.1 i }), λ e. both.1 (ap (λ (x : RouterId). x.site) e, ap (λ (x : RouterId). x.xtr) e))
