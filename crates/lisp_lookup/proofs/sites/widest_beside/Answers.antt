use Rattle.std.proofs.Common.{ℕ, sym, ◌∙◌, subst}
use Rattle.lisp_lookup.specs.Hole.{IsWidest, KeepsBeside}
use Rattle.lisp_lookup.proofs.SitesLaws.{beside_in}
use Rattle.lisp_lookup.proofs.sites.widest_beside.Goals as goal

pub returns-then-contains-clause-widest : goal.returns-then-contains-clause-widest
returns-then-contains-clause-widest c = subst (λ (n : ℕ). IsWidest (KeepsBeside c.args.of_site.now c.args.addr.now c.args.configured) c.args.addr.now n) (sym c.mask_len.ensures) (beside_in c.args.of_site.now c.args.addr.now c.args.configured c.requires (sym c.contains.ensures.test ∙ c.if-contains.true))
