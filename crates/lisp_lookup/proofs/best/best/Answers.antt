use Rattle.std.proofs.Common.{◌*◌, ap, ◌∙◌, subst}
use Rattle.std.specs.Option.{option_map}
use Rattle.lisp_records.specs.Address.{PrefixValue, width, prefix_around}
use Rattle.lisp_records.specs.declared.address.Family.{Family}
use Rattle.lisp_lookup.specs.Covering.{IsBestForOf}
use Rattle.lisp_lookup.proofs.BestLaws.{alone_best}
use Rattle.lisp_lookup.proofs.best.best.Goals as goal

pub returns : goal.returns
returns g c =
    let long = c.max_mask_len.ensures ∙ ap (λ (f : Family). 8 * width f) c.family.ensures in
    let alone = c.in_ok-alone.ensures.value ∙ ap (prefix_around c.args.addr.now) long in
    alone_best c.args.rows.now c.requires.eids c.args.addr.now c.octets-octets.ensures.whole c.args.now (option_map (λ row. row.now) c.best_for.result) (subst (λ (b : PrefixValue). IsBestForOf c.args.rows.now b c.args.now (option_map (λ row. row.now) c.best_for.result)) alone c.best_for.ensures)
