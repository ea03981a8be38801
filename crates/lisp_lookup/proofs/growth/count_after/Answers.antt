use Rattle.lisp_lookup.proofs.GrowthLaws.{count_after}
use Rattle.lisp_lookup.proofs.growth.count_after.Goals as goal

pub returns : goal.returns
returns g c = count_after c.args.rows.now c.args.given.now c.args.site c.args.now c.count_kept.result c.count_last.result c.saturating_add.result c.count_kept.ensures c.count_last.ensures c.saturating_add.ensures
