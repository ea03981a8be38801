use Rattle.lisp_lookup.proofs.IndexLaws.{falls_prefix}
use Rattle.lisp_lookup.proofs.best.first_of.Goals as goal

pub place-requires-clause-falls : goal.place-requires-clause-falls
place-requires-clause-falls g c = falls_prefix c.args.prefix.now c.args.rows.now c.args.by_prefix.now.items c.requires.index.rises
