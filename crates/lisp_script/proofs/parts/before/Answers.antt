use Rattle.lisp_script.proofs.PartsLemmas.{before_rest}
use Rattle.lisp_script.proofs.parts.before.Goals as goal

pub split_at-requires : goal.split_at-requires
split_at-requires c = before_rest c.args.text.now c.args.rest.now c.requires c.utf8.rest
