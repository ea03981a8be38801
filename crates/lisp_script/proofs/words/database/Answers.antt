use Rattle.lisp_script.proofs.Records.{only_empty}
use Rattle.lisp_script.proofs.words.database.Goals as goal

pub returns-in-len1 : goal.returns-in-len1
returns-in-len1 g c = rw (only_empty c.args.words.now _ c.in-len1.len_at_least c.in-len1.len_below c.if-eq.ensures) c.some_records.ensures
