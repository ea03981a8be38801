use Rattle.std.proofs.Common.{Bool}
use Rattle.std.proofs.lemmas.Result.{IfOk-weaker}
use Rattle.lisp_statistics.proofs.Gathered.{stays_exact}
use Rattle.lisp_statistics.proofs.gathering.Gathering.gather.Goals as goal

pub returns-clause-exact : goal.returns-clause-exact
returns-clause-exact g c =
    IfOk-weaker c.count_rows.result _ _ (λ (is_end : Bool) gathers. stays_exact c.args.core.now.rows c.args.self.now c.count_rows.new.self is_end gathers) c.count_rows.ensures.counts
