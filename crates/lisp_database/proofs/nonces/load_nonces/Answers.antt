use Rattle.std.proofs.Common.{All, subst}
use Rattle.std.proofs.lemmas.Result.{IfOk-weaker}
use Rattle.sqlite.specs.Held.{state}
use Rattle.lisp_database.specs.Columns.{IsTold}
use Rattle.lisp_database.proofs.Listing.{anyhow, unchanged, each_kept}
use Rattle.lisp_database.proofs.nonces.load_nonces.Goals as goal

pub returns-clause-kept : goal.returns-clause-kept
returns-clause-kept g c has clean = IfOk-weaker c.nonces_in.result _ _ (λ nonces told.
    each_kept (state g.S.Store c.args.connection.now) (state g.S.Store c.query_rows.new.connection) c.in_ok-rows.rows.items nonces.items has c.schema-schema.ensures.live (c.in_ok-rows.ensures clean)
    (subst (λ rows. All (IsTold rows) nonces.items) c.as_slice.ensures.value told))
    c.nonces_in.ensures

pub returns-clause-unchanged : goal.returns-clause-unchanged
returns-clause-unchanged g c has clean =
    anyhow c.nonces_in.result _ (unchanged (state g.S.Store c.args.connection.now) (state g.S.Store c.query_rows.new.connection) c.in_ok-rows.rows.items has (c.in_ok-rows.ensures clean))
