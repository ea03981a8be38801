use Rattle.std.proofs.Common.{sym, ap, ◌∙◌}
use Rattle.std.specs.Prelude.{ok_or}
use Rattle.std.specs.Result.{result_ok}
use Rattle.std.proofs.lemmas.Result.{err_from_is_err_and}
use Rattle.toml.specs.View.{view}
use Rattle.lisp_sites.specs.declared.field.Field.TheVariants as fields
use Rattle.lisp_sites.specs.declared.fault.ConfigFault.TheVariants.{BadValue}
use Rattle.lisp_sites.specs.Table.{placed_nowhere}
use Rattle.lisp_sites.proofs.Databases.{of_records, of_none}
use Rattle.lisp_sites.proofs.router.read_database.Goals as goal

pub returns-in_err-records-clause-gives : goal.returns-in_err-records-clause-gives
returns-in_err-records-clause-gives g c =
    let p = err_from_is_err_and c.from_residual.result c.from_residual.ensures.1 in
    rw (p.1, p.2) (of_none (view c.args.entry.now) _ c.in_err-records.field-0.0.fault c.in_err-records.field-0.0.place c.new.ensures.items c.in_err-records.ensures.gives)

pub returns-in-Ok-clause-gives : goal.returns-in-Ok-clause-gives
returns-in-Ok-clause-gives g c = of_records (view c.args.entry.now) _ _ c.new.ensures.items c.in_ok-records.ensures.gives ∙ ap (λ r. placed_nowhere (ok_or (result_ok r) (BadValue fields.RouterRecords))) (sym c.in-Ok.ensures.exact)

pub returns-in-Err-clause-gives : goal.returns-in-Err-clause-gives
returns-in-Err-clause-gives g c =
    rw (c.from.ensures) (of_records (view c.args.entry.now) _ _ c.new.ensures.items c.in_ok-records.ensures.gives ∙ ap (λ r. placed_nowhere (ok_or (result_ok r) (BadValue fields.RouterRecords))) (sym c.in-Err.ensures.exact))
