use Rattle.lisp_records.proofs.FitLaws.{record_fits}
use Rattle.lisp_records.proofs.laws.spelt_records_fit.Goals as goal

pub returns : goal.returns
returns c = record_fits
