use Rattle.std.proofs.Common.{◌++◌, codes}
use Rattle.std.proofs.lemmas.Result.{err_from_is_err_and, on_err_weaker}
use Rattle.std.specs.Fmt.{decimal}
use Rattle.std.specs.String.{string_bytes}
use Rattle.lisp_lines.proofs.Fronts.{three_1, three_2, three_3}
use Rattle.lisp_lines.proofs.carried.put_record.Goals as goal

pub returns-in_err-put_number-clause-front : goal.returns-in_err-put_number-clause-front
returns-in_err-put_number-clause-front g c =
    let p = err_from_is_err_and c.from_residual.result c.from_residual.ensures.1 in
    rw p.1 (three_1 (string_bytes c.args.text.now) (codes " read " ++ decimal c.args.read) (codes " record " ++ decimal c.args.place) (codes " fault " ++ decimal c.args.fault) _ c.in_err-put_number.ensures.front)

pub returns-in_err-put_number-2-clause-front : goal.returns-in_err-put_number-2-clause-front
returns-in_err-put_number-2-clause-front g c =
    let p = err_from_is_err_and c.from_residual-in_err-put_number-2.result c.from_residual-in_err-put_number-2.ensures.1 in
    rw p.1 (three_2 (string_bytes c.args.text.now) (codes " read " ++ decimal c.args.read) (codes " record " ++ decimal c.args.place) (codes " fault " ++ decimal c.args.fault) _ _ c.in_ok-put_number.ensures.text c.in_err-put_number-2.ensures.front)

pub returns-clause-front : goal.returns-clause-front
returns-clause-front g c =
    on_err_weaker c.put_number-3.result (three_3 (string_bytes c.args.text.now) (codes " read " ++ decimal c.args.read) (codes " record " ++ decimal c.args.place) (codes " fault " ++ decimal c.args.fault) _ _ _ c.in_ok-put_number.ensures.text c.in_ok-put_number-2.ensures.text) c.put_number-3.ensures.front
