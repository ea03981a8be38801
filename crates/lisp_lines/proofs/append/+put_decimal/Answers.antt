use Rattle.std.proofs.lemmas.Result.{err_from_is_err_and, on_ok_weaker, on_err_weaker}
use Rattle.lisp_lines.proofs.Fronts.{one_digit, more_digits, front_digits, last_digit}
use Rattle.lisp_lines.proofs.append.+put_decimal.Goals as goal

pub returns-then-number-lt10-clause-text : goal.returns-then-number-lt10-clause-text
returns-then-number-lt10-clause-text g t c = on_ok_weaker c.put_digit.result (one_digit c.args.number _ _ c.if-number-lt10.true) c.put_digit.ensures.text

pub returns-in_err-put_decimal-clause-front : goal.returns-in_err-put_decimal-clause-front
returns-in_err-put_decimal-clause-front g t c =
    let p = err_from_is_err_and c.from_residual.result c.from_residual.ensures.1 in
    rw p.1 (front_digits c.args.number _ c.if-number-lt10.false c.ranges.number.fits _ c.in_err-put_decimal.ensures.front)

pub returns-clause-text : goal.returns-clause-text
returns-clause-text g t c = on_ok_weaker c.put_digit-2.result (more_digits c.args.number _ c.if-number-lt10.false c.ranges.number.fits _ _ c.in_ok-put_decimal.ensures.text) c.put_digit-2.ensures.text

pub returns-clause-front : goal.returns-clause-front
returns-clause-front g t c = on_err_weaker c.put_digit-2.result (last_digit c.args.number _ c.if-number-lt10.false c.ranges.number.fits _ _ c.in_ok-put_decimal.ensures.text) c.put_digit-2.ensures.same
