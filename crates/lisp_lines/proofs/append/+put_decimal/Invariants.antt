use Rattle.lisp_lines.proofs.append.+put_decimal.Given as goal

-- a tenth of the number is left
abbrev pub decreases-put_decimal : goal.decreases-put_decimal
decreases-put_decimal g l = l.number
