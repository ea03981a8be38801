use Rattle.std.specs.Prelude.{length}
use Rattle.lisp_store.proofs.text.+put_digits.Given as goal

abbrev pub decreases-put_digits : goal.decreases-put_digits
decreases-put_digits l = length l.digits.now
