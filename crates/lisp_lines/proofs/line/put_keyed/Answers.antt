use Rattle.std.proofs.Common.{◌++◌, List, ℕ, codes, sym, subst, append_assoc}
use Rattle.std.proofs.lemmas.Result.{err_from_is_err_and, on_err_weaker}
use Rattle.std.specs.Fmt.{decimal}
use Rattle.std.specs.String.{string_bytes}
use Rattle.lisp_lines.specs.Front.{LeavesFront}
use Rattle.lisp_lines.proofs.Fronts.{three_1, two_2}
use Rattle.lisp_lines.proofs.line.put_keyed.Goals as goal

pub returns-in_err-put_key-clause-front : goal.returns-in_err-put_key-clause-front
returns-in_err-put_key-clause-front g c =
    let p = err_from_is_err_and c.from_residual.result c.from_residual.ensures.1 in
    rw p.1 (three_1 (string_bytes c.args.text.now) (codes " key " ++ decimal c.args.key) (codes " nonce ") (decimal c.args.nonce) _ c.in_err-put_key.ensures.front)

pub returns-clause-front : goal.returns-clause-front
returns-clause-front g c =
    let old = string_bytes c.args.text.now in
    let key = codes " key " ++ decimal c.args.key in
    let nonce = codes " nonce " ++ decimal c.args.nonce in
    let new = string_bytes c.put_number.new.text in
    on_err_weaker c.put_number.result
    (λ leaves. subst (λ (t : List ℕ). LeavesFront old new t) (sym (append_assoc key (codes " nonce ") (decimal c.args.nonce))) (two_2 old key nonce _ new c.in_ok-put_key.ensures.text leaves))
    c.put_number.ensures.front
