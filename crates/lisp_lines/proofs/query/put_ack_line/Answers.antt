use Rattle.std.proofs.Common.{[], ◌∷◌, codes}
use Rattle.std.proofs.lemmas.Result.{err_from_is_err_and, on_ok_weaker, on_err_weaker}
use Rattle.std.specs.String.{string_bytes}
use Rattle.lisp_lines.specs.Line.{pair_text, part_text}
use Rattle.lisp_lines.specs.Query.{counted_words}
use Rattle.lisp_lines.proofs.Fronts.{five, five_1, five_2, five_3, five_4, five_5}
use Rattle.lisp_lines.proofs.query.put_ack_line.Goals as goal

pub returns-clause-text : goal.returns-clause-text
returns-clause-text g c =
    rw (← c.node_name-router.ensures, ← c.node_name-server.ensures) (
    on_ok_weaker c.put_words-2.result
    (five (string_bytes c.args.text.now) (codes "acks ") (pair_text c.node_name-router.result.now c.node_name-server.result.now) (part_text c.args.part) (counted_words c.args.counted) (10 ∷ []) _ _ _ _ _ c.in_ok-put_words.ensures.text c.in_ok-put_pair.ensures.text c.in_ok-put_part.ensures.text c.in_ok-put_counted.ensures.text)
    c.put_words-2.ensures.text
    )

pub returns-in_err-put_words-clause-front : goal.returns-in_err-put_words-clause-front
returns-in_err-put_words-clause-front g c =
    let p = err_from_is_err_and c.from_residual.result c.from_residual.ensures.1 in
    rw (p.1, ← c.node_name-router.ensures, ← c.node_name-server.ensures) (
    five_1 (string_bytes c.args.text.now) (codes "acks ") (pair_text c.node_name-router.result.now c.node_name-server.result.now) (part_text c.args.part) (counted_words c.args.counted) (10 ∷ []) _
    c.in_err-put_words.ensures.front
    )

pub returns-in_err-put_pair-clause-front : goal.returns-in_err-put_pair-clause-front
returns-in_err-put_pair-clause-front g c =
    let p = err_from_is_err_and c.from_residual-in_err-put_pair.result c.from_residual-in_err-put_pair.ensures.1 in
    rw (p.1, ← c.node_name-router.ensures, ← c.node_name-server.ensures) (
    five_2 (string_bytes c.args.text.now) (codes "acks ") (pair_text c.node_name-router.result.now c.node_name-server.result.now) (part_text c.args.part) (counted_words c.args.counted) (10 ∷ []) _ _
    c.in_ok-put_words.ensures.text c.in_err-put_pair.ensures.front
    )

pub returns-in_err-put_part-clause-front : goal.returns-in_err-put_part-clause-front
returns-in_err-put_part-clause-front g c =
    let p = err_from_is_err_and c.from_residual-in_err-put_part.result c.from_residual-in_err-put_part.ensures.1 in
    rw (p.1, ← c.node_name-router.ensures, ← c.node_name-server.ensures) (
    five_3 (string_bytes c.args.text.now) (codes "acks ") (pair_text c.node_name-router.result.now c.node_name-server.result.now) (part_text c.args.part) (counted_words c.args.counted) (10 ∷ []) _ _ _
    c.in_ok-put_words.ensures.text c.in_ok-put_pair.ensures.text c.in_err-put_part.ensures.front
    )

pub returns-in_err-put_counted-clause-front : goal.returns-in_err-put_counted-clause-front
returns-in_err-put_counted-clause-front g c =
    let p = err_from_is_err_and c.from_residual-in_err-put_counted.result c.from_residual-in_err-put_counted.ensures.1 in
    rw (p.1, ← c.node_name-router.ensures, ← c.node_name-server.ensures) (
    five_4 (string_bytes c.args.text.now) (codes "acks ") (pair_text c.node_name-router.result.now c.node_name-server.result.now) (part_text c.args.part) (counted_words c.args.counted) (10 ∷ []) _ _ _ _
    c.in_ok-put_words.ensures.text c.in_ok-put_pair.ensures.text c.in_ok-put_part.ensures.text c.in_err-put_counted.ensures.front
    )

pub returns-clause-front : goal.returns-clause-front
returns-clause-front g c =
    rw (← c.node_name-router.ensures, ← c.node_name-server.ensures) (
    on_err_weaker c.put_words-2.result
    (five_5 (string_bytes c.args.text.now) (codes "acks ") (pair_text c.node_name-router.result.now c.node_name-server.result.now) (part_text c.args.part) (counted_words c.args.counted) (10 ∷ []) _ _ _ _ _ c.in_ok-put_words.ensures.text c.in_ok-put_pair.ensures.text c.in_ok-put_part.ensures.text c.in_ok-put_counted.ensures.text)
    c.put_words-2.ensures.front
    )
