use Rattle.std.proofs.Common.{◌≡◌, ◌∷◌, List, false, refl, ◌∙◌, subst}
use Rattle.std.proofs.lemmas.Result.{IfOk-weaker}
use Rattle.lisp_records.specs.{Parts.fits_message, Row.RowValue}
use Rattle.lisp_lookup.specs.Inside.{AreInside, InsideValue}
use Rattle.lisp_lookup.specs.Replies.{IsLeastTtl}
use Rattle.lisp_replies.specs.Walk.{HasMoreThan, records_of}
use Rattle.lisp_replies.proofs.SeenLaws.{many_unfit, unfit_for}
use Rattle.lisp_replies.proofs.records.records_for.Goals as goal

pub returns-in-Some-clause-unfit : goal.returns-in-Some-clause-unfit
returns-in-Some-clause-unfit g c =
    let least = subst (λ (w : InsideValue). (rows : List RowValue) → AreInside w.rows w.outer w.moment rows → IsLeastTtl (c.args.best.now ∷ rows) c.in-Some.ttl) (c.again.ensures ∙ c.inside-inside.ensures) c.in-Some.ensures.least in
    IfOk-weaker c.records_with.result _ _ (λ found unfit none. unfit_for c.args.table.now.rows c.args.best.now c.args.eid.now c.args.now c.in-Some.ttl least
    (subst (λ (w : InsideValue). (rows : List RowValue) → AreInside w.rows c.args.eid.now w.moment rows → fits_message (records_of c.in-Some.ttl c.args.eid.now c.args.best.now rows) ≡ false) c.inside-inside.ensures (unfit none))) c.records_with.ensures.unfit

pub returns-in-None-clause-unfit : goal.returns-in-None-clause-unfit
returns-in-None-clause-unfit g c = λ _. many_unfit c.args.table.now.rows c.args.best.now c.args.eid.now c.args.now (subst (λ (w : InsideValue). HasMoreThan 254 w.rows w.outer w.moment) (c.again.ensures ∙ c.inside-inside.ensures) (c.in-None.ensures.many refl))
