use Rattle.std.proofs.Common.{map, [], ◌∷◌, refl, sym, ap, ◌∙◌}
use Rattle.std.proofs.lemmas.Iterator.Adapters.{YieldsList-from_vec}
use Rattle.std.proofs.lemmas.Iterator.Consumers.{YieldsList-end}
use Rattle.std.proofs.lemmas.List.{map-id, map-append}
use Rattle.std.proofs.lemmas.Result.{IfOk-from_err}
use Rattle.lisp_server.specs.AcceptedRows.{row_of}
use Rattle.lisp_server.proofs.ReceivingLaws.{on_err}
use Rattle.lisp_server.proofs.accepted_rows.Origin.rows.Goals as goal

pub returns-in_err-make_room_for-clause-rows : goal.returns-in_err-make_room_for-clause-rows
returns-in_err-make_room_for-clause-rows g c = IfOk-from_err _ _ c.from_residual.ensures.0

pub returns-in_err-make_room_for-clause-memory : goal.returns-in_err-make_room_for-clause-memory
returns-in_err-make_room_for-clause-memory g c = on_err _ _ c.in_err-make_room_for.ensures.refused

pub returns-in_err-try_push-clause-rows : goal.returns-in_err-try_push-clause-rows
returns-in_err-try_push-clause-rows g c = IfOk-from_err _ _ c.from_residual-in_err-try_push.ensures.0

pub returns-in_err-try_push-clause-memory : goal.returns-in_err-try_push-clause-memory
returns-in_err-try_push-clause-memory g c = on_err _ _ c.in_err-try_push.ensures.refused

pub loop-mapping-preserved : goal.loop-mapping-preserved
loop-mapping-preserved g c = rw (c.in_ok-try_push.ensures.items, c.loop-mapping.invariant, c.row.ensures, map-append (row_of c.args.self.now) c.loop-mapping.yielded (c.in-Some.mapping ∷ [])) refl

pub returns-clause-rows : goal.returns-clause-rows
returns-clause-rows g c =
    let gives = c.into_iter-mapping-iterator.ensures.into_iter_gives in
    let end = YieldsList-end (YieldsList-from_vec c.args.records.items gives.0 (gives.1 ∙ c.args.records.ok.0)) c.loop-mapping.yielded c.loop-mapping.mapping-iterator c.loop-mapping.yielded_by
    c.next.result c.next.new.self c.in-None.is c.next.ensures.steps in
    c.loop-mapping.invariant ∙ ap (map (row_of c.args.self.now)) (sym (map-id c.loop-mapping.yielded) ∙ end.0)
