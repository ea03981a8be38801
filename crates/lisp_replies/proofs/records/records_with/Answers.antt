use Rattle.std.proofs.Common.{[], inl, inr, ◌+◌, List, Some, None, ◌∷◌, ◌++◌, length, ap, sym, ◌∙◌, subst, arith, length-append}
use Rattle.lisp_records.specs.Record.{MapRecordValue}
use Rattle.lisp_records.specs.Row.{RowValue}
use Rattle.lisp_records.specs.Address.{PrefixValue, IsPrefix}
use Rattle.lisp_records.proofs.Cuts.{fits_is}
use Rattle.lisp_lookup.specs.Replies.{record_of}
use Rattle.lisp_lookup.proofs.Apart.{on_either}
use Rattle.lisp_lookup.proofs.CachedLaws.{its_eid}
use Rattle.lisp_lookup.proofs.InsideLaws.{is_wider}
use Rattle.lisp_replies.proofs.SeenLaws.{AreMade, goes_behind, shows_next, made_one, made_more, made_many, made_all}
use Rattle.lisp_replies.proofs.records.records_with.Goals as goal

pub loop-row-init : goal.loop-row-init
loop-row-init g c =
    let items = c.in_ok-try_push.ensures.items ∙ ap (λ (l : List MapRecordValue). l ++ c.in_ok-first.first ∷ []) c.new-records.ensures.items in (
      c.args.eid.now,
      (λ i. record { rows = c.args.inside.rows; outer = c.requires.begun.0 i; moment = c.args.inside.moment; after = c.requires.begun.1 i }),
      subst (λ (l : List MapRecordValue). AreMade c.args.inside.rows c.args.best.now c.args.eid.now c.args.inside.moment c.args.ttl c.args.eid.now l c.written_len-size.result) (sym items)
          (made_one c.args.inside.rows c.args.best.now c.args.eid.now c.args.inside.moment c.args.ttl c.in_ok-first.first c.written_len-size.result c.in_ok-first.ensures.record c.written_len-size.ensures.len c.written_len-size.ensures.small),
    )

pub overflow_add-size : goal.overflow_add-size
overflow_add-size g c =
    let (after, is, made) = c.loop-row.invariant in
    omega (arith, made.counted, (fits_is c.loop-row.records.items made.fit).1, c.written_len-size-in-Some.ensures.small)

pub returns-then-len-eq-MAX_RECORDS-clause-unfit : goal.returns-then-len-eq-MAX_RECORDS-clause-unfit
returns-then-len-eq-MAX_RECORDS-clause-unfit g c = λ _.
    (let (after, at, made) = c.loop-row.invariant in
    let eid = c.eid_ref.ensures ∙ ap (λ (h : RowValue). h.mapping.eid) c.row.view_is in
    let is = c.in_ok-record.ensures.record ∙ ap (λ (e : PrefixValue). record_of c.args.ttl e c.in-Some.row.now) eid in
    made_many c.args.inside.rows c.args.best.now c.args.eid.now c.args.inside.moment c.args.ttl after c.loop-row.records.items c.loop-row.size c.in-Some.row.now c.in_ok-record.record c.written_len-size-in-Some.result made (shows_next c.loop-row.inside (Some c.in-Some.row.now) at c.in-Some.ensures.next) is c.written_len-size-in-Some.ensures.len c.requires.one_each (on_either c.then-len-eq-MAX_RECORDS.either
    (λ long. inl (omega (arith, c.loop-row.records.ok, c.len.ensures, long))) (λ (few, large). inr large)))

pub returns-then-len-eq-MAX_RECORDS-clause-inner : goal.returns-then-len-eq-MAX_RECORDS-clause-inner
returns-then-len-eq-MAX_RECORDS-clause-inner g c = λ _.
    (let (after, at, made) = c.loop-row.invariant in
    let eid = c.eid_ref.ensures ∙ ap (λ (h : RowValue). h.mapping.eid) c.row.view_is in
    let is = ap (λ (r : MapRecordValue). r.eid) (c.record.view_is ∙ c.in_ok-record.ensures.record) ∙ its_eid c.args.ttl c.eid_ref.result.now c.in-Some.row.now ∙ eid in
    let next = shows_next c.loop-row.inside (Some c.in-Some.row.now) at c.in-Some.ensures.next in
    is_wider c.args.eid.now c.in-Some.row.now.mapping.eid next.inside (subst IsPrefix is c.record.invariant.block))

pub loop-row-smaller : goal.loop-row-smaller
loop-row-smaller g c =
    let (after, at, made) = c.loop-row.invariant in
    omega (arith, c.loop-row.records.ok, ap length c.in_ok-try_push-2.ensures.items, length-append c.loop-row.records.items (c.in_ok-record.record ∷ []), c.if-len-eq-MAX_RECORDS.false, c.len.ensures, (fits_is c.loop-row.records.items made.fit).0)

pub loop-row-preserved : goal.loop-row-preserved
loop-row-preserved g c =
    let (after, at, made) = c.loop-row.invariant in
    let eid = c.eid_ref.ensures ∙ ap (λ (h : RowValue). h.mapping.eid) c.row.view_is in
    let is = c.in_ok-record.ensures.record ∙ ap (λ (e : PrefixValue). record_of c.args.ttl e c.in-Some.row.now) eid in
    let next = shows_next c.loop-row.inside (Some c.in-Some.row.now) at c.in-Some.ensures.next in (
      c.in-Some.row.now.mapping.eid,
      c.in-Some.ensures.moved ∙ goes_behind c.loop-row.inside c.in-Some.row.now at,
      subst (λ (l : List MapRecordValue). AreMade c.args.inside.rows c.args.best.now c.args.eid.now c.args.inside.moment c.args.ttl c.in-Some.row.now.mapping.eid l (c.loop-row.size + c.written_len-size-in-Some.result)) (sym c.in_ok-try_push-2.ensures.items)
          (made_more c.args.inside.rows c.args.best.now c.args.eid.now c.args.inside.moment c.args.ttl after c.loop-row.records.items c.loop-row.size c.in-Some.row.now c.in_ok-record.record c.written_len-size-in-Some.result made next is c.written_len-size-in-Some.ensures.len (λ long. c.if-len-eq-MAX_RECORDS.false (omega (arith, c.loop-row.records.ok, c.len.ensures, long))) (omega (arith, c.if-size-gt-MAX_SIZE.false))),
    )

pub returns-clause-fit : goal.returns-clause-fit
returns-clause-fit g c =
    let (after, at, made) = c.loop-row.invariant in
    made_all c.args.inside.rows c.args.best.now c.args.eid.now c.args.inside.moment c.args.ttl after c.loop-row.records.items c.loop-row.size made (shows_next c.loop-row.inside None at c.in_default.ensures.next)
