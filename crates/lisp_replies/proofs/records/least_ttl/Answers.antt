use Rattle.std.proofs.Common.{ℕ, ◌+◌, min, Some, None, sym, ap, ◌∙◌, subst}
use Rattle.lisp_records.specs.{Address.IsPrefix, Row.RowValue}
use Rattle.lisp_lookup.proofs.InsideLaws.{is_wider}
use Rattle.lisp_replies.proofs.SeenLaws.{IsWalked, goes_behind, shows_next, walked_none, walked_more, walked_many, walked_all}
use Rattle.lisp_replies.proofs.records.least_ttl.Goals as goal

pub loop-row-init : goal.loop-row-init
loop-row-init g c = (
  c.args.inside.outer,
  (λ i. record { rows = c.args.inside.rows; outer = c.args.inside.outer; moment = c.args.inside.moment; after = c.requires.begun i }),
  subst (λ (n : ℕ). IsWalked c.args.inside.rows c.args.best.now c.args.inside.outer c.args.inside.moment c.args.inside.outer 1 n) (sym (c.ttl-least.ensures ∙ ap (λ (h : RowValue). h.mapping.ttl) c.best.view_is)) (walked_none c.args.inside.rows c.args.best.now c.args.inside.outer c.args.inside.moment),
)

pub returns-then-count-eq-MAX_RECORDS-clause-many : goal.returns-then-count-eq-MAX_RECORDS-clause-many
returns-then-count-eq-MAX_RECORDS-clause-many g c = λ _.
    (let (after, is, walked) = c.loop-row.invariant in
    let all = subst (λ (n : ℕ). IsWalked c.args.inside.rows c.args.best.now c.args.inside.outer c.args.inside.moment after n c.loop-row.least) c.if-count-eq-MAX_RECORDS.true walked in
    walked_many c.args.inside.rows c.args.best.now c.args.inside.outer c.args.inside.moment after c.loop-row.least c.in-Some.row.now c.requires.one_each all (shows_next c.loop-row.inside (Some c.in-Some.row.now) is c.in-Some.ensures.next))

pub returns-then-count-eq-MAX_RECORDS-clause-inner : goal.returns-then-count-eq-MAX_RECORDS-clause-inner
returns-then-count-eq-MAX_RECORDS-clause-inner g c = λ _.
    (let (after, is, walked) = c.loop-row.invariant in
    let eid = c.eid_ref.ensures ∙ ap (λ (h : RowValue). h.mapping.eid) c.row.view_is in
    let next = shows_next c.loop-row.inside (Some c.in-Some.row.now) is c.in-Some.ensures.next in
    is_wider c.args.inside.outer c.in-Some.row.now.mapping.eid next.inside (subst IsPrefix eid c.addr-first.ensures.block))

pub loop-row-preserved : goal.loop-row-preserved
loop-row-preserved g c =
    let (after, is, walked) = c.loop-row.invariant in
    let least = c.min-least.ensures ∙ ap (min c.loop-row.least) (c.ttl.ensures ∙ ap (λ (h : RowValue). h.mapping.ttl) c.row.view_is) in
    let next = shows_next c.loop-row.inside (Some c.in-Some.row.now) is c.in-Some.ensures.next in (
      c.in-Some.row.now.mapping.eid,
      c.in-Some.ensures.moved ∙ goes_behind c.loop-row.inside c.in-Some.row.now is,
      subst (λ (n : ℕ). IsWalked c.args.inside.rows c.args.best.now c.args.inside.outer c.args.inside.moment c.in-Some.row.now.mapping.eid (c.loop-row.count + 1) n) (sym least)
          (walked_more c.args.inside.rows c.args.best.now c.args.inside.outer c.args.inside.moment after c.loop-row.count c.loop-row.least c.in-Some.row.now walked next c.if-count-eq-MAX_RECORDS.false),
    )

pub returns-clause-least : goal.returns-clause-least
returns-clause-least g c =
    let (after, is, walked) = c.loop-row.invariant in
    walked_all c.args.inside.rows c.args.best.now c.args.inside.outer c.args.inside.moment after c.loop-row.count c.loop-row.least c.requires.one_each walked (shows_next c.loop-row.inside None is c.in_default.ensures.next)
