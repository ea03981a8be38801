use Rattle.std.proofs.Common.{◌≡◌, ◌+◌, List, drop, sym, ap, subst, ◌∙◌}
use Rattle.std.specs.List.{filter}
use Rattle.lisp_records.specs.Row.{RowValue, is_alive}
use Rattle.lisp_lookup.specs.Table.{IsNextLive, live_from}
use Rattle.lisp_lookup.proofs.LiveLaws.{none_at_place, next_is, rest_of}
use Rattle.lisp_lookup.proofs.table.Table.next_live.Goals as goal

pub returns-in_default : goal.returns-in_default
returns-in_default g c =
    let rest : c.in_ok-rest.rest.now ≡ drop c.args.place c.deref.result.now = c.in_ok-rest.ensures.lookup.0.2 ∙ rest_of c.deref.result.now c.args.place c.in_ok-rest.ensures.lookup.0.0 in
    let none : filter (λ h. is_alive h c.args.now) c.in_ok-rest.rest.now ≡ _ = none_at_place (λ h. is_alive h c.args.now) c.in_ok-rest.rest.now (sym c.in_default.ensures.place) in
    subst (λ (rows : List RowValue). live_from rows c.args.place c.args.now ≡ _) (c.deref.ensures.value ∙ ap (λ s. s.rows) c.self.view_is) (subst (λ (xs : List RowValue). filter (λ h. is_alive h c.args.now) xs ≡ _) rest none)

pub returns : goal.returns
returns g c =
    let rest : c.in_ok-rest.rest.now ≡ drop c.args.place c.deref.result.now = c.in_ok-rest.ensures.lookup.0.2 ∙ rest_of c.deref.result.now c.args.place c.in_ok-rest.ensures.lookup.0.0 in
    subst (λ (rows : List RowValue). IsNextLive rows c.args.place c.args.now (c.args.place + c.in-Some.skipped) c.index-rest-skipped.result) (c.deref.ensures.value ∙ ap (λ s. s.rows) c.self.view_is)
    (next_is c.deref.result.now c.in_ok-rest.rest.now c.args.place c.args.now c.in-Some.skipped c.index-rest-skipped.result rest c.in_ok-rest.ensures.lookup.0.3 c.in-Some.ensures.within (sym c.in-Some.ensures.place) c.index-rest-skipped.is)
