use Rattle.std.proofs.Common.{length, map, ap, ◌∙◌}
use Rattle.std.proofs.lemmas.List.{length-map}
use Rattle.lisp_etr.specs.Rounds.{new_rounds}
use Rattle.lisp_etr.proofs.WrittenOver.{as_many, all_written}
use Rattle.lisp_etr.proofs.etr.Etr.change.Goals as goal

pub invariant_of-self : goal.invariant_of-self
invariant_of-self g c = as_many _ c.self.inside.rounds.items c.begin_all.new.all c.self.inside.rounds.ok.0 (ap length c.begin_all.ensures ∙ length-map _ _ ∙ ap length c.deref_mut.ensures.value) ∙ c.self.invariant

pub returns : goal.returns
returns g c =
    let rounds = all_written (new_rounds c.args.now) _ c.self.inside.rounds.items c.begin_all.new.all c.self.inside.rounds.ok.0 (c.begin_all.ensures ∙ ap (map (new_rounds c.args.now)) c.deref_mut.ensures.value) in
    rw (← c.self.view_is) (λ i. record { config = c.self.inside.config; database = c.args.database; last = c.self.inside.last; safe = c.self.inside.safe; rounds = rounds i })
