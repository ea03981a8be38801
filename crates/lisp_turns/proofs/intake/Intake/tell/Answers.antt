use Rattle.std.proofs.Common.{◌≡◌, ◌++◌, reverse, subst, append-nil}
use Rattle.std.specs.Option.{option_to_list}
use Rattle.lisp_turns.specs.Group.{IntakeValue, TellsEach, TellsAll}
use Rattle.lisp_turns.proofs.Grouping.{tells_first}
use Rattle.lisp_turns.proofs.intake.Intake.tell.Goals as goal
use Rattle.lisp_turns.proofs.intake.Intake.tell.Goals.{in-Some, in_default}

pub returns : goal.returns
returns g c =
    subst (λ (i : IntakeValue). TellsAll i.heard i.outcome (g.O.Outside.seen c.args.outside.now) (g.O.Outside.seen c.tell_outcome.new.outside)) c.self.view_is
    (g.O.Outside.seen c.tell_others.new.outside, told, c.tell_outcome.ensures)
  where
    others : (s : g.row.O.Denot) → c.match-self.outside ≡ s → TellsEach (reverse c.self.inside.others.items) (g.O.Outside.seen s) (g.O.Outside.seen c.tell_others.new.outside)
    others s is = subst (λ (t : g.row.O.Denot). TellsEach (reverse c.self.inside.others.items) (g.O.Outside.seen t) (g.O.Outside.seen c.tell_others.new.outside)) is c.tell_others.ensures

    told : TellsEach (reverse c.self.inside.others.items ++ option_to_list c.self.inside.first) (g.O.Outside.seen c.args.outside.now) (g.O.Outside.seen c.tell_others.new.outside)
    told = elim c.match-self.branch [
      | in-Some w ↦ rw w.in-Some.is (tells_first (reverse c.self.inside.others.items) w.in-Some.first _ _ _ w.tell.ensures (others w.tell.new.outside w.outside-is))
      | in_default w ↦ rw (w.in_default.is, append-nil) (others c.args.outside.now w.outside-is)
    ]
