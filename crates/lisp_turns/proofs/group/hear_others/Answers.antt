use Rattle.std.proofs.Common.{◌≡◌, [], ◌∷◌, ◌++◌, inl, rules}
use Rattle.lisp_turns.proofs.Grouping.{heard_more, heard_last, heard_full}
use Rattle.lisp_turns.proofs.group.hear_others.Goals as goal

pub loop-preserved : goal.loop-preserved
loop-preserved g c =
    let pushed : c.push_reserved.new.self.items ≡ c.loop.others.items ++ c.in-Some.next ∷ [] = search rules in
    record { placed = c.hear_next.ensures.placed; heard = rw pushed (heard_more c.loop.invariant.heard c.loop-test.true c.in-Some.ensures.hears) }

pub returns-after-loop-clause-hears : goal.returns-after-loop-clause-hears
returns-after-loop-clause-hears g c = heard_full c.loop.invariant.heard (inl c.loop-test.false)

pub returns-in_default-clause-hears : goal.returns-in_default-clause-hears
returns-in_default-clause-hears g c = rw c.make_room.ensures.items (heard_last c.loop.invariant.heard c.loop-test.true c.in_default.ensures.hears)
