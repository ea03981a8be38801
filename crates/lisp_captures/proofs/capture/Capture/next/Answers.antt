use Rattle.std.proofs.Common.{◌<◌, rules, length, Option, subst}
use Rattle.lisp_captures.specs.declared.packet.Packet.{Packet}
use Rattle.lisp_captures.specs.Capture.{GivesStep, step_of}
use Rattle.lisp_captures.proofs.Steps.{no_more, passes, gives_next, falls}
use Rattle.lisp_captures.proofs.capture.Capture.next.Goals as goal

pub returns-in-Some-clause-next : goal.returns-in-Some-clause-next
returns-in-Some-clause-next g c =
    let some : 0 < length c.loop-self.self.rest = search rules in
    gives_next c.args.self.now c.loop-self.self c.step.new.self c.in-Some.packet c.loop-self.invariant some
    (subst (λ (o : Option Packet). GivesStep c.step.new.self (step_of c.loop-self.self) o) c.in-Some.is c.in_ok-packet.ensures.step)

pub loop-self-smaller : goal.loop-self-smaller
loop-self-smaller g c =
    let some : 0 < length c.loop-self.self.rest = search rules in
    falls c.loop-self.self c.step.new.self c.in_ok-packet.field-0 some c.in_ok-packet.ensures.step

pub loop-self-preserved : goal.loop-self-preserved
loop-self-preserved g c =
    let some : 0 < length c.loop-self.self.rest = search rules in
    passes c.args.self.now c.loop-self.self c.step.new.self c.loop-self.invariant some
    (subst (λ (o : Option Packet). GivesStep c.step.new.self (step_of c.loop-self.self) o) c.in_default.is c.in_ok-packet.ensures.step)

pub returns-clause-next : goal.returns-clause-next
returns-clause-next g c = no_more c.args.self.now c.loop-self.self c.loop-self.invariant (search rules)
