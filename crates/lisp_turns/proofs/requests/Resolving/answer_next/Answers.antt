use Rattle.std.proofs.Common.{subst}
use Rattle.lisp_turns.specs.Outside.{came_in}
use Rattle.lisp_turns.specs.Requests.{Makes, ResolvingValue}
use Rattle.lisp_turns.proofs.Answering.{answers_one}
use Rattle.lisp_turns.proofs.requests.Resolving.answer_next.Goals as goal

pub returns-clause-answers : goal.returns-clause-answers
returns-clause-answers g c =
    answers_one {config = c.args.place.now.config.now} {number = c.args.place.now.number} {node = g.N.Node.state c.args.node.now} {quiet = c.args.self.now.quiet} {now = c.args.now} (came_in c.next_request.new.buffer c.in-Some.request)
    {made = c.handle-made.result} {old = c.args.self.now.budget} {new = c.tell_made.new.self.budget} {a = g.O.Outside.seen c.args.outside.now} {b = g.O.Outside.seen c.tell_made.new.outside}
    c.in-Some.ensures.asked
    (subst (λ (r : ResolvingValue). Makes c.args.place.now.config.now c.args.place.now.number (g.N.Node.state c.args.node.now) r.quiet c.args.now (came_in c.next_request.new.buffer c.in-Some.request) c.handle-made.result)
    c.self.view_is c.handle-made.ensures.makes)
    c.tell_made.ensures.tells
