use Rattle.std.proofs.Common.{◌≡◌, ℕ, ◌-◌, ◌+◌, List, length, drop, sym, ap, subst, ◌∙◌, arith}
use Rattle.lisp_captures.specs.Interface.{resolution_in, resolution_of}
use Rattle.lisp_captures.proofs.Options.{goes_on, is_said, is_done, is_full}
use Rattle.lisp_captures.proofs.interface.resolution.Goals as goal

pub returns-then-is_past_options : goal.returns-then-is_past_options
returns-then-is_past_options c =
    is_done c.args.order (length c.args.options.now) c.loop.counter c.loop.rest.now (resolution_of c.args.order c.args.options.now) (omega arith) (sym c.is_past_options.ensures.past ∙ c.if-is_past_options.true) c.loop.invariant

pub returns-then-says_resolution : goal.returns-then-says_resolution
returns-then-says_resolution c =
    is_said c.args.order (length c.args.options.now) c.loop.counter c.loop.rest.now (resolution_of c.args.order c.args.options.now) (omega arith) (sym c.is_past_options.ensures.past ∙ c.if-is_past_options.false) (sym c.says_resolution.ensures.says ∙ c.if-says_resolution.true) c.loop.invariant

pub loop-preserved : goal.loop-preserved
loop-preserved c =
    subst (λ (t : List ℕ). resolution_in (length c.args.options.now - (c.loop.counter + 1)) c.args.order t ≡ resolution_of c.args.order c.args.options.now)
    (sym (c.split_at.ensures.back ∙ ap (λ (n : ℕ). drop n c.loop.rest.now) c.option_len.ensures))
    (goes_on c.args.order (length c.args.options.now) c.loop.counter c.loop.rest.now (resolution_of c.args.order c.args.options.now) (omega arith) (sym c.is_past_options.ensures.past ∙ c.if-is_past_options.false) (sym c.says_resolution.ensures.says ∙ c.if-says_resolution.false) c.loop.invariant)

pub returns : goal.returns
returns c = is_full c.args.order (length c.args.options.now) c.loop.counter c.loop.rest.now (resolution_of c.args.order c.args.options.now) (omega arith) c.loop.invariant
