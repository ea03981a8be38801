use Rattle.std.proofs.Common.{sym, ◌∙◌, arith}
use Rattle.lisp_captures.specs.Internet.{transport_in}
use Rattle.lisp_captures.proofs.Extensions.{goes_on, ends, is_done, is_full, reads_fault}
use Rattle.lisp_captures.proofs.internet.read_transport.Goals as goal

pub returns-then-not-is_extension : goal.returns-then-not-is_extension
returns-then-not-is_extension c =
    rw (is_done 8 c.loop.counter c.loop.next c.loop.rest.now (transport_in 8 c.args.first c.args.payload.now) (omega arith) (sym c.is_extension.ensures ∙ c.if-not-is_extension.true) c.loop.invariant) c.carried.ensures

pub returns-in_err-after : goal.returns-in_err-after
returns-in_err-after c =
    reads_fault _ c.from_residual.result c.in_err-after.field-0.0 (transport_in 8 c.args.first c.args.payload.now) c.from_residual.ensures.1
    (ends 8 c.loop.counter c.loop.next c.loop.rest.now c.in_err-after.field-0.0 (transport_in 8 c.args.first c.args.payload.now) (omega arith) (sym c.is_extension.ensures ∙ c.if-not-is_extension.false) c.in_err-after.ensures.read c.loop.invariant)

pub loop-preserved : goal.loop-preserved
loop-preserved c =
    goes_on 8 c.loop.counter c.loop.next c.loop.rest.now c.in_ok-after.after.now (transport_in 8 c.args.first c.args.payload.now) (omega arith) (sym c.is_extension.ensures ∙ c.if-not-is_extension.false) c.in_ok-after.ensures.read c.loop.invariant

pub returns : goal.returns
returns c = rw (is_full 8 c.loop.counter c.loop.next c.loop.rest.now (transport_in 8 c.args.first c.args.payload.now) (omega arith) c.loop.invariant) c.carried-2.ensures
