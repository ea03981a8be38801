use Rattle.std.proofs.Common.{◌≡◌, ◌+◌, ◌∷◌, [], ◌≤◌, length, get_or, take, ap, ◌∙◌, length-append, arith}
use Rattle.lisp_answer.specs.declared.input.TheConstants.{MOST_BYTES}
use Rattle.lisp_answer.proofs.InputLemmas.{take-one, Took-more, Took-last, Took-end, Took-long, Took-same, Consumes-more, Consumes-same}
use Rattle.lisp_answer.proofs.input.read_line.Goals as goal
use Rattle.lisp_answer.proofs.input.read_line.Goals.{in-Ok+else-len-eq-MOST_BYTES+in_ok-try_push-in-Ok+else-byte-eq10, in-Err+else-ne}

pub returns-in-Ok-eq0-clause-line : goal.returns-in-Ok-eq0-clause-line
returns-in-Ok-eq0-clause-line g c =
    let read = c.in-Ok-eq0.ensures.bytes in
    let nothing = rw c.in-Ok-eq0.field-0-test at read.0 in
    Took-end _ (g.R.Read.remaining c.loop.reader) (g.R.Read.remaining c.read.new.self) _ c.loop.invariant.so_far nothing (read.1 c.in-Ok-eq0.field-0-test (omega (arith, c.read.auto.buf)))

pub returns-then-len-eq-MOST_BYTES-clause-too_long :
    goal.returns-then-len-eq-MOST_BYTES-clause-too_long
returns-then-len-eq-MOST_BYTES-clause-too_long g c = λ e.
    let read = c.in-Ok.ensures.bytes in
    let one : take c.in-Ok.field-0 c.read.new.buf ≡ get_or c.read.new.buf 0 0 ∷ [] = take-one c.read.new.buf c.in-Ok.field-0 c.read.auto.buf c.in-Ok.field-0-test.1 c.in-Ok.ensures.bound.0 in
    let full : MOST_BYTES ≤ length c.loop.line.items = omega (arith, c.loop.line.ok, c.len.ensures, c.if-len-eq-MOST_BYTES.true) in
    Took-long MOST_BYTES _ (g.R.Read.remaining c.loop.reader) (g.R.Read.remaining c.read.new.self) c.loop.line.items _ full c.loop.invariant.so_far (rw one at read.0)

pub returns-then-byte-eq10-clause-line : goal.returns-then-byte-eq10-clause-line
returns-then-byte-eq10-clause-line g c =
    let one : take c.in-Ok.field-0 c.read.new.buf ≡ get_or c.read.new.buf 0 0 ∷ [] = take-one c.read.new.buf c.in-Ok.field-0 c.read.auto.buf c.in-Ok.field-0-test.1 c.in-Ok.ensures.bound.0 in
    Took-last _ (g.R.Read.remaining c.loop.reader) (g.R.Read.remaining c.read.new.self) c.loop.line.items _ _ c.if-byte-eq10.true c.in_ok-try_push-in-Ok.ensures.items c.loop.invariant.so_far (rw one at c.in-Ok.ensures.bytes.0)

pub returns-then-byte-eq10-clause-rest : goal.returns-then-byte-eq10-clause-rest
returns-then-byte-eq10-clause-rest g c =
    let one : take c.in-Ok.field-0 c.read.new.buf ≡ get_or c.read.new.buf 0 0 ∷ [] = take-one c.read.new.buf c.in-Ok.field-0 c.read.auto.buf c.in-Ok.field-0-test.1 c.in-Ok.ensures.bound.0 in
    rw c.in_ok-try_push-in-Ok.ensures.items (Consumes-more _ (g.R.Read.remaining c.loop.reader) (g.R.Read.remaining c.read.new.self) _ _ c.loop.invariant.consumed (rw one at c.in-Ok.ensures.bytes.0))

pub returns-then-byte-eq10-clause-short : goal.returns-then-byte-eq10-clause-short
returns-then-byte-eq10-clause-short g c =
    let grown : length c.try_push.new.self.items ≡ length c.loop.line.items + 1 = ap length c.in_ok-try_push-in-Ok.ensures.items ∙ length-append c.loop.line.items (get_or c.read.new.buf 0 0 ∷ []) in
    omega (arith, c.try_push.new.self.ok, grown, c.loop.line.ok, c.len.ensures, c.if-len-eq-MOST_BYTES.false, c.loop.invariant.short)

pub loop-preserved : goal.loop-preserved
loop-preserved g c =
    elim c.match-read.branch [
      | in-Ok+else-len-eq-MOST_BYTES+in_ok-try_push-in-Ok+else-byte-eq10 w ↦ (
          let one : take w.in-Ok.field-0 c.read.new.buf ≡ get_or c.read.new.buf 0 0 ∷ [] = take-one c.read.new.buf w.in-Ok.field-0 c.read.auto.buf w.in-Ok.field-0-test.1 w.in-Ok.ensures.bound.0 in
          let read = rw one at w.in-Ok.ensures.bytes.0 in
          let grown : length w.try_push.new.self.items ≡ length c.loop.line.items + 1 = ap length w.in_ok-try_push-in-Ok.ensures.items ∙ length-append c.loop.line.items (get_or c.read.new.buf 0 0 ∷ []) in
          rw (w.line-is, w.in_ok-try_push-in-Ok.ensures.items) (record {
            so_far = Took-more _ (g.R.Read.remaining c.loop.reader) (g.R.Read.remaining c.read.new.self) _ _ w.if-byte-eq10.false c.loop.invariant.so_far read;
            consumed = Consumes-more _ (g.R.Read.remaining c.loop.reader) (g.R.Read.remaining c.read.new.self) _ _ c.loop.invariant.consumed read;
            short = omega (arith, w.try_push.new.self.ok, grown, c.loop.line.ok, w.len.ensures, w.if-len-eq-MOST_BYTES.false, c.loop.invariant.short);
          })
          )
      | in-Err+else-ne w ↦ rw w.line-is (record {
        so_far = Took-same _ (g.R.Read.remaining c.loop.reader) (g.R.Read.remaining c.read.new.self) _ c.loop.invariant.so_far w.in-Err.ensures.bytes;
        consumed = Consumes-same _ (g.R.Read.remaining c.loop.reader) (g.R.Read.remaining c.read.new.self) _ c.loop.invariant.consumed w.in-Err.ensures.bytes;
        short = c.loop.invariant.short;
      })
    ]
