use Rattle.std.proofs.Common.{◌≡◌, ◌+◌, ◌∷◌, [], ◌≤◌, length, get_or, take, ap, ◌∙◌, length-append, arith}
use Rattle.lisp_script.specs.Input.{most_bytes}
use Rattle.lisp_script.proofs.InputLemmas.{take-one, Consumes-more, Consumes-same, Consumes-all, Consumes-long}
use Rattle.lisp_script.proofs.input.read_to_end.Goals as goal
use Rattle.lisp_script.proofs.input.read_to_end.Goals.{in-Ok+else-len-eq-MOST_BYTES+in_ok-try_push-in-Ok, in-Err+else-ne}

pub returns-in-Ok-eq0-clause-whole : goal.returns-in-Ok-eq0-clause-whole
returns-in-Ok-eq0-clause-whole g c =
    let read = c.in-Ok-eq0.ensures.bytes in
    let nothing = rw c.in-Ok-eq0.field-0-test at read.0 in
    Consumes-all _ (g.R.Read.remaining c.loop.reader) (g.R.Read.remaining c.read.new.self) _ c.loop.invariant.consumed nothing (read.1 c.in-Ok-eq0.field-0-test (omega (arith, c.read.auto.buf)))

pub returns-then-len-eq-MOST_BYTES-clause-too_long :
    goal.returns-then-len-eq-MOST_BYTES-clause-too_long
returns-then-len-eq-MOST_BYTES-clause-too_long g c = λ e.
    let read = c.in-Ok.ensures.bytes in
    let one : take c.in-Ok.field-0 c.read.new.buf ≡ get_or c.read.new.buf 0 0 ∷ [] = take-one c.read.new.buf c.in-Ok.field-0 c.read.auto.buf c.in-Ok.field-0-test.1 c.in-Ok.ensures.bound.0 in
    let full : most_bytes ≤ length c.loop.bytes.items = omega (arith, c.loop.bytes.ok, c.len.ensures, c.if-len-eq-MOST_BYTES.true) in
    Consumes-long most_bytes _ (g.R.Read.remaining c.loop.reader) (g.R.Read.remaining c.read.new.self) c.loop.bytes.items _ full c.loop.invariant.consumed (rw one at read.0)

pub loop-preserved : goal.loop-preserved
loop-preserved g c =
    elim c.match-read.branch [
      | in-Ok+else-len-eq-MOST_BYTES+in_ok-try_push-in-Ok w ↦ (
          let one : take w.in-Ok.field-0 c.read.new.buf ≡ get_or c.read.new.buf 0 0 ∷ [] = take-one c.read.new.buf w.in-Ok.field-0 c.read.auto.buf w.in-Ok.field-0-test.1 w.in-Ok.ensures.bound.0 in
          let read = rw one at w.in-Ok.ensures.bytes.0 in
          let grown : length w.try_push.new.self.items ≡ length c.loop.bytes.items + 1 = ap length w.in_ok-try_push-in-Ok.ensures.items ∙ length-append c.loop.bytes.items (get_or c.read.new.buf 0 0 ∷ []) in
          rw (w.bytes-is, w.in_ok-try_push-in-Ok.ensures.items) (record {
            consumed = Consumes-more _ (g.R.Read.remaining c.loop.reader) (g.R.Read.remaining c.read.new.self) _ _ c.loop.invariant.consumed read;
            short = omega (arith, w.try_push.new.self.ok, grown, c.loop.bytes.ok, w.len.ensures, w.if-len-eq-MOST_BYTES.false, c.loop.invariant.short);
          })
          )
      | in-Err+else-ne w ↦ rw w.bytes-is (record {
        consumed = Consumes-same _ (g.R.Read.remaining c.loop.reader) (g.R.Read.remaining c.read.new.self) _ c.loop.invariant.consumed w.in-Err.ensures.bytes;
        short = c.loop.invariant.short;
      })
    ]
