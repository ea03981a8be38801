use Rattle.std.proofs.Common.{arith}
use Rattle.lisp_records.proofs.Faults.{no_fault}
use Rattle.lisp_messages.proofs.Loop.{goes_on, fails, is_done, ran_out}
use Rattle.lisp_messages.proofs.reading.read_records.Goals as goal

pub returns-in-Err : goal.returns-in-Err
returns-in-Err g c = record {
  records = rw c.of_record.ensures (fails c.in-Err.fault c.loop-place.records.items _ c.loop-place.place _ _ c.loop-place-test.true c.in-Err.ensures.exact c.loop-place.invariant.read);
  memory = λ out. (c.in-Err.ensures.memory (ran_out c.loop-place.place c.in-Err.fault (rw c.of_record.ensures at out)), omega (arith, c.loop-place-test.true));
}

pub loop-place-preserved : goal.loop-place-preserved
loop-place-preserved g c = record {
  within = c.in-Ok.ensures.found.1;
  read = rw c.in_ok-try_push-in-Ok.ensures.items (goes_on c.loop-place.records.items _ c.loop-place.place _ c.in-Ok.record _ _ c.loop-place-test.true c.in-Ok.ensures.exact c.loop-place.invariant.read);
}

pub returns-clause-records : goal.returns-clause-records
returns-clause-records g c =
    rw c.split_at.ensures.back (is_done c.loop-place.records.items _ c.loop-place.place _ _ c.loop-place-test.false c.loop-place.invariant.read)

pub returns-clause-memory : goal.returns-clause-memory
returns-clause-memory g c is = no_fault _ _ is
