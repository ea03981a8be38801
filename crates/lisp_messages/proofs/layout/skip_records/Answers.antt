use Rattle.std.proofs.Common.{◌≡◌, ◌-◌, [], ◌∷◌, ◌++◌, arith}
use Rattle.std.specs.Prelude.{slice_index}
use Rattle.lisp_records.specs.Layout.{with_locators}
use Rattle.lisp_records.specs.Record.{MapRecordValue}
use Rattle.lisp_messages.specs.Reading.{records_of}
use Rattle.lisp_messages.proofs.LayoutLemmas.{ends_there, none_passed}
use Rattle.lisp_messages.proofs.Loop.{goes_on, is_done}
use Rattle.lisp_messages.proofs.layout.skip_records.Goals as goal

pub loop-place-init : goal.loop-place-init
loop-place-init g c =
    let whole : slice_index c.args.bytes.now 3 - 0 ≡ slice_index c.args.bytes.now 3 = omega arith in
    record { from = omega arith; within = c.requires; front = []; read = rw whole (none_passed (records_of c.args.bytes.now)) }

pub returns-in-Err-clause-records : goal.returns-in-Err-clause-records
returns-in-Err-clause-records g c =
    rw c.of_record.ensures (ends_there c.loop-place.invariant.front (slice_index c.args.bytes.now 3) c.loop-place.place _ c.in-Err.fault (records_of c.args.bytes.now) c.loop-place-test.true c.in-Err.ensures c.loop-place.invariant.read)

pub loop-place-preserved : goal.loop-place-preserved
loop-place-preserved g c =
    let passed : MapRecordValue = with_locators c.in-Ok.layout.fields c.in-Ok.ensures.locators in
    record {
      from = omega (arith, c.loop-place.invariant.from, c.in-Ok.ensures.begins, c.in-Ok.ensures.ends);
      within = c.in-Ok.ensures.within;
      front = c.loop-place.invariant.front ++ passed ∷ [];
      read = goes_on c.loop-place.invariant.front (slice_index c.args.bytes.now 3) c.loop-place.place _ passed _ (records_of c.args.bytes.now) c.loop-place-test.true c.in-Ok.ensures.read c.loop-place.invariant.read;
    }

pub returns-clause-records : goal.returns-clause-records
returns-clause-records g c =
    (c.loop-place.invariant.front, is_done c.loop-place.invariant.front (slice_index c.args.bytes.now 3) c.loop-place.place _ (records_of c.args.bytes.now) c.loop-place-test.false c.loop-place.invariant.read)
