use Rattle.std.proofs.Common.{◌≡◌, ◌-◌, [], ◌∷◌, ◌++◌, drop, ap, arith}
use Rattle.std.specs.Prelude.{slice_index}
use Rattle.lisp_records.specs.Layout.{with_locators}
use Rattle.lisp_records.specs.Record.{MapRecordValue}
use Rattle.lisp_requests.specs.Reading.{items_at, lifted}
use Rattle.lisp_requests.specs.Reply.{reply_record_at}
use Rattle.lisp_requests.proofs.Loop.{ends, goes_on, is_done, none_passed}
use Rattle.lisp_requests.proofs.reply_parts.skip_records.Goals as goal

pub loop-init : goal.loop-init
loop-init g c =
    let whole : slice_index c.args.bytes.now 3 - 0 ≡ slice_index c.args.bytes.now 3 = omega arith in
    record { within = c.requires; front = []; read = rw whole (none_passed (items_at reply_record_at (slice_index c.args.bytes.now 3) (drop 12 c.args.bytes.now))) }

pub returns-in-Err-clause-records : goal.returns-in-Err-clause-records
returns-in-Err-clause-records g c =
    rw c.from.ensures (ends reply_record_at _ c.loop.invariant.front (slice_index c.args.bytes.now 3) c.loop.counter _ _ c.loop-test.true (ap lifted c.in-Err.ensures) c.loop.invariant.read)

pub loop-preserved : goal.loop-preserved
loop-preserved g c =
    let passed : MapRecordValue = with_locators c.in-Ok.layout.fields c.in-Ok.ensures.locators in
    record {
      within = c.in-Ok.ensures.within;
      front = c.loop.invariant.front ++ passed ∷ [];
      read = goes_on reply_record_at c.loop.invariant.front (slice_index c.args.bytes.now 3) c.loop.counter _ passed _ _ c.loop-test.true (ap lifted c.in-Ok.ensures.read) c.loop.invariant.read;
    }

pub returns-clause-records : goal.returns-clause-records
returns-clause-records g c = (c.loop.invariant.front, is_done reply_record_at c.loop.invariant.front (slice_index c.args.bytes.now 3) c.loop.counter _ _ c.loop-test.false c.loop.invariant.read)
