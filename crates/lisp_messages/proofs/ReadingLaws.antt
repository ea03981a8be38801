-- Reading without an excuse.
use Rattle.std.proofs.Common.{Result, Ok, Err, refl}
use Rattle.std.specs.Result.{IsErrOf}
use Rattle.lisp_records.specs.Result.{Reads}
use Rattle.lisp_messages.specs.declared.fault.ReadFault.{ReadFault}
use Rattle.lisp_messages.specs.declared.fault.ReadFault.TheVariants as faults
use Rattle.lisp_messages.specs.Reading.{Gives}

-- what is answered is what reading gives, where it isn't out of memory
pub without_excuse : {X Y : Type 0} (view : X → Y) (result : Result X ReadFault) (read : Result Y ReadFault) → (IsErrOf result faults.OutOfMemory → ⊥) → Gives view result read → Reads view result read
without_excuse view (Ok x) read never gives = gives
without_excuse view (Err faults.OutOfMemory) read never gives = absurd (never refl)
without_excuse view (Err faults.Short) read never gives = gives
without_excuse view (Err faults.Kind) read never gives = gives
without_excuse view (Err faults.Algorithm) read never gives = gives
without_excuse view (Err faults.AuthLength) read never gives = gives
without_excuse view (Err faults.NoIds) read never gives = gives
without_excuse view (Err faults.Trailing) read never gives = gives
without_excuse view (Err (faults.Record i f)) read never gives = gives
