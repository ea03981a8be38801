-- Steps that may fail.
use Rattle.std.proofs.Common.{◌⊎◌, Result, Ok, Err, inl, inr}
use Rattle.lisp_records.specs.Result.{Reads}
use Rattle.lisp_script.specs.declared.fault.ScriptWhat.{ScriptWhat}
use Rattle.lisp_script.specs.Fault.{Gives}

-- what never runs out of memory
pub reads_gives : {X Y : Type 0} (May : Type 0) (view : X → Y) (result : Result X ScriptWhat) (read : Result Y ScriptWhat) → Reads view result read → Gives May view result read
reads_gives May view (Ok x) read is = is
reads_gives May view (Err what) read is = inr is

-- what is given with one excuse is given with one of two
pub gives_or : {X Y : Type 0} (May Other : Type 0) (view : X → Y) (result : Result X ScriptWhat) (read : Result Y ScriptWhat) → Gives May view result read → Gives (May ⊎ Other) view result read
gives_or May Other view (Ok x) read is = is
gives_or May Other view (Err what) read (inl out) = inl (inl out.0, out.1)
gives_or May Other view (Err what) read (inr is) = inr is

-- what is given with any excuse is given with one that there is
pub gives_so : {X Y : Type 0} (May : Type 0) (view : X → Y) (result : Result X ScriptWhat) (read : Result Y ScriptWhat) → May → Gives (Unit {0}) view result read → Gives May view result read
gives_so May view (Ok x) read may is = is
gives_so May view (Err what) read may (inl out) = inl (may, out.1)
gives_so May view (Err what) read may (inr is) = inr is

-- an excuse of a verb is one of the words that begin with it
pub of_word : {X Y : Type 0} (May One Other : Type 0) (view : X → Y) (result : Result X ScriptWhat) (read : Result Y ScriptWhat) → (One → Other) → Gives (May ⊎ One) view result read → Gives (May ⊎ Other) view result read
of_word May One Other view (Ok x) read so is = is
of_word May One Other view (Err what) read so (inl (inl may, out)) = inl (inl may, out)
of_word May One Other view (Err what) read so (inl (inr one, out)) = inl (inr (so one), out)
of_word May One Other view (Err what) read so (inr is) = inr is
