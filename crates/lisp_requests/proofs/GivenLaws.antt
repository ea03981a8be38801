-- What is known of an answer that is what reading gives.
use Rattle.std.proofs.Common.{◌≡◌, Result, Ok, Err, sym, ap, subst, ◌∙◌}
use Rattle.std.specs.Prelude.{IfOk}
use Rattle.std.specs.Result.{IsErrOf}
use Rattle.lisp_records.specs.Result.{Reads}
use Rattle.lisp_records.proofs.Faults.{Passes}
use Rattle.lisp_requests.specs.declared.fault.RequestFault.{RequestFault}
use Rattle.lisp_requests.specs.declared.fault.RequestFault.TheVariants as faults
use Rattle.lisp_requests.specs.Reading.{Fails, Gives}

-- a fault that is passed on is what reading gives, where reading meets it or the memory ran out
pub gives_fault : {X Y : Type 0} (view : X → Y) (r : Result X RequestFault) (e : RequestFault) (read : Result Y RequestFault) → Passes r e → Fails e read → Gives view r read
gives_fault view (Ok x) e read passes fails = absurd passes
gives_fault view (Err d) e read passes fails = subst (λ (f : RequestFault). Fails f read) (sym passes) fails

-- what is answered is spelled, where what is read is
pub found : {X Y : Type 0} (view : X → Y) (Spelled : Y → Type 0) (r : Result X RequestFault) (read : Result Y RequestFault) → ((y : Y) → read ≡ Ok y → Spelled y) → Gives view r read → IfOk r (λ x. Spelled (view x))
found view Spelled (Ok x) read takes given = takes (view x) given
found view Spelled (Err e) read takes given = tt

-- the same where no memory is taken
pub found_plain : {X Y : Type 0} (view : X → Y) (Spelled : Y → Type 0) (r : Result X RequestFault) (read : Result Y RequestFault) → ((y : Y) → read ≡ Ok y → Spelled y) → Reads view r read → IfOk r (λ x. Spelled (view x))
found_plain view Spelled (Ok x) read takes given = takes (view x) given
found_plain view Spelled (Err e) read takes given = tt

-- what is read is answered
pub only : {X Y : Type 0} (view : X → Y) (r : Result X RequestFault) (read : Result Y RequestFault) (y : Y) → read ≡ Ok y → Gives view r read → Gives view r (Ok y)
only view (Ok x) read y reads given = sym reads ∙ given
only view (Err e) read y reads given = λ other. sym reads ∙ given other

-- the same where no memory is taken
pub only_plain : {X Y : Type 0} (view : X → Y) (r : Result X RequestFault) (read : Result Y RequestFault) (y : Y) → read ≡ Ok y → Reads view r read → Reads view r (Ok y)
only_plain view (Ok x) read y reads given = sym reads ∙ given
only_plain view (Err e) read y reads given = sym reads ∙ given

-- what is answered is what reading gives, where it isn't out of memory
pub without_excuse : {X Y : Type 0} (view : X → Y) (r : Result X RequestFault) (read : Result Y RequestFault) → (IsErrOf r faults.OutOfMemory → ⊥) → Gives view r read → Reads view r read
without_excuse view (Ok x) read never given = given
without_excuse view (Err e) read never given = given (λ is. never (ap Err is))
