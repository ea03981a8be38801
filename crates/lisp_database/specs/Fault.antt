-- What an error of an open or a load is to a store.
use Rattle.lisp_nonces.specs.declared.fault.StoreFault.{StoreFault}
use Rattle.lisp_nonces.specs.declared.fault.StoreFault.TheVariants as faults
use Rattle.sqlite.specs.declared.error.Error.{Error}
use Rattle.sqlite.specs.declared.error.Error.TheVariants.{SqliteFailure}
use Rattle.sqlite.specs.declared.error.ErrorCode.{ErrorCode}
use Rattle.sqlite.specs.declared.error.ErrorCode.TheVariants.{OutOfMemory, SystemIoFailure, DiskFull, Closed, CannotOpen, DatabaseBusy}

-- memory, the device, and else what the file holds
abbrev pub code_fault : ErrorCode → StoreFault
code_fault OutOfMemory = faults.OutOfMemory
code_fault SystemIoFailure = faults.Device
code_fault DiskFull = faults.Device
code_fault Closed = faults.Device
code_fault CannotOpen = faults.Device
code_fault DatabaseBusy = faults.Device
code_fault _ = faults.Damaged

-- what is no failure of SQLite's isn't what a database of nonces answers
abbrev pub load_fault : Error → StoreFault
load_fault (SqliteFailure code) = code_fault code
load_fault _ = faults.Damaged
