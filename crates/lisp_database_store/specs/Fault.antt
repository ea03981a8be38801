-- What an error of a file is to a store.
use Rattle.std.specs.declared.io.ErrorKind.{ErrorKind}
use Rattle.std.specs.declared.io.ErrorKind.TheVariants as kinds
use Rattle.lisp_nonces.specs.declared.fault.StoreFault.{StoreFault}
use Rattle.lisp_nonces.specs.declared.fault.StoreFault.TheVariants as faults

-- memory, a file that holds no nonce, and else the device
abbrev pub file_fault : ErrorKind → StoreFault
file_fault kinds.OutOfMemory = faults.OutOfMemory
file_fault kinds.InvalidData = faults.Damaged
file_fault _ = faults.Device
