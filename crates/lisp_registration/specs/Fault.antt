-- The numbers of why a message is not written, a call on a handle is not done, or a configuration starts no node.
use Rattle.std.specs.Prelude.{ℕ}
use Rattle.lisp_sites.specs.Field.{fault_number}
use Rattle.lisp_registration.specs.declared.fault.WriteFault.{WriteFault}
use Rattle.lisp_registration.specs.declared.fault.WriteFault.TheVariants as writes
use Rattle.lisp_registration.specs.declared.fault.HandleFault.{HandleFault}
use Rattle.lisp_registration.specs.declared.fault.HandleFault.TheVariants as handles
use Rattle.lisp_registration.specs.declared.fault.NodeFault.{NodeFault}
use Rattle.lisp_registration.specs.declared.fault.NodeFault.TheVariants as nodes

abbrev pub write_fault_number : WriteFault → ℕ
write_fault_number writes.Room = 102
write_fault_number writes.Field = 103
write_fault_number writes.Counts = 104
write_fault_number writes.OutOfMemory = 105

-- the numbers of why a call on a handle is not done
abbrev pub handle_fault_number : HandleFault → ℕ
handle_fault_number handles.Clock = 73
handle_fault_number handles.Null = 100
handle_fault_number handles.Room = 102
handle_fault_number handles.Field = 103

-- the numbers of why a configuration starts no node
abbrev pub node_fault_number : NodeFault → ℕ
node_fault_number nodes.NotUtf8 = 95
node_fault_number (nodes.Configuration fault) = fault_number fault
node_fault_number nodes.NoRouter = 106
node_fault_number nodes.OutOfMemory = 105
