-- The numbers of the faults of Map-Requests and Map-Replies, and those that come from a record.
use Rattle.std.specs.Prelude.{ℕ}
use Rattle.lisp_records.specs.declared.fault.RecordFault.{RecordFault}
use Rattle.lisp_records.specs.declared.fault.RecordFault.TheVariants as records
use Rattle.lisp_requests.specs.declared.fault.RequestFault.{RequestFault}
use Rattle.lisp_requests.specs.declared.fault.RequestFault.TheVariants.{Short, OutOfMemory, Kind, Security, IpVersion, IpHeaderLength, IpLength, Fragment, Protocol, IpChecksum, Port, UdpLength, UdpChecksum, NoRecord, Afi, Mask, Trailing}

abbrev pub fault_number : RequestFault → ℕ
fault_number OutOfMemory = 9
fault_number Short = 110
fault_number Kind = 111
fault_number Security = 112
fault_number IpVersion = 113
fault_number IpHeaderLength = 114
fault_number IpLength = 115
fault_number Fragment = 116
fault_number Protocol = 117
fault_number IpChecksum = 118
fault_number Port = 119
fault_number UdpLength = 120
fault_number UdpChecksum = 121
fault_number NoRecord = 122
fault_number Afi = 123
fault_number Mask = 124
fault_number Trailing = 125

-- the fault of a message whose record has a fault
abbrev pub fault_of : RecordFault → RequestFault
fault_of records.Short = Short
fault_of records.Afi = Afi
fault_of records.Mask = Mask
fault_of records.OutOfMemory = OutOfMemory
