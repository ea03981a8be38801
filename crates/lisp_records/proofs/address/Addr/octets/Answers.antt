use Rattle.std.proofs.Common.{rules}
use Rattle.lisp_records.proofs.address.Addr.octets.Goals as goal

pub returns-in-V4-clause-whole : goal.returns-in-V4-clause-whole
returns-in-V4-clause-whole c = record { width = search rules; bytes = rw c.in-V4.is c.as_bytes.ensures.bytes }

pub returns-in-V6-clause-whole : goal.returns-in-V6-clause-whole
returns-in-V6-clause-whole c = record { width = search rules; bytes = rw c.in-V6.is c.as_bytes-in-V6.ensures.bytes }
