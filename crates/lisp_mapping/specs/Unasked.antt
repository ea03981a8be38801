-- The numbers, as operators see them, of why a node takes nothing of a datagram.
use Rattle.std.specs.Prelude.{ℕ}
use Rattle.lisp_requests.specs.Fault.{fault_number}
use Rattle.lisp_mapping.specs.declared.unasked.Unasked.{Unasked}
use Rattle.lisp_mapping.specs.declared.unasked.Unasked.TheVariants.{Request, Solicited, Probed, Unwanted, NoItrRloc, Unlisted}

abbrev pub unasked_number : Unasked → ℕ
unasked_number (Request fault) = fault_number fault
unasked_number Solicited = 126
unasked_number Probed = 127
unasked_number Unwanted = 128
unasked_number NoItrRloc = 129
unasked_number Unlisted = 130
