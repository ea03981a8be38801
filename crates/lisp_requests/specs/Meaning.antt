-- What an encapsulated message of the program says.
use Rattle.lisp_requests.specs.declared.encapsulated.EncapsulatedRequest.{EncapsulatedRequest}
use Rattle.lisp_requests.specs.Encapsulated.{EncapsulatedValue}

abbrev pub encapsulated_value : EncapsulatedRequest → EncapsulatedValue
encapsulated_value e = record { source = e.source; destination = e.destination; port = e.port; message = e.message.now }
