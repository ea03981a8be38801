-- What a message of the program says.
use Rattle.lisp_messages.specs.declared.message.Message.{Message}
use Rattle.lisp_messages.specs.declared.message.Message.TheVariants.{Register, Notify}
use Rattle.lisp_messages.specs.Message.{MessageValue, Registers, Notifies}

abbrev pub message_value : {A : Type 0} → Message A → MessageValue
message_value (Register m) = Registers m
message_value (Notify m) = Notifies m
