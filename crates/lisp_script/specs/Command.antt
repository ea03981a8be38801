-- A command, wherever its parts lie in memory.
use Rattle.lisp_model.specs.Trace.{event_value}
use Rattle.lisp_script.specs.declared.command.Command.{Command}
use Rattle.lisp_script.specs.declared.command.Command.TheVariants as commands

abbrev pub CommandValue : Type 0
CommandValue = Command (Unit {0})

abbrev pub command_value : {A : Type 0} → Command A → CommandValue
command_value (commands.Act event) = commands.Act (event_value event)
command_value (commands.Hold server) = commands.Hold server
command_value (commands.Acks router) = commands.Acks router
command_value (commands.Ask server addr) = commands.Ask server addr
command_value (commands.Request server asked from) = commands.Request server asked from
command_value (commands.Due node) = commands.Due node
