-- The numbers of the program's faults, and its exit statuses: 1 where files, streams or memory failed, 2 for the
-- words of the command line, 3 where a node doesn't do what it was told, 4 for a negative Map-Reply.
use Rattle.std.specs.Prelude.{◌≡◌, ℕ, Option, None}
use Rattle.lisp_files.specs.declared.ending.Ending.{Ending}
use Rattle.lisp_answer.specs.Fault.{fault_number}
use Rattle.lisp_captures.specs.declared.fault.CaptureFault.TheVariants as capture_faults
use Rattle.lisp_look.specs.Fault.{look_fault_number, look_fault_status}
use Rattle.lisp_script.specs.PlayFault.{play_fault_number, play_fault_status, play_fault_line}
use Rattle.lisp_refusals.specs.Fault.{explain_fault_number, explain_fault_status}
use Rattle.lisp_script.specs.RunFault.{run_status, run_line}
use Rattle.lisp_script.specs.declared.input_fault.InputFault.{InputFault}
use Rattle.lisp_script.specs.declared.input_fault.InputFault.TheVariants as input_faults
use Rattle.lisp_script.specs.declared.play_fault.PlayFault.TheVariants as play_faults
use Rattle.lisp_transcript.specs.declared.writing.WriteFault.TheVariants as write_faults
use Rattle.lispd_cli.specs.declared.failure.Failure.{Failure}
use Rattle.lispd_cli.specs.declared.fault.SetupFault.{SetupFault}
use Rattle.lispd_cli.specs.declared.fault.SetupFault.TheVariants as setup_faults
use Rattle.lispd_cli.specs.declared.fault.ReadingFault.{ReadingFault}
use Rattle.lispd_cli.specs.declared.fault.ReadingFault.TheVariants.{NoConfig, InputTwice, TooLong, Capture, Output}
use Rattle.lispd_cli.specs.declared.fault.ProgramFault.{ProgramFault}
use Rattle.lispd_cli.specs.declared.fault.ProgramFault.TheVariants.{Words, Misused, Setup, Answer, File, Play, Run, Explain, Unanswered, Refused, Look, Reading, Warnings}

abbrev pub setup_fault_number : SetupFault → ℕ
setup_fault_number (setup_faults.BadOption _) = 98
setup_fault_number setup_faults.OutOfMemory = 97

abbrev pub setup_fault_status : SetupFault → ℕ
setup_fault_status (setup_faults.BadOption _) = 2
setup_fault_status setup_faults.OutOfMemory = 1

-- what keeps a capture from being told
abbrev pub reading_fault_number : ReadingFault → ℕ
reading_fault_number NoConfig = 98
reading_fault_number InputTwice = 98
reading_fault_number TooLong = 89
reading_fault_number (Capture capture_faults.Unknown) = 143
reading_fault_number (Capture capture_faults.Short) = 144
reading_fault_number (Output write_faults.Write) = 88
reading_fault_number (Output write_faults.OutOfMemory) = 97

abbrev pub reading_fault_status : ReadingFault → ℕ
reading_fault_status NoConfig = 2
reading_fault_status InputTwice = 2
reading_fault_status (Capture _) = 2
reading_fault_status _ = 1

abbrev pub program_fault_number : ProgramFault → ℕ
program_fault_number Words = 98
program_fault_number (Misused _) = 98
program_fault_number (Setup fault) = setup_fault_number fault
program_fault_number (Answer fault) = fault_number fault
program_fault_number File = 93
program_fault_number (Play fault) = play_fault_number fault
program_fault_number (Run fault) = fault.number
program_fault_number (Explain fault) = explain_fault_number fault
program_fault_number Unanswered = 99
program_fault_number (Refused number) = number
program_fault_number (Look fault) = look_fault_number fault
program_fault_number (Reading fault) = reading_fault_number fault
program_fault_number Warnings = 25

abbrev pub program_fault_status : ProgramFault → ℕ
program_fault_status Words = 2
program_fault_status (Misused _) = 2
program_fault_status (Setup fault) = setup_fault_status fault
program_fault_status (Answer _) = 1
program_fault_status File = 1
program_fault_status (Play fault) = play_fault_status fault
program_fault_status (Run fault) = run_status fault.number
program_fault_status (Explain fault) = explain_fault_status fault
program_fault_status Unanswered = 1
program_fault_status (Refused _) = 3
program_fault_status (Look fault) = look_fault_status fault
program_fault_status (Reading fault) = reading_fault_status fault
program_fault_status Warnings = 2

-- the faulty line of a script, or of a list
abbrev pub program_fault_line : ProgramFault → Option ℕ
program_fault_line (Play fault) = play_fault_line fault
program_fault_line (Run fault) = run_line fault.line
program_fault_line _ = None

-- what ended a node or a network is to the program, with the same words
pub record IsOfEnding (ending : Ending) (failure : Failure) : Type 0 where
  pub fault : failure.fault ≡ Run ending.fault
  pub details : failure.details ≡ ending.details

-- what a fault of an input is to the program: a configuration's fault without its place
abbrev pub of_input : InputFault → ProgramFault
of_input input_faults.File = File
of_input (input_faults.Config placed) = Play (play_faults.Config placed.fault)
of_input (input_faults.Input fault) = Play fault
