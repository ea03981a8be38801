-- What `read` is told to print of a capture, and what it prints.
use Rattle.std.specs.Prelude.{◌≡◌, ℕ, Bool, true, false, ◌&&◌, List, ◌++◌, codes, Option, Some, None, Result, Ok, Err}
use Rattle.std.specs.Str.{bytes_eq}
use Rattle.std.specs.Option.{option_map}
use Rattle.std.specs.Io.KnownBytes.{Appends}
use Rattle.clap.specs.declared.parser.matches.ArgMatches.{ArgMatches}
use Rattle.lisp_captures.specs.Header.{header_at}
use Rattle.lisp_policy.specs.Configuration.{ConfigValue}
use Rattle.lisp_policy.specs.Site.{SiteValue}
use Rattle.lisp_transcript.specs.Line.{TranscriptValue, lines_of, opened}
use Rattle.lisp_transcript.specs.Schedule.{ScheduleValue, entries_of, schedule_opened}
use Rattle.lisp_transcript.specs.Writing.{title}
use Rattle.lisp_transcript.specs.declared.writing.WriteFault.TheVariants as write_faults
use Rattle.lispd_cli.specs.Words.{word_in, is_given_in, option_in}
use Rattle.lispd_cli.specs.declared.fault.ReadingFault.{ReadingFault}
use Rattle.lispd_cli.specs.declared.fault.ReadingFault.TheVariants.{NoConfig, InputTwice, Capture, Output}
use Rattle.lispd_cli.specs.declared.capture.Wanted.{Wanted}
use Rattle.lispd_cli.specs.declared.capture.Wanted.TheVariants.{Lines, Schedule}

-- a path is that of standard input
abbrev pub is_input : List ℕ → Bool
is_input path = bytes_eq path (codes "-")

-- those of the capture and of the configuration both are
abbrev pub takes_input_twice : ArgMatches → Bool
takes_input_twice words = is_input (word_in words (codes "FILE")) && is_input (word_in words (codes "CONFIG"))

-- the words want a schedule for the configuration that they name, or lines, by the one that they name or by none
abbrev pub IsWanted : ArgMatches → Wanted → Type 0
IsWanted words (Lines config) = (is_given_in words (codes "schedule") ≡ false) × (option_map (λ c. c.now) config ≡ option_in words (codes "CONFIG"))
IsWanted words (Schedule config) = (is_given_in words (codes "schedule") ≡ true) × (option_in words (codes "CONFIG") ≡ Some config.now)

-- what is wrong with the words
abbrev pub IsMisused : ArgMatches → ReadingFault → Type 0
IsMisused words NoConfig = (is_given_in words (codes "schedule") ≡ true) × (option_in words (codes "CONFIG") ≡ None)
IsMisused words InputTwice = takes_input_twice words ≡ true
IsMisused words _ = ⊥

-- the most bytes of a capture
abbrev pub most_bytes : ℕ
most_bytes = 1073741824

-- what stands before the script of a schedule
abbrev pub front_text : List ℕ → List ℕ
front_text text = text ++ codes "\n---\n"

-- In what follows `contents` tells what a writer has.
module _ {W : Type 0} where
  -- the lines of the capture that a file's bytes are went out
  pub record PrintsLines (contents : W → Option (List ℕ)) (before after : W) (sites : List SiteValue) (bytes : List ℕ) : Type 0 where
    pub capture : TranscriptValue
    pub opens : opened (header_at bytes) ≡ Ok capture
    pub written : Appends (contents before) (contents after) (lines_of sites capture)

  -- its schedule for a configuration, with a text, did
  pub record PrintsSchedule (contents : W → Option (List ℕ)) (before after : W) (text : List ℕ) (c : ConfigValue) (bytes : List ℕ) : Type 0 where
    pub capture : ScheduleValue
    pub opens : schedule_opened (header_at bytes) ≡ Ok capture
    pub written : Appends (contents before) (contents after) (front_text text ++ (title ++ entries_of c capture))

  -- what keeps it from that: the bytes are no capture, and nothing went out; a line can't be written; memory is refused
  abbrev pub IsUntold : Type 0 → List ℕ → W → W → ReadingFault → Type 0
  IsUntold may_refuse bytes before after (Capture why) = (header_at bytes ≡ Err why) × (after ≡ before)
  IsUntold may_refuse bytes before after (Output write_faults.Write) = Unit {0}
  IsUntold may_refuse bytes before after (Output write_faults.OutOfMemory) = may_refuse
  IsUntold may_refuse bytes before after _ = ⊥
