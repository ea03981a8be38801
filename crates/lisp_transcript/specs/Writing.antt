-- Writing the lines of a capture, or its schedule.
use Rattle.std.specs.Prelude.{ℕ, List, Option, Result, OnOk, ◌++◌, codes}
use Rattle.std.specs.Io.KnownBytes.{Appends}
use Rattle.lisp_policy.specs.Configuration.{ConfigValue}
use Rattle.lisp_policy.specs.Site.{SiteValue}
use Rattle.lisp_transcript.specs.Line.{TranscriptValue, lines_of}
use Rattle.lisp_transcript.specs.Schedule.{ScheduleValue, entries_of}

-- the first line of a schedule
unfoldable pub title : List ℕ
title = codes "# What a capture brought to the nodes of this configuration, by lispd read. Packets have their numbers there.\n"

-- In what follows `contents` tells what a writer has.
module _ {X E W : Type 0} where
  -- at Ok the lines that were still to come went out, all of them
  abbrev pub WritesLines : Result X E → (W → Option (List ℕ)) → W → W → List SiteValue → TranscriptValue → Type 0
  WritesLines result contents before after sites t = OnOk result (Appends (contents before) (contents after) (lines_of sites t))

  -- at Ok a schedule did
  abbrev pub WritesSchedule : Result X E → (W → Option (List ℕ)) → W → W → ConfigValue → ScheduleValue → Type 0
  WritesSchedule result contents before after c s = OnOk result (Appends (contents before) (contents after) (title ++ entries_of c s))
