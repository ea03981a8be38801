-- The time of a moment as RFC 3339 section 5.6 writes it, in UTC and to the millisecond. Its date is that of the proleptic Gregorian calendar,
-- as the definitions of the kit's crate `jiff_core` count its days: by the leap years, and by the lengths of years and months.
use Rattle.std.specs.Prelude.{◌≡◌, ℕ, ◌+◌, ◌*◌, ◌/◌, ◌%◌, List, [], ◌∷◌, ◌++◌, codes, min, pos, unsigned_abs}
use Rattle.jiff_core.specs.DateTime.{civil_nanos}
use Rattle.jiff_core.specs.declared.civil.date.Date.{Date}
use Rattle.jiff_core.specs.declared.civil.datetime.DateTime.{DateTime}
use Rattle.jiff_core.specs.declared.civil.time.Time.{Time}

-- ---- numbers with leading zeros (48)

-- the last digit of a number
abbrev pub last_digit : ℕ → ℕ
last_digit n = 48 + n % 10

abbrev pub two_digits : ℕ → List ℕ
two_digits n = last_digit (n / 10) ∷ last_digit n ∷ []

abbrev pub three_digits : ℕ → List ℕ
three_digits n = last_digit (n / 100) ∷ two_digits n

abbrev pub four_digits : ℕ → List ℕ
four_digits n = last_digit (n / 1000) ∷ three_digits n

-- ---- `2026-12-01T04:33:12.345Z`

abbrev pub date_text : Date → List ℕ
date_text date = four_digits (unsigned_abs date.year) ++ codes "-" ++ two_digits date.month ++ codes "-" ++ two_digits date.day

abbrev pub clock_text : Time → List ℕ
clock_text time = two_digits time.hour ++ codes ":" ++ two_digits time.minute ++ codes ":" ++ two_digits time.second ++ codes "." ++ three_digits (time.subsec_nanosecond / 1000000)

abbrev pub moment_text : DateTime → List ℕ
moment_text moment = date_text moment.date ++ codes "T" ++ clock_text moment.time ++ codes "Z"

-- the ms from 1970-01-01T00:00:00Z to 9999-12-31T23:59:59.999Z: a year has four digits
abbrev pub last_ms : ℕ
last_ms = 253402300799999

-- that of the moment so many ms after 1970-01-01T00:00:00Z, or of the last one
abbrev pub IsTimeOf : ℕ → List ℕ → Type 0
IsTimeOf ms text = (moment : DateTime) × (civil_nanos moment ≡ pos (min ms last_ms * 1000000)) × (text ≡ moment_text moment)
