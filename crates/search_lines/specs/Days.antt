-- The dates of keys (RFC 3501, 9: date, date-text, date-day): d-Mon-yyyy, with one digit or two before the month.
use Rattle.std.specs.Prelude.{ℕ, ℤ, pos, not, ◌==◌, ◌||◌, List, length, nat_lt, Option, None, Some, option_and_then, if◌then◌else◌}
use Rattle.jiff_core.specs.Calendar.{days_from_civil}
use Rattle.civil_dates.specs.declared.days.Day.{Day}
use Rattle.civil_dates.specs.Months.{month_of}
use Rattle.undo_base.specs.Digits.{number_of}
use Rattle.imap_stream.specs.LiteralMarks.{all_digits}
use Rattle.imap_tokens.specs.Dates.{day_of, is_real}
use Rattle.imap_tokens.specs.Sets.{cut_at}

-- what digits spell, so many at most, if it is no more than a number
abbrev pub up_to : ℕ → List ℕ → Option ℕ
up_to most bytes = if nat_lt most (number_of bytes) then None else Some (number_of bytes)

-- one digit or two
abbrev pub day_number : List ℕ → Option ℕ
day_number bytes = if not (all_digits bytes) || nat_lt 2 (length bytes) then None else up_to 31 bytes

-- four digits
abbrev pub year_number : List ℕ → Option ℕ
year_number bytes = if not (all_digits bytes) || not (length bytes == 4) then None else up_to 9999 bytes

-- how many days after 1 January 1970 it lies, if the calendar has it
abbrev pub real_day : Day → Option ℤ
real_day d = if is_real d then Some (days_from_civil (pos d.year) d.month d.day) else None

-- a day, a month and a year
abbrev pub day_by : List ℕ → List ℕ → List ℕ → Option ℤ
day_by day month year =
    option_and_then (λ d. option_and_then (λ m. option_and_then (λ y. real_day (day_of y m d)) (year_number year)) (month_of month)) (day_number day)

abbrev pub behind_day : List ℕ → List ℕ → Option ℤ
behind_day day rest = option_and_then (λ parts. day_by day parts.0 parts.1) (cut_at 45 rest)

-- a real date, in days since 1 January 1970
abbrev pub day_in : List ℕ → Option ℤ
day_in bytes = option_and_then (λ parts. behind_day parts.0 parts.1) (cut_at 45 bytes)
