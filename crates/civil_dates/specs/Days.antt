-- Days of the Gregorian calendar from 1970 on, and moments in seconds since 1970 in UTC.
use Rattle.std.specs.Prelude.{◌≡◌, ℕ, zero, suc, ◌+◌, ◌-◌, nat_lt, min, if◌then◌else◌, ℤ, pos, negsuc, ◌+ℤ◌, ◌-ℤ◌, ◌*ℤ◌}
use Rattle.undo_base.specs.declared.limits.TheConstants.{LAST_MOMENT}
use Rattle.jiff_core.specs.Calendar.{IsCivilDate, days_from_civil, days_in_month, days_in_year}
use Rattle.civil_dates.specs.declared.days.Day.{Day}

-- the calendar has this day, and it lies so many days after 1 January 1970
abbrev pub IsDay : ℕ → Day → Type 0
IsDay days d = IsCivilDate (pos d.year) d.month d.day × (days_from_civil (pos d.year) d.month d.day ≡ pos days)

-- the day so many days after the first of a month, in this month or in one of so many more of the same year
unfoldable pub day_from_month : ℕ → ℕ → ℕ → ℕ → Day
day_from_month zero y m days = record { year = y; month = m; day = days + 1 }
day_from_month (suc more) y m days =
    if nat_lt days (days_in_month (pos y) m) then record { year = y; month = m; day = days + 1 }
    else day_from_month more y (m + 1) (days - days_in_month (pos y) m)

-- the day so many days after the first of a year, in this year or in one of so many more
unfoldable pub day_from_year : ℕ → ℕ → ℕ → Day
day_from_year zero y days = day_from_month 11 y 1 days
day_from_year (suc more) y days =
    if nat_lt days (days_in_year (pos y)) then day_from_month 11 y 1 days
    else day_from_year more (y + 1) (days - days_in_year (pos y))

-- the day so many days after 1 January 1970: no more years are passed than days
unfoldable pub civil_day : ℕ → Day
civil_day days = day_from_year days 1970 days

-- a moment before 1970 is kept as 0, and one after the year 9999 as its last second
abbrev pub kept : ℤ → ℕ
kept (pos n) = min n LAST_MOMENT
kept (negsuc n) = 0

-- the seconds since 1970 of a date and a second of the day at a zone, which is so many minutes ahead of UTC
abbrev pub seconds_of : Day → ℕ → ℤ → ℤ
seconds_of d second zone = days_from_civil (pos d.year) d.month d.day *ℤ pos 86400 +ℤ pos second -ℤ (zone *ℤ pos 60)
