-- Dates as they are written (RFC 3501, 9: date-time), "dd-Mon-yyyy hh:mm:ss +zzzz" without the quotes.
use Rattle.std.specs.Prelude.{ℕ, ℤ, pos, ◌-ℤ◌, Bool, true, false, ◌+◌, ◌-◌, ◌*◌, ◌==◌, ◌&&◌, List, length, take, drop, nat_le, nat_lt, slice_index, Option, None, Some, option_map, option_and_then, if◌then◌else◌}
use Rattle.std.specs.Char.{is_ascii_digit}
use Rattle.jiff_core.specs.Calendar.{days_in_month}
use Rattle.civil_dates.specs.declared.days.Day.{Day}
use Rattle.civil_dates.specs.Days.{kept, seconds_of}
use Rattle.civil_dates.specs.Months.{month_of}

-- the number that two digits spell
abbrev pub two_digits : ℕ → ℕ → Option ℕ
two_digits tens ones = if is_ascii_digit tens && is_ascii_digit ones then Some ((tens - 48) * 10 + (ones - 48)) else None

abbrev pub two_below : ℕ → ℕ → ℕ → Option ℕ
two_below limit tens ones = option_and_then (λ n. if nat_lt n limit then Some n else None) (two_digits tens ones)

-- two digits, or a space and a digit
abbrev pub day_number : ℕ → ℕ → Option ℕ
day_number tens ones = if tens == 32 then two_digits 48 ones else two_digits tens ones

abbrev pub year_number : ℕ → ℕ → ℕ → ℕ → Option ℕ
year_number a b c d = option_and_then (λ high. option_map (λ low. high * 100 + low) (two_digits c d)) (two_digits a b)

abbrev pub day_of : ℕ → ℕ → ℕ → Day
day_of year month day = record { year = year; month = month; day = day }

-- dd-Mon-yyyy
abbrev pub day_in : List ℕ → Option Day
day_in bytes =
    option_and_then (λ day. option_and_then (λ month. option_map (λ year. day_of year month day)
    (year_number (slice_index bytes 7) (slice_index bytes 8) (slice_index bytes 9) (slice_index bytes 10)))
    (month_of (take 3 (drop 3 bytes))))
    (day_number (slice_index bytes 0) (slice_index bytes 1))

abbrev pub second_of : ℕ → ℕ → ℕ → ℕ
second_of hour minute second = (hour * 60 + minute) * 60 + second

-- hh:mm:ss
abbrev pub clock_in : List ℕ → Option ℕ
clock_in bytes =
    option_and_then (λ hour. option_and_then (λ minute. option_map (λ second. second_of hour minute second)
    (two_below 60 (slice_index bytes 18) (slice_index bytes 19)))
    (two_below 60 (slice_index bytes 15) (slice_index bytes 16)))
    (two_below 24 (slice_index bytes 12) (slice_index bytes 13))

-- + for a zone ahead of UTC, - for one behind it: whether it is behind
abbrev pub sign_in : ℕ → Option Bool
sign_in b = if b == 43 then Some false else if b == 45 then Some true else None

-- how many minutes a zone is ahead of UTC
abbrev pub ahead_of : Bool → ℕ → ℕ → ℤ
ahead_of behind hour minute = if behind then pos 0 -ℤ pos (hour * 60 + minute) else pos (hour * 60 + minute)

-- +zzzz
abbrev pub zone_in : List ℕ → Option ℤ
zone_in bytes =
    option_and_then (λ behind. option_and_then (λ hour. option_map (λ minute. ahead_of behind hour minute)
    (two_below 60 (slice_index bytes 24) (slice_index bytes 25)))
    (two_below 24 (slice_index bytes 22) (slice_index bytes 23)))
    (sign_in (slice_index bytes 21))

-- what stands between the parts of a date
abbrev pub is_punctuated : List ℕ → Bool
is_punctuated bytes =
    (slice_index bytes 2 == 45) && (slice_index bytes 6 == 45) && (slice_index bytes 11 == 32)
    && (slice_index bytes 14 == 58) && (slice_index bytes 17 == 58) && (slice_index bytes 20 == 32)

-- whether the calendar has this day
abbrev pub is_real : Day → Bool
is_real d = nat_le 1 d.month && nat_le d.month 12 && nat_le 1 d.day && nat_le d.day (days_in_month (pos d.year) d.month)

-- the moment of a day, a second of it and a zone, in UTC
abbrev pub real_moment : Day → ℕ → ℤ → Option ℕ
real_moment day second zone = if is_real day then Some (kept (seconds_of day second zone)) else None

abbrev pub parts_in : List ℕ → Option ℕ
parts_in bytes =
    option_and_then (λ day. option_and_then (λ second. option_and_then (λ zone. real_moment day second zone)
    (zone_in bytes)) (clock_in bytes)) (day_in bytes)

-- the moment of a date, kept as the first or the last moment where it lies before or after them
abbrev pub date_in : List ℕ → Option ℕ
date_in bytes = if (length bytes == 26) && is_punctuated bytes then parts_in bytes else None
