-- The texts of moments, which are seconds since 1970 in UTC.
use Rattle.std.specs.Prelude.{ℕ, ◌+◌, ◌/◌, ◌%◌, List, [], ◌∷◌, ◌++◌, codes, nat_lt, if◌then◌else◌}
use Rattle.std.specs.Fmt.{decimal}
use Rattle.civil_dates.specs.declared.days.Day.{Day}
use Rattle.civil_dates.specs.Days.{civil_day}
use Rattle.civil_dates.specs.Months.{month_name}

abbrev pub two_digits : ℕ → List ℕ
two_digits n = (48 + n / 10) ∷ (48 + n % 10) ∷ []

-- two places, the first a space before one digit
abbrev pub two_places : ℕ → List ℕ
two_places n = if nat_lt n 10 then 32 ∷ (48 + n) ∷ [] else two_digits n

-- a second of the day and UTC's zone, as `10:00:00 +0000`
abbrev pub clock_text : ℕ → List ℕ
clock_text second =
    two_digits (second / 3600) ++ codes ":" ++ two_digits (second / 60 % 60) ++ codes ":" ++ two_digits (second % 60) ++ codes " +0000"

-- as `7 Jan 2005 10:00:00 +0000` (RFC 5322, 3.3): a year from 1970 to 9999 has four digits
abbrev pub mail_date_of : Day → ℕ → List ℕ
mail_date_of d second =
    decimal d.day ++ codes " " ++ month_name d.month ++ codes " " ++ decimal d.year ++ codes " " ++ clock_text second

-- as ` 7-Jan-2005 10:00:00 +0000` (RFC 3501, 9, `date-time` without its quotes)
abbrev pub imap_date_of : Day → ℕ → List ℕ
imap_date_of d second =
    two_places d.day ++ codes "-" ++ month_name d.month ++ codes "-" ++ decimal d.year ++ codes " " ++ clock_text second

-- the moment in mail
unfoldable pub mail_date : ℕ → List ℕ
mail_date at = mail_date_of (civil_day (at / 86400)) (at % 86400)

-- the moment in IMAP, without quotes
unfoldable pub imap_date : ℕ → List ℕ
imap_date at = imap_date_of (civil_day (at / 86400)) (at % 86400)
