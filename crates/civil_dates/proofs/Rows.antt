-- Dates that calendars have, so that a wrong walk does not check.
use Rattle.std.proofs.Common.{◌≡◌, refl, codes}
use Rattle.std.specs.Fmt.{digits}
use Rattle.civil_dates.specs.Days.{civil_day, day_from_year, day_from_month}
use Rattle.civil_dates.specs.Dates.{mail_date, imap_date}

pub new_year_1970 : mail_date 0 ≡ codes "1 Jan 1970 00:00:00 +0000"
unfolding mail_date civil_day day_from_year day_from_month digits
new_year_1970 = refl

pub morning : mail_date 1105092000 ≡ codes "7 Jan 2005 10:00:00 +0000"
unfolding mail_date civil_day day_from_year day_from_month digits
morning = refl

pub morning_in_imap : imap_date 1105092000 ≡ codes " 7-Jan-2005 10:00:00 +0000"
unfolding imap_date civil_day day_from_year day_from_month digits
morning_in_imap = refl

pub leap_day : mail_date 951782400 ≡ codes "29 Feb 2000 00:00:00 +0000"
unfolding mail_date civil_day day_from_year day_from_month digits
leap_day = refl
