-- How large stored bodies are.
use Rattle.std.proofs.Common.{◌≡◌, ℕ, ◌≤◌, ◌<◌, ◌+◌, ◌-◌, ◌/◌, ◌%◌, zero, suc, Bool, true, false, List, [], ◌∷◌, ◌++◌, length, refl, arith, nat_le, length-append}
use Rattle.std.specs.Prelude.{codes, if◌then◌else◌, get_or}
use Rattle.std.specs.List.{list_all}
use Rattle.std.specs.Fmt.{decimal}
use Rattle.std.proofs.lemmas.Bool.{leb-true}
use Rattle.std.proofs.lemmas.Fmt.{length-decimal-le}
use Rattle.civil_dates.specs.declared.days.Day.{Day}
use Rattle.civil_dates.specs.Days.{civil_day, day_from_month, day_from_year}
use Rattle.civil_dates.specs.Months.{month_name, month_names}
use Rattle.civil_dates.specs.Dates.{clock_text, mail_date, mail_date_of}
use Rattle.undo_base.specs.LineEnd.{crlf}
use Rattle.smtp_session.specs.Bytes.{said}
use Rattle.smtp_session.specs.Body.{body_of, received, return_path}
use Rattle.smtp_session.proofs.Readings.{and_left_true, and_right_true}

-- a day that lies within so many days and years
record IsBelow (years days : ℕ) (d : Day) : Type 0 where
  pub year : d.year ≤ years
  pub day : d.day ≤ days

below_if : (b : Bool) (x y : Day) (years days : ℕ) → IsBelow years days x → IsBelow years days y → IsBelow years days (if b then x else y)
below_if true x y years days h k = h
below_if false x y years days h k = k

wider : (d : Day) (y1 d1 y2 d2 : ℕ) → y1 ≤ y2 → d1 ≤ d2 → IsBelow y1 d1 d → IsBelow y2 d2 d
wider d y1 d1 y2 d2 e f h = record { year = omega (arith, e, h.year); day = omega (arith, f, h.day) }

-- days that are left lie below all days
fewer : (y days past : ℕ) (d : Day) → IsBelow y (days - past + 1) d → IsBelow y (days + 1) d
fewer y days past d h = wider d y (days - past + 1) y (days + 1) (omega arith) (omega arith) h

here_below : (y m days : ℕ) → IsBelow y (days + 1) (record { year = y; month = m; day = days + 1 })
here_below y m days = record { year = omega arith; day = omega arith }

month_below : (more y m days : ℕ) → IsBelow y (days + 1) (day_from_month more y m days)
unfolding day_from_month
month_below zero y m days = here_below y m days
month_below (suc more) y m days =
    below_if _ _ _ y (days + 1) (here_below y m days) (fewer y days _ _ (month_below more y (m + 1) _))

year_below : (more y days : ℕ) → IsBelow (y + more) (days + 1) (day_from_year more y days)
unfolding day_from_year
year_below zero y days = wider _ y (days + 1) (y + 0) (days + 1) (omega arith) (omega arith) (month_below 11 y 1 days)
year_below (suc more) y days =
    below_if _ _ _ (y + suc more) (days + 1)
    (wider _ y (days + 1) (y + suc more) (days + 1) (omega arith) (omega arith) (month_below 11 y 1 days))
    (wider _ (y + 1 + more) (days + 1) (y + suc more) (days + 1) (omega arith) (omega arith) (fewer (y + 1 + more) days _ _ (year_below more (y + 1) _)))

civil_below : (days : ℕ) → IsBelow (1970 + days) (days + 1) (civil_day days)
unfolding civil_day
civil_below days = year_below days 1970 days

short_at : (names : List (List ℕ)) (i : ℕ) → list_all (λ n. nat_le (length n) 3) names ≡ true → length (get_or names i []) ≤ 3
short_at [] i e = omega arith
short_at (n ∷ names) zero e = leb-true (length n) 3 (and_left_true (nat_le (length n) 3) (list_all (λ n. nat_le (length n) 3) names) e)
short_at (n ∷ names) (suc i) e = short_at names i (and_right_true (nat_le (length n) 3) (list_all (λ n. nat_le (length n) 3) names) e)

month_short : (m : ℕ) → length (month_name m) ≤ 3
month_short m = short_at month_names (m - 1) refl

-- a number below ten millions is written in seven digits
seven : (n : ℕ) → n < 10000000 → length (decimal n) ≤ 7
seven n h = length-decimal-le 7 n (omega arith) (omega (arith, h)) (omega (arith, h))

date_of_short : (d : Day) (second : ℕ) → d.year < 10000000 → d.day < 10000000 → length (mail_date_of d second) ≤ 40
date_of_short d second h k =
    omega (
      arith,
      length-append (decimal d.day ++ codes " " ++ month_name d.month ++ codes " " ++ decimal d.year ++ codes " ") (clock_text second),
      length-append (decimal d.day ++ codes " " ++ month_name d.month ++ codes " " ++ decimal d.year) (codes " "),
      length-append (decimal d.day ++ codes " " ++ month_name d.month ++ codes " ") (decimal d.year),
      length-append (decimal d.day ++ codes " " ++ month_name d.month) (codes " "),
      length-append (decimal d.day ++ codes " ") (month_name d.month),
      length-append (decimal d.day) (codes " "),
      seven d.day k,
      seven d.year h,
      month_short d.month,
    )

pub date_short : (at : ℕ) → at ≤ 253402300799 → length (mail_date at) ≤ 40
unfolding mail_date
date_short at h =
    let b = civil_below (at / 86400) in
    date_of_short (civil_day (at / 86400)) (at % 86400) (omega (arith, h, b.year)) (omega (arith, h, b.day))

return_path_short : (path : List ℕ) → length path ≤ 254 → length (return_path path) ≤ 300
return_path_short path h = omega (arith, h, length-append (codes "Return-Path: <" ++ path) (said (codes ">")), length-append (codes "Return-Path: <") path)

received_short : (host client date : List ℕ) → length host ≤ 200 → length client ≤ 200 → length date ≤ 40
    → length (codes "Received: from " ++ client ++ codes " by " ++ host ++ codes "; " ++ said date) ≤ 500
received_short host client date h k l =
    omega (
      arith,
      h,
      k,
      l,
      length-append (codes "Received: from " ++ client ++ codes " by " ++ host ++ codes "; ") (said date),
      length-append (codes "Received: from " ++ client ++ codes " by " ++ host) (codes "; "),
      length-append (codes "Received: from " ++ client ++ codes " by ") host,
      length-append (codes "Received: from " ++ client) (codes " by "),
      length-append (codes "Received: from ") client,
      length-append date crlf,
    )

-- a stored body has at most 1,052,672 octets
pub body_small : (host client path text : List ℕ) (at : ℕ) → length host ≤ 200 → length client ≤ 200 → length path ≤ 254 → at ≤ 253402300799
    → length text ≤ 1048576 → length (body_of host at client path text) ≤ 1052672
body_small host client path text at h k l m n =
    omega (
      arith,
      n,
      return_path_short path l,
      received_short host client (mail_date at) h k (date_short at m),
      length-append (return_path path ++ received host at client) text,
      length-append (return_path path) (received host at client),
    )
