-- The walk over years and months ends at a day of the calendar.
use Rattle.std.proofs.Common.{◌≡◌, ℕ, zero, suc, ◌+◌, ◌-◌, ◌*◌, ◌<◌, ◌≤◌, nat_lt, true, false, cond, refl, ◌∙◌, arith, pos, rules}
use Rattle.std.proofs.lemmas.Int.{by_lt_z}
use borrow.Author.Tests.{ltb-true, ltb-false}
use Rattle.jiff_core.specs.Calendar.{IsCivilDate, days_in_month, days_in_year, days_of_months, day_count}
use Rattle.jiff_core.proofs.SignedLemmas.{signed_arith}
use Rattle.jiff_core.proofs.CalendarLemmas.{days_from_civil-day_count, day_count-epoch, day_count-end, day_count-day, day_count-next_month, day_count-next_year, day_count-later_year, days_in_year_bounds, days_of_months-zero, days_of_months_more, days_of_months_all}
use Rattle.civil_dates.specs.declared.days.Day.{Day}
use Rattle.civil_dates.specs.Days.{IsDay, day_from_month, day_from_year, civil_day}

-- a day of the calendar, with so many days before it
abbrev pub IsAt : ℕ → Day → Type 0
IsAt count d = IsCivilDate (pos d.year) d.month d.day × (day_count (pos d.year) d.month d.day ≡ count)

in_month : (y m days : ℕ) → y ≤ 9999 → 1 ≤ m → m ≤ 12 → days < days_in_month (pos y) m → IsAt (day_count (pos y) m 1 + days) (record { year = y; month = m; day = days + 1 })
in_month y m days year low high h = (
  ((omega (arith, signed_arith), omega (arith, signed_arith)), (low, high), (omega arith, omega arith)),
  omega (arith, day_count-day (pos y) m (days + 1) 1 (omega arith) (omega arith)),
)

month_walk : (more y m days : ℕ) → y ≤ 9999 → 1 ≤ m → m + more ≡ 12 → days + days_of_months (pos y) (m - 1) < days_in_year (pos y) → IsAt (day_count (pos y) m 1 + days) (day_from_month more y m days)
unfolding day_from_month
month_walk zero y m days year low last h =
    let twelve : m ≡ 12 = omega arith in
    let all : days + days_of_months (pos y) 11 < days_in_year (pos y) = rw twelve at h in
    let fits : days < days_in_month (pos y) 12 = omega (arith, days_of_months_all (pos y), days_of_months_more (pos y) 12 (omega arith)) in
    in_month y m days year low (omega arith) (rw twelve fits)
month_walk (suc more) y m days year low last h =
    let size = days_in_month (pos y) m in
    elim (nat_lt days (days_in_month (pos y) m)) as (λ t. nat_lt days (days_in_month (pos y) m) ≡ t → IsAt (day_count (pos y) m 1 + days) (cond t (record { year = y; month = m; day = days + 1 }) (day_from_month more y (m + 1) (days - days_in_month (pos y) m)))) [
      | true ↦ λ e. in_month y m days year low (omega arith) (ltb-true _ _ e)
      | false ↦ λ e.
          let past : days_in_month (pos y) m ≤ days = ltb-false _ _ e in
          let back : m + 1 - 1 ≡ m = omega arith in
          let ahead : days - days_in_month (pos y) m + days_of_months (pos y) (m + 1 - 1) < days_in_year (pos y) = rw back (omega (arith, days_of_months_more (pos y) m low)) in
          let there = month_walk more y (m + 1) (days - days_in_month (pos y) m) year (omega arith) (omega arith) ahead in
          let same : day_count (pos y) (m + 1) 1 + (days - days_in_month (pos y) m) ≡ day_count (pos y) m 1 + days = omega (arith, day_count-next_month (pos y) m low) in
          (there.0, there.1 ∙ same)
    ] refl

first_of_next : (y : ℕ) → day_count (pos (y + 1)) 1 1 ≡ day_count (pos y) 1 1 + days_in_year (pos y)
first_of_next y = day_count-next_year (pos y) (pos (y + 1)) (omega (arith, signed_arith)) (omega (arith, signed_arith))

-- a year that begins in the calendar's range is at most 9999
year_bound : (y days : ℕ) → day_count (pos y) 1 1 + days < 7304850 → y ≤ 9999
year_bound y days h =
    by_lt_z (pos 9999) (pos y) (λ lt. absurd (omega (arith, signed_arith, day_count-later_year (pos 9999) (pos y) (omega (arith, signed_arith)) lt, day_count-next_year (pos 9999) (pos 10000) (search rules) refl, day_count-end))) (λ ge. omega (arith, signed_arith))

year_walk : (more y days : ℕ) → days < 365 * (more + 1) → day_count (pos y) 1 1 + days < 7304850 → IsAt (day_count (pos y) 1 1 + days) (day_from_year more y days)
unfolding day_from_year
year_walk zero y days few h =
    month_walk 11 y 1 days (year_bound y days h) (omega arith) (omega arith) (omega (arith, days_of_months-zero (pos y), days_in_year_bounds (pos y)))
year_walk (suc more) y days few h =
    elim (nat_lt days (days_in_year (pos y))) as (λ t. nat_lt days (days_in_year (pos y)) ≡ t → IsAt (day_count (pos y) 1 1 + days) (cond t (day_from_month 11 y 1 days) (day_from_year more (y + 1) (days - days_in_year (pos y))))) [
      | true ↦ λ e.
          let fits : days < days_in_year (pos y) = ltb-true _ _ e in
          month_walk 11 y 1 days (year_bound y days h) (omega arith) (omega arith) (omega (arith, days_of_months-zero (pos y)))
      | false ↦ λ e.
          let past : days_in_year (pos y) ≤ days = ltb-false _ _ e in
          let same : day_count (pos (y + 1)) 1 1 + (days - days_in_year (pos y)) ≡ day_count (pos y) 1 1 + days = omega (arith, first_of_next y) in
          let there = year_walk more (y + 1) (days - days_in_year (pos y)) (omega (arith, days_in_year_bounds (pos y))) (omega arith) in
          (there.0, there.1 ∙ same)
    ] refl

-- the day so many days after 1 January 1970 is the calendar's
pub civil_day_is : (days : ℕ) → days ≤ 2932896 → IsDay days (civil_day days)
unfolding civil_day
civil_day_is days h =
    let there = year_walk days 1970 days (omega arith) (omega (arith, day_count-epoch)) in
    (there.0, omega (arith, signed_arith, days_from_civil-day_count (pos (civil_day days).year) (civil_day days).month (civil_day days).day, there.1, day_count-epoch))
