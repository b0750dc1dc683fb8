-- Days from 1 January 1970 on, as jiff_core's dates.
use Rattle.std.proofs.Common.{◌≡◌, ℕ, ◌≤◌, refl, sym, ◌∙◌, subst, ℤ, pos, unsigned_abs}
use Rattle.jiff_core.specs.declared.civil.date.Date.{Date}
use Rattle.jiff_core.specs.Calendar.{days_from_civil, IsCivilDate}
use Rattle.jiff_core.specs.Date.{epoch_day, IsYmd}
use Rattle.jiff_core.proofs.DateLemmas.{civil, epoch_day_injective}
use Rattle.civil_dates.specs.declared.days.Day.{Day}
use Rattle.civil_dates.specs.Days.{IsDay, civil_day}
use Rattle.civil_dates.proofs.WalkLemmas.{civil_day_is}

-- the calendar's day as a date of jiff_core
as_date : (n : ℕ) → (d : Day) → IsDay n d → Date
as_date n d is = record { year = pos d.year; month = d.month; day = d.day; year_in = is.0.0; month_in = is.0.1; day_in = is.0.2 }

-- a date is a day with these parts
same_parts : (d : Date) (e : Day) → d.year ≡ pos e.year → d.month ≡ e.month → d.day ≡ e.day → ◌≡◌ {A = Day} (record { year = unsigned_abs d.year; month = d.month; day = d.day }) e
same_parts d e year month day = rw (year, month, day) refl

-- a date so many days after 1 January 1970 is that day
pub parts_of_day : (d : Date) (n : ℕ) → n ≤ 2932896 → epoch_day d ≡ pos n → ◌≡◌ {A = Day} (record { year = unsigned_abs d.year; month = d.month; day = d.day }) (civil_day n)
unfolding as_date
parts_of_day d n h e =
    let is = civil_day_is n h in
    let same = epoch_day_injective d (as_date n (civil_day n) is) (e ∙ sym is.1) in
    same_parts d (civil_day n) same.0 same.1 same.2

-- a date with these parts is a day of the calendar
pub made_day : (d : Date) (y m n : ℕ) → IsYmd (pos y) (pos m) (pos n) d → IsCivilDate (pos y) m n × (epoch_day d ≡ days_from_civil (pos y) m n)
made_day d y m n h =
    let month : d.month ≡ m = cc in
    let day : d.day ≡ n = cc in
    let P : ℤ → ℕ → ℕ → Type 0 = λ a b c. IsCivilDate a b c × (epoch_day d ≡ days_from_civil a b c) in
    subst (λ (a : ℤ). P a m n) h.0 (subst (λ (b : ℕ). P d.year b n) month (subst (λ (c : ℕ). P d.year d.month c) day (civil d, refl)))
