-- Dates are read as they are written.
use Rattle.std.proofs.Common.{◌≡◌, ℕ, ◌+◌, ◌-◌, ◌*◌, ◌/◌, ◌%◌, ◌<◌, ◌≤◌, Bool, true, false, cond, ◌==◌, ◌&&◌, ◌||◌, List, [], ◌∷◌, length, codes, nat_lt, min, Option, None, Some, refl, ap, sym, ◌∙◌, arith, zero, suc, ℤ, pos}
use Rattle.std.specs.Fmt.{decimal}
use Rattle.std.specs.List.{list_all, range_with_len}
use Rattle.std.proofs.lemmas.Bool.{le-leb}
use Rattle.std.proofs.lemmas.Bool.Decides.{Decides-eqb, Decides-ltb}
use Rattle.std.proofs.lemmas.Fmt.{decimal_digit, decimal_step}
use Rattle.jiff_core.proofs.SignedLemmas.{signed_arith}
use Rattle.jiff_core.specs.Calendar.{is_leap_year, days_from_civil, days_in_month, days_in_year}
use Rattle.civil_dates.specs.declared.days.Day.{Day}
use Rattle.civil_dates.specs.Days.{IsDay, day_from_month, day_from_year, civil_day, kept, seconds_of}
use Rattle.civil_dates.specs.Months.{month_name, month_of}
use Rattle.civil_dates.specs.Dates.{two_places, imap_date_of, imap_date}
use Rattle.std.specs.Char.{is_ascii_digit}
use Rattle.imap_tokens.specs.Dates.{two_digits, two_below, day_number, year_number, day_of, second_of, is_real, date_in}
use Rattle.imap_tokens.specs.Tokens.{is_quoted_byte}
use Rattle.imap_stream.proofs.LineMarks.{apart}
use Rattle.imap_lines.proofs.WrittenTokens.{and_true}
use Rattle.imap_lines.proofs.WrittenFlags.{IsDated}

differ : (a b : ℕ) → (a == b) ≡ false → a ≡ b → ⊥
differ a b e is = absurd (let same = (Decides-eqb a b).1 is in let wrong : false ≡ true = sym e ∙ same in cc)

-- a digit of a number
pub digit_is : (n : ℕ) → n < 10 → is_ascii_digit (48 + n) ≡ true
digit_is n one = rw (le-leb 48 (48 + n) (omega arith), le-leb (48 + n) 57 (omega arith)) refl

two_are : (n : ℕ) → n < 100 → two_digits (48 + n / 10) (48 + n % 10) ≡ Some n
two_are n few =
    let value : (48 + n / 10 - 48) * 10 + (48 + n % 10 - 48) ≡ n = omega arith in
    rw (digit_is (n / 10) (omega arith), digit_is (n % 10) (omega arith), value) refl

below_are : (limit n : ℕ) → n < limit → limit ≤ 100 → two_below limit (48 + n / 10) (48 + n % 10) ≡ Some n
below_are limit n less most = rw (two_are n (omega arith), (Decides-ltb n limit).1 less) refl

record DayBytes (day : ℕ) : Type 0 where
  tens : ℕ
  ones : ℕ
  are : two_places day ≡ tens ∷ ones ∷ []
  read : day_number tens ones ≡ Some day
  low : 32 ≤ tens
  lower : 32 ≤ ones

day_bytes : (day : ℕ) → day < 100 → DayBytes day
day_bytes day few = by_size (nat_lt day 10) refl
  where
    by_size : (t : Bool) → nat_lt day 10 ≡ t → DayBytes day
    by_size true e =
        let one : day < 10 = (Decides-ltb day 10).0 e in
        let value : (48 - 48) * 10 + (48 + day - 48) ≡ day = omega arith in
        record { tens = 32; ones = 48 + day; are = rw e refl; read = rw (digit_is day one, value) refl; low = omega arith; lower = omega arith }
    by_size false e =
        record {
          tens = 48 + day / 10;
          ones = 48 + day % 10;
          are = rw e refl;
          read = rw (apart (48 + day / 10) 32 (λ is. omega arith)) (two_are day few);
          low = omega arith;
          lower = omega arith;
        }

-- the letters of a month
record MonthBytes (month : ℕ) : Type 0 where
  first : ℕ
  second : ℕ
  third : ℕ
  are : month_name month ≡ first ∷ second ∷ third ∷ []
  read : month_of (first ∷ second ∷ third ∷ []) ≡ Some month
  plain : list_all is_quoted_byte (first ∷ second ∷ third ∷ []) ≡ true

abbrev is_named : ℕ → Option ℕ → Bool
is_named month None = false
is_named month (Some n) = n == month

abbrev fits : ℕ → Bool
fits month = (length (month_name month) == 3) && is_named month (month_of (month_name month)) && list_all is_quoted_byte (month_name month)

-- what passes at each number from one on passes at such a number
passes_at : (p : ℕ → Bool) (from count n : ℕ) → list_all p (range_with_len from count) ≡ true → from ≤ n → n < from + count → p n ≡ true
passes_at p from zero n all low high = absurd (omega arith)
passes_at p from (suc count) n all low high = by_first (n == from) refl (and_true (p from) (list_all p (range_with_len (from + 1) count)) all) (λ later more. passes_at p (from + 1) count n more later (omega arith))
  where
    by_first : (t : Bool) → (n == from) ≡ t → (p from ≡ true) × (list_all p (range_with_len (from + 1) count) ≡ true)
        → (from + 1 ≤ n → list_all p (range_with_len (from + 1) count) ≡ true → p n ≡ true) → p n ≡ true
    by_first true is both more = ap p ((Decides-eqb n from).0 is) ∙ both.0
    by_first false is both more = more (let other = differ n from is in omega arith) both.1

named_is : (month : ℕ) (o : Option ℕ) → is_named month o ≡ true → o ≡ Some month
named_is month None e = absurd (let wrong : false ≡ true = e in cc)
named_is month (Some n) e = ap Some ((Decides-eqb n month).0 e)

three_letters : (month : ℕ) (name : List ℕ) → month_name month ≡ name → (length name == 3) ≡ true → month_of name ≡ Some month → list_all is_quoted_byte name ≡ true → MonthBytes month
three_letters month [] is e read plain = absurd (let wrong : false ≡ true = e in cc)
three_letters month (a ∷ []) is e read plain = absurd (let wrong : false ≡ true = e in cc)
three_letters month (a ∷ b ∷ []) is e read plain = absurd (let wrong : false ≡ true = e in cc)
three_letters month (a ∷ b ∷ c ∷ []) is e read plain = record { first = a; second = b; third = c; are = is; read = read; plain = plain }
three_letters month (a ∷ b ∷ c ∷ d ∷ name) is e read plain = absurd (let more = (Decides-eqb (length (a ∷ b ∷ c ∷ d ∷ name)) 3).0 e in omega arith)

month_bytes : (month : ℕ) → 1 ≤ month → month ≤ 12 → MonthBytes month
month_bytes month low high =
    let name = month_name month in
    let all = passes_at fits 1 12 month refl low (omega arith) in
    let first = and_true ((length name == 3) && is_named month (month_of name)) (list_all is_quoted_byte name) all in
    let second = and_true (length name == 3) (is_named month (month_of name)) first.0 in
    three_letters month name refl second.0 (named_is month (month_of name) second.1) first.1

-- the digits of a year
year_bytes : (year : ℕ) → 1000 ≤ year → year ≤ 9999 → decimal year ≡ (48 + year / 1000) ∷ (48 + year / 100 % 10) ∷ (48 + year / 10 % 10) ∷ (48 + year % 10) ∷ []
year_bytes year low high =
    let hundreds : year / 10 / 10 ≡ year / 100 = omega arith in
    let thousands : year / 100 / 10 ≡ year / 1000 = omega arith in
    rw (decimal_step year (omega arith) (omega arith), decimal_step (year / 10) (omega arith) (omega arith), hundreds, decimal_step (year / 100) (omega arith) (omega arith), thousands, decimal_digit (year / 1000) (omega arith)) refl

year_is : (year : ℕ) → year ≤ 9999 → year_number (48 + year / 1000) (48 + year / 100 % 10) (48 + year / 10 % 10) (48 + year % 10) ≡ Some year
year_is year high =
    let first : (48 + year / 1000 - 48) * 10 + (48 + year / 100 % 10 - 48) ≡ year / 100 = omega arith in
    let second : (48 + year / 10 % 10 - 48) * 10 + (48 + year % 10 - 48) ≡ year % 100 = omega arith in
    let whole : year / 100 * 100 + year % 100 ≡ year = omega arith in
    rw (digit_is (year / 1000) (omega arith), digit_is (year / 100 % 10) (omega arith), digit_is (year / 10 % 10) (omega arith), digit_is (year % 10) (omega arith), first, second, whole) refl

-- the text of a date, byte for byte
abbrev date_text : ℕ → ℕ → ℕ → ℕ → ℕ → ℕ → ℕ → ℕ → ℕ → ℕ → ℕ → ℕ → ℕ → ℕ → ℕ → List ℕ
date_text d0 d1 m0 m1 m2 y0 y1 y2 y3 h0 h1 i0 i1 s0 s1 =
    d0 ∷ d1 ∷ 45 ∷ m0 ∷ m1 ∷ m2 ∷ 45 ∷ y0 ∷ y1 ∷ y2 ∷ y3 ∷ 32 ∷ h0 ∷ h1 ∷ 58 ∷ i0 ∷ i1 ∷ 58 ∷ s0 ∷ s1 ∷ codes " +0000"

-- its parts are read
date_read : (d0 d1 m0 m1 m2 y0 y1 y2 y3 h0 h1 i0 i1 s0 s1 day month year hour minute second : ℕ)
    → day_number d0 d1 ≡ Some day → month_of (m0 ∷ m1 ∷ m2 ∷ []) ≡ Some month → year_number y0 y1 y2 y3 ≡ Some year
    → two_below 24 h0 h1 ≡ Some hour → two_below 60 i0 i1 ≡ Some minute → two_below 60 s0 s1 ≡ Some second → is_real (day_of year month day) ≡ true
    → date_in (date_text d0 d1 m0 m1 m2 y0 y1 y2 y3 h0 h1 i0 i1 s0 s1) ≡ Some (kept (seconds_of (day_of year month day) (second_of hour minute second) (pos 0)))
date_read d0 d1 m0 m1 m2 y0 y1 y2 y3 h0 h1 i0 i1 s0 s1 day month year hour minute second d m y h i s real = rw (d, m, y, h, i, s, real) refl

plain_byte : (b : ℕ) → 14 ≤ b → is_quoted_byte b ≡ true
plain_byte b low = rw (apart b 0 (λ is. omega arith), apart b 13 (λ is. omega arith), apart b 10 (λ is. omega arith)) refl

-- a quoted string may hold it
date_plain : (d0 d1 m0 m1 m2 y0 y1 y2 y3 h0 h1 i0 i1 s0 s1 : ℕ) → 14 ≤ d0 → 14 ≤ d1 → list_all is_quoted_byte (m0 ∷ m1 ∷ m2 ∷ []) ≡ true → 14 ≤ y0 → 14 ≤ y1 → 14 ≤ y2 → 14 ≤ y3
    → 14 ≤ h0 → 14 ≤ h1 → 14 ≤ i0 → 14 ≤ i1 → 14 ≤ s0 → 14 ≤ s1 → list_all is_quoted_byte (date_text d0 d1 m0 m1 m2 y0 y1 y2 y3 h0 h1 i0 i1 s0 s1) ≡ true
date_plain d0 d1 m0 m1 m2 y0 y1 y2 y3 h0 h1 i0 i1 s0 s1 d e month y z u v h k i j s t =
    let first = and_true (is_quoted_byte m0) (list_all is_quoted_byte (m1 ∷ m2 ∷ [])) month in
    let second = and_true (is_quoted_byte m1) (list_all is_quoted_byte (m2 ∷ [])) first.1 in
    let third = and_true (is_quoted_byte m2) true second.1 in
    rw (plain_byte d0 d, plain_byte d1 e, first.0, second.0, third.0, plain_byte y0 y, plain_byte y1 z, plain_byte y2 u, plain_byte y3 v, plain_byte h0 h, plain_byte h1 k, plain_byte i0 i, plain_byte i1 j, plain_byte s0 s, plain_byte s1 t) refl

-- a moment's year is 1970 or later
month_keeps : (more year month days : ℕ) → (day_from_month more year month days).year ≡ year
unfolding day_from_month
month_keeps zero year month days = refl
month_keeps (suc more) year month days = by_test (nat_lt days (days_in_month (pos year) month)) (month_keeps more year (month + 1) (days - days_in_month (pos year) month))
  where
    by_test : (t : Bool) → (day_from_month more year (month + 1) (days - days_in_month (pos year) month)).year ≡ year
        → (cond t (record { year = year; month = month; day = days + 1 }) (day_from_month more year (month + 1) (days - days_in_month (pos year) month))).year ≡ year
    by_test true e = refl
    by_test false e = e

year_rises : (more year days : ℕ) → year ≤ (day_from_year more year days).year
unfolding day_from_year
year_rises zero year days = (let same = month_keeps 11 year 1 days in omega arith)
year_rises (suc more) year days = by_test (nat_lt days (days_in_year (pos year))) (month_keeps 11 year 1 days) (year_rises more (year + 1) (days - days_in_year (pos year)))
  where
    by_test : (t : Bool) → (day_from_month 11 year 1 days).year ≡ year → year + 1 ≤ (day_from_year more (year + 1) (days - days_in_year (pos year))).year
        → year ≤ (cond t (day_from_month 11 year 1 days) (day_from_year more (year + 1) (days - days_in_year (pos year)))).year
    by_test true same later = omega arith
    by_test false same later = omega arith

recent : (days : ℕ) → 1970 ≤ (civil_day days).year
unfolding civil_day
recent days = year_rises days 1970 days

short_month : (year : ℤ) (month : ℕ) → days_in_month year month ≤ 31
short_month year month = by_tests (month == 2) (is_leap_year year) (month == 4 || month == 6 || month == 9 || month == 11)
  where
    by_tests : (s t u : Bool) → cond s (cond t 29 28) (cond u 30 31) ≤ 31
    by_tests true true u = omega arith
    by_tests true false u = omega arith
    by_tests false t true = omega arith
    by_tests false t false = omega arith

-- a day and a second of it are their moment
moment_is : (d : Day) (days second at : ℕ) → days_from_civil (pos d.year) d.month d.day ≡ pos days → days * 86400 + second ≡ at → at ≤ 253402300799 → kept (seconds_of d second (pos 0)) ≡ at
moment_is d days second at e sum last =
    let least : min (days * 86400 + second + 0) 253402300799 ≡ at = omega arith in
    rw e least

-- the date of a day and a second of it
day_dated : (d : Day) (days second at : ℕ) → IsDay days d → 1970 ≤ d.year → second < 86400 → days * 86400 + second ≡ at → at ≤ 253402300799
    → (date_in (imap_date_of d second) ≡ Some at) × (list_all is_quoted_byte (imap_date_of d second) ≡ true)
day_dated d days second at is year_low less sum last =
    let top = is.0.0.1 in
    let year_high : d.year ≤ 9999 = omega (arith, signed_arith, top) in
    let days_of = day_bytes d.day (let most = short_month (pos d.year) d.month in let within = is.0.2.1 in omega arith) in
    let letters = month_bytes d.month is.0.1.0 is.0.1.1 in
    let digits = year_bytes d.year (omega arith) (omega arith) in
    let bytes : imap_date_of d second ≡ date_text days_of.tens days_of.ones letters.first letters.second letters.third
    (48 + d.year / 1000) (48 + d.year / 100 % 10) (48 + d.year / 10 % 10) (48 + d.year % 10)
    (48 + second / 3600 / 10) (48 + second / 3600 % 10) (48 + second / 60 % 60 / 10) (48 + second / 60 % 60 % 10) (48 + second % 60 / 10) (48 + second % 60 % 10)
    = rw (days_of.are, letters.are, digits) refl in
    let real : is_real (day_of d.year d.month d.day) ≡ true =
    rw (le-leb 1 d.month is.0.1.0, le-leb d.month 12 is.0.1.1, le-leb 1 d.day is.0.2.0, le-leb d.day (days_in_month (pos d.year) d.month) is.0.2.1) refl in
    let clock : second_of (second / 3600) (second / 60 % 60) (second % 60) ≡ second = omega arith in (
      ap date_in bytes
          ∙ date_read days_of.tens days_of.ones letters.first letters.second letters.third (48 + d.year / 1000) (48 + d.year / 100 % 10) (48 + d.year / 10 % 10) (48 + d.year % 10)
          (48 + second / 3600 / 10) (48 + second / 3600 % 10) (48 + second / 60 % 60 / 10) (48 + second / 60 % 60 % 10) (48 + second % 60 / 10) (48 + second % 60 % 10)
          d.day d.month d.year (second / 3600) (second / 60 % 60) (second % 60)
          days_of.read letters.read (year_is d.year (omega arith)) (below_are 24 (second / 3600) (omega arith) (omega arith)) (below_are 60 (second / 60 % 60) (omega arith) (omega arith))
          (below_are 60 (second % 60) (omega arith) (omega arith)) real
          ∙ ap (λ s. Some (kept (seconds_of (day_of d.year d.month d.day) s (pos 0)))) clock
          ∙ ap Some (moment_is (day_of d.year d.month d.day) days second at is.1 sum last),
      ap (list_all is_quoted_byte) bytes
          ∙ date_plain days_of.tens days_of.ones letters.first letters.second letters.third (48 + d.year / 1000) (48 + d.year / 100 % 10) (48 + d.year / 10 % 10) (48 + d.year % 10)
          (48 + second / 3600 / 10) (48 + second / 3600 % 10) (48 + second / 60 % 60 / 10) (48 + second / 60 % 60 % 10) (48 + second % 60 / 10) (48 + second % 60 % 10)
          (omega (arith, days_of.low)) (omega (arith, days_of.lower)) letters.plain (omega arith) (omega arith) (omega arith) (omega arith) (omega arith) (omega arith) (omega arith) (omega arith) (omega arith) (omega arith),
    )

-- each moment is read as its date is written
pub dated : ((days : ℕ) → days ≤ 2932896 → IsDay days (civil_day days)) → (at : ℕ) → at ≤ 253402300799 → IsDated (Some at)
unfolding imap_date
dated calendar at last =
    day_dated (civil_day (at / 86400)) (at / 86400) (at % 86400) at (calendar (at / 86400) (omega arith)) (recent (at / 86400)) (omega arith) (omega arith) last
