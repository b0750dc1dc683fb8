-- What spells a date (RFC 3501, 9: date-time), "dd-Mon-yyyy hh:mm:ss +zzzz" without the quotes.
use Rattle.std.specs.Prelude.{◌≡◌, ℕ, Bool, true, List, [], ◌∷◌, Some}
use Rattle.civil_dates.specs.Days.{kept, seconds_of}
use Rattle.civil_dates.specs.Months.{month_of}
use Rattle.imap_tokens.specs.Dates.{two_below, day_number, year_number, day_of, second_of, sign_in, ahead_of, is_real}

-- The letters of a date, and the day, the second of the day and the zone that they name. The moment is kept as the first or the last one where it
-- lies before or after them.
pub record SpellsDate (moment : ℕ) (bytes : List ℕ) : Type 0 where
  pub d1 : ℕ
  pub d2 : ℕ
  pub m1 : ℕ
  pub m2 : ℕ
  pub m3 : ℕ
  pub y1 : ℕ
  pub y2 : ℕ
  pub y3 : ℕ
  pub y4 : ℕ
  pub h1 : ℕ
  pub h2 : ℕ
  pub n1 : ℕ
  pub n2 : ℕ
  pub s1 : ℕ
  pub s2 : ℕ
  pub z : ℕ
  pub z1 : ℕ
  pub z2 : ℕ
  pub z3 : ℕ
  pub z4 : ℕ
  pub day : ℕ
  pub month : ℕ
  pub year : ℕ
  pub hour : ℕ
  pub minute : ℕ
  pub second : ℕ
  pub behind : Bool
  pub hours : ℕ
  pub minutes : ℕ
  pub whole : bytes ≡ d1 ∷ d2 ∷ 45 ∷ m1 ∷ m2 ∷ m3 ∷ 45 ∷ y1 ∷ y2 ∷ y3 ∷ y4 ∷ 32 ∷ h1 ∷ h2 ∷ 58 ∷ n1 ∷ n2 ∷ 58 ∷ s1 ∷ s2 ∷ 32 ∷ z ∷ z1 ∷ z2 ∷ z3 ∷ z4 ∷ []
  pub is_day : day_number d1 d2 ≡ Some day
  pub is_month : month_of (m1 ∷ m2 ∷ m3 ∷ []) ≡ Some month
  pub is_year : year_number y1 y2 y3 y4 ≡ Some year
  pub is_hour : two_below 24 h1 h2 ≡ Some hour
  pub is_minute : two_below 60 n1 n2 ≡ Some minute
  pub is_second : two_below 60 s1 s2 ≡ Some second
  pub is_sign : sign_in z ≡ Some behind
  pub are_hours : two_below 24 z1 z2 ≡ Some hours
  pub are_minutes : two_below 60 z3 z4 ≡ Some minutes
  pub real : is_real (day_of year month day) ≡ true
  pub is : moment ≡ kept (seconds_of (day_of year month day) (second_of hour minute second) (ahead_of behind hours minutes))
