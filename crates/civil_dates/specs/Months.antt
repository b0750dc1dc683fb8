-- The months' names as mail writes them (RFC 5322, 3.3).
use Rattle.std.specs.Prelude.{ℕ, ◌-◌, Bool, List, [], ◌∷◌, codes, get_or, Option}
use Rattle.std.specs.List.{find, range_with_len}
use Rattle.std.specs.Str.{bytes_eq, str_to_ascii_lowercase}

abbrev pub month_names : List (List ℕ)
month_names =
    codes "Jan" ∷ codes "Feb" ∷ codes "Mar" ∷ codes "Apr" ∷ codes "May" ∷ codes "Jun"
    ∷ codes "Jul" ∷ codes "Aug" ∷ codes "Sep" ∷ codes "Oct" ∷ codes "Nov" ∷ codes "Dec" ∷ []

-- the three letters of a month, from 1
abbrev pub month_name : ℕ → List ℕ
month_name m = get_or month_names (m - 1) []

-- letters name a month in any case
abbrev pub is_month : List ℕ → ℕ → Bool
is_month letters m = bytes_eq (str_to_ascii_lowercase letters) (str_to_ascii_lowercase (month_name m))

-- the month that letters name
abbrev pub month_of : List ℕ → Option ℕ
month_of letters = find (is_month letters) (range_with_len 1 12)
