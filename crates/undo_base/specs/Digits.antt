-- Numbers in digits.
use Rattle.std.specs.Prelude.{ℕ, ◌+◌, ◌-◌, ◌*◌, Bool, ◌==◌, ◌&&◌, ◌||◌, not, List, length, fold, slice_index, nat_le, Option, None, Some, if◌then◌else◌}
use Rattle.std.specs.List.{list_all}
use Rattle.std.specs.Char.{is_ascii_digit}

-- digits without a leading zero
abbrev pub is_decimal : List ℕ → Bool
is_decimal text = nat_le 1 (length text) && ((length text == 1) || not (slice_index text 0 == 48)) && list_all is_ascii_digit text

-- what digits stand for
abbrev pub number_of : List ℕ → ℕ
number_of text = fold (λ n d. 10 * n + (d - 48)) 0 text

-- a number of at most twelve digits, from low to high
abbrev pub number_between : ℕ → ℕ → List ℕ → Option ℕ
number_between low high text =
    if is_decimal text && nat_le (length text) 12 && nat_le low (number_of text) && nat_le (number_of text) high then Some (number_of text) else None
