-- What digits are.
use Rattle.std.proofs.Common.{◌≡◌, ℕ, List, true, ◌&&◌, ◌==◌, ◌||◌, not, fold, ◌+◌, ◌-◌, ◌*◌, ◌<◌, length, slice_index, nat_le, arith, rules}
use Rattle.std.specs.List.{list_all}
use Rattle.std.specs.Char.{is_ascii_digit}
use Rattle.std.proofs.lemmas.Bool.{and_parts, leb-true}
use Rattle.std.proofs.lemmas.Str.Parse.{IsNumeralModel, numerals_by_fold}
use Rattle.undo_base.specs.Digits.{is_decimal, number_of}

pub own : IsNumeralModel (λ ds. list_all is_ascii_digit ds ≡ true) number_of
own = numerals_by_fold (λ ds. list_all is_ascii_digit ds ≡ true) (search rules) (λ n ds. fold (λ n d. 10 * n + (d - 48)) n ds) (search rules)

-- digits stand there, one at least
pub digits_in : (text : List ℕ) → is_decimal text ≡ true → (0 < length text) × (list_all is_ascii_digit text ≡ true)
digits_in text h =
    let (front, digits) = and_parts (nat_le 1 (length text) && ((length text == 1) || not (slice_index text 0 == 48))) (list_all is_ascii_digit text) h in
    let (some, first) = and_parts (nat_le 1 (length text)) ((length text == 1) || not (slice_index text 0 == 48)) front in
    (omega (arith, leb-true 1 (length text) some), digits)
