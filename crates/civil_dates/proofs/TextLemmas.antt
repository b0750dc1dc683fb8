-- Numbers of two places.
use Rattle.std.proofs.Common.{◌≡◌, ℕ, ◌-◌, ◌/◌, ◌%◌, ◌<◌, ◌≤◌, ◌^◌, false, true, [], refl, arith, rules, inl, inr, nat_lt}
use Rattle.std.proofs.lemmas.Bool.{cases_lt}
use Rattle.std.specs.Fmt.{decimal, padded_integral, char_count, format_spec}
use Rattle.std.proofs.lemmas.Fmt.{decimal_digit, decimal_step}
use lib.Utf8.{encode}
use Rattle.civil_dates.specs.Dates.{two_digits, two_places}

two_decimal : (n : ℕ) → 10 ≤ n → n < 100 → decimal n ≡ two_digits n
two_decimal n low high = rw (decimal_step n low (omega arith), decimal_digit (n / 10) (omega arith)) refl

-- what `{:02}` writes of a number below 100
pub zero_padded : (n : ℕ) → n < 100 → padded_integral (format_spec 32 0 4 2 (2 ^ 64 - 1)) false [] (decimal n) ≡ two_digits n
unfolding padded_integral char_count
zero_padded n h = elim (cases_lt n 10) [
  | inl one ↦ let high : n / 10 ≡ 0 = omega arith in let low : n % 10 ≡ n = omega arith in rw (decimal_digit n one, high, low) refl
  | inr more ↦ rw (two_decimal n more h) refl
]

-- what `{:2}` writes of it
pub space_padded : (n : ℕ) → n < 100 → padded_integral (format_spec 32 0 0 2 (2 ^ 64 - 1)) false [] (decimal n) ≡ two_places n
unfolding padded_integral char_count encode
space_padded n h = elim (cases_lt n 10) [
  | inl one ↦ let e : nat_lt n 10 ≡ true = search rules in rw (decimal_digit n one, e) refl
  | inr more ↦ let e : nat_lt n 10 ≡ false = search rules in rw (two_decimal n more h, e) refl
]
