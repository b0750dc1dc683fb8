-- Numbers are read of what is written of them, and of nothing else.
use Rattle.std.proofs.Common.{◌≡◌, inl, inr, ℕ, zero, suc, List, [], ◌∷◌, Bool, true, false, ◌&&◌, ◌==◌, ◌||◌, not, cond, ◌^◌, ◌<◌, ◌≤◌, length, slice_index, get_or, nat_le, arith, refl, Some, None, is_some, unwrap_or, sym, ap, subst, ◌∙◌}
use Rattle.std.specs.List.{list_all}
use Rattle.std.specs.Char.{is_ascii_digit}
use Rattle.std.specs.Fmt.{decimal}
use Rattle.std.proofs.lemmas.Bool.{and_parts, and_from, or_cases, or_right, leb-true, le-leb, eqb-true, eq-eqb, ne_eqb, not-true, not_from_false, false≢true, true≢false}
use Rattle.std.proofs.lemmas.Fmt.{decimal_digit, decimal-digits_value, digits_decimal, digits_value-decimal, decimal_nonempty, first_decimal, length-decimal-le}
use Rattle.undo_base.specs.Digits.{is_decimal, number_of, number_between}
use Rattle.command_words.specs.Usage.{is_word}
use Rattle.command_words.proofs.Digits.{own, digits_in}

-- a leading zero is the whole number
zero_alone : (text : List ℕ) → is_decimal text ≡ true → get_or text 0 0 ≡ 48 → length text ≡ 1
zero_alone text h z =
    let (front, digits) = and_parts (nat_le 1 (length text) && ((length text == 1) || not (slice_index text 0 == 48))) (list_all is_ascii_digit text) h in
    let (some, first) = and_parts (nat_le 1 (length text)) ((length text == 1) || not (slice_index text 0 == 48)) front in
    elim (or_cases (length text == 1) (not (slice_index text 0 == 48)) first) [
      | inl one ↦ eqb-true (length text) 1 one
      | inr other ↦ absurd (true≢false (sym (eq-eqb (slice_index text 0) 48 z) ∙ not-true (slice_index text 0 == 48) other))
    ]

-- what is read is written so
pub number_to : (low high n : ℕ) (text : List ℕ) → high < 2 ^ 32 → number_between low high text ≡ Some n → (low ≤ n) × (n ≤ high) × (text ≡ decimal n)
number_to low high n text small = go (is_decimal text && nat_le (length text) 12 && nat_le low (number_of text) && nat_le (number_of text) high) refl where
  go : (b : Bool) → (is_decimal text && nat_le (length text) 12 && nat_le low (number_of text) && nat_le (number_of text) high) ≡ b → cond b (Some (number_of text)) None ≡ Some n → (low ≤ n) × (n ≤ high) × (text ≡ decimal n)
  go true t e =
      let (front, below) = and_parts (is_decimal text && nat_le (length text) 12 && nat_le low (number_of text)) (nat_le (number_of text) high) t in
      let (short, above) = and_parts (is_decimal text && nat_le (length text) 12) (nat_le low (number_of text)) front in
      let (is, few) = and_parts (is_decimal text) (nat_le (length text) 12) short in
      let same : number_of text ≡ n = ap (λ o. unwrap_or o 0) e in
      let (some, digits) = digits_in text is in
      let most : number_of text ≤ high = leb-true (number_of text) high below in
      let spelled : decimal (number_of text) ≡ text = decimal-digits_value own text digits some (zero_alone text is) (omega (arith, most, small)) in
      (subst (λ k. low ≤ k) same (leb-true low (number_of text) above), subst (λ k. k ≤ high) same most, sym spelled ∙ ap decimal same)
  go false t e = absurd (false≢true (ap is_some e))

-- what is written is digits without a leading zero
decimal_is_decimal : (n : ℕ) → 1 ≤ n → n < 2 ^ 64 → is_decimal (decimal n) ≡ true
decimal_is_decimal n low small =
    let first = first_decimal n low small in
    and_from _ _
    (and_from _ _ (le-leb 1 (length (decimal n)) (decimal_nonempty n small))
    (or_right (length (decimal n) == 1) (not (slice_index (decimal n) 0 == 48)) (not_from_false _ (ne_eqb (slice_index (decimal n) 0) 48 (λ e. omega (arith, e, first))))))
    (digits_decimal own n small)

-- what is written is read
pub number_from : (low high n : ℕ) → 1 ≤ n → high < 2 ^ 32 → low ≤ n → n ≤ high → number_between low high (decimal n) ≡ Some n
number_from low high n one small above below =
    let fits : n < 2 ^ 64 = omega (arith, small, below) in
    let same : number_of (decimal n) ≡ n = digits_value-decimal own n fits in
    let few : length (decimal n) ≤ 10 = length-decimal-le 10 n (omega arith) (omega arith) (omega arith) in
    rw (decimal_is_decimal n one fits, le-leb (length (decimal n)) 12 (omega arith), same, le-leb low n above, le-leb n high below) refl

-- what is written is a word
pub word_decimal : (n : ℕ) → 1 ≤ n → n < 2 ^ 64 → is_word (decimal n) ≡ true
word_decimal n low small = go (decimal n) (first_decimal n low small) where
  go : (text : List ℕ) → 48 < get_or text 0 0 → is_word text ≡ true
  go [] h = absurd (omega arith)
  go (b ∷ t) h = not_from_false (b == 45) (ne_eqb b 45 (λ e. omega (arith, e, h)))

-- the same of any number of four bytes, also of 0
pub point_from : (n : ℕ) → n ≤ 4294967295 → number_between 0 4294967295 (decimal n) ≡ Some n
point_from zero high = subst (λ (t : List ℕ). number_between 0 4294967295 t ≡ Some 0) (sym (decimal_digit 0 (omega arith))) refl
point_from (suc n) high = number_from 0 4294967295 (suc n) (omega arith) (omega arith) (omega arith) high

pub word_point : (n : ℕ) → n ≤ 4294967295 → is_word (decimal n) ≡ true
word_point zero high = subst (λ (t : List ℕ). is_word t ≡ true) (sym (decimal_digit 0 (omega arith))) refl
word_point (suc n) high = word_decimal (suc n) (omega arith) (omega (arith, high))
