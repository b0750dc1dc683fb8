-- Sets and numbers are read as they are written.
use Rattle.std.proofs.Common.{◌≡◌, ℕ, ◌+◌, ◌-◌, ◌*◌, ◌<◌, ◌≤◌, Bool, true, false, not, ◌==◌, ◌&&◌, List, [], ◌∷◌, ◌++◌, length, get_or, nat_le, nat_lt, Option, None, Some, fold, refl, ap, ◌∙◌, arith, rules}
use Rattle.std.specs.Prelude.{option_map, option_and_then}
use Rattle.std.specs.Char.{is_ascii_digit}
use Rattle.std.specs.Fmt.{decimal}
use Rattle.std.specs.List.{list_all, AllByRecursion}
use Rattle.std.proofs.Math.Bool.{or-true}
use Rattle.std.proofs.lemmas.Bool.{leb-true, le-leb}
use Rattle.std.proofs.lemmas.Bool.Decides.{Decides-ltb}
use Rattle.std.proofs.lemmas.Fmt.{decimal_nonempty, digits_decimal, digits_value-decimal, first_decimal, length-decimal-le}
use Rattle.std.proofs.lemmas.List.{length-append}
use Rattle.std.proofs.lemmas.List.Folds.{list_all-append}
use Rattle.std.proofs.lemmas.Str.Parse.{IsNumeralModel, numerals_by_fold}
use Rattle.undo_base.specs.Digits.{number_of}
use Rattle.imap_stream.specs.LiteralMarks.{all_digits}
use Rattle.imap_stream.specs.declared.picks.SetRange.{SetRange}
use Rattle.imap_tokens.specs.Words.{is_word, number_in, count_in}
use Rattle.imap_tokens.specs.Sets.{cut_at, end_in, range_by, range_in, between_commas, ranges_in, set_in}
use Rattle.imap_lines.specs.PlainCommands.{end_text, range_text, set_text, IsEnd, IsSet}
use Rattle.imap_stream.proofs.LineMarks.{apart}
use Rattle.imap_lines.proofs.WrittenTokens.{plain_byte, and_true, not_false}

-- the digits of a number and its value, as std has them
numerals : IsNumeralModel (λ ds. list_all is_ascii_digit ds ≡ true) number_of
numerals = numerals_by_fold (λ ds. list_all is_ascii_digit ds ≡ true) (search rules) (λ n ds. fold (λ n d. 10 * n + (d - 48)) n ds) (search rules)

digits_of : (n : ℕ) → n ≤ 4294967295 → list_all is_ascii_digit (decimal n) ≡ true
digits_of n fits = digits_decimal numerals n (omega arith)

pub value_is : (n : ℕ) → n ≤ 4294967295 → number_of (decimal n) ≡ n
value_is n fits = digits_value-decimal numerals n (omega arith)

pub all_digits_of : (n : ℕ) → n ≤ 4294967295 → all_digits (decimal n) ≡ true
all_digits_of n fits =
    let some : 0 < length (decimal n) = decimal_nonempty n (omega arith) in
    let few : length (decimal n) ≤ 10 = length-decimal-le 10 n (omega arith) (omega arith) (omega arith) in
    rw (apart (length (decimal n)) 0 (λ none. omega arith), le-leb (length (decimal n)) 10 few, digits_of n fits) refl

small_is : (n : ℕ) → n ≤ 4294967295 → nat_lt 4294967295 n ≡ false
small_is n fits = by_test (nat_lt 4294967295 n) refl
  where
    by_test : (t : Bool) → nat_lt 4294967295 n ≡ t → t ≡ false
    by_test true is = absurd (let lt = (Decides-ltb 4294967295 n).0 is in omega arith)
    by_test false is = refl

-- a number is read as it is written
pub number_is : (n : ℕ) → 1 ≤ n → n ≤ 4294967295 → number_in (decimal n) ≡ Some n
number_is n some fits =
    let long : 0 < length (decimal n) = decimal_nonempty n (omega arith) in
    let few : length (decimal n) ≤ 10 = length-decimal-le 10 n (omega arith) (omega arith) (omega arith) in
    let first : 48 < get_or (decimal n) 0 0 = first_decimal n some (omega arith) in
    rw (le-leb 1 (length (decimal n)) (omega arith), apart (get_or (decimal n) 0 0) 48 (λ is. omega arith), or-true (length (decimal n) == 1), digits_of n fits, le-leb (length (decimal n)) 12 (omega arith), value_is n fits, le-leb 1 n some, le-leb n 4294967295 fits) refl

-- bytes that begin with a digit from 1 on are no single 0 and no *
first_digit : (b w : ℕ) (bytes : List ℕ) → 48 < b → b ≤ 57 → w ≤ 48 → is_word (w ∷ []) (b ∷ bytes) ≡ false
first_digit b w bytes low high most =
    let capital : nat_le 97 b ≡ false = by_test (nat_le 97 b) refl in
    rw (capital, apart b w (λ is. omega arith)) refl
  where
    by_test : (t : Bool) → nat_le 97 b ≡ t → t ≡ false
    by_test true is = absurd (let le = leb-true 97 b is in omega arith)
    by_test false is = refl

no_sign : (w : ℕ) (bytes : List ℕ) → w ≤ 48 → 0 < length bytes → 48 < get_or bytes 0 0 → list_all is_ascii_digit bytes ≡ true → is_word (w ∷ []) bytes ≡ false
no_sign w [] most some first e = absurd (omega arith)
no_sign w (b ∷ bytes) most some first e =
    let both = and_true (is_ascii_digit b) (list_all is_ascii_digit bytes) e in
    first_digit b w bytes first (leb-true b 57 (and_true (nat_le 48 b) (nat_le b 57) both.0).1) most

number_word : (w n : ℕ) → w ≤ 48 → 1 ≤ n → n ≤ 4294967295 → is_word (w ∷ []) (decimal n) ≡ false
number_word w n most some fits = no_sign w (decimal n) most (decimal_nonempty n (omega arith)) (first_decimal n some (omega arith)) (digits_of n fits)

-- the same of a number that may begin with zeros
pub count_is : (n : ℕ) → n ≤ 4294967295 → count_in (decimal n) ≡ Some n
count_is n fits =
    let some : 0 < length (decimal n) = decimal_nonempty n (omega arith) in
    rw (le-leb 1 (length (decimal n)) (omega arith), digits_of n fits, value_is n fits, small_is n fits) refl

end_is : (o : Option ℕ) → IsEnd o → end_in (end_text o) ≡ Some o
end_is None is = refl
end_is (Some n) is = rw (number_word 42 n (omega arith) is.0 is.1, number_is n is.0 is.1) refl

-- bytes of an end of a range, of a range, and of a set
abbrev end_byte : ℕ → Bool
end_byte b = nat_le 42 b && nat_le b 57 && not (b == 44)

abbrev range_byte : ℕ → Bool
range_byte b = nat_le 42 b && nat_le b 58 && not (b == 44)

pub all_imply : (p q : ℕ → Bool) → ((b : ℕ) → p b ≡ true → q b ≡ true) → (bytes : List ℕ) → list_all p bytes ≡ true → list_all q bytes ≡ true
all_imply p q implies [] e = refl
all_imply p q implies (b ∷ bytes) e =
    let both = and_true (p b) (list_all p bytes) e in
    rw (implies b both.0, all_imply p q implies bytes both.1) refl

pub both_true : (a b : Bool) → a ≡ true → b ≡ true → (a && b) ≡ true
both_true a b e f = ap (λ t. t && b) e ∙ f

pub not_is : (t : Bool) → t ≡ false → not t ≡ true
not_is t e = ap not e

digit_end : (b : ℕ) → is_ascii_digit b ≡ true → end_byte b ≡ true
digit_end b e =
    let low = leb-true 48 b (and_true (nat_le 48 b) (nat_le b 57) e).0 in
    let high = leb-true b 57 (and_true (nat_le 48 b) (nat_le b 57) e).1 in
    rw (le-leb 42 b (omega arith), le-leb b 57 high, apart b 44 (λ is. omega arith)) refl

end_range : (b : ℕ) → end_byte b ≡ true → range_byte b ≡ true
end_range b e =
    let first = and_true (nat_le 42 b && nat_le b 57) (not (b == 44)) e in
    let ends = and_true (nat_le 42 b) (nat_le b 57) first.0 in
    let high = leb-true b 57 ends.1 in
    both_true (nat_le 42 b && nat_le b 58) (not (b == 44)) (both_true (nat_le 42 b) (nat_le b 58) ends.0 (le-leb b 58 (omega arith))) first.1

pub set_word : (b : ℕ) → nat_le 42 b && nat_le b 58 ≡ true → plain_byte b ≡ true
set_word b e =
    let ends = and_true (nat_le 42 b) (nat_le b 58) e in
    let low = leb-true 42 b ends.0 in
    let high = leb-true b 58 ends.1 in
    rw (le-leb 33 b (omega arith), le-leb b 126 (omega arith), apart b 40 (λ is. omega arith), apart b 41 (λ is. omega arith), apart b 34 (λ is. omega arith), apart b 123 (λ is. omega arith)) refl

end_bytes : (o : Option ℕ) → IsEnd o → list_all end_byte (end_text o) ≡ true
end_bytes None is = refl
end_bytes (Some n) is = all_imply is_ascii_digit end_byte digit_end (decimal n) (digits_of n is.1)

-- what stands before the first such byte
pub cut_is : (c : ℕ) (front rest : List ℕ) → list_all (λ b. not (b == c)) front ≡ true → (c == c) ≡ true → cut_at c (front ++ c ∷ rest) ≡ Some (front, rest)
cut_is c [] rest e same = rw same refl
cut_is c (b ∷ front) rest e same =
    let both = and_true (not (b == c)) (list_all (λ x. not (x == c)) front) e in
    rw (not_false (b == c) both.0, cut_is c front rest both.1 same) refl

end_apart : (b : ℕ) → end_byte b ≡ true → not (b == 58) ≡ true
end_apart b e =
    let high = leb-true b 57 (and_true (nat_le 42 b) (nat_le b 57) (and_true (nat_le 42 b && nat_le b 57) (not (b == 44)) e).0).1 in
    not_is (b == 58) (apart b 58 (λ is. omega arith))

range_is : (range : SetRange) → IsEnd range.from → IsEnd range.to → range_in (range_text range) ≡ Some range
range_is range from to =
    let cut = cut_is 58 (end_text range.from) (end_text range.to) (all_imply end_byte (λ b. not (b == 58)) end_apart (end_text range.from) (end_bytes range.from from)) refl in
    ap (range_by (range_text range)) cut ∙ rw (end_is range.from from, end_is range.to to) refl

range_bytes : (range : SetRange) → IsEnd range.from → IsEnd range.to → list_all range_byte (range_text range) ≡ true
range_bytes range from to =
    list_all-append range_byte (end_text range.from) (58 ∷ end_text range.to)
    ∙ both_true (list_all range_byte (end_text range.from)) (list_all range_byte (58 ∷ end_text range.to))
    (all_imply end_byte range_byte end_range (end_text range.from) (end_bytes range.from from))
    (all_imply end_byte range_byte end_range (end_text range.to) (end_bytes range.to to))

-- a part without commas
one_part : (part : List ℕ) → list_all range_byte part ≡ true → between_commas part ≡ part ∷ []
one_part [] e = refl
one_part (b ∷ part) e =
    let both = and_true (range_byte b) (list_all range_byte part) e in
    let other = not_false (b == 44) (and_true (nat_le 42 b && nat_le b 58) (not (b == 44)) both.0).1 in
    rw (other, one_part part both.1) refl

first_part : (part rest : List ℕ) → list_all range_byte part ≡ true → between_commas (part ++ 44 ∷ rest) ≡ part ∷ between_commas rest
first_part [] rest e = refl
first_part (b ∷ part) rest e =
    let both = and_true (range_byte b) (list_all range_byte part) e in
    let other = not_false (b == 44) (and_true (nat_le 42 b && nat_le b 58) (not (b == 44)) both.0).1 in
    rw (other, first_part part rest both.1) refl

ranges_are : (range : SetRange) (ranges : List SetRange) → AllByRecursion (λ r. IsEnd r.from × IsEnd r.to) (range ∷ ranges) → set_in (set_text (range ∷ ranges)) ≡ Some (range ∷ ranges)
ranges_are range [] each =
    ap ranges_in (one_part (range_text range) (range_bytes range each.0.0 each.0.1)) ∙ rw (range_is range each.0.0 each.0.1) refl
ranges_are range (next ∷ ranges) each =
    ap ranges_in (first_part (range_text range) (set_text (next ∷ ranges)) (range_bytes range each.0.0 each.0.1))
    ∙ ap (option_and_then (λ r. option_map (λ rs. r ∷ rs) (set_in (set_text (next ∷ ranges))))) (range_is range each.0.0 each.0.1)
    ∙ ap (option_map (λ rs. range ∷ rs)) (ranges_are next ranges each.1)

-- a set is read as it is written
pub set_is : (set : List SetRange) → IsSet set → set_in (set_text set) ≡ Some set
set_is [] is = absurd (let some = is.0 in omega arith)
set_is (range ∷ ranges) is = ranges_are range ranges is.1

range_set : (b : ℕ) → range_byte b ≡ true → nat_le 42 b && nat_le b 58 ≡ true
range_set b e = (and_true (nat_le 42 b && nat_le b 58) (not (b == 44)) e).0

set_bytes : (range : SetRange) (ranges : List SetRange) → AllByRecursion (λ r. IsEnd r.from × IsEnd r.to) (range ∷ ranges) → list_all (λ b. nat_le 42 b && nat_le b 58) (set_text (range ∷ ranges)) ≡ true
set_bytes range [] each = all_imply range_byte (λ b. nat_le 42 b && nat_le b 58) range_set (range_text range) (range_bytes range each.0.0 each.0.1)
set_bytes range (next ∷ ranges) each =
    list_all-append (λ b. nat_le 42 b && nat_le b 58) (range_text range) (44 ∷ set_text (next ∷ ranges))
    ∙ both_true (list_all (λ b. nat_le 42 b && nat_le b 58) (range_text range)) (list_all (λ b. nat_le 42 b && nat_le b 58) (44 ∷ set_text (next ∷ ranges)))
    (all_imply range_byte (λ b. nat_le 42 b && nat_le b 58) range_set (range_text range) (range_bytes range each.0.0 each.0.1))
    (set_bytes next ranges each.1)

some_range : (front back : List ℕ) → 0 < length (front ++ 58 ∷ back)
some_range [] back = omega arith
some_range (b ∷ front) back = omega arith

some_set : (range : SetRange) (ranges : List SetRange) → 0 < length (set_text (range ∷ ranges))
some_set range [] = some_range (end_text range.from) (end_text range.to)
some_set range (next ∷ ranges) =
    let one = some_range (end_text range.from) (end_text range.to) in
    let all : length (range_text range ++ 44 ∷ set_text (next ∷ ranges)) ≡ length (range_text range) + length (44 ∷ set_text (next ∷ ranges)) = length-append (range_text range) (44 ∷ set_text (next ∷ ranges)) in
    omega arith

pub set_is_word : (set : List SetRange) → IsSet set → (0 < length (set_text set)) × (list_all plain_byte (set_text set) ≡ true)
set_is_word [] is = absurd (let some = is.0 in omega arith)
set_is_word (range ∷ ranges) is =
    (some_set range ranges, all_imply (λ b. nat_le 42 b && nat_le b 58) plain_byte set_word (set_text (range ∷ ranges)) (set_bytes range ranges is.1))

-- digits are bytes of a word
pub decimal_word : (n : ℕ) → n ≤ 4294967295 → list_all plain_byte (decimal n) ≡ true
decimal_word n fits = all_imply is_ascii_digit plain_byte (λ b e. set_word b (range_set b (end_range b (digit_end b e)))) (decimal n) (digits_of n fits)

-- digits are not such a byte
pub digit_apart : (c n : ℕ) → c < 48 → n ≤ 4294967295 → list_all (λ b. not (b == c)) (decimal n) ≡ true
digit_apart c n low fits =
    all_imply is_ascii_digit (λ b. not (b == c)) (λ b e. let range = leb-true 48 b (and_true (nat_le 48 b) (nat_le b 57) e).0 in not_is (b == c) (apart b c (λ is. omega arith))) (decimal n) (digits_of n fits)
