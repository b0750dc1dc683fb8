-- What is written of bytes is read as these bytes.
use Rattle.std.proofs.Common.{◌≡◌, ℕ, ◌+◌, ◌*◌, ◌/◌, ◌%◌, ◌<◌, true, ◌==◌, List, [], ◌∷◌, ◌++◌, refl, ap, ◌∙◌, Some, option_map, arith, inl, inr}
use Rattle.std.proofs.Math.Nat.{div-add-mod}
use Rattle.std.specs.List.{All, flat_map}
use Rattle.std.proofs.lemmas.List.Elements.{All-head, All-tail}
use Rattle.std.proofs.lemmas.Bool.{cases_Bool}
use Rattle.std.proofs.lemmas.Bool.Decides.{nat_tests}
use Rattle.script_link.specs.Texts.{is_plain, is_hex, hex_value, hex_digit, spelled, unspelled}
use Rattle.script_link.proofs.Spelling.{plain_some, named_by}

hex_digit-is_hex : (n : ℕ) → n < 16 → is_hex (hex_digit n) ≡ true
hex_digit-is_hex n below = grind (arith, nat_tests)

hex_value-hex_digit : (n : ℕ) → n < 16 → hex_value (hex_digit n) ≡ n
hex_value-hex_digit n below = grind (arith, nat_tests)

is_equal : (b c : ℕ) → (b == c) ≡ true → b ≡ c
is_equal b c is = grind (arith, nat_tests)

is_no_tilde : (b : ℕ) → is_plain b ≡ true → b ≡ 126 → ⊥
is_no_tilde b plain is = grind (arith, nat_tests)

two_digits : (b : ℕ) (rest : List ℕ) → b < 256 → unspelled (126 ∷ 120 ∷ hex_digit (b / 16) ∷ hex_digit (b % 16) ∷ rest) ≡ option_map (λ bytes. b ∷ bytes) (unspelled rest)
two_digits b rest below =
    let high : b / 16 < 16 = omega arith in
    let low : b % 16 < 16 = omega arith in
    let whole : 16 * (b / 16) + b % 16 ≡ b = div-add-mod b 16 in
    rw (hex_digit-is_hex (b / 16) high, hex_digit-is_hex (b % 16) low, hex_value-hex_digit (b / 16) high, hex_value-hex_digit (b % 16) low, whole) refl

one_byte : (b : ℕ) (rest : List ℕ) → b < 256 → unspelled (spelled b ++ rest) ≡ option_map (λ bytes. b ∷ bytes) (unspelled rest)
one_byte b rest below =
    elim (cases_Bool (is_plain b)) [
      | inl plain ↦ rw plain (plain_some (b ∷ rest) (omega arith) (is_no_tilde b plain) plain)
      | inr marked ↦ rw marked (elim (cases_Bool (b == 126)) [
        | inl is ↦ rw (is, is_equal b 126 is) (named_by 126 rest refl)
        | inr no_tilde ↦ rw no_tilde (elim (cases_Bool (b == 13)) [
          | inl is ↦ rw (is, is_equal b 13 is) (named_by 114 rest refl)
          | inr no_cr ↦ rw no_cr (elim (cases_Bool (b == 10)) [
            | inl is ↦ rw (is, is_equal b 10 is) (named_by 110 rest refl)
            | inr no_lf ↦ rw no_lf (two_digits b rest below)
          ])
        ])
      ])
    ]

pub written_back : (bytes : List ℕ) → All (λ b. b < 256) bytes → unspelled (flat_map spelled bytes) ≡ Some bytes
written_back [] fit = refl
written_back (b ∷ bytes) fit = one_byte b (flat_map spelled bytes) (All-head (λ b. b < 256) b bytes fit) ∙ ap (option_map (λ bs. b ∷ bs)) (written_back bytes (All-tail (λ b. b < 256) b bytes fit))
