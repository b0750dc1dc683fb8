-- Names are ASCII.
use Rattle.std.proofs.Common.{◌≡◌, ℕ, ◌≤◌, ◌<◌, List, length, Bool, true, false, not, refl, true≢false, arith, inl, inr}
use Rattle.std.specs.Cmp.{second_so}
use Rattle.std.proofs.lemmas.Bool.{cases_lt, leb-true}
use Rattle.std.specs.Prelude.{IsUtf8, nat_le}
use Rattle.std.specs.List.{position_or_len}
use Rattle.std.proofs.lemmas.Bool.Decides.{nat_tests}
use Rattle.std.proofs.lemmas.List.Sums.{fails_before_first}
use Rattle.std.proofs.lemmas.Str.{IsUtf8-from_ascii}
use Rattle.std.proofs.lemmas.List.{get_or_past}
use Rattle.undo_base.specs.Name.{IsName, is_printable}

told : (x : Bool) → not x ≡ false → x ≡ true
told true h = refl
told false h = absurd (true≢false h)

small : (b : ℕ) → not (is_printable b) ≡ false → b < 128
small b h =
    let most : b ≤ 126 = leb-true b 126 (second_so (nat_le 32 b) (nat_le b 126) (told (is_printable b) h)) in
    omega (arith, most)

pub name_is_utf8 : (bytes : List ℕ) → IsName bytes → IsUtf8 bytes
name_is_utf8 bytes h =
    let end : length bytes ≤ position_or_len (λ b. not (is_printable b)) bytes = grind (arith, nat_tests, h.printable) in
    IsUtf8-from_ascii bytes (λ i. elim (cases_lt i (length bytes)) [
      | inl inside ↦ small _ (fails_before_first (λ b. not (is_printable b)) bytes i 0 (omega (arith, inside, end)))
      | inr outside ↦ rw (get_or_past bytes i 0 outside) (omega arith)
    ])
