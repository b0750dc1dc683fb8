-- A name by which a field can be asked for is a name.
use Rattle.std.proofs.Common.{◌≡◌, ℕ, ◌≤◌, true, ◌==◌, ◌&&◌, ◌||◌, inl, inr, List, [], ◌∷◌, length, nat_le, refl, arith}
use Rattle.std.specs.List.{list_all}
use Rattle.std.proofs.lemmas.Bool.{and_parts, or_cases, leb-true, le-leb, eqb-true}
use Rattle.undo_base.specs.Name.{is_name, is_printable}
use Rattle.header_fields.specs.Values.{is_field_name, is_field_byte}

in_range : (b : ℕ) → 32 ≤ b → b ≤ 126 → is_printable b ≡ true
in_range b low high = rw (le-leb 32 b low, le-leb b 126 high) refl

-- between two bytes that print
between : (low high b : ℕ) → 32 ≤ low → high ≤ 126 → (nat_le low b && nat_le b high) ≡ true → is_printable b ≡ true
between low high b first last e =
    let ends = and_parts (nat_le low b) (nat_le b high) e in
    let above : low ≤ b = leb-true low b ends.0 in
    let below : b ≤ high = leb-true b high ends.1 in
    in_range b (omega arith) (omega arith)

byte_prints : (b : ℕ) → is_field_byte b ≡ true → is_printable b ≡ true
byte_prints b e =
    let digit = nat_le 48 b && nat_le b 57 in
    let capital = nat_le 65 b && nat_le b 90 in
    let letter = nat_le 97 b && nat_le b 122 in
    elim (or_cases (digit || capital || letter || b == 45) (b == 95) e) [
      | inr is ↦ (let same : b ≡ 95 = eqb-true b 95 is in in_range b (omega arith) (omega arith))
      | inl e ↦ elim (or_cases (digit || capital || letter) (b == 45) e) [
        | inr is ↦ (let same : b ≡ 45 = eqb-true b 45 is in in_range b (omega arith) (omega arith))
        | inl e ↦ elim (or_cases (digit || capital) letter e) [
          | inr is ↦ between 97 122 b (omega arith) (omega arith) is
          | inl e ↦ elim (or_cases digit capital e) [
            | inr is ↦ between 65 90 b (omega arith) (omega arith) is
            | inl is ↦ between 48 57 b (omega arith) (omega arith) is
          ]
        ]
      ]
    ]

bytes_print : (name : List ℕ) → list_all is_field_byte name ≡ true → list_all is_printable name ≡ true
bytes_print [] e = refl
bytes_print (b ∷ name) e =
    let p = and_parts (is_field_byte b) (list_all is_field_byte name) e in
    rw (byte_prints b p.0, bytes_print name p.1) refl

pub field_name : (name : List ℕ) → is_field_name name ≡ true → is_name name ≡ true
field_name name e =
    let p = and_parts (nat_le 1 (length name) && nat_le (length name) 64) (list_all is_field_byte name) e in
    let q = and_parts (nat_le 1 (length name)) (nat_le (length name) 64) p.0 in
    let most : length name ≤ 64 = leb-true (length name) 64 q.1 in
    rw (q.0, le-leb (length name) 200 (omega arith), bytes_print name p.1) refl
