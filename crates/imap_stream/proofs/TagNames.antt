-- A tag is a name.
use Rattle.std.proofs.Common.{◌≡◌, ℕ, ◌≤◌, true, false, not, ◌==◌, ◌&&◌, ◌||◌, List, [], ◌∷◌, length, nat_le, refl, arith}
use Rattle.std.specs.List.{list_all}
use Rattle.std.proofs.lemmas.Bool.{and_parts, leb-true, le-leb}
use Rattle.undo_base.specs.Name.{is_name, is_printable}
use Rattle.imap_stream.specs.LiteralMarks.{is_atom_byte, is_tag, is_tag_byte}

-- a byte of a tag prints
byte_prints : (b : ℕ) → is_tag_byte b ≡ true → is_printable b ≡ true
byte_prints b e =
    let atom = and_parts (is_atom_byte b) (not (b == 43)) e in
    let p = and_parts (nat_le 33 b && nat_le b 126) (not (b == 40 || b == 41 || b == 123 || b == 37 || b == 42 || b == 34 || b == 92)) atom.0 in
    let ends = and_parts (nat_le 33 b) (nat_le b 126) p.0 in
    let low : 33 ≤ b = leb-true 33 b ends.0 in
    rw (le-leb 32 b (omega arith)) ends.1

bytes_print : (word : List ℕ) → list_all is_tag_byte word ≡ true → list_all is_printable word ≡ true
bytes_print [] e = refl
bytes_print (b ∷ word) e =
    let p = and_parts (is_tag_byte b) (list_all is_tag_byte word) e in
    rw (byte_prints b p.0, bytes_print word p.1) refl

some_bytes : (word : List ℕ) → not (length word == 0) ≡ true → 1 ≤ length word
some_bytes [] e = absurd (let wrong : false ≡ true = e in cc)
some_bytes (b ∷ word) e = omega arith

-- 1 to 64 such bytes are a name
pub tag_name : (word : List ℕ) → is_tag word ≡ true → is_name word ≡ true
tag_name word e =
    let p = and_parts (not (length word == 0) && nat_le (length word) 64) (list_all is_tag_byte word) e in
    let q = and_parts (not (length word == 0)) (nat_le (length word) 64) p.0 in
    let most : length word ≤ 64 = leb-true (length word) 64 q.1 in
    rw (le-leb 1 (length word) (some_bytes word q.0), le-leb (length word) 200 (omega arith), bytes_print word p.1) refl
