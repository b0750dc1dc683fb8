-- Lines of a text whose front is known to hold no CRLF.
use Rattle.std.proofs.Common.{◌≡◌, ℕ, ◌+◌, ◌<◌, ◌≤◌, get_or, true, false, List, [], ◌∷◌, ◌++◌, length, take, drop, refl, ap, sym, ◌∙◌, arith}
use Rattle.std.proofs.lemmas.List.{append_assoc, length-append, length-take, take_at, drop_at}
use Rattle.std.proofs.Math.Seq.{take-length, drop-length}
use Rattle.header_fields.specs.Lines.{is_end, onto_first, lines_of}

-- the front goes onto the first line
abbrev pub onto_line : List ℕ → List (List ℕ) → List (List ℕ)
onto_line front [] = []
onto_line front (line ∷ lines) = (front ++ line) ∷ lines

pub onto_line_more : (front : List ℕ) (b : ℕ) (lines : List (List ℕ)) → onto_line front (onto_first b lines) ≡ onto_line (front ++ b ∷ []) lines
onto_line_more front b [] = refl
onto_line_more front b (line ∷ lines) = ap (λ l. l ∷ lines) (sym (append_assoc front (b ∷ []) line))

pub onto_line_nil : (lines : List (List ℕ)) → onto_line [] lines ≡ lines
onto_line_nil [] = refl
onto_line_nil (line ∷ lines) = refl

-- a text whose front is passed, and what is known of its lines
pub record Passed (bytes front rest : List ℕ) : Type 0 where
  pub whole : bytes ≡ front ++ rest
  pub lines : lines_of bytes ≡ onto_line front (lines_of rest)

pub passed_none : (bytes : List ℕ) → Passed bytes [] bytes
passed_none bytes = record { whole = refl; lines = sym (onto_line_nil (lines_of bytes)) }

pub passed_more : (bytes front : List ℕ) (b c : ℕ) (rest : List ℕ) → Passed bytes front (b ∷ c ∷ rest) → is_end b c ≡ false → Passed bytes (front ++ b ∷ []) (c ∷ rest)
passed_more bytes front b c rest p apart = record {
  whole = p.whole ∙ sym (append_assoc front (b ∷ []) (c ∷ rest));
  lines = (rw apart at p.lines) ∙ onto_line_more front b (lines_of (c ∷ rest));
}

-- one byte more is passed
pub passed_step : (bytes rest : List ℕ) (n : ℕ) → Passed bytes (take n bytes) rest → n + length rest ≡ length bytes → 2 ≤ length rest
    → is_end (get_or rest 0 0) (get_or rest 1 0) ≡ false → Passed bytes (take (n + 1) bytes) (drop 1 rest)
passed_step bytes [] n p len two apart = absurd (omega arith)
passed_step bytes (b ∷ []) n p len two apart = absurd (omega arith)
passed_step bytes (b ∷ c ∷ rest) n p len two apart =
    let more = passed_more bytes (take n bytes) b c rest p apart in
    let size : length (take n bytes ++ b ∷ []) ≡ n + 1 = simp (length-append, length-take) (omega arith) in
    let front : take (n + 1) bytes ≡ take n bytes ++ b ∷ [] = ap (take (n + 1)) more.whole ∙ take_at (take n bytes ++ b ∷ []) (c ∷ rest) (n + 1) size in
    rw front more

-- CRLF comes next
pub passed_end : (bytes rest : List ℕ) (n : ℕ) → Passed bytes (take n bytes) rest → n + length rest ≡ length bytes → 2 ≤ length rest
    → is_end (get_or rest 0 0) (get_or rest 1 0) ≡ true
    → lines_of bytes ≡ take (n + 2) bytes ∷ lines_of (drop (n + 2) bytes)
passed_end bytes [] n p len two here = absurd (omega arith)
passed_end bytes (b ∷ []) n p len two here = absurd (omega arith)
passed_end bytes (b ∷ c ∷ rest) n p len two here =
    let size : length (take n bytes ++ b ∷ c ∷ []) ≡ n + 2 = simp (length-append, length-take) (omega arith) in
    let split : bytes ≡ (take n bytes ++ b ∷ c ∷ []) ++ rest = p.whole ∙ sym (append_assoc (take n bytes) (b ∷ c ∷ []) rest) in
    let left : drop (n + 2) bytes ≡ rest = ap (drop (n + 2)) split ∙ drop_at (take n bytes ++ b ∷ c ∷ []) rest (n + 2) size in
    let front : take (n + 2) bytes ≡ take n bytes ++ b ∷ c ∷ [] = ap (take (n + 2)) split ∙ take_at (take n bytes ++ b ∷ c ∷ []) rest (n + 2) size in
    rw (left, front) (rw here at p.lines)

-- less than two bytes are left
pub passed_all : (bytes rest : List ℕ) (n : ℕ) → Passed bytes (take n bytes) rest → 0 < length rest → length rest < 2
    → lines_of bytes ≡ take (length bytes) bytes ∷ lines_of (drop (length bytes) bytes)
passed_all bytes [] n p some short = absurd (omega arith)
passed_all bytes (b ∷ c ∷ rest) n p some short = absurd (omega arith)
passed_all bytes (b ∷ []) n p some short = rw (take-length bytes, drop-length bytes) (p.lines ∙ ap (λ line. line ∷ []) (sym p.whole))
