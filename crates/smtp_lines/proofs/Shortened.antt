-- A stream of whose long line a part is left out goes on as before.
use Rattle.std.proofs.Common.{◌≡◌, ℕ, ◌+◌, ◌-◌, ◌<◌, ◌≤◌, Bool, true, false, cond, List, [], ◌∷◌, ◌++◌, length, take, drop, map, nat_lt, refl, ap, subst, sym, ◌∙◌, arith}
use Rattle.std.proofs.lemmas.Bool.Decides.{Decides-ltb}
use Rattle.std.proofs.lemmas.List.{append_assoc, length-append, length-take, take-append-drop, take-append-le, drop-append-le}
use Rattle.smtp_lines.specs.declared.line.SmtpLine.{SmtpLine}
use Rattle.smtp_lines.specs.Lines.{lines_of, tail_of, rest_of, last_byte, left_out, shortened}
use Rattle.smtp_lines.specs.Line.{kept_of, smtp_lines_of}
use Rattle.smtp_lines.specs.Passed.{passes}
use Rattle.smtp_lines.specs.Holding.{marked, seen, IsKept}
use Rattle.smtp_lines.proofs.Cut.{Passed, onto_line, onto_last}
use Rattle.smtp_lines.proofs.Pieces.{tail_of-none, smtp_lines_of-append, tail_of-append}
use Rattle.smtp_lines.proofs.Seen.{seen_passed, seen_append, seen_fed}
use Rattle.smtp_lines.proofs.Splitting.{splits, lines_of-none}
use Rattle.smtp_lines.proofs.Marked.{none_passes, left_out_passes, mark_passed, size_of_front, last_append, last_drop, last_some, shortened_long}

-- lines that begin with the same bytes, and are too long, are kept so
same_kept : (u v line : List ℕ) → 1048576 < length u → 1048576 < length v → take 1048576 u ≡ take 1048576 v → kept_of (u ++ line) ≡ kept_of (v ++ line)
same_kept u v line long_u long_v same = is u long_u ∙ ap (λ (b : List ℕ). record { bytes = b; long = true }) same ∙ sym (is v long_v)
  where
    is : (w : List ℕ) → 1048576 < length w → kept_of (w ++ line) ≡ record { bytes = take 1048576 w; long = true }
    is w long =
        let count : 1048576 < length (w ++ line) = simp length-append (omega arith) in
        ap (λ (b : List ℕ). record { bytes = b; long = nat_lt 1048576 (length (w ++ line)) }) (take-append-le 1048576 w line (omega arith))
        ∙ ap (λ (l : Bool). record { bytes = take 1048576 w; long = l }) ((Decides-ltb 1048576 (length (w ++ line))).1 count)

same_left : (u v w : List ℕ) → 1048576 < length u → 1048576 < length v → take 1048576 u ≡ take 1048576 v → 0 < length w → shortened (u ++ w) ≡ shortened (v ++ w)
same_left u v w long_u long_v same some = is u long_u ∙ ap (λ (f : List ℕ). f ++ 256 ∷ last_byte w) same ∙ sym (is v long_v)
  where
    is : (x : List ℕ) → 1048576 < length x → shortened (x ++ w) ≡ take 1048576 x ++ 256 ∷ last_byte w
    is x long =
        let count : 1048577 < length (x ++ w) = simp length-append (omega arith) in
        shortened_long (x ++ w) count ∙ ap (λ (f : List ℕ). f ++ 256 ∷ last_byte (x ++ w)) (take-append-le 1048576 x w (omega arith)) ∙ ap (λ (l : List ℕ). take 1048576 x ++ 256 ∷ l) (last_append x w some)

-- two streams whose long fronts begin so, and that go on in the same way
record Same (a b : List ℕ) : Type 0 where
  lines : smtp_lines_of a ≡ smtp_lines_of b
  rest : rest_of a ≡ rest_of b

two_fronts : (a b u v w : List ℕ) → Passed a u w → Passed b v w → 1048576 < length u → 1048576 < length v → take 1048576 u ≡ take 1048576 v → 0 < length w → Same a b
two_fronts a b u v w p q long_u long_v same some = by_lines (lines_of w) refl
  where
    by_lines : (lines : List (List ℕ)) → lines_of w ≡ lines → Same a b
    by_lines [] none =
        let all = tail_of-none w none in
        record {
          lines = ap (map kept_of) (p.lines ∙ ap (onto_line u) none) ∙ sym (ap (map kept_of) (q.lines ∙ ap (onto_line v) none));
          rest = ap shortened (p.last ∙ ap (λ ls. onto_last u ls (tail_of w)) none ∙ ap (λ t. u ++ t) all) ∙ same_left u v w long_u long_v same some
              ∙ sym (ap shortened (q.last ∙ ap (λ ls. onto_last v ls (tail_of w)) none ∙ ap (λ t. v ++ t) all));
        }
    by_lines (line ∷ lines) is = record {
      lines = ap (map kept_of) (p.lines ∙ ap (onto_line u) is) ∙ ap (λ (l : SmtpLine). l ∷ map kept_of lines) (same_kept u v line long_u long_v same) ∙ sym (ap (map kept_of) (q.lines ∙ ap (onto_line v) is));
      rest = ap shortened (p.last ∙ ap (λ ls. onto_last u ls (tail_of w)) is) ∙ sym (ap shortened (q.last ∙ ap (λ ls. onto_last v ls (tail_of w)) is));
    }

same_long : (r p : List ℕ) → lines_of r ≡ [] → 1048577 < length r → Same (left_out r ++ p) (r ++ p)
same_long r p none long = two_fronts (left_out r ++ p) (r ++ p) (take 1048576 r ++ 256 ∷ []) (take n r) w marked_front plain_front long_mark long_plain first some
  where
    n : ℕ
    n = length r - 1

    w : List ℕ
    w = last_byte r ++ p

    last_one : length (last_byte r) ≡ 1
    last_one = let last = last_some r (omega arith) in ap length last.1

    some : 0 < length w
    some = simp length-append (omega (arith, last_one))

    plain_front : Passed (r ++ p) (take n r) w
    plain_front =
        let seen : passes n (r ++ p) ≡ true = seen_append n r p (none_passes n r (omega arith) none) in
        let front : take n (r ++ p) ≡ take n r = take-append-le n r p (omega arith) in
        let rest : drop n (r ++ p) ≡ w = drop-append-le n r p (omega arith) ∙ ap (λ l. l ++ p) (last_drop r n (omega arith)) in
        subst (λ l. Passed (r ++ p) (take n r) l) rest (subst (λ f. Passed (r ++ p) f (drop n (r ++ p))) front (seen_passed n (r ++ p) seen))

    whole : left_out r ++ p ≡ take 1048576 r ++ 256 ∷ w
    whole = append_assoc (take 1048576 r) (256 ∷ last_byte r) p

    size : length (take 1048576 r) ≡ 1048576
    size = size_of_front 1048576 r (omega arith)

    marked_front : Passed (left_out r ++ p) (take 1048576 r ++ 256 ∷ []) w
    marked_front =
        let seen : passes 1048577 (left_out r ++ p) ≡ true = seen_append 1048577 (left_out r) p (left_out_passes 1048576 1048577 r refl (omega arith) none) in
        let seen2 : passes 1048577 (take 1048576 r ++ 256 ∷ w) ≡ true = subst (λ l. passes 1048577 l ≡ true) whole seen in
        subst (λ l. Passed l (take 1048576 r ++ 256 ∷ []) w) (sym whole) (mark_passed (take 1048576 r) w 1048577 (omega (arith, size)) seen2)

    long_mark : 1048576 < length (take 1048576 r ++ 256 ∷ [])
    long_mark = simp length-append (omega (arith, size))

    long_plain : 1048576 < length (take n r)
    long_plain = simp length-take (omega arith)

    first : take 1048576 (take 1048576 r ++ 256 ∷ []) ≡ take 1048576 (take n r)
    first = take-append-le 1048576 (take 1048576 r) (256 ∷ []) (omega (arith, size)) ∙ twice ∙ sym inner
      where
        twice : take 1048576 (take 1048576 r) ≡ take 1048576 r
        twice = sym (take-append-le 1048576 (take 1048576 r) (drop 1048576 r) (omega (arith, size))) ∙ ap (take 1048576) (take-append-drop 1048576 r)

        inner : take 1048576 (take n r) ≡ take 1048576 r
        inner = sym (take-append-le 1048576 (take n r) (drop n r) (omega (arith, long_plain))) ∙ ap (take 1048576) (take-append-drop n r)

same_shortened : (r p : List ℕ) → lines_of r ≡ [] → Same (shortened r ++ p) (r ++ p)
same_shortened r p none = by_test (nat_lt 1048577 (length r)) refl
  where
    by_test : (t : Bool) → nat_lt 1048577 (length r) ≡ t → Same (cond t (left_out r) r ++ p) (r ++ p)
    by_test true long = same_long r p none ((Decides-ltb 1048577 (length r)).0 long)
    by_test false short = record { lines = refl; rest = refl }

no_line_left : (s : List ℕ) → lines_of (tail_of s) ≡ []
no_line_left s = lines_of-none (tail_of s) (splits s).last

-- the lines of the first piece, and then those of what is kept of its rest, with the second
pub lines_kept : (s t : List ℕ) → smtp_lines_of (s ++ t) ≡ smtp_lines_of s ++ smtp_lines_of (rest_of s ++ t)
lines_kept s t = smtp_lines_of-append s t ∙ ap (λ ls. smtp_lines_of s ++ ls) (sym (same_shortened (tail_of s) t (no_line_left s)).lines)

pub rest_kept : (s t : List ℕ) → rest_of (s ++ t) ≡ rest_of (rest_of s ++ t)
rest_kept s t = ap shortened (tail_of-append s t) ∙ sym (same_shortened (tail_of s) t (no_line_left s)).rest

-- more bytes come behind those of which a part is left out
pub marked_more : (bytes more : List ℕ) → 1048576 ≤ length bytes → marked (bytes ++ more) ≡ marked bytes ++ more
marked_more bytes more within =
    ap (λ (f : List ℕ). f ++ 256 ∷ drop 1048576 (bytes ++ more)) (take-append-le 1048576 bytes more within)
    ∙ ap (λ (r : List ℕ). take 1048576 bytes ++ 256 ∷ r) (drop-append-le 1048576 bytes more within)
    ∙ sym (append_assoc (take 1048576 bytes) (256 ∷ drop 1048576 bytes) more)

pub fed_seen : (over : Bool) (given passed : ℕ) (bytes more : List ℕ) → given + given ≤ length bytes → IsKept over given passed bytes → seen over given (bytes ++ more) ≡ seen over given bytes ++ more
fed_seen false given passed bytes more half kept = drop-append-le given bytes more (omega arith)
fed_seen true given passed bytes more half kept = marked_more bytes more (let l = kept.1 in omega arith)

pub fed_kept : (over ok : Bool) (given passed : ℕ) (bytes more new : List ℕ) → given + given ≤ length bytes → IsKept over given passed bytes → new ≡ cond ok (bytes ++ more) bytes
    → (given + given ≤ length new) × IsKept over given passed new
fed_kept false ok given passed bytes more new half kept is = seen_fed ok passed given bytes more new half kept is
fed_kept true true given passed bytes more new half kept is =
    let l = kept.1 in
    let none = kept.0 in
    let size : length new ≡ length bytes + length more = ap length is ∙ length-append bytes more in
    let seen : passes 1048577 (marked new) ≡ true = subst (λ b. passes 1048577 (marked b) ≡ true) (sym is)
    (subst (λ b. passes 1048577 b ≡ true) (sym (marked_more bytes more (omega arith))) (seen_append 1048577 (marked bytes) more kept.2)) in
    ((let h : given + given ≤ length new = omega arith in h), (none, (let h : 1048577 ≤ length new = omega arith in h), seen))
fed_kept true false given passed bytes more new half kept is = subst (λ b. (given + given ≤ length b) × IsKept true given passed b) (sym is) (half, kept)
