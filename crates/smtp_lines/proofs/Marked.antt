-- Streams of whose long line a part is left out.
use Rattle.std.proofs.Common.{◌≡◌, ℕ, zero, suc, ◌+◌, ◌-◌, ◌<◌, ◌≤◌, Bool, true, false, cond, not, ◌==◌, ◌&&◌, List, [], ◌∷◌, ◌++◌, length, take, drop, map, nat_lt, get_or, slice_index, Result, Ok, Err, OnErr, refl, ap, subst, sym, ◌∙◌, arith}
use Rattle.std.proofs.lemmas.Bool.Decides.{Decides-ltb, nat_tests}
use Rattle.std.proofs.lemmas.List.{append_assoc, length-append, length-take, length-drop, drop-drop, take_at, drop_at, take-append-drop}
use Rattle.std.proofs.Math.Seq.{get_or-append_seam}
use Rattle.smtp_lines.specs.declared.line.SmtpLine.{SmtpLine}
use Rattle.smtp_lines.specs.Lines.{is_end, onto_first, lines_of, tail_of, last_byte, left_out, shortened, held_of}
use Rattle.smtp_lines.specs.Line.{kept_of, smtp_lines_of}
use Rattle.smtp_lines.specs.Passed.{passes}
use Rattle.smtp_lines.specs.Holding.{marked, seen, IsKept}
use Rattle.smtp_lines.proofs.Cut.{Passed, onto_line, onto_last}
use Rattle.smtp_lines.proofs.Seen.{seen_passed}

-- without a line no CRLF begins anywhere
none_parts : (t : Bool) (b : ℕ) (lines more : List (List ℕ)) → cond t ([] ∷ lines) (onto_first b more) ≡ [] → (t ≡ false) × (more ≡ [])
none_parts true b lines more e = absurd (let wrong : [] ∷ lines ≡ [] = e in cc)
none_parts false b lines [] e = (refl, refl)
none_parts false b lines (line ∷ more) e = absurd (let wrong : (b ∷ line) ∷ more ≡ [] = e in cc)

pub none_passes : (n : ℕ) (s : List ℕ) → n < length s → lines_of s ≡ [] → passes n s ≡ true
none_passes zero s within none = refl
none_passes (suc n) [] within none = absurd (omega arith)
none_passes (suc n) (b ∷ []) within none = absurd (omega arith)
none_passes (suc n) (b ∷ c ∷ s) within none =
    let parts = none_parts (is_end b c) b (lines_of s) (lines_of (c ∷ s)) none in
    rw parts.0 (none_passes n (c ∷ s) (omega arith) parts.1)

pub none_kept : (lines : List (List ℕ)) → map kept_of lines ≡ [] → lines ≡ []
none_kept [] e = refl
none_kept (line ∷ lines) e = absurd (let wrong : kept_of line ∷ map kept_of lines ≡ [] = e in cc)

-- before a mark no CRLF begins
no_end : (b : ℕ) → is_end b 256 ≡ false
no_end b = by_test (b == 13)
  where
    by_test : (t : Bool) → (t && (256 == 10)) ≡ false
    by_test true = refl
    by_test false = refl

step : (b c n : ℕ) (s : List ℕ) → is_end b c ≡ false → passes n (c ∷ s) ≡ true → passes (suc n) (b ∷ c ∷ s) ≡ true
step b c n s apart more = rw apart more

first_apart : (b c n : ℕ) (s : List ℕ) → passes (suc n) (b ∷ c ∷ s) ≡ true → (is_end b c ≡ false) × (passes n (c ∷ s) ≡ true)
first_apart b c n s seen = by_both (is_end b c) (passes n (c ∷ s)) seen
  where
    by_both : (e p : Bool) → (not e && p) ≡ true → (e ≡ false) × (p ≡ true)
    by_both true p wrong = absurd (let w : false ≡ true = wrong in cc)
    by_both false p is = (refl, is)

pub mark_passes : (n : ℕ) (s : List ℕ) (x : ℕ) (t : List ℕ) → n < length s → passes n s ≡ true → passes (suc n) (take n s ++ 256 ∷ x ∷ t) ≡ true
mark_passes zero s x t within seen = refl
mark_passes (suc n) [] x t within seen = absurd (omega arith)
mark_passes (suc n) (b ∷ []) x t within seen = absurd (omega arith)
mark_passes (suc zero) (b ∷ c ∷ s) x t within seen = step b 256 (suc zero) (x ∷ t) (no_end b) refl
mark_passes (suc (suc n)) (b ∷ c ∷ s) x t within seen =
    let parts = first_apart b c (suc n) s seen in
    step b c (suc (suc n)) (take n s ++ 256 ∷ x ∷ t) parts.0 (mark_passes (suc n) (c ∷ s) x t (omega arith) parts.1)

pub last_some : (s : List ℕ) → 0 < length s → (x : ℕ) × (last_byte s ≡ x ∷ [])
last_some [] some = absurd (omega arith)
last_some (b ∷ []) some = (b, refl)
last_some (b ∷ c ∷ s) some = last_some (c ∷ s) (omega arith)

-- a stream without a line, of which a part is left out
pub left_out_passes : (m n : ℕ) (s : List ℕ) → n ≡ suc m → m < length s → lines_of s ≡ [] → passes n (take m s ++ 256 ∷ last_byte s) ≡ true
left_out_passes m n s next within none =
    let last = last_some s (omega arith) in
    subst (λ k. passes k (take m s ++ 256 ∷ last_byte s) ≡ true) (sym next)
    (subst (λ l. passes (suc m) (take m s ++ 256 ∷ l) ≡ true) (sym last.1) (mark_passes m s last.0 [] within (none_passes m s within none)))

-- what stands behind the mark is cut by itself
pub mark_passed : (front tail : List ℕ) (n : ℕ) → length front + 1 ≡ n → passes n (front ++ 256 ∷ tail) ≡ true → Passed (front ++ 256 ∷ tail) (front ++ 256 ∷ []) tail
mark_passed front tail n size seen =
    let whole : front ++ 256 ∷ tail ≡ (front ++ 256 ∷ []) ++ tail = sym (append_assoc front (256 ∷ []) tail) in
    let count : length (front ++ 256 ∷ []) ≡ n = simp length-append size in
    let first : take n (front ++ 256 ∷ tail) ≡ front ++ 256 ∷ [] = ap (take n) whole ∙ take_at (front ++ 256 ∷ []) tail n count in
    let rest : drop n (front ++ 256 ∷ tail) ≡ tail = ap (drop n) whole ∙ drop_at (front ++ 256 ∷ []) tail n count in
    subst (λ r. Passed (front ++ 256 ∷ tail) (front ++ 256 ∷ []) r) rest (subst (λ f. Passed (front ++ 256 ∷ tail) f (drop n (front ++ 256 ∷ tail))) first (seen_passed n (front ++ 256 ∷ tail) seen))

pub none_behind : (v front rest : List ℕ) → Passed v front rest → lines_of rest ≡ [] → tail_of rest ≡ rest → (lines_of v ≡ []) × (tail_of v ≡ v)
none_behind v front rest p none all =
    (p.lines ∙ ap (onto_line front) none, p.last ∙ ap (λ ls. onto_last front ls (tail_of rest)) none ∙ ap (λ r. front ++ r) all ∙ sym p.whole)

pub line_behind : (v front rest line more : List ℕ) → Passed v front rest → lines_of rest ≡ line ∷ lines_of more → tail_of rest ≡ tail_of more
    → (lines_of v ≡ (front ++ line) ∷ lines_of more) × (tail_of v ≡ tail_of more)
line_behind v front rest line more p some all =
    (p.lines ∙ ap (onto_line front) some, p.last ∙ ap (λ ls. onto_last front ls (tail_of rest)) some ∙ all)

pub size_of_front : (m : ℕ) (s : List ℕ) → m ≤ length s → length (take m s) ≡ m
size_of_front m s within = simp length-take (omega arith)

-- the line that ends behind a mark is too long
pub long_kept : (m : ℕ) (s line : List ℕ) → m ≤ length s → ◌≡◌ {A = SmtpLine} record { bytes = take m ((take m s ++ 256 ∷ []) ++ line); long = nat_lt m (length ((take m s ++ 256 ∷ []) ++ line)) } record { bytes = take m s; long = true }
long_kept m s line within =
    let size = size_of_front m s within in
    let first : take m ((take m s ++ 256 ∷ []) ++ line) ≡ take m s = ap (take m) (append_assoc (take m s) (256 ∷ []) line) ∙ take_at (take m s) (256 ∷ line) m size in
    let count : m < length ((take m s ++ 256 ∷ []) ++ line) = simp length-append (omega arith) in
    let long : nat_lt m (length ((take m s ++ 256 ∷ []) ++ line)) ≡ true = (Decides-ltb m (length ((take m s ++ 256 ∷ []) ++ line))).1 count in
    ap (λ (b : List ℕ). record { bytes = b; long = nat_lt m (length ((take m s ++ 256 ∷ []) ++ line)) }) first ∙ ap (λ (l : Bool). record { bytes = take m s; long = l }) long

-- The end of a line has not come of which a part is left out.
pub marked_none : (b rest : List ℕ) → 1048577 ≤ length b → passes 1048577 (marked b) ≡ true → rest ≡ drop 1048576 b → lines_of rest ≡ [] → tail_of rest ≡ rest
    → (smtp_lines_of (marked b) ≡ []) × (tail_of (marked b) ≡ marked b)
marked_none b rest within seen is none all =
    let size : length (take 1048576 b) + 1 ≡ 1048577 = (let s = size_of_front 1048576 b (omega arith) in omega arith) in
    let parts = none_behind (marked b) (take 1048576 b ++ 256 ∷ []) (drop 1048576 b) (mark_passed (take 1048576 b) (drop 1048576 b) 1048577 size seen)
    (subst (λ l. lines_of l ≡ []) is none) (subst (λ l. tail_of l ≡ l) is all) in
    (ap (map kept_of) parts.0, parts.1)

-- It has come.
pub marked_line : (b rest line : List ℕ) (end : ℕ) → 1048577 ≤ length b → passes 1048577 (marked b) ≡ true → rest ≡ drop 1048576 b
    → lines_of rest ≡ line ∷ lines_of (drop (end + 2) rest) → tail_of rest ≡ tail_of (drop (end + 2) rest)
    → (smtp_lines_of (marked b) ≡ record { bytes = take 1048576 b; long = true } ∷ smtp_lines_of (drop (1048576 + (end + 2)) b)) × (tail_of (marked b) ≡ tail_of (drop (1048576 + (end + 2)) b))
marked_line b rest line end within seen is some all =
    let size : length (take 1048576 b) + 1 ≡ 1048577 = (let s = size_of_front 1048576 b (omega arith) in omega arith) in
    let far : drop (end + 2) (drop 1048576 b) ≡ drop (1048576 + (end + 2)) b = drop-drop (end + 2) 1048576 b in
    let parts = line_behind (marked b) (take 1048576 b ++ 256 ∷ []) (drop 1048576 b) line (drop (1048576 + (end + 2)) b)
    (mark_passed (take 1048576 b) (drop 1048576 b) 1048577 size seen)
    (subst (λ l. lines_of (drop 1048576 b) ≡ line ∷ lines_of l) far (subst (λ l. lines_of l ≡ line ∷ lines_of (drop (end + 2) l)) is some))
    (subst (λ l. tail_of (drop 1048576 b) ≡ tail_of l) far (subst (λ l. tail_of l ≡ tail_of (drop (end + 2) l)) is all)) in
    (ap (map kept_of) parts.0 ∙ ap (λ (l : SmtpLine). l ∷ smtp_lines_of (drop (1048576 + (end + 2)) b)) (long_kept 1048576 b line (omega arith)), parts.1)

pub last_append : (p s : List ℕ) → 0 < length s → last_byte (p ++ s) ≡ last_byte s
last_append p [] some = absurd (omega arith)
last_append [] (b ∷ s) some = refl
last_append (c ∷ []) (b ∷ s) some = refl
last_append (c ∷ d ∷ p) (b ∷ s) some = last_append (d ∷ p) (b ∷ s) some

pub last_drop : (s : List ℕ) (n : ℕ) → n + 1 ≡ length s → drop n s ≡ last_byte s
last_drop [] n e = absurd (omega arith)
last_drop (b ∷ []) n e = let none : n ≡ 0 = omega arith in rw none refl
last_drop (b ∷ c ∷ s) zero e = absurd (omega arith)
last_drop (b ∷ c ∷ s) (suc n) e = last_drop (c ∷ s) n (omega arith)

-- the first bytes and the last, with a mark between them
pub marked_again : (s l : List ℕ) → 1048576 ≤ length s → marked (take 1048576 s ++ l) ≡ take 1048576 s ++ 256 ∷ l
marked_again s l within =
    let size = size_of_front 1048576 s within in
    ap (λ (f : List ℕ). f ++ 256 ∷ drop 1048576 (take 1048576 s ++ l)) (take_at (take 1048576 s) l 1048576 size)
    ∙ ap (λ (r : List ℕ). take 1048576 s ++ 256 ∷ r) (drop_at (take 1048576 s) l 1048576 size)

pub shortened_long : (s : List ℕ) → 1048577 < length s → shortened s ≡ left_out s
shortened_long s long = ap (λ (t : Bool). cond t (left_out s) s) ((Decides-ltb 1048577 (length s)).1 long)

pub shortened_short : (s : List ℕ) → length s ≤ 1048577 → shortened s ≡ s
shortened_short s short = by_test (nat_lt 1048577 (length s)) refl
  where
    by_test : (t : Bool) → nat_lt 1048577 (length s) ≡ t → cond t (left_out s) s ≡ s
    by_test true is = absurd (let lt : 1048577 < length s = (Decides-ltb 1048577 (length s)).0 is in omega arith)
    by_test false is = refl

length_marked : (b : List ℕ) → 1048576 ≤ length b → length (marked b) ≡ length b + 1
length_marked b within = simp (length-append, length-take, length-drop) (omega arith)

left_out_marked : (b : List ℕ) → 1048577 ≤ length b → left_out (marked b) ≡ take 1048576 b ++ 256 ∷ last_byte b
left_out_marked b within =
    let size = size_of_front 1048576 b (omega arith) in
    let some : 0 < length (drop 1048576 b) = simp length-drop (omega arith) in
    let mark : last_byte (256 ∷ drop 1048576 b) ≡ last_byte (drop 1048576 b) = last_append (256 ∷ []) (drop 1048576 b) some in
    let last : last_byte (marked b) ≡ last_byte b = last_append (take 1048576 b) (256 ∷ drop 1048576 b) (omega arith) ∙ mark ∙ sym (last_append (take 1048576 b) (drop 1048576 b) some) ∙ ap last_byte (take-append-drop 1048576 b) in
    ap (λ (f : List ℕ). f ++ 256 ∷ last_byte (marked b)) (take_at (take 1048576 b) (256 ∷ drop 1048576 b) 1048576 size) ∙ ap (λ (l : List ℕ). take 1048576 b ++ 256 ∷ l) last

-- A line that is too long is shortened once, and again when more has come.
pub shorten_once : (over : Bool) (given passed : ℕ) (bytes new : List ℕ) → IsKept over given passed bytes → given ≤ length bytes → 1048577 < length (drop given bytes)
    → new ≡ take 1048576 (drop given bytes) ++ last_byte (drop given bytes) → lines_of (seen over given bytes) ≡ []
    → (marked new ≡ shortened (seen over given bytes)) × (passes 1048577 (marked new) ≡ true)
shorten_once false given passed bytes new kept within long is none =
    let s = drop given bytes in
    let same : marked new ≡ left_out s = ap marked is ∙ marked_again s (last_byte s) (omega arith) in
    (same ∙ sym (shortened_long s long), subst (λ l. passes 1048577 l ≡ true) (sym same) (left_out_passes 1048576 1048577 s refl (omega arith) none))
shorten_once true given passed bytes new kept within long is none =
    let start : drop given bytes ≡ bytes = ap (λ n. drop n bytes) kept.0 in
    let size = length_marked bytes (let l = kept.1 in omega arith) in
    let out = left_out_marked bytes kept.1 in
    let far : 1048577 < length (marked bytes) = (let l = kept.1 in omega arith) in
    let same : marked new ≡ left_out (marked bytes) = ap marked (is ∙ ap (λ l. take 1048576 l ++ last_byte l) start) ∙ marked_again bytes (last_byte bytes) (let l = kept.1 in omega arith) ∙ sym out in
    (same ∙ sym (shortened_long (marked bytes) far), subst (λ l. passes 1048577 l ≡ true) (sym same) (left_out_passes 1048576 1048577 (marked bytes) refl (omega arith) none))

-- A line that is not too long stays, and so does one that is shortened.
pub shorten_none : (over : Bool) (given passed : ℕ) (bytes new : List ℕ) → IsKept over given passed bytes → given ≤ length bytes → length (drop given bytes) ≤ 1048577
    → new ≡ drop given bytes → seen over 0 new ≡ shortened (seen over given bytes)
shorten_none false given passed bytes new kept within short is = is ∙ sym (shortened_short (drop given bytes) short)
shorten_none true given passed bytes new kept within short is =
    let start : drop given bytes ≡ bytes = ap (λ n. drop n bytes) kept.0 in
    let l = kept.1 in
    let few : length bytes ≤ 1048577 = subst (λ b. length b ≤ 1048577) start short in
    let size = length_marked bytes (omega arith) in
    let far : 1048577 < length (marked bytes) = omega arith in
    let last : drop 1048576 bytes ≡ last_byte bytes = last_drop bytes 1048576 (omega arith) in
    ap marked (is ∙ start) ∙ ap (λ (r : List ℕ). take 1048576 bytes ++ 256 ∷ r) last ∙ sym (left_out_marked bytes l) ∙ sym (shortened_long (marked bytes) far)

-- how many bytes are kept
pub held_marked : (b : List ℕ) → 1048576 ≤ length b → held_of (marked b) ≡ length b
held_marked b within =
    let size = size_of_front 1048576 b within in
    let mark : get_or (marked b) 1048576 0 ≡ 256 = subst (λ n. get_or (marked b) n 0 ≡ 256) size (get_or-append_seam (take 1048576 b) 256 (drop 1048576 b) 0) in
    let all = length_marked b within in
    let less : length (marked b) - 1 ≡ length b = omega arith in
    ap (λ n. cond (n == 256) (length (marked b) - 1) (length (marked b))) mark ∙ less

pub held_most : (over : Bool) (passed : ℕ) (b : List ℕ) → IsKept over 0 passed b → length b ≤ 1048577 → held_of (seen over 0 b) ≤ 1048577
held_most false passed b kept most = by_test (slice_index b 1048576 == 256)
  where
    by_test : (t : Bool) → cond t (length b - 1) (length b) ≤ 1048577
    by_test true = omega arith
    by_test false = most
held_most true passed b kept most = rw (held_marked b (let l = kept.1 in omega arith)) most

-- the first bytes and the last are as many as are kept at most
pub few_left : (s : List ℕ) → 1048577 < length s → length (take 1048576 s ++ last_byte s) ≡ 1048577
few_left s long =
    let last = last_some s (omega arith) in
    let one : length (last_byte s) ≡ 1 = ap length last.1 in
    simp (length-append, length-take) (omega arith)

pub not_over : (n : ℕ) → nat_lt 1048577 n ≡ false → n ≤ 1048577
not_over n e = grind (arith, nat_tests)

-- what holds anyhow holds of a failure
pub on_err : {A E X : Type 0} (r : Result A E) → X → OnErr r X
on_err (Ok a) x = tt
on_err (Err e) x = x
