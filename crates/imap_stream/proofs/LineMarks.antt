-- The mark that a line ends with.
use Rattle.std.proofs.Common.{◌≡◌, ℕ, ◌+◌, ◌-◌, ◌≤◌, Bool, true, false, cond, not, ◌==◌, ◌&&◌, List, [], ◌∷◌, ◌++◌, length, take, drop, nat_le, Option, None, Some, option_map, refl, ap, sym, ◌∙◌, arith, suc, get_or, subst}
use Rattle.std.proofs.lemmas.Bool.{leb-true}
use Rattle.std.proofs.lemmas.Bool.Decides.{Decides-eqb}
use Rattle.std.proofs.lemmas.List.{append_assoc, length-append, take_at, drop_at, take_more, take_all, get_or_push}
use Rattle.std.proofs.lemmas.Option.{option_and_then_some}
use Rattle.std.specs.Char.{is_ascii_digit}
use Rattle.std.specs.List.{list_all}
use Rattle.std.specs.Option.{option_or}
use Rattle.undo_base.specs.Digits.{number_of}
use Rattle.imap_stream.specs.LiteralMarks.{all_digits, last_brace, size_in, mark_at, mark_of}
use Rattle.imap_stream.specs.Streams.{marked_line}
use Rattle.imap_stream.specs.declared.marks.Mark.{Mark}
use Rattle.imap_stream.proofs.Lines.{and_true}

pub apart : (a b : ℕ) → (a ≡ b → ⊥) → (a == b) ≡ false
apart a b differ = by_test (a == b) refl
  where
    by_test : (t : Bool) → (a == b) ≡ t → t ≡ false
    by_test true is = absurd (differ ((Decides-eqb a b).0 is))
    by_test false is = refl

-- digits hold no {
digits_plain : (s tail : List ℕ) → list_all is_ascii_digit s ≡ true → last_brace tail ≡ None → last_brace (s ++ tail) ≡ None
digits_plain [] tail e none = none
digits_plain (b ∷ s) tail e none =
    let both = and_true (is_ascii_digit b) (list_all is_ascii_digit s) e in
    let low : b ≤ 57 = leb-true b 57 (and_true (nat_le 48 b) (nat_le b 57) both.0).1 in
    rw (digits_plain s tail both.1 none, apart b 123 (λ is. omega arith)) refl

last_brace-at : (text tail : List ℕ) (k : ℕ) → last_brace tail ≡ Some k → last_brace (text ++ tail) ≡ Some (length text + k)
last_brace-at [] tail k e = e ∙ ap Some (let zero_more : k ≡ 0 + k = omega arith in zero_more)
last_brace-at (b ∷ text) tail k e =
    rw (last_brace-at text tail k e) (ap Some (let more : length text + k + 1 ≡ suc (length text) + k = omega arith in more))

size_in-digits : (digits : List ℕ) → all_digits digits ≡ true → size_in (digits ++ 125 ∷ []) ≡ Some (number_of digits)
size_in-digits digits e =
    let size : length (digits ++ 125 ∷ []) ≡ suc (length digits) = simp length-append (omega arith) in
    let less : suc (length digits) - 1 ≡ length digits = omega arith in
    let front : take (length digits) (digits ++ 125 ∷ []) ≡ digits = take_at digits (125 ∷ []) (length digits) refl in
    let last : get_or (digits ++ 125 ∷ []) (length digits) 0 ≡ 125 = get_or_push digits 125 0 (length digits) refl in
    rw (size, less, last, front, e, apart (suc (length digits)) 0 (λ is. omega arith)) refl

all_of : (digits : List ℕ) → all_digits digits ≡ true → list_all is_ascii_digit digits ≡ true
all_of digits e =
    (and_true (not (length digits == 0) && nat_le (length digits) 10) (list_all is_ascii_digit digits) e).1

brace_at : (text digits : List ℕ) → all_digits digits ≡ true → last_brace (marked_line text digits) ≡ Some (length text)
brace_at text digits e =
    last_brace-at text (123 ∷ digits ++ 125 ∷ []) 0 (rw (digits_plain digits (125 ∷ []) (all_of digits e) refl) refl)
    ∙ ap Some (let none : length text + 0 ≡ length text = omega arith in none)

tail_at : (text tail : List ℕ) → drop (length text + 1) (text ++ 123 ∷ tail) ≡ tail
tail_at text tail =
    let size : length (text ++ 123 ∷ []) ≡ length text + 1 = simp length-append refl in
    ap (drop (length text + 1)) (sym (append_assoc text (123 ∷ []) tail)) ∙ drop_at (text ++ 123 ∷ []) tail (length text + 1) size

-- what a line with a mark announces
pub mark_of-marked : (text digits : List ℕ) → all_digits digits ≡ true → mark_of (marked_line text digits) ≡ Some (mark_at (length text) (number_of digits))
mark_of-marked text digits e =
    let tail = digits ++ 125 ∷ [] in
    rw (brace_at text digits e, tail_at text tail, size_in-digits digits e) refl

-- a line with a mark is so in one way
pub marked_same : (text digits other more : List ℕ) → all_digits digits ≡ true → all_digits more ≡ true → marked_line text digits ≡ marked_line other more
    → (text ≡ other) × (digits ≡ more)
marked_same text digits other more e f same =
    let place : Some (length text) ≡ Some (length other) = sym (brace_at text digits e) ∙ ap last_brace same ∙ brace_at other more f in
    let count : length text ≡ length other = cc in
    let front : text ≡ other =
    sym (take_at text (123 ∷ digits ++ 125 ∷ []) (length text) refl) ∙ ap (take (length text)) same ∙ take_at other (123 ∷ more ++ 125 ∷ []) (length text) (sym count) in
    let tails : digits ++ 125 ∷ [] ≡ more ++ 125 ∷ [] =
    sym (tail_at text (digits ++ 125 ∷ [])) ∙ ap (drop (length text + 1)) same ∙ ap (λ n. drop (n + 1) (marked_line other more)) count ∙ tail_at other (more ++ 125 ∷ []) in
    let one : length (digits ++ 125 ∷ []) ≡ length digits + 1 = simp length-append refl in
    let two : length (more ++ 125 ∷ []) ≡ length more + 1 = simp length-append refl in
    let sizes : length (digits ++ 125 ∷ []) ≡ length (more ++ 125 ∷ []) = ap length tails in
    let size : length more ≡ length digits = omega arith in
    (front, sym (take_at digits (125 ∷ []) (length digits) refl) ∙ ap (take (length digits)) tails ∙ take_at more (125 ∷ []) (length digits) size)

cond_some : {A : Type 0} (t : Bool) (v w : A) → cond t (Some v) None ≡ Some w → (t ≡ true) × (v ≡ w)
cond_some true v w e = (refl, cc)
cond_some false v w e = absurd (let wrong : None ≡ Some w = e in cc)

-- what stands before the last { and behind it
brace_splits : (line : List ℕ) (n : ℕ) → last_brace line ≡ Some n → line ≡ take n line ++ 123 ∷ drop (n + 1) line
brace_splits [] n e = absurd (let wrong : None ≡ Some n = e in cc)
brace_splits (b ∷ line) n e = by_rest (last_brace line) refl e (brace_splits line)
  where
    by_rest : (o : Option ℕ) → last_brace line ≡ o → option_or (option_map (λ k. k + 1) o) (cond (b == 123) (Some 0) None) ≡ Some n
        → ((k : ℕ) → last_brace line ≡ Some k → line ≡ take k line ++ 123 ∷ drop (k + 1) line) → b ∷ line ≡ take n (b ∷ line) ++ 123 ∷ drop (n + 1) (b ∷ line)
    by_rest None none e more =
        let here = cond_some (b == 123) 0 n e in
        let is : b ≡ 123 = (Decides-eqb b 123).0 here.0 in
        let first : n ≡ 0 = sym here.1 in
        rw (first, is) refl
    by_rest (Some k) some e more =
        let place : n ≡ suc k = (let both : Some (k + 1) ≡ Some n = e in let f : k + 1 ≡ n = cc in omega arith) in
        let after : suc k + 1 ≡ suc (k + 1) = omega arith in
        rw (place, after) (ap (λ l. b ∷ l) (more k some))

last_splits : (tail : List ℕ) (c : ℕ) → (length tail == 0) ≡ false → get_or tail (length tail - 1) 0 ≡ c → tail ≡ take (length tail - 1) tail ++ c ∷ []
last_splits [] c some e = absurd (let wrong : true ≡ false = some in cc)
last_splits (b ∷ tail) c some e =
    let l = b ∷ tail in
    let whole : length l - 1 + 1 ≡ length l = omega arith in
    sym (take_all (length l) l (omega arith)) ∙ ap (λ n. take n l) (sym whole) ∙ take_more l (length l - 1) 0 (omega arith) ∙ ap (λ x. take (length l - 1) l ++ x ∷ []) e

not_true : (t : Bool) → not t ≡ true → t ≡ false
not_true true e = absurd (let wrong : false ≡ true = e in cc)
not_true false e = refl

-- the mark of a line, and where it stands
pub record Marked (line : List ℕ) (m : Mark) : Type 0 where
  pub digits : List ℕ
  pub is : line ≡ marked_line (take m.place line) digits
  pub are_digits : all_digits digits ≡ true
  pub size : number_of digits ≡ m.size

size_splits : (tail : List ℕ) (v : ℕ) → size_in tail ≡ Some v → (tail ≡ take (length tail - 1) tail ++ 125 ∷ []) × (all_digits (take (length tail - 1) tail) ≡ true) × (number_of (take (length tail - 1) tail) ≡ v)
size_splits tail v e =
    let digits = take (length tail - 1) tail in
    let first = cond_some (not (length tail == 0) && (get_or tail (length tail - 1) 0 == 125) && all_digits digits) (number_of digits) v e in
    let two = and_true (not (length tail == 0) && (get_or tail (length tail - 1) 0 == 125)) (all_digits digits) first.0 in
    let three = and_true (not (length tail == 0)) (get_or tail (length tail - 1) 0 == 125) two.0 in
    (last_splits tail 125 (not_true (length tail == 0) three.0) ((Decides-eqb (get_or tail (length tail - 1) 0) 125).0 three.1), two.1, first.1)

pub marked-of : (line : List ℕ) (m : Mark) → mark_of line ≡ Some m → Marked line m
marked-of line m e = option_and_then_some (λ n. option_map (mark_at n) (size_in (drop (n + 1) line))) (last_brace line) m e by_place
  where
    by_size : (n : ℕ) (o : Option ℕ) → last_brace line ≡ Some n → size_in (drop (n + 1) line) ≡ o → option_map (mark_at n) o ≡ Some m → Marked line m
    by_size n None at none e = absurd (let wrong : None ≡ Some m = e in cc)
    by_size n (Some v) at some e =
        let tail = drop (n + 1) line in
        let parts = size_splits tail v some in
        let is : mark_at n v ≡ m = cc in
        subst (Marked line) is (record {
          digits = take (length tail - 1) tail;
          is = brace_splits line n at ∙ ap (λ l. take n line ++ 123 ∷ l) parts.0;
          are_digits = parts.1;
          size = parts.2;
        })

    by_place : (n : ℕ) → last_brace line ≡ Some n → option_map (mark_at n) (size_in (drop (n + 1) line)) ≡ Some m → Marked line m
    by_place n at found = by_size n (size_in (drop (n + 1) line)) at refl found
