-- What bytes are names.
use Rattle.std.proofs.Common.{◌≡◌, ℕ, ◌+◌, ◌≤◌, ◌<◌, Bool, true, not, ◌&&◌, ◌⊎◌, inl, inr, List, [], ◌∷◌, ◌++◌, length, map, Option, Some, None, refl, sym, ap, ◌∙◌, subst, arith, nat_lt, nat_le, nat_eq}
use Rattle.std.specs.Prelude.{is_none, codes}
use Rattle.std.specs.Char.{to_ascii_lowercase}
use Rattle.std.specs.Int.{IsInRange}
use Rattle.std.specs.List.{list_all, position_or_len}
use Rattle.std.specs.Str.{str_eq_ignore_ascii_case, str_to_ascii_lowercase}
use Rattle.std.proofs.lemmas.Bool.{and_parts, cases_Bool, cond-false, le-ltb, leb-true}
use Rattle.std.proofs.lemmas.Bool.Decides.{nat_tests}
use Rattle.std.proofs.lemmas.List.{length-map}
use Rattle.std.proofs.lemmas.List.Folds.{list_all-append}
use Rattle.std.proofs.lemmas.Slice.Eq.{bytes_eq-Decides}
use Rattle.std.proofs.lemmas.Str.Ascii.{lowercase_is}
use Rattle.undo_base.specs.Name.{IsName, first_unprintable, is_printable}
use Rattle.smtp_lines.specs.Parts.{is_visible}
use Rattle.smtp_lines.specs.Grammar.{HasNoRoute, HasPath, HasRoute, Names, is_inner_byte}

-- ---- bytes that can be printed

-- each byte passes, so none is the first that does not
all_through : (test : ℕ → Bool) (xs : List ℕ) → list_all test xs ≡ true → position_or_len (λ b. not (test b)) xs ≡ length xs
all_through test [] e = refl
all_through test (x ∷ xs) e =
    let p : (test x ≡ true) × (list_all test xs ≡ true) = and_parts (test x) (list_all test xs) e in
    let rest = all_through test xs p.1 in
    rw p.0 (omega (arith, rest))

no_bad_byte : (text : List ℕ) → list_all is_printable text ≡ true → first_unprintable text ≡ None
no_bad_byte text e =
    let n = position_or_len (λ b. not (is_printable b)) text in
    cond-false (nat_lt n (length text)) (Some n) None (le-ltb n (length text) (omega (arith, all_through is_printable text e)))

named : (text : List ℕ) → 1 ≤ length text → length text ≤ 200 → list_all is_printable text ≡ true → IsName text
named text some most e = record { some = some; most = most; printable = no_bad_byte text e }

none_is : (o : Option ℕ) → is_none o ≡ true → o ≡ None
none_is None e = refl
none_is (Some n) e = cc

-- 1 to 200 printable bytes, by the test
pub name_of_test : (bytes : List ℕ) → (nat_le 1 (length bytes) && nat_le (length bytes) 200 && is_none (first_unprintable bytes)) ≡ true → IsName bytes
name_of_test bytes e =
    let p : ((nat_le 1 (length bytes) && nat_le (length bytes) 200) ≡ true) × (is_none (first_unprintable bytes) ≡ true) = and_parts _ _ e in
    let q : (nat_le 1 (length bytes) ≡ true) × (nat_le (length bytes) 200 ≡ true) = and_parts _ _ p.0 in
    record { some = leb-true 1 (length bytes) q.0; most = leb-true (length bytes) 200 q.1; printable = none_is (first_unprintable bytes) p.1 }

weaker : (p q : ℕ → Bool) → ((b : ℕ) → p b ≡ true → q b ≡ true) → (text : List ℕ) → list_all p text ≡ true → list_all q text ≡ true
weaker p q so [] e = refl
weaker p q so (b ∷ text) e =
    let parts : (p b ≡ true) × (list_all p text ≡ true) = and_parts (p b) (list_all p text) e in
    rw (so b parts.0) (weaker p q so text parts.1)

visible_printable : (b : ℕ) → is_visible b ≡ true → is_printable b ≡ true
visible_printable b e = grind (arith, nat_tests, e)

-- ---- lower case

visible_lowered : (b : ℕ) → is_visible b ≡ true → is_visible (to_ascii_lowercase b) ≡ true
visible_lowered b is = by_case (to_ascii_lowercase b) (lowercase_is b)
  where
    by_case : (c : ℕ) → (IsInRange 65 90 b → c ≡ b + 32) × (b < 65 → c ≡ b) × (90 < b → c ≡ b) → is_visible c ≡ true
    by_case c (upper, below, above) =
        elim (cases_Bool (nat_lt b 65)) [
          | inl low ↦ rw (below (grind (arith, nat_tests))) is
          | inr high ↦ elim (cases_Bool (nat_lt 90 b)) [
            | inl over ↦ rw (above (grind (arith, nat_tests))) is
            | inr under ↦ rw (upper (grind (arith, nat_tests), grind (arith, nat_tests))) (grind (arith, nat_tests))
          ]
        ]

all_lowered : (text : List ℕ) → list_all is_visible text ≡ true → list_all is_visible (str_to_ascii_lowercase text) ≡ true
all_lowered [] is = refl
all_lowered (b ∷ text) is =
    let parts : (is_visible b ≡ true) × (list_all is_visible text ≡ true) = and_parts (is_visible b) (list_all is_visible text) is in
    rw (visible_lowered b parts.0) (all_lowered text parts.1)

-- 1 to 200 bytes that show are a name in lower case
lowered_named : (text : List ℕ) → 1 ≤ length text → length text ≤ 200 → list_all is_visible text ≡ true → IsName (str_to_ascii_lowercase text)
lowered_named text some most visible =
    let same : length (str_to_ascii_lowercase text) ≡ length text = length-map text to_ascii_lowercase in
    named (str_to_ascii_lowercase text) (omega (arith, same, some)) (omega (arith, same, most))
    (weaker is_visible is_printable visible_printable (str_to_ascii_lowercase text) (all_lowered text visible))

-- ---- the local part of a recipient

all_left : (p : ℕ → Bool) (xs ys : List ℕ) → list_all p (xs ++ ys) ≡ true → list_all p xs ≡ true
all_left p xs ys e = (and_parts (list_all p xs) (list_all p ys) (sym (list_all-append p xs ys) ∙ e)).0

all_right : (p : ℕ → Bool) (xs ys : List ℕ) → list_all p (xs ++ ys) ≡ true → list_all p ys ≡ true
all_right p xs ys e = (and_parts (list_all p xs) (list_all p ys) (sym (list_all-append p xs ys) ∙ e)).1

inner_visible : (b : ℕ) → is_inner_byte b ≡ true → is_visible b ≡ true
inner_visible b e = (and_parts (is_visible b) _ (and_parts (is_visible b && not (nat_eq b 60)) (not (nat_eq b 62)) e).0).0

-- of what stands between brackets, what follows a route shows
path_visible : (inside path : List ℕ) → list_all is_visible inside ≡ true → HasNoRoute inside path ⊎ HasRoute inside path → list_all is_visible path ≡ true
path_visible inside path e (inl none) = subst (λ (t : List ℕ). list_all is_visible t ≡ true) none.whole e
path_visible inside path e (inr has) =
    let whole : list_all is_visible ((64 ∷ has.route) ++ 58 ∷ path) ≡ true = subst (λ (t : List ℕ). list_all is_visible t ≡ true) has.whole e in
    (and_parts (is_visible 58) (list_all is_visible path) (all_right is_visible (64 ∷ has.route) (58 ∷ path) whole)).1

-- of one length
same_length : (part string : List ℕ) → str_eq_ignore_ascii_case part string ≡ true → length part ≡ length string
same_length part string e =
    let same = (bytes_eq-Decides (map to_ascii_lowercase part) (map to_ascii_lowercase string)).0 e in
    sym (length-map part to_ascii_lowercase) ∙ ap length same ∙ length-map string to_ascii_lowercase

local_named : (path local : List ℕ) (domain : Option (List ℕ)) → list_all is_visible path ≡ true → Names path local domain → IsName (str_to_ascii_lowercase local)
local_named path local None e is =
    let same : length local ≡ 10 = same_length local (codes "postmaster") is.in_any_case in
    lowered_named local (omega (arith, same)) (omega (arith, same)) (subst (λ (t : List ℕ). list_all is_visible t ≡ true) is.whole e)
local_named path local (Some domain) e is =
    let p : (nat_le 1 (length local) ≡ true) × (nat_le (length local) 200 ≡ true) = and_parts (nat_le 1 (length local)) (nat_le (length local) 200) is.local_short in
    lowered_named local (leb-true 1 (length local) p.0) (leb-true (length local) 200 p.1)
    (all_left is_visible local (64 ∷ domain) (subst (λ (t : List ℕ). list_all is_visible t ≡ true) is.whole e))

-- a recipient's local part, in lower case, is a name
pub recipient_named : (name path tail argument local : List ℕ) (domain : Option (List ℕ)) → HasPath name path tail argument → Names path local domain → IsName (str_to_ascii_lowercase local)
recipient_named name path tail argument local domain has names =
    local_named path local domain (path_visible has.inside path (weaker is_inner_byte is_visible inner_visible has.inside has.inner) has.unrouted) names
