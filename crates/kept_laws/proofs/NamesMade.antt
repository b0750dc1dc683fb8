-- The names under which items put mailboxes: superiors and moved names are names, and a name has fewer superiors than bytes.
use Rattle.std.proofs.Common.{◌≡◌, ℕ, zero, suc, ◌+◌, ◌<◌, ◌≤◌, Bool, true, false, not, ◌&&◌, ◌||◌, cond, List, [], ◌∷◌, ◌++◌, map, filter, drop, length, Option, Some, None, is_some, refl, sym, ap, ◌∙◌, subst, arith, true≢false, bytes_eq, lt-ltb, length-append, append-nil}
use Rattle.std.specs.List.{AllByRecursion, list_all, list_any, position_or_len}
use Rattle.std.specs.Cmp.{first_so, second_so}
use Rattle.std.specs.Cmp.Lexicographic.{bytes_decides}
use Rattle.std.proofs.lemmas.List.{length-map}
use Rattle.std.proofs.lemmas.List.Folds.{list_all-append}
use Rattle.undo_base.specs.Name.{IsName, is_printable}
use Rattle.undo_base.proofs.Names.{no_bad_byte}
use Rattle.verb_core.specs.Names.{is_empty, is_inferior, is_slash, before_slashes, superiors, with_superiors, moved_name}
use Rattle.verb_core.proofs.BoxLaws.{bytes_eq-refl}
use Rattle.verb_core.proofs.NameLaws.{below_parts, no_superior_is_empty, shorter}
use Rattle.kept_laws.proofs.Lists.{all_joined, filter_no_longer}

-- ---- bytes that can be printed

bad_byte : (test : ℕ → Bool) (xs : List ℕ) → list_all test xs ≡ false → position_or_len (λ b. not (test b)) xs < length xs
bad_byte test [] h = absurd (true≢false h)
bad_byte test (x ∷ xs) h =
    elim (test x) as (λ t. (t && list_all test xs) ≡ false → cond (not (not t)) (1 + position_or_len (λ b. not (test b)) xs) 0 < suc (length xs)) [
      | true ↦ λ h. let rest : position_or_len (λ b. not (test b)) xs < length xs = bad_byte test xs h in omega arith
      | false ↦ λ h. omega arith
    ] h

printable : (name : List ℕ) → IsName name → list_all is_printable name ≡ true
printable name is =
    elim (list_all is_printable name) as (λ t. list_all is_printable name ≡ t → t ≡ true) [
      | true ↦ λ e. refl
      | false ↦ λ e. absurd (some_none (ap (λ b. cond b (Some (position_or_len (λ b. not (is_printable b)) name)) None) (sym (lt-ltb _ (length name) (bad_byte is_printable name e))) ∙ is.printable))
    ] refl
  where
    some_none : {n : ℕ} → ◌≡◌ {A = Option ℕ} (Some n) None → ⊥
    some_none e = true≢false (ap is_some e)

all_dropped : (test : ℕ → Bool) (n : ℕ) (xs : List ℕ) → list_all test xs ≡ true → list_all test (drop n xs) ≡ true
all_dropped test zero xs h = h
all_dropped test (suc n) [] h = refl
all_dropped test (suc n) (x ∷ xs) h = all_dropped test n xs (second_so _ _ h)

both : (a b : Bool) → a ≡ true → b ≡ true → (a && b) ≡ true
both true b p q = q
both false b p q = p

-- ---- superiors

has_bytes : (n : List ℕ) → is_empty n ≡ false → 1 ≤ length n
has_bytes [] e = absurd (true≢false e)
has_bytes (x ∷ xs) e = omega arith

superior_named : (name n : List ℕ) → IsName name → is_inferior n name ≡ true → IsName n
superior_named name n is above =
    let parts : (rest : List ℕ) × (name ≡ n ++ 47 ∷ rest) = below_parts n name above in
    let less : length n < length name = shorter n name above in
    let whole : (list_all is_printable n && list_all is_printable (47 ∷ parts.0)) ≡ true =
    sym (list_all-append is_printable n (47 ∷ parts.0)) ∙ subst (λ (m : List ℕ). list_all is_printable m ≡ true) parts.1 (printable name is) in
    record {
      some = has_bytes n (no_superior_is_empty n name above);
      most = let most : length name ≤ 200 = is.most in omega (arith, less, most);
      printable = no_bad_byte n (first_so _ _ whole);
    }

-- what holds of each name that is among them
pub each_among : (P : List ℕ → Type 0) (xs : List (List ℕ)) → ((n : List ℕ) → list_any (bytes_eq n) xs ≡ true → P n) → AllByRecursion P xs
each_among P [] each = tt
each_among P (x ∷ xs) each = (each x (ap (λ b. b || list_any (bytes_eq x) xs) (bytes_eq-refl x)), each_among P xs (λ n h. each n (ap (λ b. bytes_eq n x || b) h ∙ or_true (bytes_eq n x))))
  where
    or_true : (b : Bool) → (b || true) ≡ true
    or_true true = refl
    or_true false = refl

pub superiors_named : (name : List ℕ) → IsName name → AllByRecursion IsName (superiors name)
superiors_named name is = each_among IsName (superiors name) (λ n above. superior_named name n is above)

pub with_superiors_named : (name : List ℕ) → IsName name → AllByRecursion IsName (with_superiors name)
with_superiors_named name is = all_joined IsName (superiors name) (name ∷ []) (superiors_named name is) (is, tt)

length_before : (name : List ℕ) → length (before_slashes name) ≤ length name
length_before [] = omega arith
length_before (b ∷ bs) =
    let rest : length (before_slashes bs) ≤ length bs = length_before bs in
    let same : length (map (λ (front : List ℕ). b ∷ front) (before_slashes bs)) ≡ length (before_slashes bs) = length-map (before_slashes bs) (λ (front : List ℕ). b ∷ front) in
    elim (is_slash b) as (λ t. length (cond t ([] ∷ []) [] ++ map (λ (front : List ℕ). b ∷ front) (before_slashes bs)) ≤ suc (length bs)) [
      | true ↦ omega (arith, same, rest)
      | false ↦ omega (arith, same, rest)
    ]

-- the first byte ends none
length_superiors : (b : ℕ) (bs : List ℕ) → length (superiors (b ∷ bs)) ≤ length bs
length_superiors b bs =
    let rest : length (before_slashes bs) ≤ length bs = length_before bs in
    let same : length (map (λ (front : List ℕ). b ∷ front) (before_slashes bs)) ≡ length (before_slashes bs) = length-map (before_slashes bs) (λ (front : List ℕ). b ∷ front) in
    let few : length (filter (λ (front : List ℕ). not (is_empty front)) (map (λ (front : List ℕ). b ∷ front) (before_slashes bs))) ≤ length (map (λ (front : List ℕ). b ∷ front) (before_slashes bs)) =
    filter_no_longer (λ (front : List ℕ). not (is_empty front)) (map (λ (front : List ℕ). b ∷ front) (before_slashes bs)) in
    elim (is_slash b) as (λ t. length (filter (λ (front : List ℕ). not (is_empty front)) (cond t ([] ∷ []) [] ++ map (λ (front : List ℕ). b ∷ front) (before_slashes bs))) ≤ length bs) [
      | true ↦ omega (arith, same, rest, few)
      | false ↦ omega (arith, same, rest, few)
    ]

-- a name and its superiors are 200 at most
pub few_superiors : (name : List ℕ) → IsName name → length (superiors name) + 1 ≤ 200
few_superiors [] is = let some : 1 ≤ 0 = is.some in absurd (omega (arith, some))
few_superiors (b ∷ bs) is = let most : suc (length bs) ≤ 200 = is.most in let few : length (superiors (b ∷ bs)) ≤ length bs = length_superiors b bs in omega (arith, most, few)

-- ---- moved names

pub moved_named : (source target name : List ℕ) → IsName target → IsName name → length (moved_name source target name) ≤ 200 → IsName (moved_name source target name)
moved_named source target name is from most = record {
  some =
      let joined : length (target ++ drop (length source) name) ≡ length target + length (drop (length source) name) = length-append target (drop (length source) name) in
      let some : 1 ≤ length target = is.some in
      omega (arith, joined, some);
  most = most;
  printable = no_bad_byte (target ++ drop (length source) name) (list_all-append is_printable target (drop (length source) name) ∙ both _ _ (printable target is) (all_dropped is_printable (length source) name (printable name from)));
}

none_behind : (xs : List ℕ) → drop (length xs) xs ≡ []
none_behind [] = refl
none_behind (x ∷ xs) = none_behind xs

-- the source gets the target's name
pub source_moved : (source target name : List ℕ) → bytes_eq source name ≡ true → moved_name source target name ≡ target
source_moved source target name e =
    subst (λ (n : List ℕ). target ++ drop (length source) n ≡ target) ((bytes_decides source name).0 e) (ap (λ (t : List ℕ). target ++ t) (none_behind source) ∙ append-nil target)
