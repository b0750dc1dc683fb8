-- Names in lower case in a set beside a list of names.
use Rattle.std.proofs.Common.{◌≡◌, ℕ, ◌+◌, ◌<◌, ◌≤◌, Bool, true, false, ◌||◌, List, [], ◌∷◌, length, take, get_or, slice_index_or, refl, ap, ap₂, sym, ◌∙◌, subst, arith}
use Rattle.std.specs.declared.cmp.Ordering.{Ordering}
use Rattle.std.specs.declared.cmp.Ordering.TheVariants.{Less, Equal, Greater}
use Rattle.std.specs.declared.vec.Vec.{Vec}
use Rattle.std.specs.Ordering.{nat_cmp, is_eq, match_ordering}
use Rattle.std.specs.Cmp.Lexicographic.{slice_cmp}
use Rattle.std.specs.List.{list_any}
use Rattle.std.specs.Char.{to_ascii_lowercase}
use Rattle.std.specs.Str.{bytes_eq, str_to_ascii_lowercase, str_eq_ignore_ascii_case}
use Rattle.std.specs.BTreeSet.{BTreeSet, insert_key}
use Rattle.std.proofs.lemmas.List.{length-map, take_more}
use Rattle.std.proofs.lemmas.List.Elements.{All-push}
use Rattle.std.proofs.lemmas.List.Folds.{list_any_more, list_any_none}
use Rattle.std.proofs.lemmas.Map.Lookups.{exact_bytes}
use Rattle.std.proofs.lemmas.Map.Text.{is_eq-slice_cmp}
use Rattle.std.proofs.lemmas.Slice.Eq.{bytes_eq-Decides}
use Rattle.mail_sections.specs.Listed.{AreShort, HoldsListed}

flipped : (a b : Bool) → (a || b) ≡ (b || a)
flipped true true = refl
flipped true false = refl
flipped false true = refl
flipped false false = refl

grouped : (a b c : Bool) → (a || (b || c)) ≡ ((a || b) || c)
grouped true b c = refl
grouped false b c = refl

twice : (a b : Bool) → (a || b) ≡ ((a || b) || a)
twice true true = refl
twice true false = refl
twice false true = refl
twice false false = refl

module _ {Z : Type 0} where
  -- whether bytes are those of a key
  abbrev found : List ℕ → Vec ℕ Z → Bool
  found own key = is_eq (slice_cmp nat_cmp own key.items)

  abbrev keys_cmp : Vec ℕ Z → Vec ℕ Z → Ordering
  keys_cmp x y = slice_cmp nat_cmp x.items y.items

  insert_case : (own : List ℕ) (key x : Vec ℕ Z) (keys : List (Vec ℕ Z)) (o : Ordering) → keys_cmp key x ≡ o
      → list_any (found own) (insert_key keys_cmp keys key) ≡ (list_any (found own) keys || found own key)
      → list_any (found own) (match_ordering o (key ∷ x ∷ keys) (x ∷ keys) (x ∷ insert_key keys_cmp keys key)) ≡ (list_any (found own) (x ∷ keys) || found own key)
  insert_case own key x keys Less e more = flipped (found own key) (list_any (found own) (x ∷ keys))
  insert_case own key x keys Equal e more =
      let same : found own x ≡ found own key = ap (λ (l : List ℕ). is_eq (slice_cmp nat_cmp own l)) (sym (exact_bytes key.items x.items e)) in
      subst (λ (b : Bool). (found own x || list_any (found own) keys) ≡ ((found own x || list_any (found own) keys) || b)) same (twice (found own x) (list_any (found own) keys))
  insert_case own key x keys Greater e more = ap (λ (b : Bool). found own x || b) more ∙ grouped (found own x) (list_any (found own) keys) (found own key)

  -- a key that goes into the keys is found there, and what was found before
  insert_any : (own : List ℕ) (key : Vec ℕ Z) (keys : List (Vec ℕ Z)) → list_any (found own) (insert_key keys_cmp keys key) ≡ (list_any (found own) keys || found own key)
  insert_any own key [] = flipped (found own key) false
  insert_any own key (x ∷ keys) = insert_case own key x keys (keys_cmp key x) refl (insert_any own key keys)

  -- one name more in both
  pub holds_more : (old new : BTreeSet (Vec ℕ Z)) (key : Vec ℕ Z) (names : List (List ℕ)) (i : ℕ) (name : List ℕ) → i < length names → name ≡ get_or names i name
      → key.items ≡ str_to_ascii_lowercase name → new.keys ≡ insert_key keys_cmp old.keys key → HoldsListed old (take i names) → HoldsListed new (take (i + 1) names)
  holds_more old new key names i name more is lower keys holds = λ own.
      let test : List ℕ → Bool = λ n. bytes_eq own (str_to_ascii_lowercase n) in
      ap (λ (ks : List (Vec ℕ Z)). list_any (found own) ks) keys ∙ insert_any own key old.keys
      ∙ ap₂ (λ (a b : Bool). a || b) (holds own) (is_eq-slice_cmp own key.items ∙ ap (λ (l : List ℕ). bytes_eq own l) lower ∙ ap test is)
      ∙ sym (list_any_more test names i name more)

-- ---- a name that is longer than each

pub short_more : (names : List (List ℕ)) (i : ℕ) (name : List ℕ) → i < length names → name ≡ get_or names i name → length name ≤ 200 → AreShort (take i names) → AreShort (take (i + 1) names)
short_more names i name more is most short =
    let one : length (get_or names i name) ≤ 200 = subst (λ (n : List ℕ). length n ≤ 200) is most in
    subst AreShort (sym (take_more names i name more)) (All-push (λ (n : List ℕ). length n ≤ 200) (take i names) (get_or names i name) short one)

longer_case : (own name : List ℕ) → 200 < length own → length name ≤ 200 → (t : Bool) → str_eq_ignore_ascii_case own name ≡ t → str_eq_ignore_ascii_case own name ≡ false
longer_case own name long short true e =
    let same : str_to_ascii_lowercase own ≡ str_to_ascii_lowercase name = (bytes_eq-Decides (str_to_ascii_lowercase own) (str_to_ascii_lowercase name)).0 e in
    let size : length own ≡ length name = sym (length-map own to_ascii_lowercase) ∙ ap length same ∙ length-map name to_ascii_lowercase in
    absurd (omega (arith, size, short, long))
longer_case own name long short false e = e

-- is none of them
pub none_longer : (own : List ℕ) (names : List (List ℕ)) → 200 < length own → AreShort names → list_any (λ name. str_eq_ignore_ascii_case own name) names ≡ false
none_longer own names long short =
    list_any_none (λ name. str_eq_ignore_ascii_case own name) names
    (λ k d less. longer_case own (slice_index_or names k d) long (short k d less) (str_eq_ignore_ascii_case own (slice_index_or names k d)) refl)
