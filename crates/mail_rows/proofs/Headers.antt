-- The fields of a header, cut once, and their values beside their names.
use Rattle.std.proofs.Common.{◌≡◌, ℕ, Bool, true, false, ◌&&◌, ◌||◌, cond, List, [], ◌∷◌, ◌++◌, Option, Some, None, map, filter, take, drop, bytes_eq, refl, sym, ap, ap₂, subst, ◌∙◌, Ordering, Less, Equal, Greater, is_eq, nat_cmp}
use Rattle.std.specs.Cmp.{both_ways}
use Rattle.std.specs.Cmp.Lexicographic.{nat_list_cmp_total, slice_cmp}
use Rattle.std.specs.Ordering.{match_ordering}
use Rattle.std.specs.List.{list_any}
use Rattle.std.specs.Map.{lookup, remove_entry}
use Rattle.std.specs.Option.{option_map_or}
use Rattle.std.specs.Str.{str_to_ascii_lowercase}
use Rattle.std.specs.BTreeMap.{BTreeMap, get_by, insert_entry, is_at}
use Rattle.std.specs.declared.vec.Vec.{Vec}
use Rattle.std.proofs.lemmas.Cmp.{tied_itself}
use Rattle.std.proofs.lemmas.Map.Lookups.{exact_bytes}
use Rattle.std.proofs.lemmas.Map.Text.{is_eq-slice_cmp}
use Rattle.std.proofs.lemmas.Slice.Eq.{bytes_eq-Decides}
use Rattle.header_fields.specs.Fields.{fields_of}
use Rattle.header_fields.specs.Values.{has_name, name_of, is_named, value_of}
use Rattle.verb_core.specs.Filters.{occurs}
use Rattle.mail_rows.specs.declared.header.Fields.{Fields}
use Rattle.mail_rows.specs.declared.header.Value.{Value}
use Rattle.mail_rows.specs.Headers.{HoldsFields, IsCut, Pair, some_beside, some_value, some_within, with_names}

-- ---- values beside names

or_false : (b : Bool) → (b || false) ≡ b
or_false true = refl
or_false false = refl

grouped : (a b c : Bool) → ((a || b) || c) ≡ (a || (b || c))
grouped true b c = refl
grouped false b c = refl

either_way : (a b : List ℕ) → bytes_eq a b ≡ bytes_eq b a
either_way a b = both_ways _ _
    (λ h. (bytes_eq-Decides b a).1 (sym ((bytes_eq-Decides a b).0 h)))
    (λ h. (bytes_eq-Decides a b).1 (sym ((bytes_eq-Decides b a).0 h)))

within_more : (needle : List ℕ) (front : List Value) (v : Value) → some_within needle (front ++ v ∷ []) ≡ (some_within needle front || occurs needle v.bytes.now)
within_more needle [] v = or_false (occurs needle v.bytes.now)
within_more needle (x ∷ xs) v = ap (λ b. occurs needle x.bytes.now || b) (within_more needle xs v) ∙ sym (grouped (occurs needle x.bytes.now) (some_within needle xs) (occurs needle v.bytes.now))

over_both : {X : Type 0} (b : Bool) (v w : X) (o : Option X) → cond b (Some v) o ≡ cond b (Some v) (cond b (Some w) o)
over_both true v w o = refl
over_both false v w o = refl

module _ {Y : Type 0} where
  -- whether bytes are those of a key
  abbrev found : List ℕ → Vec ℕ Y → Bool
  found own key = is_eq (slice_cmp nat_cmp own key.items)

  abbrev keys_cmp : Vec ℕ Y → Vec ℕ Y → Ordering
  keys_cmp x y = slice_cmp nat_cmp x.items y.items

  is_own : (own : List ℕ) (key : Vec ℕ Y) → found own key ≡ true → own ≡ key.items
  is_own own key h = (bytes_eq-Decides own key.items).0 (sym (is_eq-slice_cmp own key.items) ∙ h)

module _ {Y X : Type 0} where
  insert_case : (own : List ℕ) (key : Vec ℕ Y) (v : X) (e : Vec ℕ Y × X) (es : List (Vec ℕ Y × X)) (o : Ordering) → keys_cmp key e.0 ≡ o
      → lookup (found own) (insert_entry keys_cmp es key v) ≡ cond (found own key) (Some v) (lookup (found own) es)
      → lookup (found own) (match_ordering o ((key, v) ∷ e ∷ es) ((e.0, v) ∷ es) (e ∷ insert_entry keys_cmp es key v)) ≡ cond (found own key) (Some v) (lookup (found own) (e ∷ es))
  insert_case own key v e es Less is more = refl
  insert_case own key v e es Equal is more =
      let same : found own e.0 ≡ found own key = ap (λ (l : List ℕ). is_eq (slice_cmp nat_cmp own l)) (sym (exact_bytes key.items e.0.items is)) in
      subst (λ (b : Bool). cond (found own e.0) (Some v) (lookup (found own) es) ≡ cond b (Some v) (cond (found own e.0) (Some e.1) (lookup (found own) es))) same (over_both (found own e.0) v e.1 (lookup (found own) es))
  insert_case own key v e es Greater is more =
      ap (cond (found own e.0) (Some e.1)) more
      ∙ apart (found own e.0) (found own key) refl refl
    where
      not_equal : ◌≡◌ {A = Ordering} Greater Equal → ⊥
      not_equal h = cc

      apart : (a b : Bool) → found own e.0 ≡ a → found own key ≡ b → cond a (Some e.1) (cond b (Some v) (lookup (found own) es)) ≡ cond b (Some v) (cond a (Some e.1) (lookup (found own) es))
      apart true true x y = absurd (not_equal (sym is ∙ ap (slice_cmp nat_cmp key.items) (sym (is_own own e.0 x) ∙ is_own own key y) ∙ tied_itself nat_list_cmp_total key.items))
      apart true false x y = refl
      apart false true x y = refl
      apart false false x y = refl

  -- what is found once an entry is put in
  inserted : (own : List ℕ) (key : Vec ℕ Y) (v : X) (es : List (Vec ℕ Y × X)) → lookup (found own) (insert_entry keys_cmp es key v) ≡ cond (found own key) (Some v) (lookup (found own) es)
  inserted own key v [] = refl
  inserted own key v (e ∷ es) = insert_case own key v e es (keys_cmp key e.0) refl (inserted own key v es)

  -- taking an entry out leaves those of other names
  removed : (own name : List ℕ) (es : List (Vec ℕ Y × X)) → bytes_eq own name ≡ false → lookup (found own) (remove_entry (found name) es) ≡ lookup (found own) es
  removed own name [] other = refl
  removed own name (e ∷ es) other = elim (found name e.0) as (λ b. found name e.0 ≡ b → lookup (found own) (cond b es (e ∷ remove_entry (found name) es)) ≡ lookup (found own) (e ∷ es)) [
    | true ↦ λ h. sym (ap (λ b. cond b (Some e.1) (lookup (found own) es)) (ap (λ (l : List ℕ). is_eq (slice_cmp nat_cmp own l)) (sym (is_own name e.0 h)) ∙ is_eq-slice_cmp own name ∙ other))
    | false ↦ λ h. ap (λ (o : Option X). cond (found own e.0) (Some e.1) o) (removed own name es other)
  ] refl

module _ {Y Z : Type 0} (table : BTreeMap (Vec ℕ Y) (Vec Value Z)) where
  pub beside_none : (name needle : List ℕ) → None ≡ get_by (λ k. slice_cmp nat_cmp name k.items) table → false ≡ some_beside name needle table
  beside_none name needle h = ap (λ (o : Option (Vec Value Z)). option_map_or (λ (values : Vec Value Z). some_within needle values.items) o false) h

  pub beside_some : (name needle : List ℕ) (values : Vec Value Z) → Some values ≡ get_by (λ k. slice_cmp nat_cmp name k.items) table → some_within needle values.items ≡ some_beside name needle table
  beside_some name needle values h = ap (λ (o : Option (Vec Value Z)). option_map_or (λ (values : Vec Value Z). some_within needle values.items) o false) h

  pub none_yet : table.entries ≡ [] → (own needle : List ℕ) (b : Bool) → (some_beside own needle table || b) ≡ b
  none_yet h own needle b = ap (λ es. option_map_or (λ (values : Vec Value Z). some_within needle values.items) (lookup (λ (k : Vec ℕ Y). is_eq (slice_cmp nat_cmp own k.items)) es) false || b) h

module _ {Y Z : Type 0} (old : BTreeMap (Vec ℕ Y) (Vec Value Z)) (name : Vec ℕ Y) (taken values : Vec Value Z) (v : Value) (own needle : List ℕ) where
  abbrev tell : Option (Vec Value Z) → Bool
  tell o = option_map_or (λ (values : Vec Value Z). some_within needle values.items) o false

  -- what is told where a value was added to those that were taken out
  told : some_within needle taken.items ≡ some_beside name.items needle old → values.items ≡ taken.items ++ v ∷ [] → (b : Bool) → bytes_eq own name.items ≡ b
      → tell (cond b (Some values) (lookup (λ (k : Vec ℕ Y). is_eq (slice_cmp nat_cmp own k.items)) (remove_entry (λ (k : Vec ℕ Y). is_eq (slice_cmp nat_cmp name.items k.items)) old.entries))) ≡ (some_beside own needle old || (b && occurs needle v.bytes.now))
  told were with_it true h =
      ap (some_within needle) with_it
      ∙ within_more needle taken.items v
      ∙ ap (λ b. b || occurs needle v.bytes.now) (were ∙ ap (λ (n : List ℕ). some_beside n needle old) (sym ((bytes_eq-Decides own name.items).0 h)))
  told were with_it false h = ap tell (removed own name.items old.entries h) ∙ sym (or_false (some_beside own needle old))

  told_once : (rest : List (Vec ℕ Y × Vec Value Z)) (new : BTreeMap (Vec ℕ Y) (Vec Value Z)) → some_within needle taken.items ≡ some_beside name.items needle old → values.items ≡ taken.items ++ v ∷ []
      → rest ≡ remove_entry (λ (k : Vec ℕ Y). is_eq (slice_cmp nat_cmp name.items k.items)) old.entries → new.entries ≡ insert_entry (λ (x y : Vec ℕ Y). slice_cmp nat_cmp x.items y.items) rest name values
      → some_beside own needle new ≡ (some_beside own needle old || (bytes_eq name.items own && occurs needle v.bytes.now))
  told_once rest new were with_it left put =
      ap (λ es. tell (lookup (λ (k : Vec ℕ Y). is_eq (slice_cmp nat_cmp own k.items)) es)) (put ∙ ap (λ es. insert_entry (λ (x y : Vec ℕ Y). slice_cmp nat_cmp x.items y.items) es name values) left)
      ∙ ap tell (inserted own name values (remove_entry (λ (k : Vec ℕ Y). is_eq (slice_cmp nat_cmp name.items k.items)) old.entries))
      ∙ ap (λ b. tell (cond b (Some values) (lookup (λ (k : Vec ℕ Y). is_eq (slice_cmp nat_cmp own k.items)) (remove_entry (λ (k : Vec ℕ Y). is_eq (slice_cmp nat_cmp name.items k.items)) old.entries)))) (is_eq-slice_cmp own name.items)
      ∙ told were with_it (bytes_eq own name.items) refl
      ∙ ap (λ b. some_beside own needle old || (b && occurs needle v.bytes.now)) (either_way own name.items)

-- one value more beside a name
pub pushed : {Y Z : Type 0} (old new : BTreeMap (Vec ℕ Y) (Vec Value Z)) (name : Vec ℕ Y) (rest : List (Vec ℕ Y × Vec Value Z)) (taken values : Vec Value Z) (v : Value)
    → ((needle : List ℕ) → some_within needle taken.items ≡ some_beside name.items needle old) → rest ≡ remove_entry (is_at (λ (k : Vec ℕ Y). slice_cmp nat_cmp name.items k.items)) old.entries
    → values.items ≡ taken.items ++ v ∷ [] → new.entries ≡ insert_entry (λ (x y : Vec ℕ Y). slice_cmp nat_cmp x.items y.items) rest name values
    → (own needle : List ℕ) → some_beside own needle new ≡ (some_beside own needle old || (bytes_eq name.items own && occurs needle v.bytes.now))
pushed old new name rest taken values v were left with_it put own needle = told_once old name taken values v own needle rest new (were needle) with_it left put

-- ---- fields

-- a field in front of others
with_one : (field : List ℕ) (fields : List (List ℕ)) → with_names (field ∷ fields) ≡ with_names (field ∷ []) ++ with_names fields
with_one field fields = elim (has_name field) as (λ b. map (λ (f : List ℕ). (str_to_ascii_lowercase (name_of f), value_of f)) (cond b (field ∷ filter has_name fields) (filter has_name fields)) ≡ map (λ (f : List ℕ). (str_to_ascii_lowercase (name_of f), value_of f)) (cond b (field ∷ []) []) ++ with_names fields) [ true ↦ refl | false ↦ refl ]

any_behind : (own needle : List ℕ) (front rest : List Pair) → some_value own needle (front ++ rest) ≡ (some_value own needle front || some_value own needle rest)
any_behind own needle [] rest = refl
any_behind own needle (p ∷ ps) rest = ap (λ b. (bytes_eq p.0 own && occurs needle p.1) || b) (any_behind own needle ps rest) ∙ sym (grouped (bytes_eq p.0 own && occurs needle p.1) (some_value own needle ps) (some_value own needle rest))

-- a field is pushed with its name, or has none
pub named : (own needle field name value : List ℕ) (before now : Bool) → has_name field ≡ true → name ≡ str_to_ascii_lowercase (name_of field) → value ≡ value_of field → now ≡ (before || (bytes_eq name own && occurs needle value))
    → now ≡ (before || some_value own needle (with_names (field ∷ [])))
named own needle field name value before now there n v is =
    is
    ∙ ap₂ (λ (m u : List ℕ). before || (bytes_eq m own && occurs needle u)) n v
    ∙ ap (λ b. before || b) (sym (or_false _) ∙ ap (λ b. some_value own needle (map (λ (f : List ℕ). (str_to_ascii_lowercase (name_of f), value_of f)) (cond b (field ∷ []) []))) (sym there))

pub nameless : (own needle field : List ℕ) (before : Bool) → has_name field ≡ false → before ≡ (before || some_value own needle (with_names (field ∷ [])))
nameless own needle field before none =
    sym (or_false before)
    ∙ ap (λ b. before || some_value own needle (map (λ (f : List ℕ). (str_to_ascii_lowercase (name_of f), value_of f)) (cond b (field ∷ []) []))) (sym none)

-- those that were cut, and those that are left
pub cut_more : (own needle text rest : List ℕ) (n : ℕ) (before now : Bool) → (before || some_value own needle (with_names (fields_of rest))) ≡ some_value own needle (with_names (fields_of text))
    → fields_of rest ≡ take n rest ∷ fields_of (drop n rest) → now ≡ (before || some_value own needle (with_names (take n rest ∷ [])))
    → (now || some_value own needle (with_names (fields_of (drop n rest)))) ≡ some_value own needle (with_names (fields_of text))
cut_more own needle text rest n before now were first is =
    ap (λ b. b || some_value own needle (with_names (fields_of (drop n rest)))) is
    ∙ grouped before (some_value own needle (with_names (take n rest ∷ []))) (some_value own needle (with_names (fields_of (drop n rest))))
    ∙ ap (λ b. before || b) (sym (any_behind own needle (with_names (take n rest ∷ [])) (with_names (fields_of (drop n rest)))) ∙ ap (some_value own needle) (sym (with_one (take n rest) (fields_of (drop n rest))) ∙ ap with_names (sym first)))
    ∙ were

pub all_cut : (own needle text rest : List ℕ) (before : Bool) → (before || some_value own needle (with_names (fields_of rest))) ≡ some_value own needle (with_names (fields_of text)) → fields_of rest ≡ [] → before ≡ some_value own needle (with_names (fields_of text))
all_cut own needle text rest before were none = sym (or_false before) ∙ ap (λ (fs : List (List ℕ)). before || some_value own needle (with_names fs)) (sym none) ∙ were

-- a field of that name has the needle in its value
pub asked_is : (name needle : List ℕ) (fields : List (List ℕ)) → some_value (str_to_ascii_lowercase name) needle (with_names fields) ≡ list_any (λ field. is_named name field && occurs needle (value_of field)) fields
asked_is name needle [] = refl
asked_is name needle (f ∷ fs) = elim (has_name f) as (λ b. some_value (str_to_ascii_lowercase name) needle (map (λ (g : List ℕ). (str_to_ascii_lowercase (name_of g), value_of g)) (cond b (f ∷ filter has_name fs) (filter has_name fs))) ≡ (((b && bytes_eq (str_to_ascii_lowercase (name_of f)) (str_to_ascii_lowercase name)) && occurs needle (value_of f)) || list_any (λ field. is_named name field && occurs needle (value_of field)) fs)) [
  | true ↦ ap (λ (t : Bool). (bytes_eq (str_to_ascii_lowercase (name_of f)) (str_to_ascii_lowercase name) && occurs needle (value_of f)) || t) (asked_is name needle fs)
  | false ↦ asked_is name needle fs
]

-- what is found among what was cut of a text
pub found_is : (text name needle lower : List ℕ) (fields : Fields) (r : Bool) → HoldsFields fields.values (with_names (fields_of text)) → lower ≡ str_to_ascii_lowercase name → r ≡ some_beside lower needle fields.values
    → r ≡ list_any (λ field. is_named name field && occurs needle (value_of field)) (fields_of text)
found_is text name needle lower fields r cut low is =
    is ∙ ap (λ (n : List ℕ). some_beside n needle fields.values) low ∙ cut (str_to_ascii_lowercase name) needle ∙ asked_is name needle (fields_of text)

pub found_in : (text inner name needle lower : List ℕ) (o : Option Fields) (fields : Fields) (r : Bool) → inner ≡ text → IsCut inner o → o ≡ Some fields → lower ≡ str_to_ascii_lowercase name → r ≡ some_beside lower needle fields.values
    → r ≡ list_any (λ field. is_named name field && occurs needle (value_of field)) (fields_of text)
found_in text inner name needle lower o fields r at cut is low found =
    found_is text name needle lower fields r (subst (λ (t : List ℕ). IsCut t (Some fields)) at (subst (IsCut inner) is cut)) low found
