-- The fields, the text and the sets of SEARCH are those of FETCH.
use Rattle.std.proofs.Common.{◌≡◌, ℕ, Bool, true, false, cond, ◌&&◌, ◌||◌, ◌-◌, List, [], ◌∷◌, zero, suc, map, filter, length, min, max, nat_le, slice_index, Option, None, Some, refl, ap, ap₂, sym, ◌∙◌}
use Rattle.std.specs.Prelude.{unwrap_or}
use Rattle.std.specs.List.{list_any, slice_get}
use Rattle.std.specs.Option.{option_map_or}
use Rattle.std.specs.Str.{str_eq_ignore_ascii_case}
use Rattle.std.proofs.lemmas.List.{length-map}
use Rattle.header_fields.specs.Values.{has_name, name_of, is_named, value_of}
use Rattle.imap_session.specs.Searching.{last_uid}
use Rattle.imap_stream.specs.Sets.{end_at, covers, covered, greatest_of}
use Rattle.imap_stream.specs.declared.picks.SetRange.{SetRange}
use Rattle.imap_view.specs.declared.messages.Known.{Known}
use Rattle.mail_sections.specs.Sections.{is_listed}
use Rattle.search_lines.specs.Leaves.{range_of}
use Rattle.search_verb.specs.Meets.{is_within, is_among}
use Rattle.search_verb.specs.Occurs.{occurs_in}

-- ---- names and fields

pub same_name : (name field : List ℕ) → is_named name field ≡ is_listed (name ∷ []) field
same_name name field = ap (λ b. has_name field && b) (sym (or_false (str_eq_ignore_ascii_case (name_of field) name)))
  where
    or_false : (b : Bool) → (b || false) ≡ b
    or_false true = refl
    or_false false = refl

-- whether some field of this name has the string, and whether one of those that are shown has it
abbrev named_has : List ℕ → List ℕ → List (List ℕ) → Bool
named_has name string fields = list_any (λ field. is_named name field && occurs_in string (value_of field)) fields

abbrev shown_has : List ℕ → List ℕ → List (List ℕ) → Bool
shown_has name string fields = list_any (λ field. occurs_in string (value_of field)) (filter (is_listed (name ∷ [])) fields)

one_more : (name string field : List ℕ) (fields : List (List ℕ)) (t : Bool) → is_listed (name ∷ []) field ≡ t
    → named_has name string fields ≡ shown_has name string fields → named_has name string (field ∷ fields) ≡ shown_has name string (field ∷ fields)
one_more name string field fields true e more =
    ap (λ b. (b && occurs_in string (value_of field)) || named_has name string fields) (same_name name field ∙ e)
    ∙ ap (λ b. occurs_in string (value_of field) || b) more
    ∙ sym (ap (λ b. list_any (λ f. occurs_in string (value_of f)) (cond b (field ∷ filter (is_listed (name ∷ [])) fields) (filter (is_listed (name ∷ [])) fields))) e)
one_more name string field fields false e more =
    ap (λ b. (b && occurs_in string (value_of field)) || named_has name string fields) (same_name name field ∙ e)
    ∙ more
    ∙ sym (ap (λ b. list_any (λ f. occurs_in string (value_of f)) (cond b (field ∷ filter (is_listed (name ∷ [])) fields) (filter (is_listed (name ∷ [])) fields))) e)

pub same_fields : (name string : List ℕ) (fields : List (List ℕ)) → named_has name string fields ≡ shown_has name string fields
same_fields name string [] = refl
same_fields name string (field ∷ fields) = one_more name string field fields (is_listed (name ∷ []) field) refl (same_fields name string fields)

-- ---- sets

same_end : (last : ℕ) (end : Option ℕ) → unwrap_or end last ≡ end_at last end
same_end last None = refl
same_end last (Some n) = refl

same_range : (last n : ℕ) (range : SetRange) → is_within last n (range_of range) ≡ covers last range n
same_range last n range = ap₂ (λ (a b : ℕ). nat_le (min a b) n && nat_le n (max a b)) (same_end last range.from) (same_end last range.to)

pub same_set : (last n : ℕ) (set : List SetRange) → is_among last n (map range_of set) ≡ covered last set n
same_set last n [] = refl
same_set last n (range ∷ set) = ap₂ (λ a b. a || b) (same_range last n range) (same_set last n set)

uid_at : (view : List Known) (n : ℕ) → option_map_or (λ (known : Known). known.uid) (slice_get view n) 0 ≡ slice_index (map (λ (known : Known). known.uid) view) n
uid_at [] n = refl
uid_at (known ∷ view) zero = refl
uid_at (known ∷ view) (suc n) = uid_at view n

pub same_last : (view : List Known) → last_uid view ≡ greatest_of true (map (λ (known : Known). known.uid) view)
same_last view =
    uid_at view (length view - 1)
    ∙ ap (λ (n : ℕ). slice_index (map (λ (known : Known). known.uid) view) (n - 1)) (sym (length-map view (λ (known : Known). known.uid)))
