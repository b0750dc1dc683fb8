-- Arrays and tables of values as lists.
use Rattle.std.proofs.Common.{◌≡◌, ◌≤◌, ℕ, Bool, ◌||◌, ◌&&◌, nat_le, sym, arith, le-leb, suc, List, [], ◌∷◌, length, map, refl, ap, string_bytes}
use Rattle.std.specs.List.{list_any, list_all}
use Rattle.std.proofs.lemmas.List.Folds.{list_all-map}
use Rattle.toml.specs.declared.value.Value.{Value}
use Rattle.toml.specs.Data.{Data}
use Rattle.toml.specs.View.{view, items_view, members_view}
use Rattle.toml.proofs.Views.{Entry}
use Rattle.house_text.specs.Documents.{items_list, entries_list}

-- what contracts see of an entry
abbrev pub seen_entry : Entry → List ℕ × Data
seen_entry e = (string_bytes e.0, view e.1)

pub items_seen : (vs : List Value) → items_list (items_view vs) ≡ map view vs
items_seen [] = refl
items_seen (v ∷ vs) = ap (λ (ds : List Data). view v ∷ ds) (items_seen vs)

pub entries_seen : (es : List Entry) → entries_list (members_view es) ≡ map seen_entry es
entries_seen [] = refl
entries_seen (e ∷ es) = ap (λ (ds : List (List ℕ × Data)). seen_entry e ∷ ds) (entries_seen es)

pub keys_counted : (es : List Entry) → length es ≡ length (entries_list (members_view es))
keys_counted [] = refl
keys_counted (e ∷ es) = ap suc (keys_counted es)

-- a test of the values that stand in an array
pub any_seen : (p : Data → Bool) (vs : List Value) → list_any p (map view vs) ≡ list_any (λ v. p (view v)) vs
any_seen p [] = refl
any_seen p (v ∷ vs) = ap (λ b. p (view v) || b) (any_seen p vs)

-- at least one value, each of which passes
pub some_pass : (p : Data → Bool) (vs : List Value) → 1 ≤ length vs → list_all (λ v. p (view v)) vs ≡ (nat_le 1 (length (map view vs)) && list_all p (map view vs))
some_pass p [] some = absurd (omega arith)
some_pass p (v ∷ vs) some = rw (le-leb 1 (suc (length (map view vs))) (omega arith)) (sym (list_all-map p view (v ∷ vs)))
