-- The fields of a header as filters look at them.
use Rattle.std.specs.Prelude.{◌≡◌, ℕ, Bool, false, ◌&&◌, List, map, filter, Option, Some, None, bytes_eq}
use Rattle.std.specs.List.{list_any}
use Rattle.std.specs.Ordering.{nat_cmp}
use Rattle.std.specs.Option.{option_map_or}
use Rattle.std.specs.Cmp.Lexicographic.{slice_cmp}
use Rattle.std.specs.Str.{str_to_ascii_lowercase}
use Rattle.std.specs.BTreeMap.{BTreeMap, get_by}
use Rattle.std.specs.declared.vec.Vec.{Vec}
use Rattle.header_fields.specs.Fields.{fields_of}
use Rattle.header_fields.specs.Values.{has_name, name_of, value_of}
use Rattle.verb_core.specs.Filters.{occurs}
use Rattle.mail_rows.specs.declared.header.Fields.{Fields}
use Rattle.mail_rows.specs.declared.header.Value.{Value}

-- a name in lower case, and a value
abbrev pub Pair : Type 0
Pair = List ℕ × List ℕ

-- those fields that have a name
abbrev pub with_names : List (List ℕ) → List Pair
with_names fields = map (λ field. (str_to_ascii_lowercase (name_of field), value_of field)) (filter has_name fields)

-- whether the needle occurs in the value of a field of that name
abbrev pub some_value : List ℕ → List ℕ → List Pair → Bool
some_value name needle pairs = list_any (λ p. bytes_eq p.0 name && occurs needle p.1) pairs

-- whether it occurs in one of these values
abbrev pub some_within : List ℕ → List Value → Bool
some_within needle values = list_any (λ (v : Value). occurs needle v.bytes.now) values

-- whether it occurs in a value beside a name
abbrev pub some_beside : {Y Z : Type 0} → List ℕ → List ℕ → BTreeMap (Vec ℕ Y) (Vec Value Z) → Bool
some_beside {Z = Z} name needle table = option_map_or (λ (values : Vec Value Z). some_within needle values.items) (get_by (λ k. slice_cmp nat_cmp name k.items) table) false

-- the table has the values of these fields beside their names
abbrev pub HoldsFields : {Y Z : Type 0} → BTreeMap (Vec ℕ Y) (Vec Value Z) → List Pair → Type 0
HoldsFields table pairs = (name needle : List ℕ) → some_beside name needle table ≡ some_value name needle pairs

-- what was cut is the header of the text
abbrev pub IsCut : List ℕ → Option Fields → Type 0
IsCut text None = Unit {0}
IsCut text (Some fields) = HoldsFields fields.values (with_names (fields_of text))
