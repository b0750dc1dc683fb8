-- A string that is looked for field by field.
use Rattle.std.proofs.Common.{◌≡◌, ℕ, ◌&&◌, true, false, List, [], ◌∷◌, refl}
use Rattle.header_fields.specs.Fields.{fields_of}
use Rattle.header_fields.specs.Values.{is_named, value_of}
use Rattle.search_verb.specs.Occurs.{occurs_in}
use Rattle.search_verb.specs.Meets.{has_field}

-- the field has the string
pub field_found : (name string s field rest : List ℕ) → fields_of s ≡ field ∷ fields_of rest → (is_named name field && occurs_in string (value_of field)) ≡ true → has_field name string s ≡ true
field_found name string s field rest is e = rw (is, e) refl

-- the field has not
pub field_passed : (name string s field rest : List ℕ) → fields_of s ≡ field ∷ fields_of rest → (is_named name field && occurs_in string (value_of field)) ≡ false → has_field name string s ≡ has_field name string rest
field_passed name string s field rest is e = rw (is, e) refl

-- no field comes next
pub field_none : (name string s : List ℕ) → fields_of s ≡ [] → has_field name string s ≡ false
field_none name string s none = rw none refl
