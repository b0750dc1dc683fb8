-- Headers of small texts, worked out.
use Rattle.std.proofs.Common.{◌≡◌, ℕ, true, false, List, [], ◌∷◌, ◌++◌, codes, refl}
use Rattle.header_fields.specs.Fields.{fields_of}
use Rattle.header_fields.specs.Header.{header_of, behind_header}
use Rattle.header_fields.specs.Values.{is_named, value_of}

abbrev line : List ℕ
line = 13 ∷ 10 ∷ []

-- a text with a folded field
abbrev text : List ℕ
text = codes "A: b" ++ line ++ (9 ∷ []) ++ codes "c" ++ line ++ codes "Sub : d" ++ line ++ line ++ codes "E: f"

fields_are : fields_of text ≡ (codes "A: b" ++ line ++ (9 ∷ []) ++ codes "c" ++ line) ∷ (codes "Sub : d" ++ line) ∷ []
fields_are = refl

header_is : header_of text ≡ codes "A: b" ++ line ++ (9 ∷ []) ++ codes "c" ++ line ++ codes "Sub : d" ++ line ++ line
header_is = refl

rest_is : behind_header text ≡ codes "E: f"
rest_is = refl

-- without an empty line all is header
all_is_header : header_of (codes "A: b") ≡ codes "A: b"
all_is_header = refl

nothing_behind : behind_header (codes "A: b") ≡ []
nothing_behind = refl

-- a lone LF ends no line
lone_feed : fields_of (codes "A: b" ++ (10 ∷ []) ++ codes "C: d") ≡ (codes "A: b" ++ (10 ∷ []) ++ codes "C: d") ∷ []
lone_feed = refl

-- names are compared without case, and without the blanks before the colon
named : is_named (codes "SUB") (codes "Sub : d" ++ line) ≡ true
named = refl

-- a name is not its front, and a field without a colon has none
front_is_none : is_named (codes "SU") (codes "Sub : d" ++ line) ≡ false
front_is_none = refl

nameless : is_named (codes "A") (codes "A" ++ line) ≡ false
nameless = refl

-- the value has what stands behind the colon, without the last end of a line
value_is : value_of (codes "A: b:" ++ line) ≡ codes " b:"
value_is = refl

folds_stay : value_of (codes "A:b" ++ line ++ codes " c" ++ line) ≡ codes "b" ++ line ++ codes " c"
folds_stay = refl

no_value : value_of (codes "A") ≡ []
no_value = refl
