-- Sections of small texts, worked out.
use Rattle.std.proofs.Common.{◌≡◌, ℕ, List, [], ◌∷◌, ◌++◌, codes, Some, None, refl}
use Rattle.undo_base.specs.declared.asks.Section.TheVariants.{Header, Text, Fields, NotFields}
use Rattle.mail_sections.specs.Sections.{section_of}

abbrev line : List ℕ
line = 13 ∷ 10 ∷ []

-- a text with a folded field
abbrev text : List ℕ
text = codes "A: b" ++ line ++ (9 ∷ []) ++ codes "c" ++ line ++ codes "Sub : d" ++ line ++ line ++ codes "hi"

header_is : section_of (record { what = Header; part = None }) text ≡ codes "A: b" ++ line ++ (9 ∷ []) ++ codes "c" ++ line ++ codes "Sub : d" ++ line ++ line
header_is = refl

text_is : section_of (record { what = Text; part = None }) text ≡ codes "hi"
text_is = refl

-- names are compared without case, and without the spaces before the colon
field_is : section_of (record { what = Fields (codes "SUB" ∷ []); part = None }) text ≡ codes "Sub : d" ++ line ++ line
field_is = refl

others_are : section_of (record { what = NotFields (codes "SUB" ∷ []); part = Some (3, 5) }) text ≡ codes "b" ++ line ++ (9 ∷ []) ++ codes "c"
others_are = refl

-- a name is not matched by its front
front_is_none : section_of (record { what = Fields (codes "SU" ∷ []); part = None }) text ≡ line
front_is_none = refl

-- without an empty line nothing is added, and all is header
open_text : section_of (record { what = Fields (codes "a" ∷ []); part = None }) (codes "A: b") ≡ codes "A: b"
open_text = refl

open_behind : section_of (record { what = Text; part = None }) (codes "A: b") ≡ []
open_behind = refl

-- a field without a colon has no name
nameless : section_of (record { what = Fields (codes "A" ∷ []); part = None }) (codes "A") ≡ []
nameless = refl
