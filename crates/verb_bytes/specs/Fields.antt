-- The fields of a record. A field is its bytes, and whether its value is in the field's range.
use Rattle.std.specs.Prelude.{ℕ, ◌+◌, Bool, true, false, ◌&&◌, nat_le, nat_lt, if◌then◌else◌, is_none, List, [], ◌∷◌, ◌++◌, length, Option, Some, None}
use Rattle.std.specs.List.{list_all, flat_map}
use Rattle.std.specs.Int.{Width, w16, w32, w64, to_be_bytes}
use Rattle.undo_base.specs.declared.keys.User.{User}
use Rattle.undo_base.specs.declared.keys.Key.{Key}
use Rattle.undo_base.specs.declared.keys.Flags.{Flags}
use Rattle.undo_base.specs.Name.{first_unprintable}
use Rattle.header_fields.specs.Values.{is_field_name}
use Rattle.undo_base.specs.declared.limits.TheConstants.{LAST_MOMENT, MOST_NAME}
use Rattle.verb_bytes.specs.declared.kinds.TheConstants.{LAST_RECORD, LAST_ACT, LAST_DEED}
use Rattle.verb_bytes.specs.declared.write.TheConstants.{ALL_FLAGS, LAST_USER, MOST_BODY, NOBODY}

-- the greatest number of four bytes, and of eight
abbrev pub most_of_four : ℕ
most_of_four = 4294967295

abbrev pub most_of_eight : ℕ
most_of_eight = 18446744073709551615

pub record Field : Type 0 where
  pub bytes : List ℕ
  pub in_range : Bool

-- the bytes of fields that follow one another
unfoldable pub bytes_of : List Field → List ℕ
bytes_of fields = flat_map (λ (f : Field). f.bytes) fields

-- whether each value is in its field's range
unfoldable pub are_in_range : List Field → Bool
are_in_range fields = list_all (λ (f : Field). f.in_range) fields

-- these fields, and then those
infixr 60 ◌&◌
abbrev pub ◌&◌ : List Field → List Field → List Field
a & b = a ++ b

-- one field
abbrev pub field : Bool → List ℕ → List Field
field in_range bytes = record { bytes = bytes; in_range = in_range } ∷ []

-- a condition on the record that no byte stands for
unfoldable pub only_if : Bool → List Field
only_if holds = field holds []

-- a byte from the least to the most
unfoldable pub byte_field : ℕ → ℕ → ℕ → List Field
byte_field least most n = field (nat_le least n && nat_le n most) (n ∷ [])

-- a number in big-endian bytes, at most this one
unfoldable pub number_field : Width → ℕ → ℕ → List Field
number_field w most n = field (nat_le n most) (to_be_bytes w n)

-- 1 to 200 printable bytes
abbrev pub is_name : List ℕ → Bool
is_name bytes = nat_le 1 (length bytes) && nat_le (length bytes) MOST_NAME && is_none (first_unprintable bytes)

-- its length in one byte, and the bytes of the name
unfoldable pub name_field : List ℕ → List Field
name_field bytes = field (is_name bytes) (length bytes ∷ bytes)

-- the same of the name of a header field: 1 to 64 letters, digits, `-` and `_`
unfoldable pub field_name_field : List ℕ → List Field
field_name_field bytes = field (is_field_name bytes) (length bytes ∷ bytes)

-- its length in four bytes, and the bytes of the text
unfoldable pub text_field : ℕ → List ℕ → List Field
text_field most bytes = field (nat_le (length bytes) most) (to_be_bytes w32 (length bytes) ++ bytes)

-- the item's number in four bytes, and the index in two: one field
unfoldable pub key_field : Key → List Field
key_field k = field (nat_lt k.item 4294967296 && nat_lt k.index 65536) (to_be_bytes w32 k.item ++ to_be_bytes w16 k.index)

-- a count of at most this many, and the elements' fields
abbrev pub list_fields : {A : Type 0} → ℕ → (A → List Field) → List A → List Field
list_fields most fields xs = number_field w32 most (length xs) & flat_map fields xs

-- 0, or 1 and the value
abbrev pub option_fields : {A : Type 0} → (A → List Field) → Option A → List Field
option_fields fields None = byte_field 0 1 0
option_fields fields (Some x) = byte_field 0 1 1 & fields x

-- 0 or 1
abbrev pub bool_field : Bool → List Field
bool_field false = byte_field 0 1 0
bool_field true = byte_field 0 1 1

-- what a flag adds
abbrev pub worth : Bool → ℕ → ℕ
worth set n = if set then n else 0

-- the byte of the flags
abbrev pub flags_code : Flags → ℕ
flags_code f = worth f.answered 1 + worth f.flagged 2 + worth f.deleted 4 + worth f.seen 8 + worth f.draft 16

abbrev pub flags_field : Flags → List Field
flags_field f = byte_field 0 ALL_FLAGS (flags_code f)

abbrev pub u32_field : ℕ → List Field
u32_field n = number_field w32 most_of_four n

abbrev pub u64_field : ℕ → List Field
u64_field n = number_field w64 most_of_eight n

-- seconds since 1970, up to the end of the year 9999
abbrev pub moment_field : ℕ → List Field
moment_field at = number_field w64 LAST_MOMENT at

-- a text whose length has no range but that of its four bytes
abbrev pub any_text_field : List ℕ → List Field
any_text_field bytes = text_field most_of_four bytes

-- the text of a message as it is stored
abbrev pub body_field : List ℕ → List Field
body_field bytes = text_field MOST_BODY bytes

-- one of 200 users
abbrev pub user_field : User → List Field
user_field u = byte_field 0 LAST_USER u.0

-- who acted: 255 for nobody
abbrev pub actor_field : Option User → List Field
actor_field None = byte_field NOBODY NOBODY NOBODY
actor_field (Some u) = user_field u

-- a list of any count
abbrev pub any_list_fields : {A : Type 0} → (A → List Field) → List A → List Field
any_list_fields fields xs = list_fields most_of_four fields xs

-- ---- the byte that says what follows

abbrev pub record_kind : ℕ → List Field
record_kind kind = byte_field 0 LAST_RECORD kind

abbrev pub act_kind : ℕ → List Field
act_kind kind = byte_field 1 LAST_ACT kind

-- the kind of a deed, where this is the last
abbrev pub deed_kind_to : ℕ → ℕ → List Field
deed_kind_to last kind = byte_field 1 last kind

-- the kind of a user's deed
abbrev pub deed_kind : ℕ → List Field
deed_kind kind = deed_kind_to LAST_DEED kind
