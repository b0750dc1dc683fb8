-- What stands in paths and in members: escapes, numbers, names, users.
use Rattle.std.specs.Prelude.{ℕ, Bool, true, false, not, ◌==◌, ◌&&◌, ◌||◌, List, [], ◌∷◌, length, nat_le, codes, Option, Some, None, option_map, if◌then◌else◌}
use Rattle.std.specs.List.{list_all, list_any}
use Rattle.std.specs.Char.{is_ascii_digit, is_ascii_hexdigit, is_ascii_lowercase}
use Rattle.std.specs.Str.{bytes_eq, str_to_ascii_lowercase}
use Rattle.percent_encoding.specs.Percent.{percent_decode}
use Rattle.undo_base.specs.Name.{is_name}
use Rattle.header_fields.specs.Values.{is_field_name}
use Rattle.verb_core.specs.Names.{inbox}
use Rattle.undo_base.specs.Digits.{number_between}

-- two hexadecimal digits stand in front
abbrev pub begins_with_hex : List ℕ → Bool
begins_with_hex [] = false
begins_with_hex (a ∷ []) = false
begins_with_hex (a ∷ b ∷ rest) = is_ascii_hexdigit a && is_ascii_hexdigit b

-- two hexadecimal digits follow each '%' (RFC 3986, 2.1)
abbrev pub has_good_escapes : List ℕ → Bool
has_good_escapes [] = true
has_good_escapes (b ∷ rest) = (not (b == 37) || begins_with_hex rest) && has_good_escapes rest

abbrev pub is_slash : ℕ → Bool
is_slash b = b == 47

-- what a part of a path says, percent-decoded once; a slash ends a part
abbrev pub part_of : List ℕ → Option (List ℕ)
part_of raw = if not (list_any is_slash raw) && has_good_escapes raw then Some (percent_decode raw) else None

-- a number of 32 bits
abbrev pub number32 : List ℕ → Option ℕ
number32 text = number_between 0 4294967295 text

abbrev pub name_of : List ℕ → Option (List ℕ)
name_of text = if is_name text then Some text else None

-- INBOX in any case is kept as INBOX
abbrev pub kept : List ℕ → List ℕ
kept name = if bytes_eq (str_to_ascii_lowercase name) (codes "inbox") then inbox else name

-- the name of a mailbox
abbrev pub box_name : List ℕ → Option (List ℕ)
box_name text = option_map kept (name_of text)

-- a to z, 0 to 9, '.', '-' and '_'
abbrev pub is_local_byte : ℕ → Bool
is_local_byte b = is_ascii_lowercase b || is_ascii_digit b || (b == 46) || (b == 45) || (b == 95)

-- the local part of an alias
abbrev pub is_local : List ℕ → Bool
is_local text = nat_le 1 (length text) && nat_le (length text) 64 && list_all is_local_byte text

abbrev pub local_of : List ℕ → Option (List ℕ)
local_of text = if is_local text then Some text else None

-- the name of a header field: 1 to 64 letters, digits, '-' and '_'
abbrev pub field_of : List ℕ → Option (List ℕ)
field_of text = if is_field_name text then Some text else None
