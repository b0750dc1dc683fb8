-- The name and the value of a field (RFC 5322, 2.2), as they are looked for: without case, and with its folds.
use Rattle.std.specs.Prelude.{ℕ, Bool, ◌-◌, ◌==◌, ◌&&◌, ◌||◌, nat_le, List, length, take, drop, if◌then◌else◌}
use Rattle.std.specs.List.{list_any, list_all, before_first, after_first, suffix_len}
use Rattle.std.specs.Str.{str_eq_ignore_ascii_case}
use Rattle.header_fields.specs.Lines.{is_empty_line}
use Rattle.header_fields.specs.Fields.{is_blank}

-- whether a byte is a colon
abbrev pub is_colon : ℕ → Bool
is_colon b = b == 58

-- a field without a colon has no name
abbrev pub has_name : List ℕ → Bool
has_name field = list_any is_colon field

-- bytes without the spaces and tabs at their end
abbrev pub trimmed : List ℕ → List ℕ
trimmed bytes = take (length bytes - suffix_len is_blank bytes) bytes

-- the name of a field: what stands before its first colon, but for the spaces and tabs before that (4.5)
abbrev pub name_of : List ℕ → List ℕ
name_of field = trimmed (before_first is_colon field)

-- whether a field has this name, ignoring case
abbrev pub is_named : List ℕ → List ℕ → Bool
is_named name field = has_name field && str_eq_ignore_ascii_case (name_of field) name

-- a letter, a digit, - or _
abbrev pub is_field_byte : ℕ → Bool
is_field_byte b = (nat_le 48 b && nat_le b 57) || (nat_le 65 b && nat_le b 90) || (nat_le 97 b && nat_le b 122) || b == 45 || b == 95

-- a name by which a field can be asked for: 1 to 64 of these
abbrev pub is_field_name : List ℕ → Bool
is_field_name name = nat_le 1 (length name) && nat_le (length name) 64 && list_all is_field_byte name

-- bytes without the CRLF at their end, where one stands there
abbrev pub without_end : List ℕ → List ℕ
without_end bytes = if is_empty_line (drop (length bytes - 2) bytes) then take (length bytes - 2) bytes else bytes

-- the value of a field: what stands behind its first colon, without the last CRLF; its folds stay
abbrev pub value_of : List ℕ → List ℕ
value_of field = without_end (after_first is_colon field)
