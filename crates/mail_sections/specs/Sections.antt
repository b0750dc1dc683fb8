-- What a FETCH asks of a message's text (RFC 3501, 6.4.5).
use Rattle.std.specs.Prelude.{ℕ, Bool, not, ◌-◌, ◌&&◌, List, ◌++◌, take, drop, filter, Option, None, Some, if◌then◌else◌}
use Rattle.std.specs.List.{list_any}
use Rattle.std.specs.Str.{str_eq_ignore_ascii_case}
use Rattle.undo_base.specs.declared.asks.Section.{Section}
use Rattle.undo_base.specs.declared.asks.Section.TheVariants.{Whole, Header, Text, Fields, NotFields}
use Rattle.undo_base.specs.declared.asks.SectionAsk.{SectionAsk}
use Rattle.header_fields.specs.Lines.{joined}
use Rattle.header_fields.specs.Fields.{fields_of}
use Rattle.header_fields.specs.Header.{empty_line_of, header_of, behind_header}
use Rattle.header_fields.specs.Values.{has_name, name_of}

-- whether a field has one of the names, ignoring case; a field without a colon has no name
abbrev pub is_listed : List (List ℕ) → List ℕ → Bool
is_listed names field = has_name field && list_any (λ name. str_eq_ignore_ascii_case (name_of field) name) names

-- whether a field is wanted: one with a listed name, or one with none of them
abbrev pub is_wanted : Bool → List (List ℕ) → List ℕ → Bool
is_wanted among names field = if among then is_listed names field else not (is_listed names field)

-- the fields for which the test holds, in order, and the empty line
abbrev pub fields_where : (List ℕ → Bool) → List ℕ → List ℕ
fields_where test text = joined (filter test (fields_of text)) ++ empty_line_of text

-- a section of a text
abbrev pub section_in : Section → List ℕ → List ℕ
section_in Whole text = text
section_in Header text = header_of text
section_in Text text = behind_header text
section_in (Fields names) text = fields_where (is_listed names) text
section_in (NotFields names) text = fields_where (λ field. not (is_listed names field)) text

-- n bytes from the first place on, or what is there
abbrev pub part_of : Option (ℕ × ℕ) → List ℕ → List ℕ
part_of None bytes = bytes
part_of (Some (first, n)) bytes = take n (drop first bytes)

-- what is asked of the bytes behind so many, of which so many were told
abbrev pub asked_behind : Option (ℕ × ℕ) → ℕ → ℕ → Option (ℕ × ℕ)
asked_behind None passed told = None
asked_behind (Some (first, n)) passed told = Some (first - passed, n - told)

-- what is asked of a text
abbrev pub section_of : SectionAsk → List ℕ → List ℕ
section_of ask text = part_of ask.part (section_in ask.what text)
