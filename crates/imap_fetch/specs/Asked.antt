-- What a FETCH asks for (RFC 3501, 6.4.5).
use Rattle.std.specs.Prelude.{ℕ, ◌*◌, Bool, true, false, ◌==◌, ◌||◌, ◌&&◌, not, List, [], ◌∷◌, ◌++◌, length, min, fold, filter, Option, None, Some, if◌then◌else◌}
use Rattle.std.specs.List.{list_any, sum_by}
use Rattle.std.specs.Cmp.Lexicographic.{pointwise}
use Rattle.std.specs.Str.{bytes_eq}
use Rattle.undo_base.specs.declared.asks.Section.{Section}
use Rattle.undo_base.specs.declared.asks.Section.TheVariants.{Whole, Header, Text, Fields, NotFields}
use Rattle.undo_base.specs.declared.asks.SectionAsk.{SectionAsk}
use Rattle.imap_lines.specs.declared.asks.FetchAsk.{FetchAsk}
use Rattle.imap_lines.specs.declared.asks.FetchAsk.TheVariants.{Flags as AskFlags, Uid as AskUid, InternalDate as AskDate, Size as AskSize, Rfc822 as AskText, Rfc822Header as AskHeader, Rfc822Text as AskBehind, Fast, Body as AskBody}
use Rattle.imap_fetch.specs.declared.asked.Attribute.{Attribute}
use Rattle.imap_fetch.specs.declared.asked.Attribute.TheVariants.{Flags, Uid, InternalDate, Size, Rfc822, Rfc822Header, Rfc822Text, Body}
use Rattle.imap_fetch.specs.declared.messages.Message.{Message}

-- the attributes that it stands for
abbrev pub in_full : FetchAsk → List Attribute
in_full AskFlags = Flags ∷ []
in_full AskUid = Uid ∷ []
in_full AskDate = InternalDate ∷ []
in_full AskSize = Size ∷ []
in_full AskText = Rfc822 ∷ []
in_full AskHeader = Rfc822Header ∷ []
in_full AskBehind = Rfc822Text ∷ []
in_full Fast = Flags ∷ InternalDate ∷ Size ∷ []
in_full (AskBody section peek) = Body section peek ∷ []

-- ---- whether two are the same: word, section, names as they are spelled, part and PEEK

abbrev pub same_names : List (List ℕ) → List (List ℕ) → Bool
same_names names others = pointwise bytes_eq names others

-- a section's kind, as a number
abbrev pub section_kind : Section → ℕ
section_kind Whole = 0
section_kind Header = 1
section_kind Text = 2
section_kind (Fields names) = 3
section_kind (NotFields names) = 4

-- whether a section has these names
abbrev pub are_fields : List (List ℕ) → Section → Bool
are_fields names (Fields others) = same_names names others
are_fields names _ = false

abbrev pub are_others : List (List ℕ) → Section → Bool
are_others names (NotFields others) = same_names names others
are_others names _ = false

abbrev pub same_section : Section → Section → Bool
same_section (Fields names) section = are_fields names section
same_section (NotFields names) section = are_others names section
same_section one other = section_kind one == section_kind other

abbrev pub same_part : Option (ℕ × ℕ) → Option (ℕ × ℕ) → Bool
same_part None None = true
same_part None (Some part) = false
same_part (Some part) None = false
same_part (Some (first, n)) (Some (other, m)) = (first == other) && (n == m)

abbrev pub same_bool : Bool → Bool → Bool
same_bool x y = if x then y else not y

-- it is this section, or this peek at it
abbrev pub is_body : SectionAsk → Bool → Attribute → Bool
is_body section peek (Body other peeks) = same_section section.what other.what && (same_part section.part other.part && same_bool peek peeks)
is_body section peek _ = false

-- an attribute's kind, as a number
abbrev pub kind : Attribute → ℕ
kind Flags = 0
kind Uid = 1
kind InternalDate = 2
kind Size = 3
kind Rfc822 = 4
kind Rfc822Header = 5
kind Rfc822Text = 6
kind (Body section peek) = 7

abbrev pub is_flags : Attribute → Bool
is_flags a = kind a == 0

abbrev pub is_uid : Attribute → Bool
is_uid a = kind a == 1

abbrev pub is_size : Attribute → Bool
is_size a = kind a == 3

-- whether two are the same: of one kind, and the same section where they are sections
abbrev pub same : Attribute → Attribute → Bool
same (Body section peek) other = is_body section peek other
same one other = kind one == kind other

-- whether it is one of them
abbrev pub is_asked : Attribute → List Attribute → Bool
is_asked a attributes = list_any (same a) attributes

-- with it behind the others, unless it is one of them
abbrev pub put_once : List Attribute → Attribute → List Attribute
put_once told a = if is_asked a told then told else told ++ a ∷ []

-- with those that are asked for behind the others, each once
abbrev pub put_ask : List Attribute → FetchAsk → List Attribute
put_ask told ask = fold put_once told (in_full ask)

-- the attributes that are asked for, each once
unfoldable pub attributes_of : List FetchAsk → List Attribute
attributes_of asks = fold put_ask [] asks

-- whether it is a text, or a section of one
abbrev pub is_text : Attribute → Bool
is_text Flags = false
is_text Uid = false
is_text InternalDate = false
is_text Size = false
is_text Rfc822 = true
is_text Rfc822Header = true
is_text Rfc822Text = true
is_text (Body section peek) = true

-- whether it sets \Seen
abbrev pub is_reading : Attribute → Bool
is_reading Flags = false
is_reading Uid = false
is_reading InternalDate = false
is_reading Size = false
is_reading Rfc822 = true
is_reading Rfc822Header = false
is_reading Rfc822Text = true
is_reading (Body section peek) = not peek

-- how many of them are texts
abbrev pub body_sections : List Attribute → ℕ
body_sections attributes = length (filter is_text attributes)

-- whether they set \Seen, where the mailbox was not opened by EXAMINE
abbrev pub sets_seen : List Attribute → Bool
sets_seen attributes = list_any is_reading attributes

-- whether they show a text, or how long it is
abbrev pub shows_body : List Attribute → Bool
shows_body attributes = list_any (λ a. is_text a || is_size a) attributes

-- how many octets of texts are asked for, or the last number of 64 bits where they are more
unfoldable pub octets_asked : List Message → List Attribute → ℕ
octets_asked rows attributes = min (sum_by (λ (m : Message). m.size * body_sections attributes) rows) 18446744073709551615
