-- The words of IMAP's answers (RFC 3501, 9).
use Rattle.std.specs.Prelude.{ℕ, ◌==◌, ◌||◌, Bool, List, [], ◌∷◌, ◌++◌, codes, length, flat_map, if◌then◌else◌}
use Rattle.std.specs.Fmt.{decimal}
use Rattle.std.specs.List.{join_by}
use Rattle.undo_base.specs.LineEnd.{crlf}
use Rattle.undo_base.specs.declared.keys.Flags.{Flags}
use Rattle.civil_dates.specs.Dates.{imap_date}

-- an untagged answer (RFC 3501, 7)
unfoldable pub line : List ℕ → List ℕ
line text = codes "* " ++ text ++ crlf

-- a word with a space before it
abbrev pub spaced_before : List ℕ → List ℕ
spaced_before word = 32 ∷ word

-- a space before what is not the first
abbrev pub space_before : ℕ → List ℕ
space_before index = if index == 0 then [] else 32 ∷ []

-- words with one space between each two
abbrev pub spaced : List (List ℕ) → List ℕ
spaced words = join_by (λ word. word) (codes " ") words

-- a list in parentheses
abbrev pub listed : List (List ℕ) → List ℕ
listed words = codes "(" ++ spaced words ++ codes ")"

-- a word where it is asked for
abbrev pub only_where : Bool → List ℕ → List (List ℕ)
only_where b word = if b then word ∷ [] else []

-- the system flags that are set, in their fixed order (RFC 3501, 2.3.2)
abbrev pub flag_words : Flags → List (List ℕ)
flag_words f =
    only_where f.answered (codes "\\Answered") ++ only_where f.flagged (codes "\\Flagged")
    ++ only_where f.deleted (codes "\\Deleted") ++ only_where f.seen (codes "\\Seen") ++ only_where f.draft (codes "\\Draft")

-- flags in parentheses
unfoldable pub flag_list : Flags → List ℕ
flag_list f = listed (flag_words f)

-- `"` and `\` in a quoted string have a `\` before them
abbrev pub is_escaped : ℕ → Bool
is_escaped b = (b == 34) || (b == 92)

abbrev pub escaped : ℕ → List ℕ
escaped b = if is_escaped b then 92 ∷ b ∷ [] else b ∷ []

-- a quoted string
abbrev pub quoted : List ℕ → List ℕ
quoted text = codes "\"" ++ flat_map escaped text ++ codes "\""

-- a literal: how many bytes, and the bytes (RFC 3501, 4.3)
abbrev pub literal : List ℕ → List ℕ
literal bytes = codes "{" ++ decimal (length bytes) ++ codes "}" ++ crlf ++ bytes

-- a date and time with its quotes
unfoldable pub date_text : ℕ → List ℕ
date_text at = codes "\"" ++ imap_date at ++ codes "\""
