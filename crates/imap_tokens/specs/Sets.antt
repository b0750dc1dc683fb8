-- Sets as they are written (RFC 3501, 9: sequence-set).
use Rattle.std.specs.Prelude.{ℕ, ◌==◌, List, [], ◌∷◌, Option, None, Some, option_map, option_and_then, if◌then◌else◌}
use Rattle.imap_stream.specs.declared.picks.SetRange.{SetRange}
use Rattle.imap_tokens.specs.Words.{is_word, number_in}

-- what stands before a byte and behind it, where it stands first
abbrev pub cut_at : ℕ → List ℕ → Option (List ℕ × List ℕ)
cut_at byte [] = None
cut_at byte (b ∷ bytes) = if b == byte then Some ([], bytes) else option_map (λ parts. (b ∷ parts.0, parts.1)) (cut_at byte bytes)

-- an end of a range: a number, or * for the greatest
abbrev pub end_in : List ℕ → Option (Option ℕ)
end_in bytes = if is_word (42 ∷ []) bytes then Some None else option_map Some (number_in bytes)

abbrev pub range_of : Option ℕ → Option ℕ → SetRange
range_of from to = record { from = from; to = to }

abbrev pub two_in : List ℕ → List ℕ → Option SetRange
two_in from to = option_and_then (λ a. option_map (range_of a) (end_in to)) (end_in from)

abbrev pub range_by : List ℕ → Option (List ℕ × List ℕ) → Option SetRange
range_by bytes None = two_in bytes bytes
range_by bytes (Some parts) = two_in parts.0 parts.1

-- a range, or one number
abbrev pub range_in : List ℕ → Option SetRange
range_in bytes = range_by bytes (cut_at 58 bytes)

-- the byte goes onto the first part
abbrev pub onto_first : ℕ → List (List ℕ) → List (List ℕ)
onto_first b [] = []
onto_first b (part ∷ parts) = (b ∷ part) ∷ parts

-- what stands between commas
abbrev pub between_commas : List ℕ → List (List ℕ)
between_commas [] = [] ∷ []
between_commas (b ∷ bytes) = if b == 44 then [] ∷ between_commas bytes else onto_first b (between_commas bytes)

abbrev pub ranges_in : List (List ℕ) → Option (List SetRange)
ranges_in [] = Some []
ranges_in (part ∷ parts) = option_and_then (λ range. option_map (λ ranges. range ∷ ranges) (ranges_in parts)) (range_in part)

-- ranges and numbers, joined by commas
abbrev pub set_in : List ℕ → Option (List SetRange)
set_in bytes = ranges_in (between_commas bytes)
