-- The text of a plan: a line for each level, with its number and the numbers of its items.
use Rattle.std.specs.Prelude.{ℕ, ◌+◌, Bool, nat_lt, List, [], ◌∷◌, ◌++◌, length, codes, decimal, slice_index}
use Rattle.std.specs.List.{list_all}

-- whether each is a place of the numbers
abbrev pub are_places : List ℕ → List ℕ → Bool
are_places numbers places = list_all (λ place. nat_lt place (length numbers)) places

-- the numbers at the places, each behind a blank
abbrev pub number_words : List ℕ → List ℕ → List ℕ
number_words numbers [] = []
number_words numbers (place ∷ places) = 32 ∷ decimal (slice_index numbers place) ++ number_words numbers places

abbrev pub level_line : List ℕ → ℕ → List ℕ → List ℕ
level_line numbers level places = codes "level " ++ decimal level ++ codes ":" ++ number_words numbers places ++ 10 ∷ []

-- the lines of levels, of which the first has this number
abbrev pub lines_from : List ℕ → ℕ → List (List ℕ) → List ℕ
lines_from numbers level [] = []
lines_from numbers level (places ∷ more) = level_line numbers level places ++ lines_from numbers (level + 1) more

-- the text of a plan whose items have these numbers
abbrev pub text_of_levels : List (List ℕ) → List ℕ → List ℕ
text_of_levels levels numbers = lines_from numbers 1 levels
