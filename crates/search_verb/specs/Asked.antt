-- What a search key asks, as a tree of parts of one and of two (RFC 3501, 6.4.4).
use Rattle.std.specs.Prelude.{ℕ, ℤ, List, [], ◌∷◌}
use Rattle.search_verb.specs.declared.keys.SearchRange.{SearchRange}
use Rattle.search_verb.specs.declared.keys.SearchKey.{SearchKey}
use Rattle.search_verb.specs.declared.keys.SearchKey.TheOpen.{SearchKey-F}
use Rattle.search_verb.specs.declared.keys.SearchKey.TheFolds.{fold-SearchKey}

-- What is asked of a message: a flag, a number of a set, a day (from 1970), a size. Or a string in a field, in what follows the header or in all; and
-- what is made of these.
pub data Asked : Type 0 where
  Every : Asked
  Never : Asked
  Answered : Asked
  Deleted : Asked
  Draft : Asked
  Flagged : Asked
  Seen : Asked
  Places : List SearchRange → Asked
  Uids : List SearchRange → Asked
  Before : ℤ → Asked
  On : ℤ → Asked
  Since : ℤ → Asked
  Larger : ℕ → Asked
  Smaller : ℕ → Asked
  Field : (name bytes : List ℕ) → Asked
  Body : List ℕ → Asked
  Text : List ℕ → Asked
  Not : Asked → Asked
  Or : (first second : Asked) → Asked
  And : (first rest : Asked) → Asked

-- keys which must all match: with none of them, every message does
abbrev pub all_of : List Asked → Asked
all_of [] = Every
all_of (asked ∷ rest) = And asked (all_of rest)

-- one key, with what is asked by those in it
abbrev pub layer_of : SearchKey-F Asked → Asked
layer_of SearchKey-F.All = Every
layer_of SearchKey-F.None = Never
layer_of SearchKey-F.Answered = Answered
layer_of SearchKey-F.Deleted = Deleted
layer_of SearchKey-F.Draft = Draft
layer_of SearchKey-F.Flagged = Flagged
layer_of SearchKey-F.Seen = Seen
layer_of (SearchKey-F.Places ranges) = Places ranges
layer_of (SearchKey-F.Uids ranges) = Uids ranges
layer_of (SearchKey-F.Before day) = Before day
layer_of (SearchKey-F.On day) = On day
layer_of (SearchKey-F.Since day) = Since day
layer_of (SearchKey-F.Larger size) = Larger size
layer_of (SearchKey-F.Smaller size) = Smaller size
layer_of (SearchKey-F.Field name bytes) = Field name bytes
layer_of (SearchKey-F.Body bytes) = Body bytes
layer_of (SearchKey-F.Text bytes) = Text bytes
layer_of (SearchKey-F.Not inner) = Not inner.value
layer_of (SearchKey-F.Or first second) = Or first.value second.value
layer_of (SearchKey-F.And keys) = all_of keys.items

-- what a key asks
abbrev pub asked_by : SearchKey → Asked
asked_by = fold-SearchKey Asked layer_of
