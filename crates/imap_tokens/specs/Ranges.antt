-- What spells a set (RFC 3501, 9: sequence-set, seq-range, seq-number).
use Rattle.std.specs.Prelude.{◌≡◌, ◌⊎◌, ℕ, List, [], ◌∷◌, ◌++◌, Option, None, Some}
use Rattle.imap_stream.specs.declared.picks.SetRange.{SetRange}
use Rattle.imap_tokens.specs.Words.{number_in}

-- a number, or * for the greatest
abbrev pub SpellsEnd : Option ℕ → List ℕ → Type 0
SpellsEnd None bytes = bytes ≡ 42 ∷ []
SpellsEnd (Some n) bytes = number_in bytes ≡ Some n

-- one number, which is both ends
pub record SpellsOne (range : SetRange) (bytes : List ℕ) : Type 0 where
  pub same : range.from ≡ range.to
  pub is : SpellsEnd range.from bytes

-- two ends with a colon between them
pub record SpellsTwo (range : SetRange) (bytes : List ℕ) : Type 0 where
  pub first : List ℕ
  pub second : List ℕ
  pub whole : bytes ≡ first ++ 58 ∷ second
  pub from : SpellsEnd range.from first
  pub to : SpellsEnd range.to second

abbrev pub SpellsRange : SetRange → List ℕ → Type 0
SpellsRange range bytes = SpellsOne range bytes ⊎ SpellsTwo range bytes

-- ranges, one or more, with a comma between each two
abbrev pub SpellsSet : List SetRange → List ℕ → Type 0
SpellsSet [] bytes = ⊥
SpellsSet (range ∷ []) bytes = SpellsRange range bytes
SpellsSet (range ∷ next ∷ ranges) bytes = (first : List ℕ) × (rest : List ℕ) × (bytes ≡ first ++ 44 ∷ rest) × SpellsRange range first × SpellsSet (next ∷ ranges) rest
