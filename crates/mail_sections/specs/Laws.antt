-- What the parts of a text are together.
use Rattle.std.specs.Prelude.{ℕ, List, [], ◌∷◌}

-- All of a list's items stand in one or the other of two lists, each once and in order.
pub data Parts : (all some others : List (List ℕ)) → Type 0 where
  neither : Parts [] [] []
  one : {all some others : List (List ℕ)} (item : List ℕ) → Parts all some others → Parts (item ∷ all) (item ∷ some) others
  other : {all some others : List (List ℕ)} (item : List ℕ) → Parts all some others → Parts (item ∷ all) some (item ∷ others)
