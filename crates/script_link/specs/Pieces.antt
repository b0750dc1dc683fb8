-- Strings cut after each LF.
use Rattle.std.specs.Prelude.{ℕ, ◌==◌, List, [], ◌∷◌, if◌then◌else◌}

-- the byte goes onto the first piece
abbrev pub onto_piece : ℕ → List (List ℕ) → List (List ℕ)
onto_piece b [] = (b ∷ []) ∷ []
onto_piece b (piece ∷ pieces) = (b ∷ piece) ∷ pieces

-- the pieces of a string, which is cut after each LF
abbrev pub pieces_of : List ℕ → List (List ℕ)
pieces_of [] = []
pieces_of (b ∷ bytes) = if b == 10 then (b ∷ []) ∷ pieces_of bytes else onto_piece b (pieces_of bytes)
