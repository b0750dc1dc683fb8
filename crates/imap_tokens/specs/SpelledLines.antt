-- What spells the tokens of a command's lines and literals (RFC 3501, 4.3 and 9: literal): the tokens of each line, and behind them the literal that stands behind the line.
use Rattle.std.specs.Prelude.{◌≡◌, ℕ, List, [], ◌∷◌, ◌++◌, drop}
use Rattle.imap_tokens.specs.Parts.{line_before}
use Rattle.imap_tokens.specs.Spelling.{Spells}
use Rattle.imap_tokens.specs.declared.tokens.Token.{Token}
use Rattle.imap_tokens.specs.declared.tokens.Token.TheVariants.{Literal}

-- the literal behind a line, if there is one
abbrev pub behind_line : List (List ℕ) → List Token
behind_line [] = []
behind_line (literal ∷ literals) = Literal literal ∷ []

-- the lines that follow in a command, each with its literal; of the last one the spaces at its end don't count
abbrev pub SpellsAfter : List (List ℕ) → List (List ℕ) → List Token → Type 0
SpellsAfter [] literals tokens = tokens ≡ []
SpellsAfter (line ∷ lines) literals tokens =
    (here : List Token) × (rest : List Token) × (tokens ≡ here ++ (behind_line literals ++ rest)) × Spells (line_before line lines) here × SpellsAfter lines (drop 1 literals) rest

-- the rest of a line with its literal, and the lines that follow
abbrev pub SpellsLines : List ℕ → List (List ℕ) → List (List ℕ) → List Token → Type 0
SpellsLines line lines literals tokens =
    (here : List Token) × (rest : List Token) × (tokens ≡ here ++ (behind_line literals ++ rest)) × Spells line here × SpellsAfter lines (drop 1 literals) rest
