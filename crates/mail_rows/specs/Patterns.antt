-- A name as it is matched against a LIST pattern: from the pattern's last byte on, for each end of the name whether it matches.
use Rattle.std.specs.Prelude.{ℕ, ◌&&◌, ◌||◌, ◌==◌, not, Bool, if◌then◌else◌, List, [], ◌∷◌}
use Rattle.verb_core.specs.Names.{is_slash}
use Rattle.verb_core.specs.Patterns.{Letter, is_letter}
use Rattle.mail_rows.specs.declared.pattern.Cell.{Cell}

abbrev pub letter_of : Cell → Letter
letter_of c = record { byte = c.byte; any_case = c.any_case }

abbrev pub cell_of : Bool → Letter → Cell
cell_of matched l = record { byte = l.byte; any_case = l.any_case; matched = matched }

-- for each end of the letters, but the one of no letters, whether the test passes there
abbrev pub tested : (List Letter → Bool) → List Letter → List Cell
tested test [] = []
tested test (l ∷ ls) = cell_of (test (l ∷ ls)) l ∷ tested test ls

-- ---- a byte more of the pattern, which stands before what was looked at

-- whether it matches the end that begins with a cell, by what the end behind that handed on
abbrev pub matches_at : ℕ → Bool → Cell → Bool
matches_at p later c =
    if p == 42 then c.matched || later
    else if p == 37 then c.matched || (not (is_slash c.byte) && later)
    else is_letter p (letter_of c) && later

-- what that end hands on: a wildcard's own, or that of the pattern before the byte
abbrev pub handed : ℕ → Bool → Cell → Bool
handed p later c =
    if p == 42 then c.matched || later
    else if p == 37 then c.matched || (not (is_slash c.byte) && later)
    else c.matched

abbrev pub handed_all : ℕ → Bool → List Cell → Bool
handed_all p at_end [] = at_end
handed_all p at_end (c ∷ cs) = handed p (handed_all p at_end cs) c

abbrev pub passed : ℕ → Bool → List Cell → List Cell
passed p at_end [] = []
passed p at_end (c ∷ cs) = record c { matched = matches_at p (handed_all p at_end cs) c } ∷ passed p at_end cs

-- what the first cell tells, or what is told of the end of no letters
abbrev pub told_first : Bool → List Cell → Bool
told_first at_end [] = at_end
told_first at_end (c ∷ cs) = c.matched
