-- The patterns of LIST (RFC 3501, section 6.3.8).
--
-- The case of INBOX is ignored byte by byte, by the place in the name: its first five bytes, where they are the whole name or
-- stand before the first `/`. So `i*X` lists `INBOX/X`, and `*x` lists INBOX and `INBOX/x` but not `INBOX/X`. It is so whether or
-- not the store is deep.
use Rattle.std.specs.Prelude.{ℕ, Bool, not, true, false, ◌&&◌, ◌||◌, ◌==◌, if◌then◌else◌, List, [], ◌∷◌, ◌++◌, map, drop, length, bytes_eq}
use Rattle.std.specs.List.{before_first}
use Rattle.std.specs.Char.{to_ascii_uppercase}
use Rattle.verb_core.specs.Names.{inbox, is_empty, is_slash}

-- ---- the letters of a name

-- a byte of a name, and whether a pattern's byte may be in the other case
pub record Letter : Type 0 where
  pub byte : ℕ
  pub any_case : Bool

abbrev pub letters_in : Bool → List ℕ → List Letter
letters_in any_case bytes = map (λ b. record { byte = b; any_case = any_case }) bytes

-- whether INBOX is the name, or its part before the first `/`
abbrev pub is_inbox_or_below : List ℕ → Bool
is_inbox_or_below name = bytes_eq (before_first is_slash name) inbox

-- those of INBOX, alone or before the first `/`, are compared ignoring case
abbrev pub letters_of : List ℕ → List Letter
letters_of name =
    if is_inbox_or_below name then letters_in true inbox ++ letters_in false (drop (length inbox) name)
    else letters_in false name

-- whether a byte of a pattern is that letter
abbrev pub is_letter : ℕ → Letter → Bool
is_letter p l = (if l.any_case then to_ascii_uppercase p else p) == l.byte

-- ---- matching

-- whether the test passes at some end of the letters: `*` matches any run
abbrev pub some_end : (List Letter → Bool) → List Letter → Bool
some_end test [] = test []
some_end test (l ∷ ls) = test (l ∷ ls) || some_end test ls

-- whether it passes at an end before which no `/` stands: `%` matches any run without one
abbrev pub some_end_of_part : (List Letter → Bool) → List Letter → Bool
some_end_of_part test [] = test []
some_end_of_part test (l ∷ ls) = test (l ∷ ls) || (not (is_slash l.byte) && some_end_of_part test ls)

-- whether the letters begin with this byte, and the test passes at the rest
abbrev pub begins : ℕ → (List Letter → Bool) → List Letter → Bool
begins p test [] = false
begins p test (l ∷ ls) = is_letter p l && test ls

-- whether a pattern that begins with this byte matches, by the test at what is left for its rest
abbrev pub goes_on : ℕ → (List Letter → Bool) → List Letter → Bool
goes_on p test = if p == 42 then some_end test else if p == 37 then some_end_of_part test else begins p test

-- whether the pattern matches all of the letters
abbrev pub matches : List ℕ → List Letter → Bool
matches [] = is_empty
matches (p ∷ ps) = goes_on p (matches ps)

-- whether LIST gives the name
abbrev pub is_listed : List ℕ → List ℕ → Bool
is_listed pattern name = matches pattern (letters_of name)
