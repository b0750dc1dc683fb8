-- The last arguments of commands.
use Rattle.std.specs.Prelude.{ℕ, ◌==◌, List, [], ◌∷◌, length, Option, None, Some, option_map, option_and_then, if◌then◌else◌}
use Rattle.imap_tokens.specs.Arguments.{behind_space, next_string}
use Rattle.imap_tokens.specs.Tokens.{is_open, pattern_of}
use Rattle.imap_tokens.specs.declared.tokens.Token.{Token}

abbrev pub last_by : List ℕ × List Token → Option (List ℕ)
last_by r = if length r.1 == 0 then Some r.0 else None

-- the last argument, an astring
abbrev pub last_string : List Token → Option (List ℕ)
last_string tokens = option_and_then last_by (next_string tokens)

-- the last two arguments, astrings
abbrev pub two_strings : List Token → Option (List ℕ × List ℕ)
two_strings tokens = option_and_then (λ r. option_map (λ second. (r.0, second)) (last_string r.1)) (next_string tokens)

abbrev pub first_pattern : List Token → Option (List ℕ)
first_pattern [] = None
first_pattern (token ∷ tokens) = if length tokens == 0 then pattern_of token else None

-- the last two arguments, an astring and a pattern
abbrev pub string_and_pattern : List Token → Option (List ℕ × List ℕ)
string_and_pattern tokens =
    option_and_then (λ r. option_and_then (λ rest. option_map (λ pattern. (r.0, pattern)) (first_pattern rest)) (behind_space r.1)) (next_string tokens)

-- what stands behind the parenthesis that opens a list
abbrev pub in_list : List Token → Option (List Token)
in_list [] = None
in_list (token ∷ tokens) = if is_open token then Some tokens else None

-- an astring, and what stands behind the parenthesis that opens a list as the next argument
abbrev pub string_and_list : List Token → Option (List ℕ × List Token)
string_and_list tokens =
    option_and_then (λ r. option_and_then (λ rest. option_map (λ list. (r.0, list)) (in_list rest)) (behind_space r.1)) (next_string tokens)
