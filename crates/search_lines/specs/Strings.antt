-- The arguments of keys, each behind a space (RFC 3501, 9: astring, date, number).
use Rattle.std.specs.Prelude.{ℕ, ℤ, Bool, ◌&&◌, is_some, List, [], ◌∷◌, Option, None, Some, option_map, option_and_then, if◌then◌else◌}
use Rattle.imap_tokens.specs.Arguments.{behind_space, first_by, next_word}
use Rattle.imap_tokens.specs.Tokens.{word_of, string_of, quoted_of}
use Rattle.imap_tokens.specs.Words.{count_in}
use Rattle.imap_tokens.specs.declared.tokens.Token.{Token}
use Rattle.search_lines.specs.Days.{day_in}

abbrev pub dated_by : Option (List ℕ) → Token → Option ℤ
dated_by None token = option_and_then day_in (quoted_of token)
dated_by (Some text) token = day_in text

-- a date, with its quotes or without them, in days since 1 January 1970
abbrev pub dated : Token → Option ℤ
dated token = dated_by (word_of token) token

abbrev pub first_day : List Token → Option (ℤ × List Token)
first_day tokens = first_by dated tokens

abbrev pub next_day : List Token → Option (ℤ × List Token)
next_day tokens = option_and_then first_day (behind_space tokens)

-- a number from 0 to 4294967295
abbrev pub next_count : List Token → Option (ℕ × List Token)
next_count tokens = option_and_then (λ r. option_map (λ n. (n, r.1)) (count_in r.0)) (next_word tokens)

-- a word that is an atom
abbrev pub is_atom : Token → Bool
is_atom token = is_some (word_of token) && is_some (string_of token)

abbrev pub behind_first_atom : List Token → Option (List Token)
behind_first_atom [] = None
behind_first_atom (token ∷ tokens) = if is_atom token then Some tokens else None

-- what follows an atom behind a space
abbrev pub behind_atom : List Token → Option (List Token)
behind_atom tokens = option_and_then behind_first_atom (behind_space tokens)
