-- The arguments of SEARCH (RFC 3501, 6.4.4 and 9: search): a charset, or none, and keys.
use Rattle.std.specs.Prelude.{codes, ℕ, Bool, false, List, [], ◌∷◌, Option, None, Some, option_map, option_and_then, if◌then◌else◌}
use Rattle.std.specs.Option.{option_map_or}
use Rattle.imap_tokens.specs.Tokens.{word_of}
use Rattle.imap_tokens.specs.Words.{is_word}
use Rattle.imap_tokens.specs.declared.tokens.Token.{Token}
use Rattle.search_verb.specs.Asked.{Asked}
use Rattle.search_lines.specs.Keys.{whole_keys}
use Rattle.imap_tokens.specs.Arguments.{behind_space, next_string}
use Rattle.search_lines.specs.declared.sought.Sought.{Sought}

abbrev pub sought : Option (List ℕ) → Asked → Sought
sought charset key = record { charset = charset; key = key }

abbrev pub is_charset : Token → Bool
is_charset token = option_map_or (is_word (codes "CHARSET")) (word_of token) false

-- what follows the word CHARSET
abbrev pub behind_charset : List Token → Option (List Token)
behind_charset [] = None
behind_charset (token ∷ tokens) = if is_charset token then Some tokens else None

-- a charset, and what follows the space behind it
abbrev pub charset_in : List Token → Option (List ℕ × List Token)
charset_in tokens = option_and_then (λ name. option_map (λ rest. (name.0, rest)) (behind_space name.1)) (next_string tokens)

abbrev pub with_charset : List Token → Option Sought
with_charset tokens = option_and_then (λ name. option_map (sought (Some name.0)) (whole_keys name.1)) (charset_in tokens)

abbrev pub plain_in : List Token → Option Sought
plain_in tokens = option_map (sought None) (whole_keys tokens)

abbrev pub sought_by : List Token → Option (List Token) → Option Sought
sought_by tokens None = plain_in tokens
sought_by tokens (Some named) = with_charset named

-- the arguments of SEARCH, if they are in the grammar
abbrev pub sought_in : List Token → Option Sought
sought_in tokens = option_and_then (λ rest. sought_by rest (behind_charset rest)) (behind_space tokens)
