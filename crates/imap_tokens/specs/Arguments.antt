-- The arguments of commands, each behind a space (RFC 3501, 9).
use Rattle.std.specs.Prelude.{ℕ, List, [], ◌∷◌, Option, None, Some, option_map, option_and_then, if◌then◌else◌}
use Rattle.imap_tokens.specs.Tokens.{is_space, word_of, string_of}
use Rattle.imap_tokens.specs.declared.tokens.Token.{Token}

-- what follows a space
abbrev pub behind_space : List Token → Option (List Token)
behind_space [] = None
behind_space (token ∷ tokens) = if is_space token then Some tokens else None

-- what the first token says, and what follows it
abbrev pub first_by : {X : Type 0} → (Token → Option X) → List Token → Option (X × List Token)
first_by read [] = None
first_by read (token ∷ tokens) = option_map (λ x. (x, tokens)) (read token)

abbrev pub first_string : List Token → Option (List ℕ × List Token)
first_string tokens = first_by string_of tokens

-- an astring behind a space, and what follows it
abbrev pub next_string : List Token → Option (List ℕ × List Token)
next_string tokens = option_and_then first_string (behind_space tokens)

abbrev pub first_word : List Token → Option (List ℕ × List Token)
first_word tokens = first_by word_of tokens

-- a word behind a space, and what follows it
abbrev pub next_word : List Token → Option (List ℕ × List Token)
next_word tokens = option_and_then first_word (behind_space tokens)
