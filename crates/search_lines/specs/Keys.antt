-- Keys, which may hold others (RFC 3501, 6.4.4 and 9: search-key).
use Rattle.std.specs.Prelude.{ℕ, zero, suc, Bool, true, false, ◌&&◌, List, [], ◌∷◌, length, Option, None, Some, option_map, option_and_then, if◌then◌else◌}
use Rattle.imap_tokens.specs.Tokens.{is_open, is_close, word_of}
use Rattle.imap_tokens.specs.declared.tokens.Token.{Token}
use Rattle.search_verb.specs.Asked.{Asked, Not, Or, all_of}
use Rattle.search_lines.specs.Leaves.{Found, leaf_in, places_in}
use Rattle.imap_tokens.specs.Arguments.{behind_space}
use Rattle.search_lines.specs.Words.{key_word}
use Rattle.search_lines.specs.declared.words.KeyWord.{KeyWord}
use Rattle.search_lines.specs.declared.words.KeyWord.TheVariants as word

-- what follows the end of keys: a parenthesis that closes them, or the end of the command
abbrev pub at_end : Bool → List Token → Option (List Token)
at_end closed [] = if closed then None else Some []
at_end closed (token ∷ tokens) = if closed && is_close token then Some tokens else None

-- a key behind a space
abbrev pub next_key : (List Token → Found) → List Token → Found
next_key read tokens = option_and_then read (behind_space tokens)

-- NOT key
abbrev pub not_in : (List Token → Found) → List Token → Found
not_in read tokens = option_map (λ r. (Not r.0, r.1)) (next_key read tokens)

-- OR key key
abbrev pub or_in : (List Token → Found) → List Token → Found
or_in read tokens = option_and_then (λ a. option_map (λ b. (Or a.0 b.0, b.1)) (next_key read a.1)) (next_key read tokens)

-- a key, which is the last one or stands before others
abbrev pub with_key : Asked → Option (List Token) → Option (List Asked × List Token) → Option (List Asked × List Token)
with_key key (Some rest) others = Some (key ∷ [], rest)
with_key key None others = option_map (λ r. (key ∷ r.0, r.1)) others

-- keys, so many at most, with a space between each two up to their end, and what follows it
abbrev pub keys_in : (List Token → Found) → Bool → ℕ → List Token → Option (List Asked × List Token)
keys_in read closed zero tokens = None
keys_in read closed (suc most) tokens =
    option_and_then (λ r. with_key r.0 (at_end closed r.1) (option_and_then (λ more. keys_in read closed most more) (behind_space r.1))) (read tokens)

-- keys in parentheses, behind the one that opens them
abbrev pub listed_in : (List Token → Found) → List Token → Found
listed_in read tokens = option_map (λ r. (all_of r.0, r.1)) (keys_in read true (length tokens) tokens)

-- a key behind its word
abbrev pub key_by : (List Token → Found) → KeyWord → List Token → Found
key_by read word.Not tokens = not_in read tokens
key_by read word.Or tokens = or_in read tokens
key_by read w tokens = leaf_in w tokens

-- the messages that a set names
abbrev pub set_key : List ℕ → List Token → Found
set_key text tokens = option_map (λ key. (key, tokens)) (places_in text)

abbrev pub known_by : (List Token → Found) → List ℕ → Option KeyWord → List Token → Found
known_by read text None tokens = set_key text tokens
known_by read text (Some w) tokens = key_by read w tokens

-- a key behind the word that it begins with, which is one of keys, or a set
abbrev pub worded_in : (List Token → Found) → List ℕ → List Token → Found
worded_in read text tokens = known_by read text (key_word text) tokens

abbrev pub worded_by : (List Token → Found) → Option (List ℕ) → List Token → Found
worded_by read None tokens = None
worded_by read (Some text) tokens = worded_in read text tokens

-- a key, where those that it holds are read so
abbrev pub opened_in : (List Token → Found) → List Token → Found
opened_in read [] = None
opened_in read (token ∷ tokens) = if is_open token then listed_in read tokens else worded_by read (word_of token) tokens

-- a key, and what follows it; in it keys hold one another so many deep at most, itself the first
unfoldable pub key_in : ℕ → List Token → Found
key_in zero tokens = None
key_in (suc depth) tokens = opened_in (key_in depth) tokens

-- the keys that end a command, of which all are to match: a key holds others no more than 64 deep
abbrev pub whole_keys : List Token → Option Asked
whole_keys tokens = option_map (λ r. all_of r.0) (keys_in (key_in 65) false (length tokens) tokens)
