-- The tokens of arguments (RFC 3501, 9: SP, parentheses, atom, quoted, literal).
use Rattle.std.specs.Prelude.{ℕ, Bool, not, ◌==◌, ◌&&◌, ◌||◌, List, [], ◌∷◌, ◌++◌, drop, nat_le, Option, None, Some, option_map, option_and_then, if◌then◌else◌}
use Rattle.std.specs.List.{list_all}
use Rattle.imap_tokens.specs.Parts.{line_before}
use Rattle.imap_tokens.specs.Words.{is_atom, is_pattern_byte}
use Rattle.imap_tokens.specs.declared.tokens.Token.{Token}
use Rattle.imap_tokens.specs.declared.tokens.Token.TheVariants.{Space, Open, Close, Word, Quoted, Literal}
use Rattle.imap_tokens.specs.declared.tokens.Part.{Part}
use Rattle.imap_tokens.specs.declared.tokens.Part.TheVariants.{Between, Word as PartWord, Quoted as PartQuoted, Escape}

-- a byte of a word: printable, and none of ( ) "
abbrev pub is_word_byte : ℕ → Bool
is_word_byte b = nat_le 33 b && nat_le b 126 && not (b == 40 || b == 41 || b == 34)

-- a byte that a quoted string may hold
abbrev pub is_quoted_byte : ℕ → Bool
is_quoted_byte b = not (b == 0 || b == 13 || b == 10)

-- a byte after a whole token: the tokens so far, and what has come of the next
abbrev pub started : List Token → ℕ → Option (List Token × Part)
started tokens b =
    if b == 32 then Some (tokens ++ Space ∷ [], Between)
    else if b == 40 then Some (tokens ++ Open ∷ [], Between)
    else if b == 41 then Some (tokens ++ Close ∷ [], Between)
    else if b == 34 then Some (tokens, PartQuoted [])
    else if is_word_byte b then Some (tokens, PartWord (b ∷ []))
    else None

-- a byte of a quoted string
abbrev pub in_quotes : List Token → List ℕ → ℕ → Option (List Token × Part)
in_quotes tokens text b =
    if b == 34 then Some (tokens ++ Quoted text ∷ [], Between)
    else if b == 92 then Some (tokens, Escape text)
    else if is_quoted_byte b then Some (tokens, PartQuoted (text ++ b ∷ []))
    else None

-- a byte after a \ in a quoted string
abbrev pub escaped : List ℕ → ℕ → Option Part
escaped text b = if b == 34 || b == 92 then Some (PartQuoted (text ++ b ∷ [])) else None

-- a byte after bytes of a word
abbrev pub in_word : List Token → List ℕ → ℕ → Option (List Token × Part)
in_word tokens text b = if is_word_byte b then Some (tokens, PartWord (text ++ b ∷ [])) else started (tokens ++ Word text ∷ []) b

abbrev pub with_byte : List Token → Part → ℕ → Option (List Token × Part)
with_byte tokens Between b = started tokens b
with_byte tokens (PartWord text) b = in_word tokens text b
with_byte tokens (PartQuoted text) b = in_quotes tokens text b
with_byte tokens (Escape text) b = option_map (λ part. (tokens, part)) (escaped text b)

-- the tokens where a line ends
abbrev pub ended : List Token → Part → Option (List Token)
ended tokens Between = Some tokens
ended tokens (PartWord text) = Some (tokens ++ Word text ∷ [])
ended tokens (PartQuoted text) = None
ended tokens (Escape text) = None

-- the tokens with those of the rest of a line
abbrev pub tokens_from : List Token → Part → List ℕ → Option (List Token)
tokens_from tokens part [] = ended tokens part
tokens_from tokens part (b ∷ line) = option_and_then (λ next. tokens_from next.0 next.1 line) (with_byte tokens part b)

-- the tokens with those of a line
abbrev pub tokens_in : List Token → List ℕ → Option (List Token)
tokens_in tokens line = tokens_from tokens Between line

-- the byte of a space or of a parenthesis; a token that has a text has none
abbrev pub mark_byte : Token → ℕ
mark_byte Space = 32
mark_byte Open = 40
mark_byte Close = 41
mark_byte (Word text) = 0
mark_byte (Quoted text) = 0
mark_byte (Literal text) = 0

abbrev pub is_space : Token → Bool
is_space token = mark_byte token == 32

abbrev pub is_open : Token → Bool
is_open token = mark_byte token == 40

abbrev pub is_close : Token → Bool
is_close token = mark_byte token == 41

-- what a token's text gives: that of a word, of a quoted string, or of a literal
abbrev pub text_by : (List ℕ → Option (List ℕ)) → (List ℕ → Option (List ℕ)) → (List ℕ → Option (List ℕ)) → Token → Option (List ℕ)
text_by word quoted literal Space = None
text_by word quoted literal Open = None
text_by word quoted literal Close = None
text_by word quoted literal (Word text) = word text
text_by word quoted literal (Quoted text) = quoted text
text_by word quoted literal (Literal text) = literal text

-- the text, or nothing
abbrev pub any_text : List ℕ → Option (List ℕ)
any_text text = Some text

abbrev pub no_text : List ℕ → Option (List ℕ)
no_text text = None

abbrev pub word_of : Token → Option (List ℕ)
word_of token = text_by any_text no_text no_text token

-- an astring: an atom, a quoted string or a literal
abbrev pub string_of : Token → Option (List ℕ)
string_of token = text_by (λ text. if is_atom text then Some text else None) any_text any_text token

-- an astring whose atom may hold % and *
abbrev pub pattern_of : Token → Option (List ℕ)
pattern_of token = text_by (λ text. if list_all is_pattern_byte text then Some text else None) any_text any_text token

abbrev pub quoted_of : Token → Option (List ℕ)
quoted_of token = text_by no_text any_text no_text token

abbrev pub literal_of : Token → Option (List ℕ)
literal_of token = text_by no_text no_text any_text token

-- the literal behind a line, if there is one
abbrev pub with_first : List Token → List (List ℕ) → List Token
with_first tokens [] = tokens
with_first tokens (literal ∷ literals) = tokens ++ Literal literal ∷ []

-- the tokens with those of the lines that follow in a command and of the literals that stand behind them
abbrev pub tokens_of : List Token → List (List ℕ) → List (List ℕ) → Option (List Token)
tokens_of tokens [] literals = Some tokens
tokens_of tokens (line ∷ lines) literals =
    option_and_then (λ more. tokens_of (with_first more literals) lines (drop 1 literals)) (tokens_in tokens (line_before line lines))

-- the tokens of the rest of a line, of the lines that follow in the command and of the literals that stand behind them
abbrev pub tokens_with : List ℕ → List (List ℕ) → List (List ℕ) → Option (List Token)
tokens_with line lines literals = option_and_then (λ more. tokens_of (with_first more literals) lines (drop 1 literals)) (tokens_in [] line)
