-- How the tokens of a line are spelled (RFC 3501, 9: SP, parentheses, atom, quoted).
use Rattle.std.specs.Prelude.{◌≡◌, ℕ, Bool, true, false, not, ◌==◌, ◌&&◌, ◌||◌, List, [], ◌∷◌, ◌++◌, if◌then◌else◌}
use Rattle.std.specs.List.{list_all, flat_map}
use Rattle.imap_tokens.specs.Tokens.{is_word_byte, is_quoted_byte}
use Rattle.imap_tokens.specs.declared.tokens.Token.{Token}
use Rattle.imap_tokens.specs.declared.tokens.Token.TheVariants.{Space, Open, Close, Word, Quoted, Literal}

-- a byte of a quoted string: before " and \ stands a \ (QUOTED-CHAR)
abbrev pub quoted_byte : ℕ → List ℕ
quoted_byte b = if b == 34 || b == 92 then 92 ∷ b ∷ [] else b ∷ []

-- how a token is spelled; a literal stands in no line
abbrev pub spelled : Token → List ℕ
spelled Space = 32 ∷ []
spelled Open = 40 ∷ []
spelled Close = 41 ∷ []
spelled (Word text) = text
spelled (Quoted text) = 34 ∷ flat_map quoted_byte text ++ 34 ∷ []
spelled (Literal text) = []

-- one byte of a word or more
abbrev pub is_whole_word : List ℕ → Bool
is_whole_word [] = false
is_whole_word (b ∷ text) = is_word_byte b && list_all is_word_byte text

-- a token that can stand in a line
abbrev pub is_spellable : Token → Bool
is_spellable Space = true
is_spellable Open = true
is_spellable Close = true
is_spellable (Word text) = is_whole_word text
is_spellable (Quoted text) = list_all is_quoted_byte text
is_spellable (Literal text) = false

abbrev pub is_word_token : Token → Bool
is_word_token Space = false
is_word_token Open = false
is_word_token Close = false
is_word_token (Word text) = true
is_word_token (Quoted text) = false
is_word_token (Literal text) = false

-- no word directly follows a word
abbrev pub is_apart : Token → List Token → Bool
is_apart token [] = true
is_apart token (next ∷ tokens) = not (is_word_token token && is_word_token next)

-- tokens that can stand in a line, each word whole
abbrev pub are_spellable : List Token → Bool
are_spellable [] = true
are_spellable (token ∷ tokens) = is_spellable token && is_apart token tokens && are_spellable tokens

-- A line spells these tokens.
pub record Spells (line : List ℕ) (tokens : List Token) : Type 0 where
  pub whole : line ≡ flat_map spelled tokens
  pub each : are_spellable tokens ≡ true

-- one part or more, with a space between each two: part *(SP part)
abbrev pub Spaced : {X : Type 0} → (X → List Token → Type 0) → List X → List Token → Type 0
Spaced P [] tokens = ⊥
Spaced P (x ∷ []) tokens = P x tokens
Spaced P (x ∷ y ∷ xs) tokens = (first : List Token) × (rest : List Token) × (tokens ≡ first ++ Space ∷ rest) × P x first × Spaced P (y ∷ xs) rest
