-- The grammar of SEARCH's arguments (RFC 3501, 9: search, search-key): which tokens ask what.
use Rattle.std.specs.Prelude.{◌≡◌, ◌⊎◌, codes, ℕ, ℤ, zero, suc, Bool, true, false, List, [], ◌∷◌, ◌++◌, map, None, Some}
use Rattle.imap_stream.specs.declared.picks.SetRange.{SetRange}
use Rattle.imap_tokens.specs.Ranges.{SpellsSet}
use Rattle.imap_tokens.specs.Spelling.{Spaced}
use Rattle.imap_tokens.specs.Tokens.{string_of}
use Rattle.imap_tokens.specs.Words.{is_word, is_atom, count_in}
use Rattle.imap_tokens.specs.declared.tokens.Token.{Token}
use Rattle.imap_tokens.specs.declared.tokens.Token.TheVariants.{Space, Open, Close, Word}
use Rattle.search_verb.specs.Asked.{Asked, Places, Uids, Field, Not, Or, all_of}
use Rattle.search_lines.specs.Leaves.{sign_key, place_key, when_key, size_key, known_key, range_of}
use Rattle.search_lines.specs.Sought.{behind_charset}
use Rattle.search_lines.specs.Strings.{dated}
use Rattle.search_lines.specs.Words.{key_word}
use Rattle.search_lines.specs.declared.sought.Sought.{Sought}
use Rattle.search_lines.specs.declared.words.Place.{Place}
use Rattle.search_lines.specs.declared.words.When.{When}
use Rattle.search_lines.specs.declared.words.KeyWord.{KeyWord}
use Rattle.search_lines.specs.declared.words.KeyWord.TheVariants as word

-- SP astring
pub record SpellsIn (p : Place) (key : Asked) (tokens : List Token) : Type 0 where
  pub token : Token
  pub text : List ℕ
  pub whole : tokens ≡ Space ∷ token ∷ []
  pub is : string_of token ≡ Some text
  pub asks : key ≡ place_key p text

-- SP date
pub record SpellsWhen (w : When) (key : Asked) (tokens : List Token) : Type 0 where
  pub token : Token
  pub day : ℤ
  pub whole : tokens ≡ Space ∷ token ∷ []
  pub is : dated token ≡ Some day
  pub asks : key ≡ when_key w day

-- SP number
pub record SpellsSize (larger : Bool) (key : Asked) (tokens : List Token) : Type 0 where
  pub text : List ℕ
  pub size : ℕ
  pub whole : tokens ≡ Space ∷ Word text ∷ []
  pub is : count_in text ≡ Some size
  pub asks : key ≡ size_key larger size

-- SP header-fld-name SP astring
pub record SpellsHeader (key : Asked) (tokens : List Token) : Type 0 where
  pub one : Token
  pub two : Token
  pub name : List ℕ
  pub text : List ℕ
  pub whole : tokens ≡ Space ∷ one ∷ Space ∷ two ∷ []
  pub is_name : string_of one ≡ Some name
  pub is_text : string_of two ≡ Some text
  pub asks : key ≡ Field name text

-- SP flag-keyword
pub record SpellsKeyword (every : Bool) (key : Asked) (tokens : List Token) : Type 0 where
  pub text : List ℕ
  pub whole : tokens ≡ Space ∷ Word text ∷ []
  pub is : is_atom text ≡ true
  pub asks : key ≡ known_key every

-- SP sequence-set
pub record SpellsUids (key : Asked) (tokens : List Token) : Type 0 where
  pub text : List ℕ
  pub set : List SetRange
  pub whole : tokens ≡ Space ∷ Word text ∷ []
  pub is : SpellsSet set text
  pub asks : key ≡ Uids (map range_of set)

-- what stands behind the word of a key that holds no other
abbrev pub SpellsArgument : KeyWord → Asked → List Token → Type 0
SpellsArgument (word.Is s) key tokens = (tokens ≡ []) × (key ≡ sign_key s)
SpellsArgument (word.IsNot s) key tokens = (tokens ≡ []) × (key ≡ Not (sign_key s))
SpellsArgument (word.In p) key tokens = SpellsIn p key tokens
SpellsArgument (word.Came w) key tokens = SpellsWhen w key tokens
SpellsArgument word.Larger key tokens = SpellsSize true key tokens
SpellsArgument word.Smaller key tokens = SpellsSize false key tokens
SpellsArgument word.Header key tokens = SpellsHeader key tokens
SpellsArgument word.Keyword key tokens = SpellsKeyword false key tokens
SpellsArgument word.Unkeyword key tokens = SpellsKeyword true key tokens
SpellsArgument word.Uid key tokens = SpellsUids key tokens
SpellsArgument word.Not key tokens = ⊥
SpellsArgument word.Or key tokens = ⊥

-- a key that holds no other, behind its word
pub record SpellsLeaf (key : Asked) (tokens : List Token) : Type 0 where
  pub text : List ℕ
  pub known : KeyWord
  pub arguments : List Token
  pub whole : tokens ≡ Word text ∷ arguments
  pub is : key_word text ≡ Some known
  pub asks : SpellsArgument known key arguments

-- sequence-set
pub record SpellsPlaces (key : Asked) (tokens : List Token) : Type 0 where
  pub text : List ℕ
  pub set : List SetRange
  pub whole : tokens ≡ Word text ∷ []
  pub no_word : key_word text ≡ None
  pub is : SpellsSet set text
  pub asks : key ≡ Places (map range_of set)

-- "NOT" SP search-key
pub record SpellsNot (P : Asked → List Token → Type 0) (key : Asked) (tokens : List Token) : Type 0 where
  pub text : List ℕ
  pub inner : Asked
  pub held : List Token
  pub whole : tokens ≡ Word text ∷ Space ∷ held
  pub is : key_word text ≡ Some word.Not
  pub spells : P inner held
  pub asks : key ≡ Not inner

-- "OR" SP search-key SP search-key
pub record SpellsOr (P : Asked → List Token → Type 0) (key : Asked) (tokens : List Token) : Type 0 where
  pub text : List ℕ
  pub one : Asked
  pub two : Asked
  pub first : List Token
  pub second : List Token
  pub whole : tokens ≡ Word text ∷ Space ∷ first ++ Space ∷ second
  pub is : key_word text ≡ Some word.Or
  pub spells_one : P one first
  pub spells_two : P two second
  pub asks : key ≡ Or one two

-- "(" search-key *(SP search-key) ")"
pub record SpellsListed (P : Asked → List Token → Type 0) (key : Asked) (tokens : List Token) : Type 0 where
  pub keys : List Asked
  pub inside : List Token
  pub whole : tokens ≡ Open ∷ inside ++ Close ∷ []
  pub spells : Spaced P keys inside
  pub asks : key ≡ all_of keys

-- search-key, in which keys hold one another so many deep at most, itself the first
abbrev pub SpellsKey : ℕ → Asked → List Token → Type 0
SpellsKey zero key tokens = ⊥
SpellsKey (suc depth) key tokens =
    SpellsLeaf key tokens ⊎ SpellsPlaces key tokens ⊎ SpellsNot (SpellsKey depth) key tokens ⊎ SpellsOr (SpellsKey depth) key tokens ⊎ SpellsListed (SpellsKey depth) key tokens

-- search-key *(SP search-key): all are to match; a key holds others no more than 64 deep
pub record SpellsKeys (key : Asked) (tokens : List Token) : Type 0 where
  pub keys : List Asked
  pub spells : Spaced (SpellsKey 65) keys tokens
  pub asks : key ≡ all_of keys

-- SP keys, which do not begin with the word CHARSET
pub record SpellsPlain (s : Sought) (tokens : List Token) : Type 0 where
  pub rest : List Token
  pub whole : tokens ≡ Space ∷ rest
  pub apart : behind_charset rest ≡ None
  pub spells : SpellsKeys s.key rest
  pub none : s.charset ≡ None

-- SP "CHARSET" SP astring SP keys
pub record SpellsCharset (s : Sought) (tokens : List Token) : Type 0 where
  pub text : List ℕ
  pub token : Token
  pub name : List ℕ
  pub rest : List Token
  pub whole : tokens ≡ Space ∷ Word text ∷ Space ∷ token ∷ Space ∷ rest
  pub in_any_case : is_word (codes "CHARSET") text ≡ true
  pub is : string_of token ≡ Some name
  pub spells : SpellsKeys s.key rest
  pub named : s.charset ≡ Some name

-- the arguments of SEARCH
abbrev pub SpellsSought : Sought → List Token → Type 0
SpellsSought s tokens = SpellsPlain s tokens ⊎ SpellsCharset s tokens
