-- What spells the attributes of a FETCH (RFC 3501, 9: fetch, fetch-att, section-spec, header-list, header-fld-name).
use Rattle.std.specs.Prelude.{◌≡◌, ◌⊎◌, ℕ, List, [], ◌∷◌, ◌++◌, Option, Some}
use Rattle.imap_lines.specs.declared.asks.FetchAsk.{FetchAsk}
use Rattle.imap_lines.specs.declared.fetch.Kind.{Kind}
use Rattle.imap_lines.specs.declared.fetch.Begins.TheVariants.{Whole as WholeAsk, Fields as FieldsAsk}
use Rattle.imap_lines.specs.Asks.{field_in, tail_in}
use Rattle.imap_lines.specs.Fetch.{begins_in, body_of, section_of}
use Rattle.imap_tokens.specs.Spelling.{Spaced}
use Rattle.imap_tokens.specs.Tokens.{string_of}
use Rattle.imap_tokens.specs.declared.tokens.Token.{Token}
use Rattle.imap_tokens.specs.declared.tokens.Token.TheVariants.{Space, Open, Close, Word}

-- header-fld-name: an astring that is a field's name
pub record SpellsField (name : List ℕ) (tokens : List Token) : Type 0 where
  pub token : Token
  pub text : List ℕ
  pub alone : tokens ≡ token ∷ []
  pub string : string_of token ≡ Some text
  pub field : field_in text ≡ Some name

-- an attribute that is one word
pub record SpellsWhole (ask : FetchAsk) (tokens : List Token) : Type 0 where
  pub word : List ℕ
  pub alone : tokens ≡ Word word ∷ []
  pub is : begins_in word ≡ Some (WholeAsk ask)

-- a section of fields: its word, a space, the fields' names in parentheses, and what closes the section
pub record SpellsFields (ask : FetchAsk) (tokens : List Token) : Type 0 where
  pub word : List ℕ
  pub kind : Kind
  pub names : List (List ℕ)
  pub inside : List Token
  pub last : List ℕ
  pub part : Option (ℕ × ℕ)
  pub whole : tokens ≡ Word word ∷ Space ∷ Open ∷ inside ++ Close ∷ Word last ∷ []
  pub begins : begins_in word ≡ Some (FieldsAsk kind)
  pub fields : Spaced SpellsField names inside
  pub ends : tail_in last ≡ Some part
  pub is : ask ≡ body_of (section_of kind.others names) kind.peek part

-- fetch-att
abbrev pub SpellsAttribute : FetchAsk → List Token → Type 0
SpellsAttribute ask tokens = SpellsWhole ask tokens ⊎ SpellsFields ask tokens
