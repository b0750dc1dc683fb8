-- Spelled attributes are read.
use Rattle.std.proofs.Common.{◌≡◌, ℕ, List, [], ◌∷◌, ◌++◌, Option, Some, option_map, option_and_then, ap, sym, ◌∙◌, inl, inr}
use Rattle.std.proofs.lemmas.List.{append_assoc, append-nil}
use Rattle.imap_lines.specs.Asks.{field_in, tail_in}
use Rattle.imap_lines.specs.Fetch.{begins_in, body_of, section_of, nothing_asked, begun, with_name, with_fields, with_tokens, whole_asks, asks_in}
use Rattle.imap_tokens.specs.Spelling.{Spaced}
use Rattle.imap_lines.specs.Attributes.{SpellsField, SpellsAttribute}
use Rattle.imap_tokens.specs.Tokens.{string_of}
use Rattle.imap_lines.specs.declared.asks.FetchAsk.{FetchAsk}
use Rattle.imap_lines.specs.declared.fetch.Kind.{Kind}
use Rattle.imap_lines.specs.declared.fetch.Attributes.{Attributes}
use Rattle.imap_lines.specs.declared.fetch.Begins.{Begins}
use Rattle.imap_lines.specs.declared.fetch.Begins.TheVariants.{Whole as WholeAsk, Fields as FieldsAsk}
use Rattle.imap_lines.specs.declared.fetch.Wanted.{Wanted}
use Rattle.imap_lines.specs.declared.fetch.Wanted.TheVariants.{Attribute, Behind, FieldName, BehindName, Tail}
use Rattle.imap_tokens.specs.declared.tokens.Token.{Token}
use Rattle.imap_tokens.specs.declared.tokens.Token.TheVariants.{Space, Open, Close, Word}

-- attributes so far, and what is wanted next
abbrev pub state : List FetchAsk → Wanted → Kind → List (List ℕ) → Attributes
state asks wanted kind names = record { asks = asks; wanted = wanted; kind = kind; names = names }

-- a word where an attribute is wanted
attribute_read : (asks : List FetchAsk) (kind : Kind) (names : List (List ℕ)) (word : List ℕ) (begins : Begins) (rest : List Token) → begins_in word ≡ Some begins
    → with_tokens (state asks Attribute kind names) (Word word ∷ rest) ≡ with_tokens (begun (state asks Attribute kind names) begins) rest
attribute_read asks kind names word begins rest e =
    ap (λ o. option_and_then (λ (more : Attributes). with_tokens more rest) (option_map (begun (state asks Attribute kind names)) o)) e

-- a field's name where one is wanted
field_read : (asks : List FetchAsk) (kind : Kind) (names : List (List ℕ)) (token : Token) (text name : List ℕ) (rest : List Token)
    → string_of token ≡ Some text → field_in text ≡ Some name
    → with_tokens (state asks FieldName kind names) (token ∷ rest) ≡ with_tokens (state asks BehindName kind (names ++ name ∷ [])) rest
field_read asks kind names token text name rest string field =
    ap (λ o. option_and_then (λ (more : Attributes). with_tokens more rest) (option_and_then (λ (t : List ℕ). option_map (with_name (state asks FieldName kind names)) (field_in t)) o)) string
    ∙ ap (λ o. option_and_then (λ (more : Attributes). with_tokens more rest) (option_map (with_name (state asks FieldName kind names)) o)) field

-- the names of fields up to the parenthesis that closes their list
fields_read : (asks : List FetchAsk) (kind : Kind) (names more : List (List ℕ)) (inside rest : List Token) → Spaced SpellsField more inside
    → with_tokens (state asks FieldName kind names) (inside ++ Close ∷ rest) ≡ with_tokens (state asks Tail kind (names ++ more)) rest
fields_read asks kind names [] inside rest spaced = absurd spaced
fields_read asks kind names (name ∷ []) inside rest one =
    ap (λ t. with_tokens (state asks FieldName kind names) (t ++ Close ∷ rest)) one.alone
    ∙ field_read asks kind names one.token one.text name (Close ∷ rest) one.string one.field
fields_read asks kind names (name ∷ next ∷ more) inside rest (first, others, whole, one, spaced) =
    ap (λ t. with_tokens (state asks FieldName kind names) (t ++ Close ∷ rest)) (whole ∙ ap (λ t. t ++ Space ∷ others) one.alone)
    ∙ field_read asks kind names one.token one.text name (Space ∷ others ++ Close ∷ rest) one.string one.field
    ∙ fields_read asks kind (names ++ name ∷ []) (next ∷ more) others rest spaced
    ∙ ap (λ n. with_tokens (state asks Tail kind n) rest) (append_assoc names (name ∷ []) (next ∷ more))

-- what closes a section of fields
tail_read : (asks : List FetchAsk) (kind : Kind) (names : List (List ℕ)) (last : List ℕ) (part : Option (ℕ × ℕ)) (rest : List Token) → tail_in last ≡ Some part
    → with_tokens (state asks Tail kind names) (Word last ∷ rest)
    ≡ with_tokens (state (asks ++ body_of (section_of kind.others names) kind.peek part ∷ []) Behind kind []) rest
tail_read asks kind names last part rest e =
    ap (λ o. option_and_then (λ (more : Attributes). with_tokens more rest) (option_map (with_fields (state asks Tail kind names)) o)) e

-- an attribute is read, whatever was read before
one_read : (asks : List FetchAsk) (kind : Kind) (names : List (List ℕ)) (ask : FetchAsk) (tokens rest : List Token) → SpellsAttribute ask tokens
    → (after : Kind) × (with_tokens (state asks Attribute kind names) (tokens ++ rest) ≡ with_tokens (state (asks ++ ask ∷ []) Behind after []) rest)
one_read asks kind names ask tokens rest (inl one) =
    (kind, ap (λ t. with_tokens (state asks Attribute kind names) (t ++ rest)) one.alone ∙ attribute_read asks kind names one.word (WholeAsk ask) rest one.is)
one_read asks kind names ask tokens rest (inr f) = (
  f.kind,
  ap (λ t. with_tokens (state asks Attribute kind names) (t ++ rest)) f.whole
      ∙ attribute_read asks kind names f.word (FieldsAsk f.kind) (Space ∷ Open ∷ (f.inside ++ Close ∷ Word f.last ∷ []) ++ rest) f.begins
      ∙ ap (with_tokens (state asks FieldName f.kind [])) (append_assoc f.inside (Close ∷ Word f.last ∷ []) rest)
      ∙ fields_read asks f.kind [] f.names f.inside (Word f.last ∷ rest) f.fields
      ∙ tail_read asks f.kind f.names f.last f.part rest f.ends
      ∙ ap (λ a. with_tokens (state (asks ++ a ∷ []) Behind f.kind []) rest) (sym f.is),
)

all_read : (asks : List FetchAsk) (kind : Kind) (names : List (List ℕ)) (more : List FetchAsk) (tokens : List Token) → Spaced SpellsAttribute more tokens
    → option_and_then whole_asks (with_tokens (state asks Attribute kind names) tokens) ≡ Some (asks ++ more)
all_read asks kind names [] tokens spaced = absurd spaced
all_read asks kind names (ask ∷ []) tokens one =
    let r = one_read asks kind names ask tokens [] one in
    ap (λ t. option_and_then whole_asks (with_tokens (state asks Attribute kind names) t)) (sym (append-nil tokens)) ∙ ap (option_and_then whole_asks) r.1
all_read asks kind names (ask ∷ next ∷ more) tokens (first, rest, whole, one, spaced) =
    let r = one_read asks kind names ask first (Space ∷ rest) one in
    ap (λ t. option_and_then whole_asks (with_tokens (state asks Attribute kind names) t)) whole
    ∙ ap (option_and_then whole_asks) r.1
    ∙ all_read (asks ++ ask ∷ []) r.0 [] (next ∷ more) rest spaced
    ∙ ap Some (append_assoc asks (ask ∷ []) (next ∷ more))

pub read_attributes : (tokens : List Token) (asks : List FetchAsk) → Spaced SpellsAttribute asks tokens → asks_in tokens ≡ Some asks
read_attributes tokens asks spaced = all_read [] nothing_asked.kind [] asks tokens spaced
