-- The attributes of a FETCH (RFC 3501, 6.4.5 and 9: fetch-att, section, header-list).
use Rattle.std.specs.Prelude.{codes, ℕ, Bool, true, false, ◌-◌, ◌==◌, ◌&&◌, List, [], ◌∷◌, ◌++◌, length, take, slice_get, Option, None, Some, option_map, option_and_then, if◌then◌else◌}
use Rattle.std.specs.Option.{option_map_or}
use Rattle.undo_base.specs.declared.asks.Section.{Section}
use Rattle.undo_base.specs.declared.asks.Section.TheVariants.{Whole, Header, Text, Fields, NotFields}
use Rattle.imap_lines.specs.declared.asks.FetchAsk.{FetchAsk}
use Rattle.imap_lines.specs.declared.asks.FetchAsk.TheVariants.{Flags, Uid, InternalDate, Size, Rfc822, Rfc822Header, Rfc822Text, Fast, Body}
use Rattle.imap_lines.specs.declared.fetch.Wanted.{Wanted}
use Rattle.imap_lines.specs.declared.fetch.Wanted.TheVariants.{Attribute, Behind, Gap, Opening, FieldName, BehindName, Tail}
use Rattle.imap_lines.specs.declared.fetch.Attributes.{Attributes}
use Rattle.imap_lines.specs.declared.fetch.Begins.{Begins}
use Rattle.imap_lines.specs.declared.fetch.Begins.TheVariants.{Whole as WholeAsk, Fields as FieldsAsk}
use Rattle.imap_tokens.specs.Words.{is_word, row_of, after_word}
use Rattle.imap_tokens.specs.Sets.{cut_at}
use Rattle.imap_lines.specs.Asks.{field_in, part_in, tail_in}
use Rattle.imap_tokens.specs.Tokens.{is_space, is_open, is_close, word_of, string_of}
use Rattle.imap_tokens.specs.declared.tokens.Token.{Token}

abbrev pub plain_asks : List (List ℕ × FetchAsk)
plain_asks =
    (codes "FLAGS", Flags)
    ∷ (codes "UID", Uid)
    ∷ (codes "INTERNALDATE", InternalDate)
    ∷ (codes "RFC822.SIZE", Size)
    ∷ (codes "RFC822", Rfc822)
    ∷ (codes "RFC822.HEADER", Rfc822Header)
    ∷ (codes "RFC822.TEXT", Rfc822Text) ∷ []

abbrev pub plain_in : List ℕ → Option FetchAsk
plain_in word = row_of plain_asks word

abbrev pub section_in : List ℕ → Option Section
section_in word =
    if length word == 0 then Some Whole
    else if is_word (codes "HEADER") word then Some Header
    else if is_word (codes "TEXT") word then Some Text
    else None

abbrev pub body_of : Section → Bool → Option (ℕ × ℕ) → FetchAsk
body_of section peek part = Body (record { what = section; part = part }) peek

-- a section without field names, and what stands behind it
abbrev pub whole_in : List ℕ → List ℕ → Bool → Option Begins
whole_in section rest peek = option_and_then (λ what. option_map (λ part. WholeAsk (body_of what peek part)) (part_in rest)) (section_in section)

abbrev pub fields_of : Bool → Bool → Begins
fields_of others peek = FieldsAsk (record { others = others; peek = peek })

-- what stands behind BODY[
abbrev pub body_in : Bool → List ℕ → Option Begins
body_in peek rest =
    if is_word (codes "HEADER.FIELDS") rest then Some (fields_of false peek)
    else if is_word (codes "HEADER.FIELDS.NOT") rest then Some (fields_of true peek)
    else option_and_then (λ parts. whole_in parts.0 parts.1 peek) (cut_at 93 rest)

abbrev pub peeked_in : List ℕ → Option (List ℕ) → Option Begins
peeked_in word None = option_and_then (body_in true) (after_word (codes "BODY.PEEK[") word)
peeked_in word (Some rest) = body_in false rest

abbrev pub begins_by : List ℕ → Option FetchAsk → Option Begins
begins_by word None = peeked_in word (after_word (codes "BODY[") word)
begins_by word (Some ask) = Some (WholeAsk ask)

-- what an attribute begins with
abbrev pub begins_in : List ℕ → Option Begins
begins_in word = begins_by word (plain_in word)

abbrev pub nothing_asked : Attributes
nothing_asked = record { asks = []; wanted = Attribute; kind = record { others = false; peek = false }; names = [] }

abbrev pub with_ask : Attributes → FetchAsk → Attributes
with_ask a ask = record { asks = a.asks ++ ask ∷ []; wanted = Behind; kind = a.kind; names = [] }

abbrev pub wanting : Attributes → Wanted → Attributes
wanting a wanted = record { asks = a.asks; wanted = wanted; kind = a.kind; names = a.names }

-- an attribute begins
abbrev pub begun : Attributes → Begins → Attributes
begun a (WholeAsk ask) = with_ask a ask
begun a (FieldsAsk kind) = record { asks = a.asks; wanted = Gap; kind = kind; names = [] }

abbrev pub with_name : Attributes → List ℕ → Attributes
with_name a name = record { asks = a.asks; wanted = BehindName; kind = a.kind; names = a.names ++ name ∷ [] }

-- the fields of a header with these names, or the others
abbrev pub section_of : Bool → List (List ℕ) → Section
section_of others names = if others then NotFields names else Fields names

-- fields are asked for, and what stands behind their names
abbrev pub with_fields : Attributes → Option (ℕ × ℕ) → Attributes
with_fields a part = with_ask a (body_of (section_of a.kind.others a.names) a.kind.peek part)

-- one token more
abbrev pub with_token : Wanted → Attributes → Token → Option Attributes
with_token Attribute a token = option_and_then (λ word. option_map (begun a) (begins_in word)) (word_of token)
with_token Behind a token = if is_space token then Some (wanting a Attribute) else None
with_token Gap a token = if is_space token then Some (wanting a Opening) else None
with_token Opening a token = if is_open token then Some (wanting a FieldName) else None
with_token FieldName a token = option_and_then (λ text. option_map (with_name a) (field_in text)) (string_of token)
with_token BehindName a token = if is_space token then Some (wanting a FieldName) else if is_close token then Some (wanting a Tail) else None
with_token Tail a token = option_and_then (λ word. option_map (with_fields a) (tail_in word)) (word_of token)

-- more tokens
abbrev pub with_tokens : Attributes → List Token → Option Attributes
with_tokens a [] = Some a
with_tokens a (token ∷ tokens) = option_and_then (λ more. with_tokens more tokens) (with_token a.wanted a token)

abbrev pub is_behind : Wanted → Bool
is_behind Attribute = false
is_behind Behind = true
is_behind Gap = false
is_behind Opening = false
is_behind FieldName = false
is_behind BehindName = false
is_behind Tail = false

abbrev pub whole_asks : Attributes → Option (List FetchAsk)
whole_asks a = if is_behind a.wanted then Some a.asks else None

-- attributes with a space between each two
abbrev pub asks_in : List Token → Option (List FetchAsk)
asks_in tokens = option_and_then whole_asks (with_tokens nothing_asked tokens)

-- whether tokens are this word alone
abbrev pub is_alone : List ℕ → List Token → Bool
is_alone word [] = false
is_alone word (token ∷ tokens) = (length tokens == 0) && option_map_or (is_word word) (word_of token) false

abbrev pub one_of : List FetchAsk → Option (List FetchAsk)
one_of asks = if length asks == 1 then Some asks else None

-- one attribute, or FAST
abbrev pub single_in : List Token → Option (List FetchAsk)
single_in tokens = if is_alone (codes "FAST") tokens then Some (Fast ∷ []) else option_and_then one_of (asks_in tokens)

-- whether the last token closes a list
abbrev pub ends_closed : List Token → Bool
ends_closed tokens = option_map_or is_close (slice_get tokens (length tokens - 1)) false

-- attributes behind the parenthesis that opens their list
abbrev pub listed_in : List Token → Option (List FetchAsk)
listed_in tokens = if ends_closed tokens then asks_in (take (length tokens - 1) tokens) else None

-- one attribute, or a list in parentheses
abbrev pub fetch_in : List Token → Option (List FetchAsk)
fetch_in [] = None
fetch_in (token ∷ tokens) = if is_open token then listed_in tokens else single_in (token ∷ tokens)
