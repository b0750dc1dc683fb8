-- Read attributes are spelled.
use Rattle.std.proofs.Common.{◌≡◌, ℕ, cond, List, [], ◌∷◌, ◌++◌, Option, None, Some, option_map, option_and_then, refl, ap, sym, ◌∙◌, subst, ◌⊎◌, inl, inr}
use Rattle.std.proofs.lemmas.List.{append_assoc, append-nil}
use Rattle.std.proofs.lemmas.Option.{same_Some}
use Rattle.imap_lines.specs.Asks.{field_in, tail_in}
use Rattle.imap_lines.specs.Fetch.{begins_in, body_of, section_of, nothing_asked, with_ask, wanting, begun, with_name, with_fields, with_token, with_tokens, is_behind, whole_asks, asks_in}
use Rattle.imap_tokens.specs.Spelling.{Spaced}
use Rattle.imap_lines.specs.Attributes.{SpellsField, SpellsAttribute}
use Rattle.imap_tokens.specs.Tokens.{string_of}
use Rattle.imap_lines.specs.declared.asks.FetchAsk.{FetchAsk}
use Rattle.imap_lines.specs.declared.fetch.Kind.{Kind}
use Rattle.imap_lines.specs.declared.fetch.Attributes.{Attributes}
use Rattle.imap_lines.specs.declared.fetch.Begins.{Begins}
use Rattle.imap_lines.specs.declared.fetch.Begins.TheVariants.{Whole as WholeAsk, Fields as FieldsAsk}
use Rattle.imap_lines.specs.declared.fetch.Wanted.{Wanted}
use Rattle.imap_lines.specs.declared.fetch.Wanted.TheVariants.{Attribute, Behind, Gap, Opening, FieldName, BehindName, Tail}
use Rattle.imap_tokens.specs.declared.tokens.Token.{Token}
use Rattle.imap_tokens.specs.declared.tokens.Token.TheVariants.{Space, Open, Close, Word, Quoted, Literal}

-- behind an attribute nothing follows, or a space and more attributes
abbrev pub Behinds : List FetchAsk → List Token → List FetchAsk → Type 0
Behinds asks tokens all =
    ((tokens ≡ []) × (asks ≡ all)) ⊎ ((rest : List Token) × (more : List FetchAsk) × (tokens ≡ Space ∷ rest) × Spaced SpellsAttribute more rest × (all ≡ asks ++ more))

-- what closes a section of these fields, and what follows
pub record After (asks : List FetchAsk) (kind : Kind) (names : List (List ℕ)) (tokens : List Token) (all : List FetchAsk) : Type 0 where
  pub last : List ℕ
  pub part : Option (ℕ × ℕ)
  pub rest : List Token
  pub begins : tokens ≡ Word last ∷ rest
  pub ends : tail_in last ≡ Some part
  pub goes : Behinds (asks ++ body_of (section_of kind.others names) kind.peek part ∷ []) rest all

-- more names of fields, and what closes their section
pub record Names (asks : List FetchAsk) (kind : Kind) (names : List (List ℕ)) (tokens : List Token) (all : List FetchAsk) : Type 0 where
  pub inside : List Token
  pub more : List (List ℕ)
  pub rest : List Token
  pub begins : tokens ≡ inside ++ Close ∷ rest
  pub fields : Spaced SpellsField more inside
  pub goes : After asks kind (names ++ more) rest all

-- what follows where so much is wanted
abbrev pub Goes : Wanted → Attributes → List Token → List FetchAsk → Type 0
Goes Attribute a tokens all = (more : List FetchAsk) × Spaced SpellsAttribute more tokens × (all ≡ a.asks ++ more)
Goes Behind a tokens all = Behinds a.asks tokens all
Goes Gap a tokens all = (rest : List Token) × (tokens ≡ Space ∷ Open ∷ rest) × Names a.asks a.kind a.names rest all
Goes Opening a tokens all = (rest : List Token) × (tokens ≡ Open ∷ rest) × Names a.asks a.kind a.names rest all
Goes FieldName a tokens all = Names a.asks a.kind a.names tokens all
Goes BehindName a tokens all =
    ((rest : List Token) × (tokens ≡ Close ∷ rest) × After a.asks a.kind a.names rest all)
    ⊎ ((rest : List Token) × (tokens ≡ Space ∷ rest) × Names a.asks a.kind a.names rest all)
Goes Tail a tokens all = After a.asks a.kind a.names tokens all

-- the attributes of the rest
abbrev pub rest_asks : Option Attributes → List Token → Option (List FetchAsk)
rest_asks o tokens = option_and_then whole_asks (option_and_then (λ more. with_tokens more tokens) o)

done : (wanted : Wanted) (a : Attributes) (all : List FetchAsk) → cond (is_behind wanted) (Some a.asks) None ≡ Some all → Goes wanted a [] all
done Attribute a all e = absurd (cc)
done Behind a all e = inl (refl, same_Some a.asks all e)
done Gap a all e = absurd (cc)
done Opening a all e = absurd (cc)
done FieldName a all e = absurd (cc)
done BehindName a all e = absurd (cc)
done Tail a all e = absurd (cc)

-- an attribute, and what follows it
join_ask : (asks : List FetchAsk) (ask : FetchAsk) (first tokens : List Token) (all : List FetchAsk) → SpellsAttribute ask first → Behinds (asks ++ ask ∷ []) tokens all
    → (more : List FetchAsk) × Spaced SpellsAttribute more (first ++ tokens) × (all ≡ asks ++ more)
join_ask asks ask first tokens all one (inl (none, same)) =
    (ask ∷ [], subst (SpellsAttribute ask) (sym (append-nil first) ∙ ap (λ t. first ++ t) (sym none)) one, sym same)
join_ask asks ask first tokens all one (inr (rest, [], space, spaced, same)) = absurd spaced
join_ask asks ask first tokens all one (inr (rest, next ∷ more, space, spaced, same)) =
    (ask ∷ next ∷ more, (first, rest, ap (λ t. first ++ t) space, one, spaced), same ∙ append_assoc asks (ask ∷ []) (next ∷ more))

-- a word that begins an attribute, and what follows it
word_begins : (a : Attributes) (word : List ℕ) (tokens : List Token) (all : List FetchAsk) (o : Option Begins) → begins_in word ≡ o
    → ((b : Attributes) → rest_asks (Some b) tokens ≡ Some all → Goes b.wanted b tokens all)
    → rest_asks (option_map (begun a) o) tokens ≡ Some all → Goes Attribute a (Word word ∷ tokens) all
word_begins a word tokens all None is more e = absurd (cc)
word_begins a word tokens all (Some (WholeAsk ask)) is more e =
    join_ask a.asks ask (Word word ∷ []) tokens all (inl (record { word = word; alone = refl; is = is })) (more (with_ask a ask) e)
word_begins a word tokens all (Some (FieldsAsk kind)) is more e =
    let g : Goes Gap (begun a (FieldsAsk kind)) tokens all = more (begun a (FieldsAsk kind)) e in
    let n = g.2 in
    let f = n.goes in
    let first : List Token = Word word ∷ Space ∷ Open ∷ n.inside ++ Close ∷ Word f.last ∷ [] in
    let joined = join_ask a.asks (body_of (section_of kind.others n.more) kind.peek f.part) first f.rest all
    (inr (record { word = word; kind = kind; names = n.more; inside = n.inside; last = f.last; part = f.part; whole = refl; begins = is; fields = n.fields; ends = f.ends; is = refl }))
    f.goes in
    let same : first ++ f.rest ≡ Word word ∷ tokens =
    ap (λ t. Word word ∷ Space ∷ Open ∷ t) (append_assoc n.inside (Close ∷ Word f.last ∷ []) f.rest ∙ ap (λ t. n.inside ++ Close ∷ t) (sym f.begins) ∙ sym n.begins)
    ∙ ap (λ t. Word word ∷ t) (sym g.1) in
    (joined.0, subst (Spaced SpellsAttribute joined.0) same joined.1, joined.2)

-- a name of a field, and what follows it
field_goes : (a : Attributes) (token : Token) (tokens : List Token) (all : List FetchAsk) (text name : List ℕ) → string_of token ≡ Some text → field_in text ≡ Some name
    → Goes BehindName (with_name a name) tokens all → Names a.asks a.kind a.names (token ∷ tokens) all
field_goes a token tokens all text name string field (inl (rest, close, after)) =
    record {
      inside = token ∷ [];
      more = name ∷ [];
      rest = rest;
      begins = ap (λ t. token ∷ t) close;
      fields = record { token = token; text = text; alone = refl; string = string; field = field };
      goes = after;
    }
field_goes a token tokens all text name string field (inr (rest, space, n)) = by_more n.more n.fields n.goes
  where
    by_more : (more : List (List ℕ)) → Spaced SpellsField more n.inside → After a.asks a.kind ((a.names ++ name ∷ []) ++ more) n.rest all → Names a.asks a.kind a.names (token ∷ tokens) all
    by_more [] fields goes = absurd fields
    by_more (next ∷ more) fields goes =
        record {
          inside = token ∷ Space ∷ n.inside;
          more = name ∷ next ∷ more;
          rest = n.rest;
          begins = ap (λ t. token ∷ t) (space ∙ ap (λ t. Space ∷ t) n.begins);
          fields = (token ∷ [], n.inside, refl, record { token = token; text = text; alone = refl; string = string; field = field }, fields);
          goes = subst (λ names. After a.asks a.kind names n.rest all) (append_assoc a.names (name ∷ []) (next ∷ more)) goes;
        }

field_by : (a : Attributes) (token : Token) (tokens : List Token) (all : List FetchAsk) (text : List ℕ) (o : Option (List ℕ)) → string_of token ≡ Some text → field_in text ≡ o
    → ((b : Attributes) → rest_asks (Some b) tokens ≡ Some all → Goes b.wanted b tokens all)
    → rest_asks (option_map (with_name a) o) tokens ≡ Some all → Names a.asks a.kind a.names (token ∷ tokens) all
field_by a token tokens all text None string field more e = absurd (cc)
field_by a token tokens all text (Some name) string field more e = field_goes a token tokens all text name string field (more (with_name a name) e)

string_by : (a : Attributes) (token : Token) (tokens : List Token) (all : List FetchAsk) (o : Option (List ℕ)) → string_of token ≡ o
    → ((b : Attributes) → rest_asks (Some b) tokens ≡ Some all → Goes b.wanted b tokens all)
    → rest_asks (option_and_then (λ text. option_map (with_name a) (field_in text)) o) tokens ≡ Some all → Names a.asks a.kind a.names (token ∷ tokens) all
string_by a token tokens all None string more e = absurd (cc)
string_by a token tokens all (Some text) string more e = field_by a token tokens all text (field_in text) string refl more e

tail_by : (a : Attributes) (word : List ℕ) (tokens : List Token) (all : List FetchAsk) (o : Option (Option (ℕ × ℕ))) → tail_in word ≡ o
    → ((b : Attributes) → rest_asks (Some b) tokens ≡ Some all → Goes b.wanted b tokens all)
    → rest_asks (option_map (with_fields a) o) tokens ≡ Some all → After a.asks a.kind a.names (Word word ∷ tokens) all
tail_by a word tokens all None is more e = absurd (cc)
tail_by a word tokens all (Some part) is more e =
    record { last = word; part = part; rest = tokens; begins = refl; ends = is; goes = more (with_fields a part) e }

-- a token, and what follows it
step : (wanted : Wanted) (a : Attributes) (token : Token) (tokens : List Token) (all : List FetchAsk)
    → ((b : Attributes) → rest_asks (Some b) tokens ≡ Some all → Goes b.wanted b tokens all)
    → rest_asks (with_token wanted a token) tokens ≡ Some all → Goes wanted a (token ∷ tokens) all
step Attribute a (Word word) tokens all more e = word_begins a word tokens all (begins_in word) refl more e
step Attribute a Space tokens all more e = absurd (cc)
step Attribute a Open tokens all more e = absurd (cc)
step Attribute a Close tokens all more e = absurd (cc)
step Attribute a (Quoted text) tokens all more e = absurd (cc)
step Attribute a (Literal text) tokens all more e = absurd (cc)
step Behind a Space tokens all more e = let g : Goes Attribute (wanting a Attribute) tokens all = more (wanting a Attribute) e in inr (tokens, g.0, refl, g.1, g.2)
step Behind a Open tokens all more e = absurd (cc)
step Behind a Close tokens all more e = absurd (cc)
step Behind a (Word text) tokens all more e = absurd (cc)
step Behind a (Quoted text) tokens all more e = absurd (cc)
step Behind a (Literal text) tokens all more e = absurd (cc)
step Gap a Space tokens all more e = let g : Goes Opening (wanting a Opening) tokens all = more (wanting a Opening) e in (g.0, ap (λ t. Space ∷ t) g.1, g.2)
step Gap a Open tokens all more e = absurd (cc)
step Gap a Close tokens all more e = absurd (cc)
step Gap a (Word text) tokens all more e = absurd (cc)
step Gap a (Quoted text) tokens all more e = absurd (cc)
step Gap a (Literal text) tokens all more e = absurd (cc)
step Opening a Open tokens all more e = (tokens, refl, more (wanting a FieldName) e)
step Opening a Space tokens all more e = absurd (cc)
step Opening a Close tokens all more e = absurd (cc)
step Opening a (Word text) tokens all more e = absurd (cc)
step Opening a (Quoted text) tokens all more e = absurd (cc)
step Opening a (Literal text) tokens all more e = absurd (cc)
step FieldName a token tokens all more e = string_by a token tokens all (string_of token) refl more e
step BehindName a Space tokens all more e = inr (tokens, refl, more (wanting a FieldName) e)
step BehindName a Close tokens all more e = inl (tokens, refl, more (wanting a Tail) e)
step BehindName a Open tokens all more e = absurd (cc)
step BehindName a (Word text) tokens all more e = absurd (cc)
step BehindName a (Quoted text) tokens all more e = absurd (cc)
step BehindName a (Literal text) tokens all more e = absurd (cc)
step Tail a (Word word) tokens all more e = tail_by a word tokens all (tail_in word) refl more e
step Tail a Space tokens all more e = absurd (cc)
step Tail a Open tokens all more e = absurd (cc)
step Tail a Close tokens all more e = absurd (cc)
step Tail a (Quoted text) tokens all more e = absurd (cc)
step Tail a (Literal text) tokens all more e = absurd (cc)

goes : (tokens : List Token) (a : Attributes) (all : List FetchAsk) → rest_asks (Some a) tokens ≡ Some all → Goes a.wanted a tokens all
goes [] a all e = done a.wanted a all e
goes (token ∷ tokens) a all e = step a.wanted a token tokens all (λ b f. goes tokens b all f) e

pub asked : (tokens : List Token) (asks : List FetchAsk) → asks_in tokens ≡ Some asks → Spaced SpellsAttribute asks tokens
asked tokens asks e =
    let g : Goes Attribute nothing_asked tokens asks = goes tokens nothing_asked asks e in
    subst (λ all. Spaced SpellsAttribute all tokens) (sym g.2) g.1
