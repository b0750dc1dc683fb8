-- The arguments of each command, and what spells them.
use Rattle.std.proofs.Common.{◌≡◌, ℕ, Bool, true, false, cond, ◌==◌, List, [], ◌∷◌, length, Option, None, Some, option_map, option_and_then, refl, ap, sym, ◌∙◌, subst, inl, inr, arith}
use Rattle.std.proofs.lemmas.Bool.{eqb-true}
use Rattle.std.proofs.lemmas.Option.{same_Some}
use Rattle.undo_base.specs.declared.keys.Flags.{Flags}
use Rattle.imap_stream.specs.declared.picks.SetRange.{SetRange}
use Rattle.imap_tokens.specs.Dates.{date_in}
use Rattle.imap_tokens.specs.Flags.{no_flags, flags_in, bare_from}
use Rattle.imap_tokens.specs.Lists.{SpellsFlags, SpellsList}
use Rattle.imap_tokens.specs.Ranges.{SpellsSet}
use Rattle.imap_tokens.specs.Sets.{set_in}
use Rattle.imap_tokens.specs.SpelledLines.{SpellsLines}
use Rattle.imap_tokens.specs.Tokens.{string_of, pattern_of, quoted_of, literal_of, tokens_with}
use Rattle.imap_tokens.specs.declared.tokens.Token.{Token}
use Rattle.imap_tokens.specs.declared.tokens.Token.TheVariants.{Space, Open, Close, Word, Quoted, Literal}
use Rattle.search_lines.specs.Grammar.{SpellsSought}
use Rattle.search_lines.specs.Sought.{sought_in}
use Rattle.search_lines.specs.declared.sought.Sought.{Sought}
use Rattle.imap_lines.specs.Append.{spaced_flags, first_flags, date_by, first_date, only_literal}
use Rattle.imap_tokens.specs.Arguments.{behind_space, next_string}
use Rattle.imap_lines.specs.Arguments.{last_by, last_string, two_strings, first_pattern, string_and_pattern, in_list, string_and_list}
use Rattle.imap_lines.specs.Grammar.{SpellsString, SpellsStrings, SpellsPattern, SpellsFirstFlags, SpellsFirstDate}
use Rattle.imap_tokens.proofs.Steps.{stepped, mapped}
use Rattle.imap_tokens.proofs.Behind.{Next, space_sound, next_sound}
use Rattle.imap_lines.proofs.DateLetters.{read_date, spelled_date}

quoted_is : (token : Token) (text : List ℕ) → quoted_of token ≡ Some text → token ≡ Quoted text
quoted_is Space text e = absurd (let wrong : None ≡ Some text = e in cc)
quoted_is Open text e = absurd (let wrong : None ≡ Some text = e in cc)
quoted_is Close text e = absurd (let wrong : None ≡ Some text = e in cc)
quoted_is (Word word) text e = absurd (let wrong : None ≡ Some text = e in cc)
quoted_is (Quoted word) text e = ap Quoted (same_Some _ _ e)
quoted_is (Literal word) text e = absurd (let wrong : None ≡ Some text = e in cc)

literal_is : (token : Token) (text : List ℕ) → literal_of token ≡ Some text → token ≡ Literal text
literal_is Space text e = absurd (let wrong : None ≡ Some text = e in cc)
literal_is Open text e = absurd (let wrong : None ≡ Some text = e in cc)
literal_is Close text e = absurd (let wrong : None ≡ Some text = e in cc)
literal_is (Word word) text e = absurd (let wrong : None ≡ Some text = e in cc)
literal_is (Quoted word) text e = absurd (let wrong : None ≡ Some text = e in cc)
literal_is (Literal word) text e = ap Literal (same_Some _ _ e)

pub string_complete : (tokens rest : List Token) (token : Token) (text : List ℕ) → tokens ≡ Space ∷ token ∷ rest → string_of token ≡ Some text → next_string tokens ≡ Some (text, rest)
string_complete tokens rest token text whole is = ap next_string whole ∙ ap (option_map (λ (t : List ℕ). (t, rest))) is

-- nothing follows
pub none_by : {X : Type 0} (tokens : List Token) (o : Option X) (x : X) → cond (length tokens == 0) o None ≡ Some x → (tokens ≡ []) × (o ≡ Some x)
none_by [] o x e = (refl, e)
none_by (token ∷ tokens) o x e = by_test (length (token ∷ tokens) == 0) refl
  where
    by_test : (t : Bool) → (length (token ∷ tokens) == 0) ≡ t → (token ∷ tokens ≡ []) × (o ≡ Some x)
    by_test true is = absurd (let wrong : length (token ∷ tokens) ≡ 0 = eqb-true (length (token ∷ tokens)) 0 is in omega arith)
    by_test false is = absurd (let wrong : None ≡ Some x = rw is at e in cc)

pub last_sound : (tokens : List Token) (text : List ℕ) → last_string tokens ≡ Some text → SpellsString text tokens
last_sound tokens text e =
    let s = stepped (next_string tokens) last_by text e in
    let n = next_sound string_of tokens s.value s.was in
    let b = none_by s.value.1 (Some s.value.0) text s.gives in
    record { token = n.token; whole = n.whole ∙ ap (λ l. Space ∷ n.token ∷ l) b.0; is = n.is ∙ b.1 }

pub last_complete : (tokens : List Token) (text : List ℕ) → SpellsString text tokens → last_string tokens ≡ Some text
last_complete tokens text s = ap (option_and_then last_by) (string_complete tokens [] s.token text s.whole s.is)

pub two_sound : (tokens : List Token) (r : List ℕ × List ℕ) → two_strings tokens ≡ Some r → SpellsStrings r.0 r.1 tokens
two_sound tokens r e =
    let s = stepped (next_string tokens) (λ (a : List ℕ × List Token). option_map (λ (second : List ℕ). (a.0, second)) (last_string a.1)) r e in
    let n = next_sound string_of tokens s.value s.was in
    let m = mapped (last_string s.value.1) (λ (second : List ℕ). (s.value.0, second)) r s.gives in
    let l = last_sound s.value.1 m.value m.was in
    subst (λ (p : List ℕ × List ℕ). SpellsStrings p.0 p.1 tokens) m.is
    (record { one = n.token; two = l.token; whole = n.whole ∙ ap (λ t. Space ∷ n.token ∷ t) l.whole; is_first = n.is; is_second = l.is })

pub two_complete : (tokens : List Token) (first second : List ℕ) → SpellsStrings first second tokens → two_strings tokens ≡ Some (first, second)
two_complete tokens first second s =
    ap (option_and_then (λ (a : List ℕ × List Token). option_map (λ (b : List ℕ). (a.0, b)) (last_string a.1))) (string_complete tokens (Space ∷ s.two ∷ []) s.one first s.whole s.is_first)
    ∙ ap (option_map (λ (b : List ℕ). (first, b))) (last_complete (Space ∷ s.two ∷ []) second (record { token = s.two; whole = refl; is = s.is_second }))

-- a pattern that is the last token, behind a space
pattern_first : (tokens : List Token) (text : List ℕ) → first_pattern tokens ≡ Some text → Next pattern_of (Space ∷ tokens) (text, [])
pattern_first [] text e = absurd (let wrong : None ≡ Some text = e in cc)
pattern_first (token ∷ tokens) text e =
    let b = none_by tokens (pattern_of token) text e in record { token = token; whole = ap (λ l. Space ∷ token ∷ l) b.0; is = b.1 }

pub pattern_sound : (tokens : List Token) (r : List ℕ × List ℕ) → string_and_pattern tokens ≡ Some r → SpellsPattern r.0 r.1 tokens
pattern_sound tokens r e =
    let s = stepped (next_string tokens) (λ (a : List ℕ × List Token). option_and_then (λ (rest : List Token). option_map (λ (p : List ℕ). (a.0, p)) (first_pattern rest)) (behind_space a.1)) r e in
    let n = next_sound string_of tokens s.value s.was in
    let b = stepped (behind_space s.value.1) (λ (rest : List Token). option_map (λ (p : List ℕ). (s.value.0, p)) (first_pattern rest)) r s.gives in
    let m = mapped (first_pattern b.value) (λ (p : List ℕ). (s.value.0, p)) r b.gives in
    let f = pattern_first b.value m.value m.was in
    subst (λ (p : List ℕ × List ℕ). SpellsPattern p.0 p.1 tokens) m.is
    (record {
      one = n.token;
      two = f.token;
      whole = n.whole ∙ ap (λ t. Space ∷ n.token ∷ t) (space_sound s.value.1 b.value b.was ∙ f.whole);
      is_first = n.is;
      is_second = f.is;
    })

pub pattern_complete : (tokens : List Token) (reference pattern : List ℕ) → SpellsPattern reference pattern tokens → string_and_pattern tokens ≡ Some (reference, pattern)
pattern_complete tokens reference pattern s =
    ap (option_and_then (λ (a : List ℕ × List Token). option_and_then (λ (rest : List Token). option_map (λ (p : List ℕ). (a.0, p)) (first_pattern rest)) (behind_space a.1)))
    (string_complete tokens (Space ∷ s.two ∷ []) s.one reference s.whole s.is_first)
    ∙ ap (option_map (λ (p : List ℕ). (reference, p))) s.is_second

list_sound : (tokens rest : List Token) → in_list tokens ≡ Some rest → tokens ≡ Open ∷ rest
list_sound [] rest e = absurd (let wrong : None ≡ Some rest = e in cc)
list_sound (Space ∷ tokens) rest e = absurd (let wrong : None ≡ Some rest = e in cc)
list_sound (Open ∷ tokens) rest e = ap (λ l. Open ∷ l) (same_Some _ _ e)
list_sound (Close ∷ tokens) rest e = absurd (let wrong : None ≡ Some rest = e in cc)
list_sound (Word text ∷ tokens) rest e = absurd (let wrong : None ≡ Some rest = e in cc)
list_sound (Quoted text ∷ tokens) rest e = absurd (let wrong : None ≡ Some rest = e in cc)
list_sound (Literal text ∷ tokens) rest e = absurd (let wrong : None ≡ Some rest = e in cc)

-- a string and a list
pub record Listed (tokens : List Token) (r : List ℕ × List Token) : Type 0 where
  pub token : Token
  pub whole : tokens ≡ Space ∷ token ∷ Space ∷ Open ∷ r.1
  pub is : string_of token ≡ Some r.0

pub listed_sound : (tokens : List Token) (r : List ℕ × List Token) → string_and_list tokens ≡ Some r → Listed tokens r
listed_sound tokens r e =
    let s = stepped (next_string tokens) (λ (a : List ℕ × List Token). option_and_then (λ (rest : List Token). option_map (λ (list : List Token). (a.0, list)) (in_list rest)) (behind_space a.1)) r e in
    let n = next_sound string_of tokens s.value s.was in
    let b = stepped (behind_space s.value.1) (λ (rest : List Token). option_map (λ (list : List Token). (s.value.0, list)) (in_list rest)) r s.gives in
    let m = mapped (in_list b.value) (λ (list : List Token). (s.value.0, list)) r b.gives in
    subst (Listed tokens) m.is (record {
      token = n.token;
      whole = n.whole ∙ ap (λ t. Space ∷ n.token ∷ t) (space_sound s.value.1 b.value b.was ∙ ap (λ t. Space ∷ t) (list_sound b.value m.value m.was));
      is = n.is;
    })

pub listed_complete : (tokens list : List Token) (token : Token) (text : List ℕ) → tokens ≡ Space ∷ token ∷ Space ∷ Open ∷ list → string_of token ≡ Some text → string_and_list tokens ≡ Some (text, list)
listed_complete tokens list token text whole is =
    ap (option_and_then (λ (a : List ℕ × List Token). option_and_then (λ (rest : List Token). option_map (λ (l : List Token). (a.0, l)) (in_list rest)) (behind_space a.1)))
    (string_complete tokens (Space ∷ Open ∷ list) token text whole is)

-- what is known of tokens, sets, flags and searches
pub record TokenLaws : Type 0 where
  pub lines_sound : (line : List ℕ) (lines literals : List (List ℕ)) (tokens : List Token) → tokens_with line lines literals ≡ Some tokens → SpellsLines line lines literals tokens
  pub lines_complete : (line : List ℕ) (lines literals : List (List ℕ)) (tokens : List Token) → SpellsLines line lines literals tokens → tokens_with line lines literals ≡ Some tokens
  pub set_sound : (bytes : List ℕ) (set : List SetRange) → set_in bytes ≡ Some set → SpellsSet set bytes
  pub set_complete : (bytes : List ℕ) (set : List SetRange) → SpellsSet set bytes → set_in bytes ≡ Some set
  pub bare_sound : (tokens : List Token) (flags : Flags) → bare_from true no_flags tokens ≡ Some flags → SpellsFlags flags tokens
  pub bare_complete : (tokens : List Token) (flags : Flags) → SpellsFlags flags tokens → bare_from true no_flags tokens ≡ Some flags
  pub list_sound : (tokens rest : List Token) (flags : Flags) → flags_in tokens ≡ Some (flags, rest) → SpellsList flags rest tokens
  pub list_complete : (tokens rest : List Token) (flags : Flags) → SpellsList flags rest tokens → flags_in tokens ≡ Some (flags, rest)
  pub search_sound : (tokens : List Token) (s : Sought) → sought_in tokens ≡ Some s → SpellsSought s tokens
  pub search_complete : (tokens : List Token) (s : Sought) → SpellsSought s tokens → sought_in tokens ≡ Some s

-- the message of an APPEND
module _ (laws : TokenLaws) where
  spaced_sound : (tokens : List Token) (r : Flags × List Token) → spaced_flags tokens ≡ Some r → SpellsList r.0 (Space ∷ r.1) tokens
  spaced_sound tokens r e =
      let s = stepped (flags_in tokens) (λ (a : Flags × List Token). option_map (λ (rest : List Token). (a.0, rest)) (behind_space a.1)) r e in
      let m = mapped (behind_space s.value.1) (λ (rest : List Token). (s.value.0, rest)) r s.gives in
      let l = laws.list_sound tokens s.value.1 s.value.0 s.was in
      subst (λ (p : Flags × List Token). SpellsList p.0 (Space ∷ p.1) tokens) m.is (subst (λ rest. SpellsList s.value.0 rest tokens) (space_sound s.value.1 m.value m.was) l)

  no_list : (token : Token) (tokens : List Token) (r : Flags × List Token) → Some (no_flags, token ∷ tokens) ≡ Some r → SpellsFirstFlags r.0 r.1 (token ∷ tokens)
  no_list token tokens r e =
      let same : (no_flags, token ∷ tokens) ≡ r = same_Some _ _ e in
      inl (ap (λ (p : Flags × List Token). p.0) (sym same), ap (λ (p : Flags × List Token). p.1) same)

  pub first_flags_sound : (tokens : List Token) (r : Flags × List Token) → first_flags tokens ≡ Some r → SpellsFirstFlags r.0 r.1 tokens
  first_flags_sound [] r e = absurd (let wrong : None ≡ Some r = e in cc)
  first_flags_sound (Space ∷ tokens) r e = no_list Space tokens r e
  first_flags_sound (Open ∷ tokens) r e = inr (tokens, refl, spaced_sound tokens r e)
  first_flags_sound (Close ∷ tokens) r e = no_list Close tokens r e
  first_flags_sound (Word text ∷ tokens) r e = no_list (Word text) tokens r e
  first_flags_sound (Quoted text ∷ tokens) r e = no_list (Quoted text) tokens r e
  first_flags_sound (Literal text ∷ tokens) r e = no_list (Literal text) tokens r e

  pub spaced_complete : (tokens rest : List Token) (flags : Flags) → SpellsList flags (Space ∷ rest) tokens → spaced_flags tokens ≡ Some (flags, rest)
  spaced_complete tokens rest flags s =
      ap (option_and_then (λ (a : Flags × List Token). option_map (λ (r : List Token). (a.0, r)) (behind_space a.1))) (laws.list_complete tokens (Space ∷ rest) flags s)

-- a date, if it stands first
pub first_date_sound : (tokens : List Token) (r : Option ℕ × List Token) → first_date tokens ≡ Some r → SpellsFirstDate r.0 r.1 tokens
first_date_sound [] r e = absurd (let wrong : None ≡ Some r = e in cc)
first_date_sound (token ∷ tokens) r e = by_quoted (quoted_of token) refl e
  where
    by_quoted : (o : Option (List ℕ)) → quoted_of token ≡ o → date_by o token tokens ≡ Some r → SpellsFirstDate r.0 r.1 (token ∷ tokens)
    by_quoted None is e = subst (λ (p : Option ℕ × List Token). SpellsFirstDate p.0 p.1 (token ∷ tokens)) (same_Some (None, token ∷ tokens) r e) refl
    by_quoted (Some text) is e =
        let s = stepped (date_in text) (λ (moment : ℕ). option_map (λ (rest : List Token). (Some moment, rest)) (behind_space tokens)) r e in
        let m = mapped (behind_space tokens) (λ (rest : List Token). (Some s.value, rest)) r s.gives in
        subst (λ (p : Option ℕ × List Token). SpellsFirstDate p.0 p.1 (token ∷ tokens)) m.is
        (text, ap (λ t. t ∷ tokens) (quoted_is token text is) ∙ ap (λ l. Quoted text ∷ l) (space_sound tokens m.value m.was), spelled_date text s.value s.was)

pub literal_sound : (tokens : List Token) (text : List ℕ) → only_literal tokens ≡ Some text → tokens ≡ Literal text ∷ []
literal_sound [] text e = absurd (let wrong : None ≡ Some text = e in cc)
literal_sound (token ∷ tokens) text e =
    let b = none_by tokens (literal_of token) text e in
    ap (λ l. token ∷ l) b.0 ∙ ap (λ t. t ∷ []) (literal_is token text b.1)

pub first_date_complete : (moment : Option ℕ) (text : List ℕ) (tokens : List Token) → SpellsFirstDate moment (Literal text ∷ []) tokens → first_date tokens ≡ Some (moment, Literal text ∷ [])
first_date_complete None text tokens e = ap first_date e
first_date_complete (Some moment) text tokens (quoted, whole, is) =
    ap first_date whole ∙ ap (option_and_then (λ (m : ℕ). option_map (λ (rest : List Token). (Some m, rest)) (behind_space (Space ∷ Literal text ∷ [])))) (read_date quoted moment is)
