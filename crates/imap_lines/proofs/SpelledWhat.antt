-- What a command asks, and what spells it.
use Rattle.std.proofs.Common.{◌≡◌, ℕ, ◌+◌, ◌-◌, Bool, true, false, cond, ◌==◌, ◌&&◌, List, [], ◌∷◌, ◌++◌, length, take, codes, Option, None, Some, option_map, option_and_then, refl, ap, sym, ◌∙◌, subst, inl, inr, arith, suc}
use Rattle.std.specs.Prelude.{slice_get}
use Rattle.std.specs.Option.{option_map_or}
use Rattle.std.proofs.lemmas.Bool.{eqb-true}
use Rattle.std.proofs.lemmas.List.{length-append, take_at}
use Rattle.std.proofs.lemmas.Option.{same_Some}
use Rattle.undo_base.specs.declared.asks.How.{How}
use Rattle.undo_base.specs.declared.asks.StatusAsk.{StatusAsk}
use Rattle.undo_base.specs.declared.keys.Flags.{Flags}
use Rattle.imap_stream.specs.declared.picks.SetRange.{SetRange}
use Rattle.imap_tokens.specs.Flags.{no_flags, flags_in, bare_from}
use Rattle.imap_tokens.specs.Lists.{SpellsFlag, SpellsList}
use Rattle.imap_tokens.specs.Sets.{set_in}
use Rattle.imap_tokens.specs.Spelling.{Spaced}
use Rattle.imap_tokens.specs.Tokens.{is_close, word_of, string_of, tokens_with}
use Rattle.imap_tokens.specs.Words.{upper, is_word, after_word}
use Rattle.imap_tokens.specs.declared.tokens.Token.{Token}
use Rattle.imap_tokens.specs.declared.tokens.Token.TheVariants.{Space, Open, Close, Word, Quoted, Literal}
use Rattle.imap_lines.specs.Append.{first_flags, first_date, only_literal, message_in, append_in}
use Rattle.imap_tokens.specs.Arguments.{behind_space, next_string, next_word}
use Rattle.imap_lines.specs.Arguments.{last_string, two_strings, string_and_pattern, string_and_list}
use Rattle.imap_lines.specs.Asks.{statuses_from}
use Rattle.imap_lines.specs.Attributes.{SpellsAttribute}
use Rattle.imap_lines.specs.Command.{takes_all, spoken}
use Rattle.imap_lines.specs.Fetch.{plain_asks, plain_in, body_in, peeked_in, begins_by, begins_in, asks_in, is_alone, one_of, single_in, ends_closed, listed_in, fetch_in}
use Rattle.imap_lines.specs.Grammar.{SpellsFirstFlags, SpellsFirstDate, SpellsAsks, SpellsStoreFlags, SpellsString, SpellsArguments, verb_of, speaks_of_uids, has_uid_form, Asks}
use Rattle.imap_lines.specs.Messages.{how_in, listed_flags, store_flags, change_in, store_of, fetch_of, copy_of, with_sought}
use Rattle.imap_lines.specs.What.{bare as bare_what, bare_in, with_mailbox, what_in}
use Rattle.imap_lines.specs.declared.asks.FetchAsk.{FetchAsk}
use Rattle.imap_lines.specs.declared.asks.FetchAsk.TheVariants.{Fast}
use Rattle.imap_lines.specs.declared.fetch.Begins.{Begins}
use Rattle.imap_lines.specs.declared.verbs.BareVerb.{BareVerb}
use Rattle.imap_lines.specs.declared.verbs.BareVerb.TheVariants as bare
use Rattle.imap_lines.specs.declared.verbs.MailboxVerb.{MailboxVerb}
use Rattle.imap_lines.specs.declared.verbs.MailboxVerb.TheVariants as mailbox_verb
use Rattle.imap_lines.specs.declared.verbs.Verb.{Verb}
use Rattle.imap_lines.specs.declared.verbs.Verb.TheVariants as verb
use Rattle.imap_lines.specs.declared.command.ImapWhat.{ImapWhat}
use Rattle.imap_lines.specs.declared.command.ImapWhat.TheVariants as what
use Rattle.imap_lines.proofs.Asked.{asked}
use Rattle.imap_lines.proofs.Attributes.{read_attributes}
use Rattle.imap_lines.proofs.Items.{read_items, items}
use Rattle.imap_lines.proofs.Headed.{same_row}
use Rattle.imap_lines.proofs.WrittenTokens.{and_true}
use Rattle.imap_tokens.proofs.Steps.{stepped, mapped}
use Rattle.imap_tokens.proofs.Behind.{space_sound, next_sound, word_sound}
use Rattle.search_lines.specs.Sought.{sought_in}
use Rattle.imap_lines.proofs.SpelledArguments.{TokenLaws, string_complete, none_by, last_sound, last_complete, two_sound, two_complete, pattern_sound, pattern_complete, listed_sound, listed_complete, first_flags_sound, spaced_complete, first_date_sound, literal_sound, first_date_complete}

-- a list is closed by its last token
close_is : (token : Token) → is_close token ≡ true → token ≡ Close
close_is Space e = absurd (let wrong : false ≡ true = e in cc)
close_is Open e = absurd (let wrong : false ≡ true = e in cc)
close_is Close e = refl
close_is (Word text) e = absurd (let wrong : false ≡ true = e in cc)
close_is (Quoted text) e = absurd (let wrong : false ≡ true = e in cc)
close_is (Literal text) e = absurd (let wrong : false ≡ true = e in cc)

closed_is : (tokens : List Token) → ends_closed tokens ≡ true → tokens ≡ take (length tokens - 1) tokens ++ Close ∷ []
closed_is [] e = absurd (let wrong : false ≡ true = e in cc)
closed_is (token ∷ []) e = ap (λ t. t ∷ []) (close_is token e)
closed_is (token ∷ next ∷ tokens) e =
    let size : length (token ∷ next ∷ tokens) - 1 ≡ suc (length (next ∷ tokens) - 1) = omega arith in
    let more : ends_closed (next ∷ tokens) ≡ true = ap (λ n. option_map_or is_close (slice_get (token ∷ next ∷ tokens) n) false) (sym size) ∙ e in
    ap (λ l. token ∷ l) (closed_is (next ∷ tokens) more) ∙ ap (λ n. take n (token ∷ next ∷ tokens) ++ Close ∷ []) (sym size)

last_at : (tokens : List Token) (token : Token) → slice_get (tokens ++ token ∷ []) (length tokens) ≡ Some token
last_at [] token = refl
last_at (first ∷ tokens) token = last_at tokens token

closed_ends : (inside : List Token) → (ends_closed (inside ++ Close ∷ []) ≡ true) × (take (length (inside ++ Close ∷ []) - 1) (inside ++ Close ∷ []) ≡ inside)
closed_ends inside =
    let size : length (inside ++ Close ∷ []) ≡ length inside + 1 = simp length-append refl in
    let less : length inside + 1 - 1 ≡ length inside = omega arith in
    (rw (size, less, last_at inside Close) refl, rw (size, less) (take_at inside (Close ∷ []) (length inside) refl))

-- FAST, one attribute, or a list
one_is : (asks all : List FetchAsk) → one_of asks ≡ Some all → (ask : FetchAsk) × (asks ≡ ask ∷ []) × (all ≡ ask ∷ [])
one_is [] all e = absurd (let wrong : None ≡ Some all = e in cc)
one_is (ask ∷ []) all e = (ask, refl, sym (same_Some _ _ e))
one_is (ask ∷ next ∷ asks) all e = by_test (length (ask ∷ next ∷ asks) == 1) refl
  where
    by_test : (t : Bool) → (length (ask ∷ next ∷ asks) == 1) ≡ t → (a : FetchAsk) × (ask ∷ next ∷ asks ≡ a ∷ []) × (all ≡ a ∷ [])
    by_test true is = absurd (let wrong : length (ask ∷ next ∷ asks) ≡ 1 = eqb-true (length (ask ∷ next ∷ asks)) 1 is in omega arith)
    by_test false is = absurd (let wrong : None ≡ Some all = rw is at e in cc)

alone_is : (word : List ℕ) (tokens : List Token) → is_alone word tokens ≡ true → (text : List ℕ) × (tokens ≡ Word text ∷ []) × (is_word word text ≡ true)
alone_is word [] e = absurd (let wrong : false ≡ true = e in cc)
alone_is word (Word text ∷ []) e = (text, refl, e)
alone_is word (Space ∷ []) e = absurd (let wrong : false ≡ true = e in cc)
alone_is word (Open ∷ []) e = absurd (let wrong : false ≡ true = e in cc)
alone_is word (Close ∷ []) e = absurd (let wrong : false ≡ true = e in cc)
alone_is word (Quoted text ∷ []) e = absurd (let wrong : false ≡ true = e in cc)
alone_is word (Literal text ∷ []) e = absurd (let wrong : false ≡ true = e in cc)
alone_is word (token ∷ next ∷ tokens) e =
    absurd (let wrong : length (next ∷ tokens) ≡ 0 = eqb-true (length (next ∷ tokens)) 0 (and_true (length (next ∷ tokens) == 0) (option_map_or (is_word word) (word_of token) false) e).0 in omega arith)

some_tokens : (token : Token) (tokens : List Token) → (length (token ∷ tokens) == 0) ≡ false
some_tokens token tokens = by_test (length (token ∷ tokens) == 0) refl
  where
    by_test : (t : Bool) → (length (token ∷ tokens) == 0) ≡ t → t ≡ false
    by_test true is = absurd (let wrong : length (token ∷ tokens) ≡ 0 = eqb-true (length (token ∷ tokens)) 0 is in omega arith)
    by_test false is = refl

not_alone : (word : List ℕ) (token next : Token) (tokens : List Token) → is_alone word (token ∷ next ∷ tokens) ≡ false
not_alone word token next tokens = ap (λ t. t && option_map_or (is_word word) (word_of token) false) (some_tokens next tokens)

single_sound : (tokens : List Token) (asks : List FetchAsk) → single_in tokens ≡ Some asks → SpellsAsks asks tokens
single_sound tokens asks e = by_test (is_alone (codes "FAST") tokens) refl
  where
    by_test : (t : Bool) → is_alone (codes "FAST") tokens ≡ t → SpellsAsks asks tokens
    by_test true is =
        let a = alone_is (codes "FAST") tokens is in
        let fast : Some (Fast ∷ []) ≡ Some asks = rw is at e in
        inl (record { word = a.0; whole = a.1; in_any_case = a.2; is = sym (same_Some _ _ fast) })
    by_test false is =
        let read : option_and_then one_of (asks_in tokens) ≡ Some asks = rw is at e in
        let s = stepped (asks_in tokens) one_of asks read in
        let o = one_is s.value asks s.gives in
        inr (inl (record { ask = o.0; is = o.2; spells = subst (λ l. Spaced SpellsAttribute l tokens) o.1 (asked tokens s.value s.was) }))

list_asks : (tokens : List Token) (asks : List FetchAsk) → listed_in tokens ≡ Some asks → SpellsAsks asks (Open ∷ tokens)
list_asks tokens asks e = by_test (ends_closed tokens) refl
  where
    by_test : (t : Bool) → ends_closed tokens ≡ t → SpellsAsks asks (Open ∷ tokens)
    by_test true is =
        let inside = take (length tokens - 1) tokens in
        let read : asks_in inside ≡ Some asks = rw is at e in
        inr (inr (record { inside = inside; whole = ap (λ l. Open ∷ l) (closed_is tokens is); spells = asked inside asks read }))
    by_test false is = absurd (let wrong : None ≡ Some asks = rw is at e in cc)

pub asks_sound : (tokens : List Token) (asks : List FetchAsk) → fetch_in tokens ≡ Some asks → SpellsAsks asks tokens
asks_sound [] asks e = absurd (let wrong : None ≡ Some asks = e in cc)
asks_sound (Open ∷ tokens) asks e = list_asks tokens asks e
asks_sound (Space ∷ tokens) asks e = single_sound (Space ∷ tokens) asks e
asks_sound (Close ∷ tokens) asks e = single_sound (Close ∷ tokens) asks e
asks_sound (Word text ∷ tokens) asks e = single_sound (Word text ∷ tokens) asks e
asks_sound (Quoted text ∷ tokens) asks e = single_sound (Quoted text ∷ tokens) asks e
asks_sound (Literal text ∷ tokens) asks e = single_sound (Literal text ∷ tokens) asks e

-- FAST is no attribute
fast_is_none : (word : List ℕ) (begins : Begins) → begins_in word ≡ Some begins → is_word (codes "FAST") word ≡ true → ⊥
fast_is_none [] begins e is = absurd (let wrong : false ≡ true = is in cc)
fast_is_none (b ∷ word) begins e is = by_test (upper b == 70) refl
  where
    plain : plain_in (b ∷ word) ≡ None
    plain = same_row plain_asks (codes "FAST") (b ∷ word) refl is

    by_test : (t : Bool) → (upper b == 70) ≡ t → ⊥
    by_test true letter =
        let f : upper b ≡ 70 = eqb-true (upper b) 70 letter in
        let first : after_word (codes "BODY[") (b ∷ word) ≡ None = ap (λ c. cond (c == 66) (after_word (codes "ODY[") word) None) f in
        let second : after_word (codes "BODY.PEEK[") (b ∷ word) ≡ None = ap (λ c. cond (c == 66) (after_word (codes "ODY.PEEK[") word) None) f in
        let none : begins_in (b ∷ word) ≡ None = ap (begins_by (b ∷ word)) plain ∙ ap (peeked_in (b ∷ word)) first ∙ ap (option_and_then (body_in true)) second in
        absurd (let wrong : None ≡ Some begins = sym none ∙ e in cc)
    by_test false letter = absurd (let wrong : false ≡ true = rw letter at is in cc)

single_complete : (ask : FetchAsk) (tokens : List Token) → SpellsAttribute ask tokens → fetch_in tokens ≡ Some (ask ∷ [])
single_complete ask tokens (inl w) =
    let read : asks_in tokens ≡ Some (ask ∷ []) = read_attributes tokens (ask ∷ []) (inl w) in
    by_test (is_word (codes "FAST") w.word) refl (sym (ap asks_in w.alone) ∙ read)
  where
    by_test : (t : Bool) → is_word (codes "FAST") w.word ≡ t → asks_in (Word w.word ∷ []) ≡ Some (ask ∷ []) → fetch_in tokens ≡ Some (ask ∷ [])
    by_test true is read = absurd (fast_is_none w.word _ w.is is)
    by_test false is read =
        ap fetch_in w.alone ∙ ap (λ t. cond t (Some (Fast ∷ [])) (option_and_then one_of (asks_in (Word w.word ∷ [])))) is ∙ ap (option_and_then one_of) read
single_complete ask tokens (inr f) =
    let read : asks_in tokens ≡ Some (ask ∷ []) = read_attributes tokens (ask ∷ []) (inr f) in
    let rest : List Token = f.inside ++ Close ∷ Word f.last ∷ [] in
    ap fetch_in f.whole ∙ ap (λ t. cond t (Some (Fast ∷ [])) (option_and_then one_of (asks_in (Word f.word ∷ Space ∷ Open ∷ rest)))) (not_alone (codes "FAST") (Word f.word) Space (Open ∷ rest))
    ∙ ap (option_and_then one_of) (sym (ap asks_in f.whole) ∙ read)

pub asks_complete : (asks : List FetchAsk) (tokens : List Token) → SpellsAsks asks tokens → fetch_in tokens ≡ Some asks
asks_complete asks tokens (inl f) = ap fetch_in f.whole ∙ ap (λ t. cond t (Some (Fast ∷ [])) (option_and_then one_of (asks_in (Word f.word ∷ [])))) f.in_any_case ∙ ap Some (sym f.is)
asks_complete asks tokens (inr (inl o)) = single_complete o.ask tokens o.spells ∙ ap Some (sym o.is)
asks_complete asks tokens (inr (inr l)) =
    let c = closed_ends l.inside in
    ap fetch_in l.whole ∙ ap (λ t. cond t (asks_in (take (length (l.inside ++ Close ∷ []) - 1) (l.inside ++ Close ∷ []))) None) c.0 ∙ ap asks_in c.1 ∙ read_attributes l.inside asks l.spells

-- a command of this verb, of which these are the arguments
pub record Sound (v : Verb) (by_uid : Bool) (tokens : List Token) (asked : ImapWhat) : Type 0 where
  pub is_verb : verb_of asked ≡ v
  pub is_uid : speaks_of_uids asked ≡ (has_uid_form v && by_uid)
  pub spells : SpellsArguments asked tokens

flag_first : (words : List (List ℕ)) (tokens : List Token) → Spaced SpellsFlag words tokens → (word : List ℕ) × (rest : List Token) × (tokens ≡ Word word ∷ rest)
flag_first [] tokens s = absurd s
flag_first (word ∷ []) tokens s = (word, [], s.alone)
flag_first (word ∷ next ∷ words) tokens (first, rest, whole, one, more) = (word, Space ∷ rest, whole ∙ ap (λ f. f ++ Space ∷ rest) one.alone)

-- how flags change, and which
record Changes (tokens : List Token) (c : How × Bool × Flags) : Type 0 where
  word : List ℕ
  rest : List Token
  whole : tokens ≡ Space ∷ Word word ∷ Space ∷ rest
  is_how : how_in word ≡ Some (c.0, c.1)
  are_flags : SpellsStoreFlags c.2 rest

bare_is : (v : BareVerb) (by_uid : Bool) (tokens : List Token) → tokens ≡ [] → Sound (verb.Bare v) by_uid tokens (bare_what v)
bare_is bare.Capability by_uid tokens e = record { is_verb = refl; is_uid = refl; spells = e }
bare_is bare.Noop by_uid tokens e = record { is_verb = refl; is_uid = refl; spells = e }
bare_is bare.Logout by_uid tokens e = record { is_verb = refl; is_uid = refl; spells = e }
bare_is bare.Check by_uid tokens e = record { is_verb = refl; is_uid = refl; spells = e }
bare_is bare.Close by_uid tokens e = record { is_verb = refl; is_uid = refl; spells = e }
bare_is bare.Expunge by_uid tokens e = record { is_verb = refl; is_uid = refl; spells = e }

mailbox_is : (v : MailboxVerb) (by_uid : Bool) (text : List ℕ) (tokens : List Token) → SpellsString text tokens → Sound (verb.Mailbox v) by_uid tokens (with_mailbox v text)
mailbox_is mailbox_verb.Select by_uid text tokens s = record { is_verb = refl; is_uid = refl; spells = s }
mailbox_is mailbox_verb.Examine by_uid text tokens s = record { is_verb = refl; is_uid = refl; spells = s }
mailbox_is mailbox_verb.Create by_uid text tokens s = record { is_verb = refl; is_uid = refl; spells = s }
mailbox_is mailbox_verb.Delete by_uid text tokens s = record { is_verb = refl; is_uid = refl; spells = s }
mailbox_is mailbox_verb.Subscribe by_uid text tokens s = record { is_verb = refl; is_uid = refl; spells = s }
mailbox_is mailbox_verb.Unsubscribe by_uid text tokens s = record { is_verb = refl; is_uid = refl; spells = s }

module _ (laws : TokenLaws) where
  list_flags : (tokens : List Token) (flags : Flags) → listed_flags tokens ≡ Some flags → SpellsStoreFlags flags (Open ∷ tokens)
  list_flags tokens flags e =
      let s = stepped (flags_in tokens) (λ (r : Flags × List Token). cond (length r.1 == 0) (Some r.0) None) flags e in
      let b = none_by s.value.1 (Some s.value.0) flags s.gives in
      let l = laws.list_sound tokens s.value.1 s.value.0 s.was in
      inr (tokens, refl, subst (λ f. SpellsList f [] tokens) (same_Some _ _ b.1) (subst (λ r. SpellsList s.value.0 r tokens) b.0 l))

  flags_sound : (tokens : List Token) (flags : Flags) → store_flags tokens ≡ Some flags → SpellsStoreFlags flags tokens
  flags_sound [] flags e = absurd (let wrong : None ≡ Some flags = e in cc)
  flags_sound (Open ∷ tokens) flags e = list_flags tokens flags e
  flags_sound (Space ∷ tokens) flags e = inl (laws.bare_sound (Space ∷ tokens) flags e)
  flags_sound (Close ∷ tokens) flags e = inl (laws.bare_sound (Close ∷ tokens) flags e)
  flags_sound (Word text ∷ tokens) flags e = inl (laws.bare_sound (Word text ∷ tokens) flags e)
  flags_sound (Quoted text ∷ tokens) flags e = inl (laws.bare_sound (Quoted text ∷ tokens) flags e)
  flags_sound (Literal text ∷ tokens) flags e = inl (laws.bare_sound (Literal text ∷ tokens) flags e)

  flags_complete : (tokens : List Token) (flags : Flags) → SpellsStoreFlags flags tokens → store_flags tokens ≡ Some flags
  flags_complete tokens flags (inl s) =
      let f = flag_first s.0 tokens s.1 in
      ap store_flags f.2 ∙ ap (bare_from true no_flags) (sym f.2) ∙ laws.bare_complete tokens flags s
  flags_complete tokens flags (inr (list, whole, s)) =
      ap store_flags whole ∙ ap (option_and_then (λ (r : Flags × List Token). cond (length r.1 == 0) (Some r.0) None)) (laws.list_complete list [] flags s)

  change_sound : (tokens : List Token) (c : How × Bool × Flags) → change_in tokens ≡ Some c → Changes tokens c
  change_sound tokens c e =
      let s = stepped (next_word tokens) (λ (w : List ℕ × List Token). option_and_then (λ (how : How × Bool). option_and_then (λ (rest : List Token). option_map (λ (flags : Flags). (how.0, how.1, flags)) (store_flags rest)) (behind_space w.1)) (how_in w.0)) c e in
      let h = stepped (how_in s.value.0) (λ (how : How × Bool). option_and_then (λ (rest : List Token). option_map (λ (flags : Flags). (how.0, how.1, flags)) (store_flags rest)) (behind_space s.value.1)) c s.gives in
      let b = stepped (behind_space s.value.1) (λ (rest : List Token). option_map (λ (flags : Flags). (h.value.0, h.value.1, flags)) (store_flags rest)) c h.gives in
      let m = mapped (store_flags b.value) (λ (flags : Flags). (h.value.0, h.value.1, flags)) c b.gives in
      subst (Changes tokens) m.is (record {
        word = s.value.0;
        rest = b.value;
        whole = word_sound tokens s.value s.was ∙ ap (λ l. Space ∷ Word s.value.0 ∷ l) (space_sound s.value.1 b.value b.was);
        is_how = h.was;
        are_flags = flags_sound b.value m.value m.was;
      })

  store_sound : (by_uid : Bool) (tokens : List Token) (asked : ImapWhat) → store_of by_uid tokens ≡ Some asked → Sound verb.Store by_uid tokens asked
  store_sound by_uid tokens asked e =
      let s = stepped (next_word tokens) (λ (w : List ℕ × List Token). option_and_then (λ (c : How × Bool × Flags). option_map (λ (set : List SetRange). what.Store set c.0 c.1 c.2 by_uid) (set_in w.0)) (change_in w.1)) asked e in
      let h = stepped (change_in s.value.1) (λ (c : How × Bool × Flags). option_map (λ (set : List SetRange). what.Store set c.0 c.1 c.2 by_uid) (set_in s.value.0)) asked s.gives in
      let m = mapped (set_in s.value.0) (λ (set : List SetRange). what.Store set h.value.0 h.value.1 h.value.2 by_uid) asked h.gives in
      let c = change_sound s.value.1 h.value h.was in
      subst (Sound verb.Store by_uid tokens) m.is (record {
        is_verb = refl;
        is_uid = refl;
        spells = record {
          word = s.value.0;
          change = c.word;
          rest = c.rest;
          whole = word_sound tokens s.value s.was ∙ ap (λ l. Space ∷ Word s.value.0 ∷ l) c.whole;
          is_set = laws.set_sound s.value.0 m.value m.was;
          is_how = c.is_how;
          are_flags = c.are_flags;
        };
      })

  fetch_sound : (by_uid : Bool) (tokens : List Token) (asked : ImapWhat) → fetch_of by_uid tokens ≡ Some asked → Sound verb.Fetch by_uid tokens asked
  fetch_sound by_uid tokens asked e =
      let s = stepped (next_word tokens) (λ (w : List ℕ × List Token). option_and_then (λ (rest : List Token). option_and_then (λ (set : List SetRange). option_map (λ (a : List FetchAsk). what.Fetch set a by_uid) (fetch_in rest)) (set_in w.0)) (behind_space w.1)) asked e in
      let b = stepped (behind_space s.value.1) (λ (rest : List Token). option_and_then (λ (set : List SetRange). option_map (λ (a : List FetchAsk). what.Fetch set a by_uid) (fetch_in rest)) (set_in s.value.0)) asked s.gives in
      let h = stepped (set_in s.value.0) (λ (set : List SetRange). option_map (λ (a : List FetchAsk). what.Fetch set a by_uid) (fetch_in b.value)) asked b.gives in
      let m = mapped (fetch_in b.value) (λ (a : List FetchAsk). what.Fetch h.value a by_uid) asked h.gives in
      subst (Sound verb.Fetch by_uid tokens) m.is (record {
        is_verb = refl;
        is_uid = refl;
        spells = record {
          word = s.value.0;
          asks = b.value;
          whole = word_sound tokens s.value s.was ∙ ap (λ l. Space ∷ Word s.value.0 ∷ l) (space_sound s.value.1 b.value b.was);
          is_set = laws.set_sound s.value.0 h.value h.was;
          are_asks = asks_sound b.value m.value m.was;
        };
      })

  copy_sound : (by_uid : Bool) (tokens : List Token) (asked : ImapWhat) → copy_of by_uid tokens ≡ Some asked → Sound verb.Copy by_uid tokens asked
  copy_sound by_uid tokens asked e =
      let s = stepped (next_word tokens) (λ (w : List ℕ × List Token). option_and_then (λ (target : List ℕ). option_map (λ (set : List SetRange). what.Copy set target by_uid) (set_in w.0)) (last_string w.1)) asked e in
      let h = stepped (last_string s.value.1) (λ (target : List ℕ). option_map (λ (set : List SetRange). what.Copy set target by_uid) (set_in s.value.0)) asked s.gives in
      let m = mapped (set_in s.value.0) (λ (set : List SetRange). what.Copy set h.value by_uid) asked h.gives in
      let l = last_sound s.value.1 h.value h.was in
      subst (Sound verb.Copy by_uid tokens) m.is (record {
        is_verb = refl;
        is_uid = refl;
        spells = record {
          word = s.value.0;
          token = l.token;
          whole = word_sound tokens s.value s.was ∙ ap (λ r. Space ∷ Word s.value.0 ∷ r) l.whole;
          is_set = laws.set_sound s.value.0 m.value m.was;
          is = l.is;
        };
      })

  append_sound : (by_uid : Bool) (tokens : List Token) (asked : ImapWhat) → append_in tokens ≡ Some asked → Sound verb.Append by_uid tokens asked
  append_sound by_uid tokens asked e =
      let s = stepped (next_string tokens) (λ (r : List ℕ × List Token). option_and_then (λ (rest : List Token). option_map (λ (m : Flags × Option ℕ × List ℕ). what.Append r.0 m.0 m.1 m.2) (message_in rest)) (behind_space r.1)) asked e in
      let n = next_sound string_of tokens s.value s.was in
      let b = stepped (behind_space s.value.1) (λ (rest : List Token). option_map (λ (m : Flags × Option ℕ × List ℕ). what.Append s.value.0 m.0 m.1 m.2) (message_in rest)) asked s.gives in
      let m = mapped (message_in b.value) (λ (m : Flags × Option ℕ × List ℕ). what.Append s.value.0 m.0 m.1 m.2) asked b.gives in
      let f = stepped (first_flags b.value) (λ (f : Flags × List Token). option_and_then (λ (d : Option ℕ × List Token). option_map (λ (text : List ℕ). (f.0, d.0, text)) (only_literal d.1)) (first_date f.1)) m.value m.was in
      let d = stepped (first_date f.value.1) (λ (d : Option ℕ × List Token). option_map (λ (text : List ℕ). (f.value.0, d.0, text)) (only_literal d.1)) m.value f.gives in
      let t = mapped (only_literal d.value.1) (λ (text : List ℕ). (f.value.0, d.value.0, text)) m.value d.gives in
      subst (Sound verb.Append by_uid tokens) (ap (λ (m : Flags × Option ℕ × List ℕ). what.Append s.value.0 m.0 m.1 m.2) t.is ∙ m.is) (record {
        is_verb = refl;
        is_uid = refl;
        spells = record {
          token = n.token;
          message = b.value;
          dated = f.value.1;
          whole = n.whole ∙ ap (λ l. Space ∷ n.token ∷ l) (space_sound s.value.1 b.value b.was);
          is = n.is;
          are_flags = first_flags_sound laws b.value f.value f.was;
          is_date = subst (λ r. SpellsFirstDate d.value.0 r f.value.1) (literal_sound d.value.1 t.value t.was) (first_date_sound f.value.1 d.value d.was);
        };
      })

  pub what_sound : (v : Verb) (by_uid : Bool) (tokens : List Token) (asked : ImapWhat) → takes_all v ≡ false → what_in v by_uid tokens ≡ Some asked → Sound v by_uid tokens asked
  unfolding what_in
  what_sound (verb.Bare v) by_uid tokens asked few e =
      let b = none_by tokens (Some (bare_what v)) asked e in subst (Sound (verb.Bare v) by_uid tokens) (same_Some _ _ b.1) (bare_is v by_uid tokens b.0)
  what_sound (verb.Mailbox v) by_uid tokens asked few e =
      let m = mapped (last_string tokens) (λ (text : List ℕ). with_mailbox v text) asked e in
      subst (Sound (verb.Mailbox v) by_uid tokens) m.is (mailbox_is v by_uid m.value tokens (last_sound tokens m.value m.was))
  what_sound verb.Login by_uid tokens asked few e =
      let m = mapped (two_strings tokens) (λ (r : List ℕ × List ℕ). what.Login r.0 r.1) asked e in
      subst (Sound verb.Login by_uid tokens) m.is (record { is_verb = refl; is_uid = refl; spells = two_sound tokens m.value m.was })
  what_sound verb.Rename by_uid tokens asked few e =
      let m = mapped (two_strings tokens) (λ (r : List ℕ × List ℕ). what.Rename r.0 r.1) asked e in
      subst (Sound verb.Rename by_uid tokens) m.is (record { is_verb = refl; is_uid = refl; spells = two_sound tokens m.value m.was })
  what_sound verb.List by_uid tokens asked few e =
      let m = mapped (string_and_pattern tokens) (λ (r : List ℕ × List ℕ). what.List r.0 r.1) asked e in
      subst (Sound verb.List by_uid tokens) m.is (record { is_verb = refl; is_uid = refl; spells = pattern_sound tokens m.value m.was })
  what_sound verb.Lsub by_uid tokens asked few e =
      let m = mapped (string_and_pattern tokens) (λ (r : List ℕ × List ℕ). what.Lsub r.0 r.1) asked e in
      subst (Sound verb.Lsub by_uid tokens) m.is (record { is_verb = refl; is_uid = refl; spells = pattern_sound tokens m.value m.was })
  what_sound verb.Status by_uid tokens asked few e =
      let s = stepped (string_and_list tokens) (λ (r : List ℕ × List Token). option_map (λ (a : List StatusAsk). what.Status r.0 a) (statuses_from true [] r.1)) asked e in
      let m = mapped (statuses_from true [] s.value.1) (λ (a : List StatusAsk). what.Status s.value.0 a) asked s.gives in
      let l = listed_sound tokens s.value s.was in
      subst (Sound verb.Status by_uid tokens) m.is
      (record { is_verb = refl; is_uid = refl; spells = record { token = l.token; items = s.value.1; whole = l.whole; is = l.is; are = items s.value.1 m.value m.was } })
  what_sound verb.Append by_uid tokens asked few e = append_sound by_uid tokens asked e
  what_sound verb.Fetch by_uid tokens asked few e = fetch_sound by_uid tokens asked e
  what_sound verb.Store by_uid tokens asked few e = store_sound by_uid tokens asked e
  what_sound verb.Copy by_uid tokens asked few e = copy_sound by_uid tokens asked e
  what_sound verb.Search by_uid tokens asked few e =
      let m = mapped (sought_in tokens) (with_sought by_uid) asked e in
      subst (Sound verb.Search by_uid tokens) m.is (record { is_verb = refl; is_uid = refl; spells = laws.search_sound tokens m.value m.was })
  what_sound verb.Authenticate by_uid tokens asked few e = absurd (let wrong : true ≡ false = few in cc)

  plain_flags : (moment : Option ℕ) (text : List ℕ) (dated : List Token) → SpellsFirstDate moment (Literal text ∷ []) dated → first_flags dated ≡ Some (no_flags, dated)
  plain_flags None text dated e = ap first_flags e ∙ ap (λ l. Some (no_flags, l)) (sym e)
  plain_flags (Some at) text dated (quoted, whole, is) = ap first_flags whole ∙ ap (λ l. Some (no_flags, l)) (sym whole)

  first_complete : (flags : Flags) (moment : Option ℕ) (text : List ℕ) (dated message : List Token) → SpellsFirstDate moment (Literal text ∷ []) dated → SpellsFirstFlags flags dated message
      → first_flags message ≡ Some (flags, dated)
  first_complete flags moment text dated message d (inl (none, same)) = ap first_flags same ∙ plain_flags moment text dated d ∙ ap (λ f. Some (f, dated)) (sym none)
  first_complete flags moment text dated message d (inr (list, whole, s)) = ap first_flags whole ∙ spaced_complete laws list dated flags s

  message_complete : (flags : Flags) (moment : Option ℕ) (text : List ℕ) (dated message : List Token) → SpellsFirstDate moment (Literal text ∷ []) dated → SpellsFirstFlags flags dated message
      → message_in message ≡ Some (flags, moment, text)
  message_complete flags moment text dated message d f =
      ap (option_and_then (λ (f : Flags × List Token). option_and_then (λ (d : Option ℕ × List Token). option_map (λ (t : List ℕ). (f.0, d.0, t)) (only_literal d.1)) (first_date f.1))) (first_complete flags moment text dated message d f)
      ∙ ap (option_and_then (λ (d : Option ℕ × List Token). option_map (λ (t : List ℕ). (flags, d.0, t)) (only_literal d.1))) (first_date_complete moment text dated d)

  -- a command that is read from these arguments
  abbrev Reads : ImapWhat → List Token → Type 0
  Reads asked tokens = (takes_all (verb_of asked) ≡ false) × (what_in (verb_of asked) (speaks_of_uids asked) tokens ≡ Some asked)

  pub what_complete : (asked : ImapWhat) (tokens : List Token) → SpellsArguments asked tokens → Reads asked tokens
  unfolding what_in
  what_complete what.Capability tokens s = (refl, ap (bare_in bare.Capability) s)
  what_complete what.Noop tokens s = (refl, ap (bare_in bare.Noop) s)
  what_complete what.Logout tokens s = (refl, ap (bare_in bare.Logout) s)
  what_complete what.Check tokens s = (refl, ap (bare_in bare.Check) s)
  what_complete what.Close tokens s = (refl, ap (bare_in bare.Close) s)
  what_complete what.Expunge tokens s = (refl, ap (bare_in bare.Expunge) s)
  what_complete (what.Select mailbox) tokens s = (refl, ap (option_map (λ (m : List ℕ). with_mailbox mailbox_verb.Select m)) (last_complete tokens mailbox s))
  what_complete (what.Examine mailbox) tokens s = (refl, ap (option_map (λ (m : List ℕ). with_mailbox mailbox_verb.Examine m)) (last_complete tokens mailbox s))
  what_complete (what.Create mailbox) tokens s = (refl, ap (option_map (λ (m : List ℕ). with_mailbox mailbox_verb.Create m)) (last_complete tokens mailbox s))
  what_complete (what.Delete mailbox) tokens s = (refl, ap (option_map (λ (m : List ℕ). with_mailbox mailbox_verb.Delete m)) (last_complete tokens mailbox s))
  what_complete (what.Subscribe mailbox) tokens s = (refl, ap (option_map (λ (m : List ℕ). with_mailbox mailbox_verb.Subscribe m)) (last_complete tokens mailbox s))
  what_complete (what.Unsubscribe mailbox) tokens s = (refl, ap (option_map (λ (m : List ℕ). with_mailbox mailbox_verb.Unsubscribe m)) (last_complete tokens mailbox s))
  what_complete (what.Login user password) tokens s = (refl, ap (option_map (λ (r : List ℕ × List ℕ). what.Login r.0 r.1)) (two_complete tokens user password s))
  what_complete (what.Rename mailbox target) tokens s = (refl, ap (option_map (λ (r : List ℕ × List ℕ). what.Rename r.0 r.1)) (two_complete tokens mailbox target s))
  what_complete (what.List reference pattern) tokens s = (refl, ap (option_map (λ (r : List ℕ × List ℕ). what.List r.0 r.1)) (pattern_complete tokens reference pattern s))
  what_complete (what.Lsub reference pattern) tokens s = (refl, ap (option_map (λ (r : List ℕ × List ℕ). what.Lsub r.0 r.1)) (pattern_complete tokens reference pattern s))
  what_complete (what.Status mailbox asked) tokens s = (
    refl,
    ap (option_and_then (λ (r : List ℕ × List Token). option_map (λ (a : List StatusAsk). what.Status r.0 a) (statuses_from true [] r.1))) (listed_complete tokens s.items s.token mailbox s.whole s.is)
        ∙ ap (option_map (λ (a : List StatusAsk). what.Status mailbox a)) (read_items s.items asked s.are),
  )
  what_complete (what.Append mailbox flags moment text) tokens s = (
    refl,
    ap (option_and_then (λ (r : List ℕ × List Token). option_and_then (λ (rest : List Token). option_map (λ (m : Flags × Option ℕ × List ℕ). what.Append r.0 m.0 m.1 m.2) (message_in rest)) (behind_space r.1)))
        (string_complete tokens (Space ∷ s.message) s.token mailbox s.whole s.is)
        ∙ ap (option_map (λ (m : Flags × Option ℕ × List ℕ). what.Append mailbox m.0 m.1 m.2)) (message_complete flags moment text s.dated s.message s.is_date s.are_flags),
  )
  what_complete (what.Fetch set asked by_uid) tokens s = (
    refl,
    ap (fetch_of by_uid) s.whole
        ∙ ap (option_and_then (λ (q : List SetRange). option_map (λ (a : List FetchAsk). what.Fetch q a by_uid) (fetch_in s.asks))) (laws.set_complete s.word set s.is_set)
        ∙ ap (option_map (λ (a : List FetchAsk). what.Fetch set a by_uid)) (asks_complete asked s.asks s.are_asks),
  )
  what_complete (what.Store set how silent flags by_uid) tokens s = (
    refl,
    ap (store_of by_uid) s.whole
        ∙ ap (λ o. option_and_then (λ (c : How × Bool × Flags). option_map (λ (q : List SetRange). what.Store q c.0 c.1 c.2 by_uid) (set_in s.word))
        (option_and_then (λ (h : How × Bool). option_map (λ (f : Flags). (h.0, h.1, f)) (store_flags s.rest)) o)) s.is_how
        ∙ ap (λ o. option_and_then (λ (c : How × Bool × Flags). option_map (λ (q : List SetRange). what.Store q c.0 c.1 c.2 by_uid) (set_in s.word)) (option_map (λ (f : Flags). (how, silent, f)) o)) (flags_complete s.rest flags s.are_flags)
        ∙ ap (option_map (λ (q : List SetRange). what.Store q how silent flags by_uid)) (laws.set_complete s.word set s.is_set),
  )
  what_complete (what.Copy set target by_uid) tokens s = (
    refl,
    ap (copy_of by_uid) s.whole
        ∙ ap (option_and_then (λ (t : List ℕ). option_map (λ (q : List SetRange). what.Copy q t by_uid) (set_in s.word))) (last_complete (Space ∷ s.token ∷ []) target (record { token = s.token; whole = refl; is = s.is }))
        ∙ ap (option_map (λ (q : List SetRange). what.Copy q target by_uid)) (laws.set_complete s.word set s.is_set),
  )
  what_complete (what.Search charset key by_uid) tokens s = (refl, ap (option_map (with_sought by_uid)) (laws.search_complete tokens (record { charset = charset; key = key }) s))
  what_complete what.Authenticate tokens s = absurd s

  -- what the rest of a command asks
  pub record AsksSo (v : Verb) (by_uid : Bool) (line : List ℕ) (lines literals : List (List ℕ)) (asked : ImapWhat) : Type 0 where
    pub is_verb : verb_of asked ≡ v
    pub is_uid : speaks_of_uids asked ≡ (has_uid_form v && by_uid)
    pub asks : Asks asked line lines literals

  all_taken : (v : Verb) → takes_all v ≡ true → v ≡ verb.Authenticate
  all_taken (verb.Bare v) e = absurd (let wrong : false ≡ true = e in cc)
  all_taken (verb.Mailbox v) e = absurd (let wrong : false ≡ true = e in cc)
  all_taken verb.Login e = absurd (let wrong : false ≡ true = e in cc)
  all_taken verb.Rename e = absurd (let wrong : false ≡ true = e in cc)
  all_taken verb.List e = absurd (let wrong : false ≡ true = e in cc)
  all_taken verb.Lsub e = absurd (let wrong : false ≡ true = e in cc)
  all_taken verb.Status e = absurd (let wrong : false ≡ true = e in cc)
  all_taken verb.Append e = absurd (let wrong : false ≡ true = e in cc)
  all_taken verb.Fetch e = absurd (let wrong : false ≡ true = e in cc)
  all_taken verb.Store e = absurd (let wrong : false ≡ true = e in cc)
  all_taken verb.Copy e = absurd (let wrong : false ≡ true = e in cc)
  all_taken verb.Search e = absurd (let wrong : false ≡ true = e in cc)
  all_taken verb.Authenticate e = refl

  pub spoken_sound : (v : Verb) (by_uid : Bool) (line : List ℕ) (lines literals : List (List ℕ)) (asked : ImapWhat) → spoken v by_uid line lines literals ≡ Some asked → AsksSo v by_uid line lines literals asked
  spoken_sound v by_uid line lines literals asked e = by_test (takes_all v) refl e
    where
      by_test : (t : Bool) → takes_all v ≡ t → cond t (Some what.Authenticate) (option_and_then (λ (tokens : List Token). what_in v by_uid tokens) (tokens_with line lines literals)) ≡ Some asked → AsksSo v by_uid line lines literals asked
      by_test true is e2 =
          let a : what.Authenticate ≡ asked = same_Some _ _ e2 in
          subst (AsksSo v by_uid line lines literals) a (record { is_verb = sym (all_taken v is); is_uid = ap (λ w. has_uid_form w && by_uid) (sym (all_taken v is)); asks = inl refl })
      by_test false is e2 =
          let s = stepped (tokens_with line lines literals) (λ (tokens : List Token). what_in v by_uid tokens) asked e2 in
          let w = what_sound v by_uid s.value asked is s.gives in
          record { is_verb = w.is_verb; is_uid = w.is_uid; asks = inr (s.value, laws.lines_sound line lines literals s.value s.was, w.spells) }

  pub spoken_complete : (asked : ImapWhat) (line : List ℕ) (lines literals : List (List ℕ)) → Asks asked line lines literals → spoken (verb_of asked) (speaks_of_uids asked) line lines literals ≡ Some asked
  spoken_complete asked line lines literals (inl e) =
      ap (λ a. spoken (verb_of a) (speaks_of_uids a) line lines literals) e ∙ ap Some (sym e)
  spoken_complete asked line lines literals (inr (tokens, spells, arguments)) =
      let w = what_complete asked tokens arguments in
      ap (λ t. cond t (Some what.Authenticate) (option_and_then (λ (l : List Token). what_in (verb_of asked) (speaks_of_uids asked) l) (tokens_with line lines literals))) w.0
      ∙ ap (option_and_then (λ (l : List Token). what_in (verb_of asked) (speaks_of_uids asked) l)) (laws.lines_complete line lines literals tokens spells) ∙ w.1
