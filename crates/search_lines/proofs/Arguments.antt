-- The arguments of keys that hold no other, and what spells them.
use Rattle.std.proofs.Common.{◌≡◌, ℕ, ℤ, Bool, true, false, List, [], ◌∷◌, ◌++◌, map, Option, None, Some, option_map, option_and_then, refl, ap, sym, ◌∙◌, subst}
use Rattle.std.proofs.lemmas.Option.{same_Some}
use Rattle.imap_stream.specs.declared.picks.SetRange.{SetRange}
use Rattle.imap_tokens.specs.Ranges.{SpellsSet}
use Rattle.imap_tokens.specs.Sets.{set_in}
use Rattle.imap_tokens.specs.Tokens.{string_of}
use Rattle.imap_tokens.specs.Words.{count_in}
use Rattle.imap_tokens.specs.Words as words
use Rattle.imap_tokens.specs.declared.tokens.Token.{Token}
use Rattle.imap_tokens.specs.declared.tokens.Token.TheVariants.{Space, Open, Close, Word, Quoted, Literal}
use Rattle.imap_tokens.specs.Arguments.{behind_space, next_string, next_word}
use Rattle.imap_tokens.proofs.Steps.{stepped, mapped}
use Rattle.imap_tokens.proofs.Behind.{space_sound, next_sound, word_sound, string_complete}
use Rattle.search_verb.specs.Asked.{Asked, Uids}
use Rattle.search_lines.specs.Grammar.{SpellsArgument}
use Rattle.search_lines.specs.Leaves.{field_key, place_key, when_key, size_key, known_key, range_of, place_in, when_in, size_in, header_in, keyword_in, uids_of, uids_in, leaf_in}
use Rattle.search_lines.specs.Strings.{dated, next_day, next_count, is_atom, behind_first_atom, behind_atom}
use Rattle.search_lines.specs.declared.words.Place.{Place}
use Rattle.search_lines.specs.declared.words.When.{When}
use Rattle.search_lines.specs.declared.words.KeyWord.{KeyWord}
use Rattle.search_lines.specs.declared.words.KeyWord.TheVariants as word

-- What is known of sets.
pub record SetLaws : Type 0 where
  pub sound : (bytes : List ℕ) (set : List SetRange) → set_in bytes ≡ Some set → SpellsSet set bytes
  pub complete : (bytes : List ℕ) (set : List SetRange) → SpellsSet set bytes → set_in bytes ≡ Some set

-- tokens that spell what is read, before those that follow
pub record Spelled (P : Asked → List Token → Type 0) (r : Asked × List Token) (tokens : List Token) : Type 0 where
  pub here : List Token
  pub whole : tokens ≡ here ++ r.1
  pub is : P r.0 here

in_sound : (p : Place) (tokens : List Token) (r : Asked × List Token) → place_in p tokens ≡ Some r → Spelled (SpellsArgument (word.In p)) r tokens
in_sound p tokens r e =
    let m = mapped (next_string tokens) (λ (v : List ℕ × List Token). (place_key p v.0, v.1)) r e in
    let n = next_sound string_of tokens m.value m.was in
    subst (λ q. Spelled (SpellsArgument (word.In p)) q tokens) m.is
    (record { here = Space ∷ n.token ∷ []; whole = n.whole; is = record { token = n.token; text = m.value.0; whole = refl; is = n.is; asks = refl } })

when_sound : (w : When) (tokens : List Token) (r : Asked × List Token) → when_in w tokens ≡ Some r → Spelled (SpellsArgument (word.Came w)) r tokens
when_sound w tokens r e =
    let m = mapped (next_day tokens) (λ (v : ℤ × List Token). (when_key w v.0, v.1)) r e in
    let n = next_sound dated tokens m.value m.was in
    subst (λ q. Spelled (SpellsArgument (word.Came w)) q tokens) m.is
    (record { here = Space ∷ n.token ∷ []; whole = n.whole; is = record { token = n.token; day = m.value.0; whole = refl; is = n.is; asks = refl } })

-- a number behind a space
record Counted (tokens : List Token) (r : ℕ × List Token) : Type 0 where
  text : List ℕ
  whole : tokens ≡ Space ∷ Word text ∷ r.1
  is : count_in text ≡ Some r.0

count_sound : (tokens : List Token) (r : ℕ × List Token) → next_count tokens ≡ Some r → Counted tokens r
count_sound tokens r e =
    let s = stepped (next_word tokens) (λ (v : List ℕ × List Token). option_map (λ (n : ℕ). (n, v.1)) (count_in v.0)) r e in
    let m = mapped (count_in s.value.0) (λ (n : ℕ). (n, s.value.1)) r s.gives in
    subst (Counted tokens) m.is (record { text = s.value.0; whole = word_sound tokens s.value s.was; is = m.was })

size_sound : (larger : Bool) (tokens : List Token) (r : Asked × List Token) → size_in larger tokens ≡ Some r
    → (here : List Token) × (text : List ℕ) × (size : ℕ) × (tokens ≡ here ++ r.1) × (here ≡ Space ∷ Word text ∷ []) × (count_in text ≡ Some size) × (r.0 ≡ size_key larger size)
size_sound larger tokens r e =
    let m = mapped (next_count tokens) (λ (v : ℕ × List Token). (size_key larger v.0, v.1)) r e in
    let c = count_sound tokens m.value m.was in (
      Space ∷ Word c.text ∷ [],
      c.text,
      m.value.0,
      c.whole ∙ ap (λ (q : Asked × List Token). Space ∷ Word c.text ∷ q.1) m.is,
      refl,
      c.is,
      ap (λ (q : Asked × List Token). q.0) (sym m.is),
    )

header_sound : (tokens : List Token) (r : Asked × List Token) → header_in tokens ≡ Some r → Spelled (SpellsArgument word.Header) r tokens
header_sound tokens r e =
    let s = stepped (next_string tokens) (λ (name : List ℕ × List Token). option_map (λ (v : List ℕ × List Token). (field_key name.0 v.0, v.1)) (next_string name.1)) r e in
    let m = mapped (next_string s.value.1) (λ (v : List ℕ × List Token). (field_key s.value.0 v.0, v.1)) r s.gives in
    let one = next_sound string_of tokens s.value s.was in
    let two = next_sound string_of s.value.1 m.value m.was in
    subst (λ q. Spelled (SpellsArgument word.Header) q tokens) m.is
    (record {
      here = Space ∷ one.token ∷ Space ∷ two.token ∷ [];
      whole = one.whole ∙ ap (λ l. Space ∷ one.token ∷ l) two.whole;
      is = record { one = one.token; two = two.token; name = s.value.0; text = m.value.0; whole = refl; is_name = one.is; is_text = two.is; asks = refl };
    })

atom_is : (token : Token) → is_atom token ≡ true → (text : List ℕ) × (token ≡ Word text) × (words.is_atom text ≡ true)
atom_is Space e = absurd (let wrong : false ≡ true = e in cc)
atom_is Open e = absurd (let wrong : false ≡ true = e in cc)
atom_is Close e = absurd (let wrong : false ≡ true = e in cc)
atom_is (Word text) e = (text, refl, by_test (words.is_atom text) refl)
  where
    by_test : (t : Bool) → words.is_atom text ≡ t → words.is_atom text ≡ true
    by_test true is = is
    by_test false is = absurd (let wrong : false ≡ true = rw is at e in cc)
atom_is (Quoted text) e = absurd (let wrong : false ≡ true = e in cc)
atom_is (Literal text) e = absurd (let wrong : false ≡ true = e in cc)

atom_behind : (tokens rest : List Token) → behind_first_atom tokens ≡ Some rest → (text : List ℕ) × (tokens ≡ Word text ∷ rest) × (words.is_atom text ≡ true)
atom_behind [] rest e = absurd (let wrong : None ≡ Some rest = e in cc)
atom_behind (token ∷ tokens) rest e = by_test (is_atom token) refl
  where
    by_test : (t : Bool) → is_atom token ≡ t → (text : List ℕ) × (token ∷ tokens ≡ Word text ∷ rest) × (words.is_atom text ≡ true)
    by_test true is =
        let a = atom_is token is in
        let same : tokens ≡ rest = same_Some _ _ (rw is at e) in
        (a.0, ap (λ t. t ∷ tokens) a.1 ∙ ap (λ l. Word a.0 ∷ l) same, a.2)
    by_test false is = absurd (let wrong : None ≡ Some rest = rw is at e in cc)

keyword_sound : (every : Bool) (tokens : List Token) (r : Asked × List Token) → keyword_in every tokens ≡ Some r
    → (here : List Token) × (text : List ℕ) × (tokens ≡ here ++ r.1) × (here ≡ Space ∷ Word text ∷ []) × (words.is_atom text ≡ true) × (r.0 ≡ known_key every)
keyword_sound every tokens r e =
    let m = mapped (behind_atom tokens) (λ (rest : List Token). (known_key every, rest)) r e in
    let s = stepped (behind_space tokens) behind_first_atom m.value m.was in
    let a = atom_behind s.value m.value s.gives in (
      Space ∷ Word a.0 ∷ [],
      a.0,
      space_sound tokens s.value s.was ∙ ap (λ l. Space ∷ l) a.1 ∙ ap (λ (q : Asked × List Token). Space ∷ Word a.0 ∷ q.1) m.is,
      refl,
      a.2,
      ap (λ (q : Asked × List Token). q.0) (sym m.is),
    )

module _ (laws : SetLaws) where
  uids_sound : (tokens : List Token) (r : Asked × List Token) → uids_in tokens ≡ Some r → Spelled (SpellsArgument word.Uid) r tokens
  uids_sound tokens r e =
      let s = stepped (next_word tokens) (λ (v : List ℕ × List Token). option_map (λ (key : Asked). (key, v.1)) (uids_of v.0)) r e in
      let m = mapped (uids_of s.value.0) (λ (key : Asked). (key, s.value.1)) r s.gives in
      let u = mapped (set_in s.value.0) (λ (set : List SetRange). Uids (map range_of set)) m.value m.was in
      subst (λ q. Spelled (SpellsArgument word.Uid) q tokens) m.is
      (record {
        here = Space ∷ Word s.value.0 ∷ [];
        whole = word_sound tokens s.value s.was;
        is = record { text = s.value.0; set = u.value; whole = refl; is = laws.sound s.value.0 u.value u.was; asks = sym u.is };
      })

  -- what is read behind a key's word is spelled
  pub leaf_sound : (w : KeyWord) (tokens : List Token) (r : Asked × List Token) → leaf_in w tokens ≡ Some r → Spelled (SpellsArgument w) r tokens
  leaf_sound (word.Is s) tokens r e = subst (λ q. Spelled (SpellsArgument (word.Is s)) q tokens) (same_Some _ _ e) (record { here = []; whole = refl; is = (refl, refl) })
  leaf_sound (word.IsNot s) tokens r e = subst (λ q. Spelled (SpellsArgument (word.IsNot s)) q tokens) (same_Some _ _ e) (record { here = []; whole = refl; is = (refl, refl) })
  leaf_sound (word.In p) tokens r e = in_sound p tokens r e
  leaf_sound (word.Came w) tokens r e = when_sound w tokens r e
  leaf_sound word.Larger tokens r e = let s = size_sound true tokens r e in record { here = s.0; whole = s.3; is = record { text = s.1; size = s.2; whole = s.4; is = s.5; asks = s.6 } }
  leaf_sound word.Smaller tokens r e = let s = size_sound false tokens r e in record { here = s.0; whole = s.3; is = record { text = s.1; size = s.2; whole = s.4; is = s.5; asks = s.6 } }
  leaf_sound word.Header tokens r e = header_sound tokens r e
  leaf_sound word.Keyword tokens r e = let k = keyword_sound false tokens r e in record { here = k.0; whole = k.2; is = record { text = k.1; whole = k.3; is = k.4; asks = k.5 } }
  leaf_sound word.Unkeyword tokens r e = let k = keyword_sound true tokens r e in record { here = k.0; whole = k.2; is = record { text = k.1; whole = k.3; is = k.4; asks = k.5 } }
  leaf_sound word.Uid tokens r e = uids_sound tokens r e
  leaf_sound word.Not tokens r e = absurd (let wrong : None ≡ Some r = e in cc)
  leaf_sound word.Or tokens r e = absurd (let wrong : None ≡ Some r = e in cc)

  size_complete : (larger : Bool) (key : Asked) (text : List ℕ) (size : ℕ) (here rest : List Token) → here ≡ Space ∷ Word text ∷ [] → count_in text ≡ Some size → key ≡ size_key larger size
      → size_in larger (here ++ rest) ≡ Some (key, rest)
  size_complete larger key text size here rest whole is asks =
      ap (λ (h : List Token). size_in larger (h ++ rest)) whole
      ∙ ap (λ (o : Option ℕ). option_map (λ (v : ℕ × List Token). (size_key larger v.0, v.1)) (option_map (λ (n : ℕ). (n, rest)) o)) is
      ∙ ap (λ (k : Asked). Some (k, rest)) (sym asks)

  keyword_complete : (every : Bool) (key : Asked) (text : List ℕ) (here rest : List Token) → here ≡ Space ∷ Word text ∷ [] → words.is_atom text ≡ true → key ≡ known_key every
      → keyword_in every (here ++ rest) ≡ Some (key, rest)
  keyword_complete every key text here rest whole is asks =
      let atom : is_atom (Word text) ≡ true = rw is refl in
      let behind : behind_atom (Space ∷ Word text ∷ rest) ≡ Some rest = rw atom refl in
      ap (λ (h : List Token). keyword_in every (h ++ rest)) whole ∙ ap (option_map (λ (l : List Token). (known_key every, l))) behind ∙ ap (λ (k : Asked). Some (k, rest)) (sym asks)

  -- what spells the arguments of a key is read
  pub leaf_complete : (w : KeyWord) (key : Asked) (here rest : List Token) → SpellsArgument w key here → leaf_in w (here ++ rest) ≡ Some (key, rest)
  leaf_complete (word.Is s) key here rest (none, asks) = ap (λ (h : List Token). leaf_in (word.Is s) (h ++ rest)) none ∙ ap (λ (k : Asked). Some (k, rest)) (sym asks)
  leaf_complete (word.IsNot s) key here rest (none, asks) = ap (λ (h : List Token). leaf_in (word.IsNot s) (h ++ rest)) none ∙ ap (λ (k : Asked). Some (k, rest)) (sym asks)
  leaf_complete (word.In p) key here rest s =
      ap (λ (h : List Token). place_in p (h ++ rest)) s.whole
      ∙ ap (λ (o : Option (List ℕ)). option_map (λ (v : List ℕ × List Token). (place_key p v.0, v.1)) (option_map (λ (t : List ℕ). (t, rest)) o)) s.is
      ∙ ap (λ (k : Asked). Some (k, rest)) (sym s.asks)
  leaf_complete (word.Came w) key here rest s =
      ap (λ (h : List Token). when_in w (h ++ rest)) s.whole
      ∙ ap (λ (o : Option ℤ). option_map (λ (v : ℤ × List Token). (when_key w v.0, v.1)) (option_map (λ (t : ℤ). (t, rest)) o)) s.is
      ∙ ap (λ (k : Asked). Some (k, rest)) (sym s.asks)
  leaf_complete word.Larger key here rest s = size_complete true key s.text s.size here rest s.whole s.is s.asks
  leaf_complete word.Smaller key here rest s = size_complete false key s.text s.size here rest s.whole s.is s.asks
  leaf_complete word.Header key here rest s =
      ap (λ (h : List Token). header_in (h ++ rest)) s.whole
      ∙ ap (option_and_then (λ (name : List ℕ × List Token). option_map (λ (v : List ℕ × List Token). (field_key name.0 v.0, v.1)) (next_string name.1))) (string_complete s.one s.name (Space ∷ s.two ∷ rest) s.is_name)
      ∙ ap (option_map (λ (v : List ℕ × List Token). (field_key s.name v.0, v.1))) (string_complete s.two s.text rest s.is_text)
      ∙ ap (λ (k : Asked). Some (k, rest)) (sym s.asks)
  leaf_complete word.Keyword key here rest s = keyword_complete false key s.text here rest s.whole s.is s.asks
  leaf_complete word.Unkeyword key here rest s = keyword_complete true key s.text here rest s.whole s.is s.asks
  leaf_complete word.Uid key here rest s =
      ap (λ (h : List Token). uids_in (h ++ rest)) s.whole
      ∙ ap (λ (o : Option (List SetRange)). option_map (λ (k : Asked). (k, rest)) (option_map (λ (set : List SetRange). Uids (map range_of set)) o)) (laws.complete s.text s.set s.is)
      ∙ ap (λ (k : Asked). Some (k, rest)) (sym s.asks)
  leaf_complete word.Not key here rest s = absurd s
  leaf_complete word.Or key here rest s = absurd s
