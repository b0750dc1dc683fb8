-- The arguments of SEARCH, and what spells them.
use Rattle.std.proofs.Common.{◌≡◌, ℕ, Bool, true, false, List, [], ◌∷◌, ◌++◌, length, codes, Option, None, Some, option_map, option_and_then, refl, ap, sym, ◌∙◌, subst, inl, inr}
use Rattle.std.proofs.lemmas.List.{append-nil}
use Rattle.std.proofs.lemmas.Option.{same_Some}
use Rattle.imap_tokens.specs.Spelling.{Spaced}
use Rattle.imap_tokens.specs.Tokens.{string_of}
use Rattle.imap_tokens.specs.Words.{is_word}
use Rattle.imap_tokens.specs.declared.tokens.Token.{Token}
use Rattle.imap_tokens.specs.declared.tokens.Token.TheVariants.{Space, Open, Close, Word, Quoted, Literal}
use Rattle.imap_tokens.proofs.Steps.{stepped, mapped}
use Rattle.imap_tokens.proofs.Behind.{space_sound, next_sound, string_complete}
use Rattle.search_verb.specs.Asked.{Asked, all_of}
use Rattle.search_lines.specs.Grammar.{SpellsKey, SpellsKeys, SpellsPlain, SpellsCharset, SpellsSought}
use Rattle.search_lines.specs.Keys.{keys_in, key_in, whole_keys}
use Rattle.search_lines.specs.Sought.{sought, is_charset, behind_charset, charset_in, sought_by, sought_in}
use Rattle.imap_tokens.specs.Arguments.{behind_space, next_string}
use Rattle.search_lines.specs.declared.sought.Sought.{Sought}
use Rattle.search_lines.proofs.Arguments.{SetLaws}
use Rattle.search_lines.proofs.Held.{end_none, keys_sound, keys_complete, spaced_size, key_sound, key_has, key_complete}

module _ (laws : SetLaws) where
  whole_sound : (tokens : List Token) (key : Asked) → whole_keys tokens ≡ Some key → SpellsKeys key tokens
  whole_sound tokens key e =
      let m = mapped (keys_in (key_in 65) false (length tokens) tokens) (λ (q : List Asked × List Token). all_of q.0) key e in
      let k = keys_sound (key_in 65) (SpellsKey 65) (key_sound laws 65) false (length tokens) tokens m.value m.was in
      let none = end_none k.tail m.value.1 k.ends in
      record {
        keys = m.value.0;
        spells = subst (Spaced (SpellsKey 65) m.value.0) (sym (append-nil k.inside) ∙ ap (λ l. k.inside ++ l) (sym none.0) ∙ sym k.whole) k.spells;
        asks = sym m.is;
      }

  whole_complete : (tokens : List Token) (key : Asked) → SpellsKeys key tokens → whole_keys tokens ≡ Some key
  whole_complete tokens key s =
      let fits = spaced_size (key_in 65) (SpellsKey 65) (key_has laws 65) s.keys tokens s.spells in
      let read = keys_complete (key_in 65) (SpellsKey 65) (key_complete laws 65) false s.keys tokens [] [] (length tokens) s.spells fits refl in
      ap (λ l. option_map (λ (q : List Asked × List Token). all_of q.0) (keys_in (key_in 65) false (length tokens) l)) (sym (append-nil tokens))
      ∙ ap (option_map (λ (q : List Asked × List Token). all_of q.0)) read ∙ ap Some (sym s.asks)

  charset_word : (token : Token) → is_charset token ≡ true → (text : List ℕ) × (token ≡ Word text) × (is_word (codes "CHARSET") text ≡ true)
  charset_word Space e = absurd (let wrong : false ≡ true = e in cc)
  charset_word Open e = absurd (let wrong : false ≡ true = e in cc)
  charset_word Close e = absurd (let wrong : false ≡ true = e in cc)
  charset_word (Word text) e = (text, refl, e)
  charset_word (Quoted text) e = absurd (let wrong : false ≡ true = e in cc)
  charset_word (Literal text) e = absurd (let wrong : false ≡ true = e in cc)

  behind_sound : (tokens rest : List Token) → behind_charset tokens ≡ Some rest → (text : List ℕ) × (tokens ≡ Word text ∷ rest) × (is_word (codes "CHARSET") text ≡ true)
  behind_sound [] rest e = absurd (let wrong : None ≡ Some rest = e in cc)
  behind_sound (token ∷ tokens) rest e = by_test (is_charset token) refl
    where
      by_test : (t : Bool) → is_charset token ≡ t → (text : List ℕ) × (token ∷ tokens ≡ Word text ∷ rest) × (is_word (codes "CHARSET") text ≡ true)
      by_test true is =
          let c = charset_word token is in
          let same : tokens ≡ rest = same_Some _ _ (rw is at e) in
          (c.0, ap (λ t. t ∷ tokens) c.1 ∙ ap (λ l. Word c.0 ∷ l) same, c.2)
      by_test false is = absurd (let wrong : None ≡ Some rest = rw is at e in cc)

  by_charset : (tokens rest : List Token) (s : Sought) (o : Option (List Token)) → tokens ≡ Space ∷ rest → behind_charset rest ≡ o → sought_by rest o ≡ Some s → SpellsSought s tokens
  by_charset tokens rest s None whole is e =
      let m = mapped (whole_keys rest) (sought None) s e in
      inl (subst (λ q. SpellsPlain q tokens) m.is (record { rest = rest; whole = whole; apart = is; spells = whole_sound rest m.value m.was; none = refl }))
  by_charset tokens rest s (Some named) whole is e =
      let b = behind_sound rest named is in
      let v = stepped (charset_in named) (λ (name : List ℕ × List Token). option_map (sought (Some name.0)) (whole_keys name.1)) s e in
      let m = mapped (whole_keys v.value.1) (sought (Some v.value.0)) s v.gives in
      let c = stepped (next_string named) (λ (name : List ℕ × List Token). option_map (λ (l : List Token). (name.0, l)) (behind_space name.1)) v.value v.was in
      let n = next_sound string_of named c.value c.was in
      let p = mapped (behind_space c.value.1) (λ (l : List Token). (c.value.0, l)) v.value c.gives in
      let behind : c.value.1 ≡ Space ∷ v.value.1 = space_sound c.value.1 p.value p.was ∙ ap (λ (q : List ℕ × List Token). Space ∷ q.1) p.is in
      let name_is : string_of n.token ≡ Some v.value.0 = n.is ∙ ap (λ (q : List ℕ × List Token). Some q.0) p.is in
      inr (subst (λ q. SpellsCharset q tokens) m.is
      (record {
        text = b.0;
        token = n.token;
        name = v.value.0;
        rest = v.value.1;
        whole = whole ∙ ap (λ l. Space ∷ l) (b.1 ∙ ap (λ l. Word b.0 ∷ l) (n.whole ∙ ap (λ l. Space ∷ n.token ∷ l) behind));
        in_any_case = b.2;
        is = name_is;
        spells = whole_sound v.value.1 m.value m.was;
        named = refl;
      }))

  pub sound : (tokens : List Token) (s : Sought) → sought_in tokens ≡ Some s → SpellsSought s tokens
  sound tokens s e =
      let b = stepped (behind_space tokens) (λ (rest : List Token). sought_by rest (behind_charset rest)) s e in
      by_charset tokens b.value s (behind_charset b.value) (space_sound tokens b.value b.was) refl b.gives

  sought_is : (s : Sought) (charset : Option (List ℕ)) → s.charset ≡ charset → sought charset s.key ≡ s
  sought_is s charset e = ap (λ (c : Option (List ℕ)). sought c s.key) (sym e)

  pub complete : (tokens : List Token) (s : Sought) → SpellsSought s tokens → sought_in tokens ≡ Some s
  complete tokens s (inl p) =
      ap sought_in p.whole ∙ ap (sought_by p.rest) p.apart ∙ ap (option_map (sought None)) (whole_complete p.rest s.key p.spells) ∙ ap Some (sought_is s None p.none)
  complete tokens s (inr c) =
      let behind : behind_charset (Word c.text ∷ Space ∷ c.token ∷ Space ∷ c.rest) ≡ Some (Space ∷ c.token ∷ Space ∷ c.rest) = rw c.in_any_case refl in
      ap sought_in c.whole ∙ ap (sought_by (Word c.text ∷ Space ∷ c.token ∷ Space ∷ c.rest)) behind
      ∙ ap (λ (o : Option (List ℕ × List Token)). option_and_then (λ (name : List ℕ × List Token). option_map (sought (Some name.0)) (whole_keys name.1))
      (option_and_then (λ (name : List ℕ × List Token). option_map (λ (l : List Token). (name.0, l)) (behind_space name.1)) o)) (string_complete c.token c.name (Space ∷ c.rest) c.is)
      ∙ ap (option_map (sought (Some c.name))) (whole_complete c.rest s.key c.spells) ∙ ap Some (sought_is s (Some c.name) c.named)
