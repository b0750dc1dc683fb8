-- Keys that may hold others, and what spells them.
use Rattle.std.proofs.Common.{◌≡◌, ℕ, ◌+◌, zero, suc, ◌<◌, ◌≤◌, Bool, true, false, List, [], ◌∷◌, ◌++◌, map, length, Option, None, Some, option_map, option_and_then, refl, ap, sym, ◌∙◌, subst, ◌⊎◌, inl, inr, arith}
use Rattle.std.proofs.lemmas.List.{append_assoc, length-append}
use Rattle.std.proofs.lemmas.Option.{same_Some}
use Rattle.imap_stream.specs.declared.picks.SetRange.{SetRange}
use Rattle.imap_tokens.specs.Sets.{set_in}
use Rattle.imap_tokens.specs.Spelling.{Spaced}
use Rattle.imap_tokens.specs.declared.tokens.Token.{Token}
use Rattle.imap_tokens.specs.declared.tokens.Token.TheVariants.{Space, Open, Close, Word, Quoted, Literal}
use Rattle.imap_tokens.proofs.Steps.{Stepped, stepped, mapped}
use Rattle.imap_tokens.proofs.Behind.{space_sound}
use Rattle.search_verb.specs.Asked.{Asked, Places, Not, Or, all_of}
use Rattle.search_lines.specs.Grammar.{SpellsArgument, SpellsLeaf, SpellsPlaces, SpellsNot, SpellsOr, SpellsListed, SpellsKey}
use Rattle.search_lines.specs.Keys.{at_end, next_key, not_in, or_in, with_key, keys_in, listed_in, key_by, known_by, opened_in, key_in}
use Rattle.search_lines.specs.Leaves.{Found, leaf_in, places_in, range_of}
use Rattle.imap_tokens.specs.Arguments.{behind_space}
use Rattle.search_lines.specs.Words.{key_word}
use Rattle.search_lines.specs.declared.words.KeyWord.{KeyWord}
use Rattle.search_lines.specs.declared.words.KeyWord.TheVariants as word
use Rattle.search_lines.proofs.Arguments.{SetLaws, Spelled, leaf_sound, leaf_complete}

-- what is read is spelled, what is spelled is read, and it has a token
abbrev pub Sound : (List Token → Found) → (Asked → List Token → Type 0) → Type 0
Sound read P = (tokens : List Token) (r : Asked × List Token) → read tokens ≡ Some r → Spelled P r tokens

abbrev pub Complete : (List Token → Found) → (Asked → List Token → Type 0) → Type 0
Complete read P = (key : Asked) (here rest : List Token) → P key here → read (here ++ rest) ≡ Some (key, rest)

abbrev pub HasToken : (Asked → List Token → Type 0) → Type 0
HasToken P = (key : Asked) (here : List Token) → P key here → 0 < length here

-- keys that are read, before what ends them
pub record SpelledKeys (P : Asked → List Token → Type 0) (closed : Bool) (r : List Asked × List Token) (tokens : List Token) : Type 0 where
  pub inside : List Token
  pub tail : List Token
  pub whole : tokens ≡ inside ++ tail
  pub ends : at_end closed tail ≡ Some r.1
  pub spells : Spaced P r.0 inside

end_space : (closed : Bool) (tokens : List Token) → at_end closed (Space ∷ tokens) ≡ None
end_space true tokens = refl
end_space false tokens = refl

end_close : (tokens rest : List Token) → at_end true tokens ≡ Some rest → tokens ≡ Close ∷ rest
end_close [] rest e = absurd (let wrong : None ≡ Some rest = e in cc)
end_close (Space ∷ tokens) rest e = absurd (let wrong : None ≡ Some rest = e in cc)
end_close (Open ∷ tokens) rest e = absurd (let wrong : None ≡ Some rest = e in cc)
end_close (Close ∷ tokens) rest e = ap (λ l. Close ∷ l) (same_Some _ _ e)
end_close (Word text ∷ tokens) rest e = absurd (let wrong : None ≡ Some rest = e in cc)
end_close (Quoted text ∷ tokens) rest e = absurd (let wrong : None ≡ Some rest = e in cc)
end_close (Literal text ∷ tokens) rest e = absurd (let wrong : None ≡ Some rest = e in cc)

pub end_none : (tokens rest : List Token) → at_end false tokens ≡ Some rest → (tokens ≡ []) × (rest ≡ [])
end_none [] rest e = (refl, sym (same_Some _ _ e))
end_none (token ∷ tokens) rest e = absurd (let wrong : None ≡ Some rest = e in cc)

module _ (read : List Token → Found) (P : Asked → List Token → Type 0) where
  -- a key behind a space
  record SpelledNext (r : Asked × List Token) (tokens : List Token) : Type 0 where
    held : List Token
    whole : tokens ≡ Space ∷ held ++ r.1
    is : P r.0 held

  next_sound : Sound read P → (tokens : List Token) (r : Asked × List Token) → next_key read tokens ≡ Some r → SpelledNext r tokens
  next_sound sound tokens r e =
      let s = stepped (behind_space tokens) read r e in
      let k = sound s.value r s.gives in
      record { held = k.here; whole = space_sound tokens s.value s.was ∙ ap (λ l. Space ∷ l) k.whole; is = k.is }

  not_sound : Sound read P → (text : List ℕ) (tokens : List Token) (r : Asked × List Token) → key_word text ≡ Some word.Not → not_in read tokens ≡ Some r → Spelled (SpellsNot P) r (Word text ∷ tokens)
  not_sound sound text tokens r is e =
      let m = mapped (next_key read tokens) (λ (v : Asked × List Token). (Not v.0, v.1)) r e in
      let n = next_sound sound tokens m.value m.was in
      subst (λ q. Spelled (SpellsNot P) q (Word text ∷ tokens)) m.is
      (record {
        here = Word text ∷ Space ∷ n.held;
        whole = ap (λ l. Word text ∷ l) n.whole;
        is = record { text = text; inner = m.value.0; held = n.held; whole = refl; is = is; spells = n.is; asks = refl };
      })

  or_sound : Sound read P → (text : List ℕ) (tokens : List Token) (r : Asked × List Token) → key_word text ≡ Some word.Or → or_in read tokens ≡ Some r → Spelled (SpellsOr P) r (Word text ∷ tokens)
  or_sound sound text tokens r is e =
      let s = stepped (next_key read tokens) (λ (a : Asked × List Token). option_map (λ (b : Asked × List Token). (Or a.0 b.0, b.1)) (next_key read a.1)) r e in
      let m = mapped (next_key read s.value.1) (λ (b : Asked × List Token). (Or s.value.0 b.0, b.1)) r s.gives in
      let one = next_sound sound tokens s.value s.was in
      let two = next_sound sound s.value.1 m.value m.was in
      subst (λ q. Spelled (SpellsOr P) q (Word text ∷ tokens)) m.is
      (record {
        here = Word text ∷ Space ∷ one.held ++ Space ∷ two.held;
        whole = ap (λ l. Word text ∷ l) (one.whole ∙ ap (λ l. Space ∷ one.held ++ l) two.whole ∙ ap (λ l. Space ∷ l) (sym (append_assoc one.held (Space ∷ two.held) m.value.1)));
        is = record { text = text; one = s.value.0; two = m.value.0; first = one.held; second = two.held; whole = refl; is = is; spells_one = one.is; spells_two = two.is; asks = refl };
      })

  joined : (x : Asked) (keys : List Asked) (first rest : List Token) → P x first → Spaced P keys rest → Spaced P (x ∷ keys) (first ++ Space ∷ rest)
  joined x [] first rest one spaced = absurd spaced
  joined x (y ∷ keys) first rest one spaced = (first, rest, refl, one, spaced)

  pub keys_sound : Sound read P → (closed : Bool) (most : ℕ) (tokens : List Token) (r : List Asked × List Token) → keys_in read closed most tokens ≡ Some r → SpelledKeys P closed r tokens
  keys_sound sound closed zero tokens r e = absurd (let wrong : None ≡ Some r = e in cc)
  keys_sound sound closed (suc most) tokens r e = by_end (at_end closed s.value.1) refl s.gives (keys_sound sound closed most)
    where
      rest_in : Asked × List Token → Option (List Asked × List Token)
      rest_in v = option_and_then (λ (more : List Token). keys_in read closed most more) (behind_space v.1)

      s : Stepped (read tokens) (λ (v : Asked × List Token). with_key v.0 (at_end closed v.1) (rest_in v)) r
      s = stepped (read tokens) (λ (v : Asked × List Token). with_key v.0 (at_end closed v.1) (rest_in v)) r e

      k : Spelled P s.value tokens
      k = sound tokens s.value s.was

      by_end : (o : Option (List Token)) → at_end closed s.value.1 ≡ o → with_key s.value.0 o (rest_in s.value) ≡ Some r
          → ((t : List Token) (q : List Asked × List Token) → keys_in read closed most t ≡ Some q → SpelledKeys P closed q t) → SpelledKeys P closed r tokens
      by_end (Some rest) is e2 more =
          subst (λ q. SpelledKeys P closed q tokens) (same_Some _ _ e2) (record { inside = k.here; tail = s.value.1; whole = k.whole; ends = is; spells = k.is })
      by_end None is e2 more =
          let m = mapped (rest_in s.value) (λ (q : List Asked × List Token). (s.value.0 ∷ q.0, q.1)) r e2 in
          let b = stepped (behind_space s.value.1) (λ (t : List Token). keys_in read closed most t) m.value m.was in
          let j = more b.value m.value b.gives in
          subst (λ q. SpelledKeys P closed q tokens) m.is
          (record {
            inside = k.here ++ Space ∷ j.inside;
            tail = j.tail;
            whole = k.whole ∙ ap (λ l. k.here ++ l) (space_sound s.value.1 b.value b.was ∙ ap (λ l. Space ∷ l) j.whole) ∙ sym (append_assoc k.here (Space ∷ j.inside) j.tail);
            ends = j.ends;
            spells = joined s.value.0 m.value.0 k.here j.inside k.is j.spells;
          })

  listed_sound : Sound read P → (tokens : List Token) (r : Asked × List Token) → listed_in read tokens ≡ Some r → Spelled (SpellsListed P) r (Open ∷ tokens)
  listed_sound sound tokens r e =
      let m = mapped (keys_in read true (length tokens) tokens) (λ (q : List Asked × List Token). (all_of q.0, q.1)) r e in
      let k = keys_sound sound true (length tokens) tokens m.value m.was in
      subst (λ q. Spelled (SpellsListed P) q (Open ∷ tokens)) m.is
      (record {
        here = Open ∷ k.inside ++ Close ∷ [];
        whole = ap (λ l. Open ∷ l) (k.whole ∙ ap (λ l. k.inside ++ l) (end_close k.tail m.value.1 k.ends) ∙ sym (append_assoc k.inside (Close ∷ []) m.value.1));
        is = record { keys = m.value.0; inside = k.inside; whole = refl; spells = k.spells; asks = refl };
      })

  pub keys_complete : Complete read P → (closed : Bool) (keys : List Asked) (inside tail rest : List Token) (most : ℕ) → Spaced P keys inside → length keys ≤ most → at_end closed tail ≡ Some rest
      → keys_in read closed most (inside ++ tail) ≡ Some (keys, rest)
  keys_complete complete closed [] inside tail rest most spaced few ends = absurd spaced
  keys_complete complete closed (x ∷ keys) inside tail rest zero spaced few ends = absurd (omega (arith, few))
  keys_complete complete closed (x ∷ []) inside tail rest (suc most) one few ends =
      rw (complete x inside tail one, ends) refl
  keys_complete complete closed (x ∷ y ∷ keys) inside tail rest (suc most) (first, held, whole, one, spaced) few ends =
      let more = keys_complete complete closed (y ∷ keys) held tail rest most spaced (omega (arith, few)) ends in
      ap (λ (l : List Token). keys_in read closed (suc most) (l ++ tail)) whole
      ∙ ap (keys_in read closed (suc most)) (append_assoc first (Space ∷ held) tail)
      ∙ rw (complete x first (Space ∷ held ++ tail) one, end_space closed (held ++ tail), more) refl

  pub spaced_size : HasToken P → (keys : List Asked) (inside : List Token) → Spaced P keys inside → length keys ≤ length inside
  spaced_size has [] inside spaced = absurd spaced
  spaced_size has (x ∷ []) inside one = let n = has x inside one in omega (arith, n)
  spaced_size has (x ∷ y ∷ keys) inside (first, held, whole, one, spaced) =
      let n = has x first one in
      let m = spaced_size has (y ∷ keys) held spaced in
      let size : length inside ≡ length first + length (Space ∷ held) = ap length whole ∙ length-append first (Space ∷ held) in
      omega (arith, n, m, size)

-- a key that holds others, or none
abbrev pub SpellsOpened : (Asked → List Token → Type 0) → Asked → List Token → Type 0
SpellsOpened P key tokens = SpellsLeaf key tokens ⊎ SpellsPlaces key tokens ⊎ SpellsNot P key tokens ⊎ SpellsOr P key tokens ⊎ SpellsListed P key tokens

spelled_as : (P Q : Asked → List Token → Type 0) → ((key : Asked) (here : List Token) → P key here → Q key here) → (r : Asked × List Token) (tokens : List Token) → Spelled P r tokens → Spelled Q r tokens
spelled_as P Q turn r tokens s = record { here = s.here; whole = s.whole; is = turn r.0 s.here s.is }

module _ (laws : SetLaws) (read : List Token → Found) (P : Asked → List Token → Type 0) where
  leaf_held : (w : KeyWord) (text : List ℕ) (tokens : List Token) (r : Asked × List Token) → key_word text ≡ Some w → leaf_in w tokens ≡ Some r → Spelled (SpellsOpened P) r (Word text ∷ tokens)
  leaf_held w text tokens r is e =
      let s = leaf_sound laws w tokens r e in
      record {
        here = Word text ∷ s.here;
        whole = ap (λ l. Word text ∷ l) s.whole;
        is = inl (record { text = text; known = w; arguments = s.here; whole = refl; is = is; asks = s.is });
      }

  by_word : Sound read P → (text : List ℕ) (w : KeyWord) (tokens : List Token) (r : Asked × List Token) → key_word text ≡ Some w → key_by read w tokens ≡ Some r → Spelled (SpellsOpened P) r (Word text ∷ tokens)
  by_word sound text word.Not tokens r is e = spelled_as (SpellsNot P) (SpellsOpened P) (λ key here n. inr (inr (inl n))) r (Word text ∷ tokens) (not_sound read P sound text tokens r is e)
  by_word sound text word.Or tokens r is e = spelled_as (SpellsOr P) (SpellsOpened P) (λ key here n. inr (inr (inr (inl n)))) r (Word text ∷ tokens) (or_sound read P sound text tokens r is e)
  by_word sound text (word.Is s) tokens r is e = leaf_held (word.Is s) text tokens r is e
  by_word sound text (word.IsNot s) tokens r is e = leaf_held (word.IsNot s) text tokens r is e
  by_word sound text (word.In p) tokens r is e = leaf_held (word.In p) text tokens r is e
  by_word sound text (word.Came w) tokens r is e = leaf_held (word.Came w) text tokens r is e
  by_word sound text word.Larger tokens r is e = leaf_held word.Larger text tokens r is e
  by_word sound text word.Smaller tokens r is e = leaf_held word.Smaller text tokens r is e
  by_word sound text word.Header tokens r is e = leaf_held word.Header text tokens r is e
  by_word sound text word.Keyword tokens r is e = leaf_held word.Keyword text tokens r is e
  by_word sound text word.Unkeyword tokens r is e = leaf_held word.Unkeyword text tokens r is e
  by_word sound text word.Uid tokens r is e = leaf_held word.Uid text tokens r is e

  by_known : Sound read P → (text : List ℕ) (o : Option KeyWord) (tokens : List Token) (r : Asked × List Token) → key_word text ≡ o → known_by read text o tokens ≡ Some r → Spelled (SpellsOpened P) r (Word text ∷ tokens)
  by_known sound text (Some w) tokens r is e = by_word sound text w tokens r is e
  by_known sound text None tokens r is e =
      let m = mapped (places_in text) (λ (key : Asked). (key, tokens)) r e in
      let u = mapped (set_in text) (λ (set : List SetRange). Places (map range_of set)) m.value m.was in
      subst (λ q. Spelled (SpellsOpened P) q (Word text ∷ tokens)) m.is
      (record {
        here = Word text ∷ [];
        whole = refl;
        is = inr (inl (record { text = text; set = u.value; whole = refl; no_word = is; is = laws.sound text u.value u.was; asks = sym u.is }));
      })

  opened_sound : Sound read P → Sound (opened_in read) (SpellsOpened P)
  opened_sound sound [] r e = absurd (let wrong : None ≡ Some r = e in cc)
  opened_sound sound (Open ∷ tokens) r e = spelled_as (SpellsListed P) (SpellsOpened P) (λ key here n. inr (inr (inr (inr n)))) r (Open ∷ tokens) (listed_sound read P sound tokens r e)
  opened_sound sound (Word text ∷ tokens) r e = by_known sound text (key_word text) tokens r refl e
  opened_sound sound (Space ∷ tokens) r e = absurd (let wrong : None ≡ Some r = e in cc)
  opened_sound sound (Close ∷ tokens) r e = absurd (let wrong : None ≡ Some r = e in cc)
  opened_sound sound (Quoted text ∷ tokens) r e = absurd (let wrong : None ≡ Some r = e in cc)
  opened_sound sound (Literal text ∷ tokens) r e = absurd (let wrong : None ≡ Some r = e in cc)

  -- a key that holds no other is read by its word alone
  alone : (w : KeyWord) (key : Asked) (here tokens : List Token) → SpellsArgument w key here → key_by read w tokens ≡ leaf_in w tokens
  alone word.Not key here tokens s = absurd s
  alone word.Or key here tokens s = absurd s
  alone (word.Is s) key here tokens a = refl
  alone (word.IsNot s) key here tokens a = refl
  alone (word.In p) key here tokens a = refl
  alone (word.Came w) key here tokens a = refl
  alone word.Larger key here tokens a = refl
  alone word.Smaller key here tokens a = refl
  alone word.Header key here tokens a = refl
  alone word.Keyword key here tokens a = refl
  alone word.Unkeyword key here tokens a = refl
  alone word.Uid key here tokens a = refl

  opened_complete : Complete read P → HasToken P → Complete (opened_in read) (SpellsOpened P)
  opened_complete complete has key here rest (inl s) =
      ap (λ (h : List Token). opened_in read (h ++ rest)) s.whole
      ∙ ap (λ o. known_by read s.text o (s.arguments ++ rest)) s.is
      ∙ alone s.known key s.arguments (s.arguments ++ rest) s.asks
      ∙ leaf_complete laws s.known key s.arguments rest s.asks
  opened_complete complete has key here rest (inr (inl s)) =
      ap (λ (h : List Token). opened_in read (h ++ rest)) s.whole
      ∙ ap (λ o. known_by read s.text o rest) s.no_word
      ∙ ap (λ (o : Option (List SetRange)). option_map (λ (k : Asked). (k, rest)) (option_map (λ (set : List SetRange). Places (map range_of set)) o)) (laws.complete s.text s.set s.is)
      ∙ ap (λ (k : Asked). Some (k, rest)) (sym s.asks)
  opened_complete complete has key here rest (inr (inr (inl s))) =
      ap (λ (h : List Token). opened_in read (h ++ rest)) s.whole
      ∙ ap (λ o. known_by read s.text o (Space ∷ s.held ++ rest)) s.is
      ∙ ap (option_map (λ (v : Asked × List Token). (Not v.0, v.1))) (complete s.inner s.held rest s.spells)
      ∙ ap (λ (k : Asked). Some (k, rest)) (sym s.asks)
  opened_complete complete has key here rest (inr (inr (inr (inl s)))) =
      ap (λ (h : List Token). opened_in read (h ++ rest)) s.whole
      ∙ ap (λ (l : List Token). opened_in read (Word s.text ∷ Space ∷ l)) (append_assoc s.first (Space ∷ s.second) rest)
      ∙ ap (λ o. known_by read s.text o (Space ∷ (s.first ++ (Space ∷ (s.second ++ rest))))) s.is
      ∙ ap (option_and_then (λ (a : Asked × List Token). option_map (λ (b : Asked × List Token). (Or a.0 b.0, b.1)) (next_key read a.1))) (complete s.one s.first (Space ∷ (s.second ++ rest)) s.spells_one)
      ∙ ap (option_map (λ (b : Asked × List Token). (Or s.one b.0, b.1))) (complete s.two s.second rest s.spells_two)
      ∙ ap (λ (k : Asked). Some (k, rest)) (sym s.asks)
  opened_complete complete has key here rest (inr (inr (inr (inr s)))) =
      let size = spaced_size read P has s.keys s.inside s.spells in
      let all : length (s.inside ++ Close ∷ rest) ≡ length s.inside + length (Close ∷ rest) = length-append s.inside (Close ∷ rest) in
      let fits : length s.keys ≤ length (s.inside ++ Close ∷ rest) = omega (arith, size, all) in
      ap (λ (h : List Token). opened_in read (h ++ rest)) s.whole
      ∙ ap (λ (l : List Token). opened_in read (Open ∷ l)) (append_assoc s.inside (Close ∷ []) rest)
      ∙ ap (option_map (λ (q : List Asked × List Token). (all_of q.0, q.1))) (keys_complete read P complete true s.keys s.inside (Close ∷ rest) rest (length (s.inside ++ Close ∷ rest)) s.spells fits refl)
      ∙ ap (λ (k : Asked). Some (k, rest)) (sym s.asks)

  opened_has : HasToken (SpellsOpened P)
  opened_has key here (inl s) = subst (λ (h : List Token). 0 < length h) (sym s.whole) (omega arith)
  opened_has key here (inr (inl s)) = subst (λ (h : List Token). 0 < length h) (sym s.whole) (omega arith)
  opened_has key here (inr (inr (inl s))) = subst (λ (h : List Token). 0 < length h) (sym s.whole) (omega arith)
  opened_has key here (inr (inr (inr (inl s)))) = subst (λ (h : List Token). 0 < length h) (sym s.whole) (omega arith)
  opened_has key here (inr (inr (inr (inr s)))) = subst (λ (h : List Token). 0 < length h) (sym s.whole) (omega arith)

-- keys of every depth
module _ (laws : SetLaws) where
  pub key_sound : (depth : ℕ) → Sound (key_in depth) (SpellsKey depth)
  unfolding key_in
  key_sound zero tokens r e = absurd (let wrong : None ≡ Some r = e in cc)
  key_sound (suc depth) tokens r e = opened_sound laws (key_in depth) (SpellsKey depth) (key_sound depth) tokens r e

  pub key_has : (depth : ℕ) → HasToken (SpellsKey depth)
  key_has zero key here s = absurd s
  key_has (suc depth) key here s = opened_has laws (key_in depth) (SpellsKey depth) key here s

  pub key_complete : (depth : ℕ) → Complete (key_in depth) (SpellsKey depth)
  unfolding key_in
  key_complete zero key here rest s = absurd s
  key_complete (suc depth) key here rest s = opened_complete laws (key_in depth) (SpellsKey depth) (key_complete depth) (key_has depth) key here rest s
