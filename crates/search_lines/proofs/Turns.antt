-- One key of several is read.
use Rattle.std.proofs.Common.{◌≡◌, ℕ, zero, suc, ◌-◌, ◌<◌, Bool, List, [], ◌∷◌, ◌++◌, Option, None, Some, option_map, refl, ap, sym, ◌∙◌, arith}
use Rattle.std.proofs.lemmas.List.{append_assoc}
use Rattle.imap_tokens.specs.declared.tokens.Token.{Token}
use Rattle.search_verb.specs.Asked.{Asked}
use Rattle.search_lines.specs.Keys.{at_end, with_key, keys_in, opened_in, key_in}
use Rattle.imap_tokens.specs.Arguments.{behind_space}

-- keys, and those behind them
abbrev pub onto : List Asked → Option (List Asked × List Token) → Option (List Asked × List Token)
onto keys found = option_map (λ (r : List Asked × List Token). (keys ++ r.0, r.1)) found

module _ (depth : ℕ) (closed : Bool) (keys : List Asked) (tokens : List Token) where
  -- there is no key
  pub no_key : (most : ℕ) → 0 < most → key_in depth tokens ≡ None → onto keys (keys_in (key_in depth) closed most tokens) ≡ None
  no_key zero some is = absurd (omega (arith, some))
  no_key (suc most) some is = rw is refl

  pub last_key : (most : ℕ) (key : Asked) (behind rest : List Token) → 0 < most → key_in depth tokens ≡ Some (key, behind) → at_end closed behind ≡ Some rest
      → onto keys (keys_in (key_in depth) closed most tokens) ≡ Some (keys ++ key ∷ [], rest)
  last_key zero key behind rest some is ends = absurd (omega (arith, some))
  last_key (suc most) key behind rest some is ends = rw (is, ends) refl

  -- neither the end nor a space stands behind it
  pub stuck_key : (most : ℕ) (key : Asked) (behind : List Token) → 0 < most → key_in depth tokens ≡ Some (key, behind) → at_end closed behind ≡ None → behind_space behind ≡ None
      → onto keys (keys_in (key_in depth) closed most tokens) ≡ None
  stuck_key zero key behind some is ends space = absurd (omega (arith, some))
  stuck_key (suc most) key behind some is ends space = rw (is, ends, space) refl

  onto_both : (key : Asked) (o : Option (List Asked × List Token)) → onto keys (with_key key None o) ≡ onto (keys ++ key ∷ []) o
  onto_both key None = refl
  onto_both key (Some r) = ap (λ (l : List Asked). Some (l, r.1)) (sym (append_assoc keys (key ∷ []) r.0))

  -- more follow it
  pub next_key : (most : ℕ) (key : Asked) (behind rest : List Token) → 0 < most → key_in depth tokens ≡ Some (key, behind) → at_end closed behind ≡ None → behind_space behind ≡ Some rest
      → onto keys (keys_in (key_in depth) closed most tokens) ≡ onto (keys ++ key ∷ []) (keys_in (key_in depth) closed (most - 1) rest)
  next_key zero key behind rest some is ends space = absurd (omega (arith, some))
  next_key (suc most) key behind rest some is ends space =
      let less : suc most - 1 ≡ most = omega arith in
      rw (is, ends, space) (onto_both key (keys_in (key_in depth) closed most rest) ∙ ap (λ (n : ℕ). onto (keys ++ key ∷ []) (keys_in (key_in depth) closed n rest)) (sym less))

  -- there may be no more
  pub too_many : (most : ℕ) → most ≡ 0 → onto keys (keys_in (key_in depth) closed most tokens) ≡ None
  too_many most none = rw none refl

-- no key may be held
pub none_held : (depth : ℕ) (tokens : List Token) → depth ≡ 0 → key_in depth tokens ≡ None
unfolding key_in
none_held depth tokens none = rw none refl

-- a key, by those that it holds
pub key_held : (depth : ℕ) (tokens : List Token) → 0 < depth → key_in depth tokens ≡ opened_in (key_in (depth - 1)) tokens
unfolding key_in
key_held zero tokens some = absurd (omega (arith, some))
key_held (suc depth) tokens some = let less : suc depth - 1 ≡ depth = omega arith in ap (λ (n : ℕ). opened_in (key_in n) tokens) (sym less)
