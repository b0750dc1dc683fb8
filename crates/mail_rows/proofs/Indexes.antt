-- Entries that are looked up by key.
use Rattle.std.proofs.Common.{◌≡◌, ◌∷◌, ◌++◌, ◌+◌, ◌<◌, ℕ, Bool, cond, true, false, not, refl, sym, ◌&&◌, ◌∙◌, ap, ap₂, List, [], Option, Some, None, is_some, filter, take, length, get_or, eqb-true, true≢false}
use Rattle.std.specs.Cmp.{first_so, second_so}
use Rattle.std.specs.Option.{option_or}
use Rattle.std.specs.Map.{lookup}
use Rattle.std.specs.BTreeMap.{is_at}
use Rattle.std.proofs.lemmas.List.{take_more, append-nil}
use Rattle.std.proofs.lemmas.List.Folds.{find-append}
use Rattle.std.proofs.lemmas.List.Elements.{filter-append}
use Rattle.undo_base.specs.declared.keys.Key.{Key}
use Rattle.undo_base.specs.contracts.keys.KeyOrd.TheImpl as order
use Rattle.verb_core.specs.declared.mailbox.Entry.{Entry}
use Rattle.verb_core.specs.Mailboxes.{is_among, same_key, entry_of}
use Rattle.mail_rows.specs.Indexed.{found_at, indexed, no_deleted}
use Rattle.mail_rows.proofs.Keys.{at_key, at_keys}

-- keys that pass the test are one
pub one_key : (a b : Key) → same_key a b ≡ true → a ≡ b
one_key a b h = λ j. record { item = eqb-true a.item b.item (first_so _ _ h) j; index = eqb-true a.index b.index (second_so _ _ h) j }

-- a map finds what stands beside the key
pub finds : (q : Key) (es : List (Key × Entry)) → lookup (is_at (order.cmp-value.it q)) es ≡ found_at es q
finds q [] = refl
finds q (e ∷ es) = ap₂ (λ b o. cond b (Some e.1) o) (at_key q e.0) (finds q es)

none : (o : Option Entry) → false ≡ is_some o → o ≡ None
none None h = refl
none (Some e) h = cc

or_none : (o : Option Entry) → option_or o None ≡ o
or_none None = refl
or_none (Some e) = refl

-- ---- one entry more

pub noted : (e : Entry) (q : Key) (old new : List (Key × Entry)) (asked : Bool) → true ≡ asked → false ≡ is_some (lookup (is_at (order.cmp-value.it e.key)) old)
    → lookup (is_at (order.cmp-value.it q)) new ≡ cond (is_at (order.cmp-value.it e.key) q) (Some e) (lookup (is_at (order.cmp-value.it q)) old)
    → found_at new q ≡ option_or (found_at old q) (cond (asked && same_key q e.key) (Some e) None)
noted e q old new asked is absent h =
    let here : found_at old e.key ≡ None = sym (finds e.key old) ∙ none (lookup (is_at (order.cmp-value.it e.key)) old) absent in
    sym (finds q new) ∙ h ∙ ap₂ (λ b o. cond b (Some e) o) (at_keys e.key q) (finds q old)
    ∙ elim (same_key q e.key) as (λ b. same_key q e.key ≡ b → cond b (Some e) (found_at old q) ≡ option_or (found_at old q) (cond (true && b) (Some e) None)) [
      | true ↦ λ t. ap (λ (o : Option Entry). option_or o (Some e)) (sym here ∙ ap (found_at old) (sym (one_key q e.key t)))
      | false ↦ λ t. sym (or_none (found_at old q))
    ] refl
    ∙ ap (λ b. option_or (found_at old q) (cond (b && same_key q e.key) (Some e) None)) is

module _ (keys : List Key) where
  more : (es : List Entry) (e : Entry) (q : Key) → option_or (indexed keys es q) (cond (is_among keys e.key && same_key q e.key) (Some e) None) ≡ indexed keys (es ++ e ∷ []) q
  more es e q = elim (is_among keys q) as (λ a. is_among keys q ≡ a → option_or (cond a (entry_of es q) None) (cond (is_among keys e.key && same_key q e.key) (Some e) None) ≡ cond a (entry_of (es ++ e ∷ []) q) None) [
    | true ↦ λ a. ap (option_or (entry_of es q)) (asked (same_key q e.key) (λ t. ap (is_among keys) (sym (one_key q e.key t)) ∙ a)) ∙ sym (find-append (λ x. same_key q x.key) es (e ∷ []))
    | false ↦ λ a. not_asked (same_key q e.key) (is_among keys e.key) (λ t. ap (is_among keys) (sym (one_key q e.key t)) ∙ a)
  ] refl
    where
      asked : (b : Bool) → (b ≡ true → is_among keys e.key ≡ true) → cond (is_among keys e.key && b) (Some e) None ≡ cond b (Some e) None
      asked true h = rw (h refl) refl
      asked false h = elim (is_among keys e.key) as (λ a. cond (a && false) (Some e) None ≡ None) [ true ↦ refl | false ↦ refl ]

      not_asked : (b a : Bool) → (b ≡ true → a ≡ false) → cond (a && b) (Some e) None ≡ None
      not_asked true true h = absurd (true≢false (h refl))
      not_asked true false h = refl
      not_asked false true h = refl
      not_asked false false h = refl

  stepped : (asked : List Key) (all : (k : Key) → is_among asked k ≡ is_among keys k) (es : List Entry) (e : Entry) (q : Key) (now before : Option Entry)
      → now ≡ option_or before (cond (is_among asked e.key && same_key q e.key) (Some e) None) → before ≡ indexed keys es q → now ≡ indexed keys (es ++ e ∷ []) q
  stepped asked all es e q now before h b = h ∙ ap₂ (λ (o : Option Entry) (a : Bool). option_or o (cond (a && same_key q e.key) (Some e) None)) b (all e.key) ∙ more es e q

  -- the step of a pass over all entries
  pub indexed_more : (asked : List Key) (all : (k : Key) → is_among asked k ≡ is_among keys k) (es : List Entry) (i : ℕ) (d : Entry) (q : Key) (now before : Option Entry) → i < length es
      → now ≡ option_or before (cond (is_among asked (get_or es i d).key && same_key q (get_or es i d).key) (Some (get_or es i d)) None) → before ≡ indexed keys (take i es) q → now ≡ indexed keys (take (i + 1) es) q
  indexed_more asked all es i d q now before lt h b =
      stepped asked all (take i es) (get_or es i d) q now before h b ∙ ap (λ (xs : List Entry). indexed keys xs q) (sym (take_more es i d lt))

  kept_take : (es : List Entry) (i : ℕ) (d : Entry) → i < length es → filter no_deleted (take (i + 1) es) ≡ filter no_deleted (take i es) ++ filter no_deleted (get_or es i d ∷ [])
  kept_take es i d lt = ap (filter no_deleted) (take_more es i d lt) ∙ filter-append no_deleted (take i es) (get_or es i d ∷ [])

  -- the steps of a pass over the entries without `\Deleted`
  pub kept_more : (asked : List Key) (all : (k : Key) → is_among asked k ≡ is_among keys k) (es : List Entry) (i : ℕ) (d : Entry) (q : Key) (now before : Option Entry) → i < length es → (get_or es i d).flags.deleted ≡ false
      → now ≡ option_or before (cond (is_among asked (get_or es i d).key && same_key q (get_or es i d).key) (Some (get_or es i d)) None) → before ≡ indexed keys (filter no_deleted (take i es)) q → now ≡ indexed keys (filter no_deleted (take (i + 1) es)) q
  kept_more asked all es i d q now before lt here h b =
      stepped asked all (filter no_deleted (take i es)) (get_or es i d) q now before h b
      ∙ ap (λ (xs : List Entry). indexed keys xs q) (ap (λ c. filter no_deleted (take i es) ++ cond (not c) (get_or es i d ∷ []) []) (sym here) ∙ sym (kept_take es i d lt))

  pub left_out : (es : List Entry) (i : ℕ) (d : Entry) (q : Key) (now : Option Entry) → i < length es → (get_or es i d).flags.deleted ≡ true
      → now ≡ indexed keys (filter no_deleted (take i es)) q → now ≡ indexed keys (filter no_deleted (take (i + 1) es)) q
  left_out es i d q now lt here h =
      h ∙ ap (λ (xs : List Entry). indexed keys xs q) (sym (append-nil (filter no_deleted (take i es))) ∙ ap (λ c. filter no_deleted (take i es) ++ cond (not c) (get_or es i d ∷ []) []) (sym here) ∙ sym (kept_take es i d lt))
