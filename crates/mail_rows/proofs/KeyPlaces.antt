-- Entries found by halves, where keys rise.
use Rattle.std.proofs.Common.{◌≡◌, ◌+◌, ◌<◌, ◌≤◌, ◌&&◌, ◌||◌, ◌++◌, ℕ, zero, suc, Bool, cond, true, false, List, [], ◌∷◌, length, get_or, Option, Some, None, Result, Err, find, refl, sym, ap, ◌∙◌, subst, arith, rules, true≢false, inl, inr, Ordering, Less, Equal, Greater, is_lt, slice_get, slice_set, option_map, unwrap_or}
use Rattle.std.specs.Cmp.{first_so, second_so}
use Rattle.std.specs.List.{list_any, AllByRecursion}
use Rattle.std.specs.List.Sorted.{IsBinarySearchResult, IsNonDecreasingBy, IsStrictlySortedBy}
use Rattle.std.specs.Ordering.{ordering_index, ordering_reverse}
use Rattle.std.proofs.lemmas.Bool.{cases_order}
use Rattle.std.proofs.lemmas.Cmp.{alike_right, tied_itself}
use Rattle.std.proofs.lemmas.List.{get_or_default}
use Rattle.std.proofs.lemmas.Map.Keys.{sorted_head}
use Rattle.undo_base.specs.declared.keys.Key.{Key}
use Rattle.undo_base.specs.declared.keys.Flags.{Flags}
use Rattle.undo_base.specs.declared.asks.How.{How}
use Rattle.verb_core.specs.declared.mailbox.Entry.{Entry}
use Rattle.verb_core.specs.KeyOrder.{key_cmp, is_above, keys_rise, keys_rise_from, last_key}
use Rattle.verb_core.specs.Mailboxes.{same_key, is_among, entry_of, changed}
use Rattle.verb_core.proofs.KeyOrders.{keys_total, exact_keys, keys_rise-append}
use Rattle.verb_core.proofs.Searched.{less_is, index_at_most}
use Rattle.mail_rows.specs.declared.change.FlagChange.{FlagChange}
use Rattle.mail_rows.specs.Indexed.{IsKeyPlace, beside_keys, found_at}
use Rattle.mail_rows.specs.Changes.{changes_from}
use Rattle.mail_rows.specs.Mail.{numbered, flags_set, all_flags_set}
use Rattle.mail_rows.proofs.Indexes.{one_key}
use Rattle.mail_rows.proofs.KeysSeen.{itself}

pub same_back : (a b : Key) → same_key a b ≡ same_key b a
same_back a b = both (same_key a b) (same_key b a) (λ h. ap (same_key b) (one_key a b h) ∙ itself b) (λ h. ap (same_key a) (one_key b a h) ∙ itself a)
  where
    both : (x y : Bool) → (x ≡ true → y ≡ true) → (y ≡ true → x ≡ true) → x ≡ y
    both true y h k = sym (h refl)
    both false true h k = k refl
    both false false h k = refl

-- a key is none below it, and none above it
pub apart_below : (a b : Key) → key_cmp a b ≡ Less → same_key a b ≡ false
apart_below a b less = elim (same_key a b) as (λ t. same_key a b ≡ t → t ≡ false) [
  | true ↦ λ t. let e : key_cmp a b ≡ Equal = subst (λ (k : Key). key_cmp a k ≡ Equal) (one_key a b t) (tied_itself keys_total a) in absurd (less_equal (sym less ∙ e))
  | false ↦ λ t. refl
] refl
  where
    less_equal : ◌≡◌ {A = Ordering} Less Equal → ⊥
    less_equal h = true≢false (ap is_lt h)

pub apart_above : (a b : Key) → key_cmp b a ≡ Less → same_key a b ≡ false
apart_above a b less = elim (same_key a b) as (λ t. same_key a b ≡ t → t ≡ false) [
  | true ↦ λ t. sym t ∙ ap (λ (k : Key). same_key k b) (one_key a b t) ∙ apart_below b b (subst (λ (k : Key). key_cmp b k ≡ Less) (one_key a b t) less)
  | false ↦ λ t. refl
] refl

all_above : (key : Key) (ks : List Key) → AllByRecursion (λ (q : Key). key_cmp key q ≡ Less) ks → (q : Key) → is_among ks q ≡ true → key_cmp key q ≡ Less
all_above key [] less q is = absurd (true≢false (sym is))
all_above key (k ∷ ks) less q is = go (same_key q k) refl is (all_above key ks less.1 q)
  where
    go : (b : Bool) → same_key q k ≡ b → (b || is_among ks q) ≡ true → (is_among ks q ≡ true → key_cmp key q ≡ Less) → key_cmp key q ≡ Less
    go true same h more = subst (λ (x : Key). key_cmp key x ≡ Less) (sym (one_key q k same)) less.0
    go false same h more = more h

-- ---- rising keys, by place

pub above_low : (low : Key) (es : List Entry) → keys_rise_from (Some low) es ≡ true → (j : ℕ) (d : Entry) → j < length es → key_cmp low (get_or es j d).key ≡ Less
above_low low [] rise j d within = absurd (omega arith)
above_low low (e ∷ es) rise zero d within = less_is (key_cmp low e.key) (first_so _ _ rise)
above_low low (e ∷ es) rise (suc j) d within =
    keys_total.trans low e.key (get_or es j d).key (less_is (key_cmp low e.key) (first_so _ _ rise)) (above_low e.key es (second_so (is_lt (key_cmp low e.key)) _ rise) j d (omega arith))

by_places : (low : Option Key) (es : List Entry) → keys_rise_from low es ≡ true → (i j : ℕ) (d : Entry) → i < j → j < length es → key_cmp (get_or es i d).key (get_or es j d).key ≡ Less
by_places low [] rise i j d lt within = absurd (omega arith)
by_places low (x ∷ es) rise i zero d lt within = absurd (omega arith)
by_places low (x ∷ es) rise zero (suc j) d lt within = above_low x.key es (second_so (is_above low x.key) _ rise) j d (omega arith)
by_places low (x ∷ es) rise (suc i) (suc j) d lt within = by_places (Some x.key) es (second_so (is_above low x.key) _ rise) i j d (omega arith) (omega arith)

-- a key below another one compares no higher with a third
compared : (a b k : Key) → key_cmp a b ≡ Less → ordering_index (key_cmp a k) ≤ ordering_index (key_cmp b k)
compared a b k less =
    elim (key_cmp b k) as (λ o. key_cmp b k ≡ o → ordering_index (key_cmp a k) ≤ ordering_index o) [
      | Less ↦ λ e. let le : key_cmp a k ≡ Less = keys_total.trans a b k less e in subst (λ o. ordering_index o ≤ ordering_index Less) (sym le) (search rules)
      | Equal ↦ λ e. let le : key_cmp a k ≡ Less = sym (alike_right keys_total b k a e) ∙ less in subst (λ o. ordering_index o ≤ ordering_index Equal) (sym le) (search rules)
      | Greater ↦ λ e. index_at_most (key_cmp a k)
    ] refl

pub any_none : (p : Entry → Bool) (es : List Entry) → ((j : ℕ) (d : Entry) → j < length es → p (get_or es j d) ≡ false) → list_any p es ≡ false
any_none p [] none = refl
any_none p (e ∷ es) none = rw (none 0 e (omega arith)) (any_none p es (λ j d lt. none (suc j) d (omega arith)))

module _ (es : List Entry) (rise : keys_rise es ≡ true) (key : Key) where
  keys_compared : IsNonDecreasingBy (λ (e : Entry). ordering_index (key_cmp e.key key)) es
  keys_compared i j d le within =
      elim (cases_order i j) [
        | inr (inl lt) ↦ compared (get_or es i d).key (get_or es j d).key key (by_places None es rise i j d lt within)
        | inl same ↦ subst (λ (k : ℕ). ordering_index (key_cmp (get_or es k d).key key) ≤ ordering_index (key_cmp (get_or es j d).key key)) (sym same) (search rules)
        | inr (inr gt) ↦ absurd (omega arith)
      ]

  -- a binary search ends at the entry of the key
  pub key_found : (at : ℕ) → at < length es → ((d : Entry) → key_cmp (get_or es at d).key key ≡ Equal) → IsKeyPlace key es (Some at)
  key_found at within equal = (within, λ d. exact_keys (get_or es at d).key key (equal d))

  -- or there is none
  pub key_missing : (at : ℕ) → IsBinarySearchResult (λ (e : Entry). key_cmp e.key key) es (let r : Result ℕ ℕ = Err at in r) → IsKeyPlace key es None
  key_missing at parted =
      any_none (λ (e : Entry). same_key key e.key) es (λ j d within. elim (cases_order j at) [
        | inr (inl lt) ↦ apart_above key (get_or es j d).key ((parted keys_compared).0 j d (omega arith) lt)
        | inl same ↦ later j d ((parted keys_compared).1 j d (omega arith) within)
        | inr (inr gt) ↦ later j d ((parted keys_compared).1 j d (omega arith) within)
      ])
    where
      later : (j : ℕ) (d : Entry) → key_cmp (get_or es j d).key key ≡ Greater → same_key key (get_or es j d).key ≡ false
      later j d more = apart_below key (get_or es j d).key (keys_total.antisymm key (get_or es j d).key ∙ ap ordering_reverse more)

-- an entry that has the key stands where the key does
pub key_at_place : (es : List Entry) (key : Key) (at : ℕ) (d : Entry) → at < length es → same_key key (get_or es at d).key ≡ true → IsKeyPlace key es (Some at)
key_at_place es key at d within same =
    (within, λ x. ap (λ (e : Entry). e.key) (get_or_default es at x d within) ∙ sym (one_key key (get_or es at d).key same))

-- ---- the entry at the place

none_found : {X : Type 0} (p : X → Bool) (xs : List X) → list_any p xs ≡ false → find p xs ≡ None
none_found p [] h = refl
none_found p (x ∷ xs) h = go (p x) h (none_found p xs)
  where
    go : (b : Bool) → (b || list_any p xs) ≡ false → (list_any p xs ≡ false → find p xs ≡ None) → cond b (Some x) (find p xs) ≡ None
    go true none more = absurd (true≢false none)
    go false none more = more none

pub entry_missing : (es : List Entry) (key : Key) → IsKeyPlace key es None → None ≡ entry_of es key
entry_missing es key none = sym (none_found (λ (e : Entry). same_key key e.key) es none)

found_at_place : (low : Option Key) (es : List Entry) (key : Key) (at : ℕ) (d : Entry) → keys_rise_from low es ≡ true → at < length es → ((x : Entry) → (get_or es at x).key ≡ key) → entry_of es key ≡ Some (get_or es at d)
found_at_place low [] key at d rise within is = absurd (omega arith)
found_at_place low (e ∷ es) key zero d rise within is =
    ap (λ b. cond b (Some e) (entry_of es key)) (ap (λ (k : Key). same_key key k) (is e) ∙ itself key)
found_at_place low (e ∷ es) key (suc at) d rise within is =
    let rest : keys_rise_from (Some e.key) es ≡ true = second_so (is_above low e.key) _ rise in
    let below : key_cmp e.key key ≡ Less = subst (λ (k : Key). key_cmp e.key k ≡ Less) (is e) (above_low e.key es rest at e (omega arith)) in
    ap (λ b. cond b (Some e) (entry_of es key)) (apart_above key e.key below)
    ∙ found_at_place (Some e.key) es key at d rest (omega arith) is

pub entry_found : (es : List Entry) (key : Key) (at : ℕ) (d : Entry) → keys_rise es ≡ true → IsKeyPlace key es (Some at) → Some (get_or es at d) ≡ entry_of es key
entry_found es key at d rise is = sym (found_at_place None es key at d rise is.0 is.1)

-- entries beside their keys are found by them
pub beside_found : (es : List Entry) (key : Key) → found_at (beside_keys es) key ≡ entry_of es key
beside_found [] key = refl
beside_found (e ∷ es) key = ap (λ (o : Option Entry). cond (same_key key e.key) (Some e) o) (beside_found es key)

-- ---- changes

pub or_false : (b : Bool) → (b || false) ≡ b
or_false true = refl
or_false false = refl

module _ (how : How) (given : Flags) where
  abbrev change : ℕ → Entry → FlagChange
  change n e = record { place = n; flags = changed how given e.flags }

  -- no entry of the key, no change
  pub changes_missing : (n : ℕ) (key : Key) (es : List Entry) → list_any (λ (e : Entry). same_key key e.key) es ≡ false → changes_from n (key ∷ []) how given es ≡ []
  changes_missing n key [] none = refl
  changes_missing n key (e ∷ es) none = go (same_key key e.key) refl none (changes_missing (n + 1) key es)
    where
      go : (b : Bool) → same_key key e.key ≡ b → (b || list_any (λ (x : Entry). same_key key x.key) es) ≡ false
          → (list_any (λ (x : Entry). same_key key x.key) es ≡ false → changes_from (n + 1) (key ∷ []) how given es ≡ [])
          → cond (same_key e.key key || false) (change n e ∷ changes_from (n + 1) (key ∷ []) how given es) (changes_from (n + 1) (key ∷ []) how given es) ≡ []
      go true is h more = absurd (true≢false h)
      go false is h more =
          ap (λ b. cond b (change n e ∷ changes_from (n + 1) (key ∷ []) how given es) (changes_from (n + 1) (key ∷ []) how given es)) (or_false (same_key e.key key) ∙ same_back e.key key ∙ is)
          ∙ more h

  -- all keys lie above
  changes_above : (n : ℕ) (key low : Key) (es : List Entry) → key_cmp key low ≡ Less → keys_rise_from (Some low) es ≡ true → changes_from n (key ∷ []) how given es ≡ []
  changes_above n key low es less rise =
      changes_missing n key es (any_none (λ (e : Entry). same_key key e.key) es (λ j d within. apart_below key (get_or es j d).key (keys_total.trans key low (get_or es j d).key less (above_low low es rise j d within))))

  -- the entry of the key, and its change
  pub changes_at : (low : Option Key) (n : ℕ) (key : Key) (es : List Entry) (at : ℕ) (d : Entry) → keys_rise_from low es ≡ true → at < length es → ((x : Entry) → (get_or es at x).key ≡ key)
      → changes_from n (key ∷ []) how given es ≡ change (n + at) (get_or es at d) ∷ []
  changes_at low n key [] at d rise within is = absurd (omega arith)
  changes_at low n key (e ∷ es) zero d rise within is =
      let rest : keys_rise_from (Some e.key) es ≡ true = second_so (is_above low e.key) _ rise in
      let here : (same_key e.key key || false) ≡ true = or_false (same_key e.key key) ∙ ap (λ (k : Key). same_key e.key k) (sym (is e)) ∙ itself e.key in
      let none : changes_from (n + 1) (key ∷ []) how given es ≡ [] =
      changes_missing (n + 1) key es (any_none (λ (x : Entry). same_key key x.key) es (λ j x inside. subst (λ (k : Key). same_key k (get_or es j x).key ≡ false) (is e) (apart_below e.key (get_or es j x).key (above_low e.key es rest j x inside)))) in
      let m : n ≡ n + zero = omega arith in
      ap (λ b. cond b (change n e ∷ changes_from (n + 1) (key ∷ []) how given es) (changes_from (n + 1) (key ∷ []) how given es)) here
      ∙ (λ j. change (m j) e ∷ none j)
  changes_at low n key (e ∷ es) (suc at) d rise within is =
      let rest : keys_rise_from (Some e.key) es ≡ true = second_so (is_above low e.key) _ rise in
      let below : key_cmp e.key key ≡ Less = subst (λ (k : Key). key_cmp e.key k ≡ Less) (is e) (above_low e.key es rest at e (omega arith)) in
      let m : (n + 1) + at ≡ n + suc at = omega arith in
      ap (λ b. cond b (change n e ∷ changes_from (n + 1) (key ∷ []) how given es) (changes_from (n + 1) (key ∷ []) how given es)) (or_false (same_key e.key key) ∙ apart_below e.key key below)
      ∙ changes_at (Some e.key) (n + 1) key es at d rest (omega arith) is
      ∙ (λ j. change (m j) (get_or es at d) ∷ [])

  pub changes_read : (key : Key) (es : List Entry) (at : ℕ) (d : Entry) (flags : Flags) → keys_rise es ≡ true → IsKeyPlace key es (Some at) → flags ≡ changed how given (get_or es at d).flags
      → ◌≡◌ {A = List FlagChange} (record { place = at; flags = flags } ∷ []) (changes_from 0 (key ∷ []) how given es)
  changes_read key es at d flags rise is new =
      let m : at ≡ 0 + at = omega arith in
      (λ j. record { place = m j; flags = new j } ∷ [])
      ∙ sym (changes_at None 0 key es at d rise is.0 is.1)

  -- the changes of the first key come before those of the keys above it
  module _ (key : Key) (keys : List Key) (above : (q : Key) → is_among keys q ≡ true → key_cmp key q ≡ Less) where
    itself_apart : is_among keys key ≡ false
    itself_apart = elim (is_among keys key) as (λ b. is_among keys key ≡ b → b ≡ false) [
      | true ↦ λ is. absurd (true≢false (sym (itself key) ∙ apart_below key key (above key is)))
      | false ↦ λ is. refl
    ] refl

    together : (n : ℕ) (e : Entry) (es : List Entry) (a b : Bool) → same_key e.key key ≡ a → is_among keys e.key ≡ b → keys_rise_from (Some e.key) es ≡ true
        → changes_from (n + 1) (key ∷ keys) how given es ≡ changes_from (n + 1) (key ∷ []) how given es ++ changes_from (n + 1) keys how given es
        → cond (a || b) (change n e ∷ changes_from (n + 1) (key ∷ keys) how given es) (changes_from (n + 1) (key ∷ keys) how given es)
        ≡ cond (a || false) (change n e ∷ changes_from (n + 1) (key ∷ []) how given es) (changes_from (n + 1) (key ∷ []) how given es) ++ cond b (change n e ∷ changes_from (n + 1) keys how given es) (changes_from (n + 1) keys how given es)
    together n e es true true a b rise later = absurd (true≢false (sym b ∙ ap (is_among keys) (one_key e.key key a) ∙ itself_apart))
    together n e es true false a b rise later = ap (λ (cs : List FlagChange). change n e ∷ cs) later
    together n e es false true a b rise later =
        let none : changes_from (n + 1) (key ∷ []) how given es ≡ [] = changes_above (n + 1) key e.key es (above e.key b) rise in
        ap (λ (cs : List FlagChange). change n e ∷ cs) (later ∙ ap (λ (cs : List FlagChange). cs ++ changes_from (n + 1) keys how given es) none)
        ∙ ap (λ (cs : List FlagChange). cs ++ (change n e ∷ changes_from (n + 1) keys how given es)) (sym none)
    together n e es false false a b rise later = later

    pub changes_first : (low : Option Key) (n : ℕ) (es : List Entry) → keys_rise_from low es ≡ true
        → changes_from n (key ∷ keys) how given es ≡ changes_from n (key ∷ []) how given es ++ changes_from n keys how given es
    changes_first low n [] rise = refl
    changes_first low n (e ∷ es) rise =
        let rest : keys_rise_from (Some e.key) es ≡ true = second_so (is_above low e.key) _ rise in
        together n e es (same_key e.key key) (is_among keys e.key) refl refl rest (changes_first (Some e.key) (n + 1) es rest)

  -- the same of keys in order
  pub changes_step : (key : Key) (keys : List Key) (es : List Entry) → IsStrictlySortedBy key_cmp (key ∷ keys) → keys_rise es ≡ true
      → changes_from 0 (key ∷ keys) how given es ≡ changes_from 0 (key ∷ []) how given es ++ changes_from 0 keys how given es
  changes_step key keys es sorted rise = changes_first key keys (all_above key keys (sorted_head key_cmp key keys sorted)) None 0 es rise

-- no keys, no changes
pub changes_none : (n : ℕ) (how : How) (given : Flags) (es : List Entry) → changes_from n [] how given es ≡ []
changes_none n how given [] = refl
changes_none n how given (e ∷ es) = changes_none (n + 1) how given es

-- ---- keys that still rise

rise-numbered : (low : Option Key) (uid : ℕ) (es : List Entry) → keys_rise_from low (numbered uid es) ≡ keys_rise_from low es
rise-numbered low uid [] = refl
rise-numbered low uid (e ∷ es) = ap (λ b. is_above low e.key && b) (rise-numbered (Some e.key) (uid + 1) es)

-- a list that is known to rise, and mail that rises from its last key on
pub put_rises : (list items slice mail : List Entry) (first : ℕ) (was now : Bool) → (was ≡ true → keys_rise list ≡ true) → slice ≡ list → now ≡ (was && keys_rise_from (last_key None slice) mail) → items ≡ list ++ numbered first mail
    → now ≡ true → keys_rise items ≡ true
put_rises list items slice mail first was now known read new is so =
    let both : (was && keys_rise_from (last_key None slice) mail) ≡ true = sym new ∙ so in
    let more : keys_rise_from (last_key None list) mail ≡ true = subst (λ (xs : List Entry). keys_rise_from (last_key None xs) mail ≡ true) read (second_so was _ both) in
    ap keys_rise is
    ∙ keys_rise-append None list (numbered first mail)
    ∙ ap (λ b. b && keys_rise_from (last_key None list) (numbered first mail)) (known (first_so was _ both))
    ∙ rise-numbered (last_key None list) first mail
    ∙ more

rise-flag : (low : Option Key) (flags : Flags) (at : ℕ) (es : List Entry)
    → keys_rise_from low (flags_set (record { place = at; flags = flags }) es) ≡ keys_rise_from low es
rise-flag low flags at [] = refl
rise-flag low flags zero (e ∷ es) = refl
rise-flag low flags (suc at) (e ∷ es) =
    elim (slice_get es at) as (λ o. keys_rise_from (Some e.key) (unwrap_or (option_map (λ (x : Entry). slice_set es at (record x { flags = flags })) o) es) ≡ keys_rise_from (Some e.key) es
    → keys_rise_from low (unwrap_or (option_map (λ (x : Entry). slice_set (e ∷ es) (suc at) (record x { flags = flags })) o) (e ∷ es)) ≡ keys_rise_from low (e ∷ es)) [
      | None ↦ λ h. refl
      | Some x ↦ λ h. ap (λ b. is_above low e.key && b) h
    ] (rise-flag (Some e.key) flags at es)

-- other flags leave the keys
pub rise-flags : (changes : List FlagChange) (es : List Entry) → keys_rise (all_flags_set changes es) ≡ keys_rise es
rise-flags [] es = refl
rise-flags (c ∷ cs) es = rise-flags cs (flags_set c es) ∙ rise-flag None c.flags c.place es
