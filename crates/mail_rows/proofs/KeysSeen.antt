-- Keys and entries that are shown: what an index finds is what the mailbox has.
use Rattle.std.proofs.Common.{◌≡◌, ◌∷◌, ◌++◌, ◌+◌, ◌<◌, ℕ, Bool, cond, true, false, not, refl, sym, ◌||◌, ◌&&◌, ◌∙◌, ap, ap₂, List, [], Option, Some, None, is_some, option_map, find, filter, filter_map, take, length, get_or, eq-eqb, true≢false}
use Rattle.std.specs.List.{list_any, cons_option, enumerate_from}
use Rattle.std.proofs.lemmas.List.{take_more}
use Rattle.std.proofs.lemmas.List.Elements.{filter_map-append}
use Rattle.undo_base.specs.declared.keys.Key.{Key}
use Rattle.verb_core.specs.declared.mailbox.Entry.{Entry}
use Rattle.verb_core.specs.Mailboxes.{is_among, same_key, entry_of, there, sights, copies, expunged}
use Rattle.mail_rows.specs.Indexed.{found_at, indexed, no_deleted, there_by, sight_at, sights_by}
use Rattle.mail_rows.specs.Changes.{copy_by, copies_by}
use Rattle.mail_rows.proofs.Indexes.{one_key}

pub itself : (k : Key) → same_key k k ≡ true
itself k = rw (eq-eqb k.item k.item refl) (eq-eqb k.index k.index refl)

some_found : {X : Type 0} (p : X → Bool) (xs : List X) → is_some (find p xs) ≡ list_any p xs
some_found p [] = refl
some_found p (x ∷ xs) = elim (p x) as (λ b. is_some (cond b (Some x) (find p xs)) ≡ (b || list_any p xs)) [ true ↦ refl | false ↦ some_found p xs ]

-- ---- tests and looks that agree at the keys of a list

module _ (all : List Key) where
  Within : List Key → Type 0
  Within ks = (k : Key) → is_among ks k ≡ true → is_among all k ≡ true

  first_within : (k : Key) (ks : List Key) → Within (k ∷ ks) → is_among all k ≡ true
  unfolding Within
  first_within k ks h = h k (ap (λ b. b || is_among ks k) (itself k))

  rest_within : (k : Key) (ks : List Key) → Within (k ∷ ks) → Within ks
  unfolding Within
  rest_within k ks h q is = h q (ap (λ b. same_key q k || b) is ∙ or_true (same_key q k))
    where
      or_true : (a : Bool) → (a || true) ≡ true
      or_true true = refl
      or_true false = refl

  same_filter : (p q : Key → Bool) → ((k : Key) → is_among all k ≡ true → p k ≡ q k) → (ks : List Key) → Within ks → filter p ks ≡ filter q ks
  same_filter p q agree [] h = refl
  same_filter p q agree (k ∷ ks) h = ap₂ (λ b rest. cond b (k ∷ rest) rest) (agree k (first_within k ks h)) (same_filter p q agree ks (rest_within k ks h))

  same_looks : {X : Type 0} (f g : Key → Option X) → ((k : Key) → is_among all k ≡ true → f k ≡ g k) → (ks : List Key) → Within ks → filter_map f ks ≡ filter_map g ks
  same_looks f g agree [] h = refl
  same_looks f g agree (k ∷ ks) h = ap₂ cons_option (agree k (first_within k ks h)) (same_looks f g agree ks (rest_within k ks h))

  whole : Within all
  unfolding Within
  whole k is = is

-- an index of the entries of some keys has the entry of each
pub indexed_found : (index : List (Key × Entry)) (keys : List Key) (es : List Entry) → ((k : Key) → found_at index k ≡ indexed keys es k) → (k : Key) → is_among keys k ≡ true → found_at index k ≡ entry_of es k
indexed_found index keys es found k is = found k ∙ ap (λ b. cond b (entry_of es k) None) is

module _ (index : List (Key × Entry)) (keys : List Key) (es : List Entry) (entry_found : (k : Key) → is_among keys k ≡ true → found_at index k ≡ entry_of es k) where
  pub there_is : there_by index keys ≡ there es keys
  there_is = same_filter keys _ _ (λ k is. ap is_some (entry_found k is) ∙ some_found (λ (e : Entry). same_key k e.key) es) keys (whole keys)

  pub sights_are : sights_by index keys ≡ sights es keys
  sights_are = same_looks keys _ _ (λ k is. ap (option_map (λ (e : Entry). record { key = k; rev = e.body.rev })) (entry_found k is)) keys (whole keys)

  copied_from : (number : ℕ) (n : ℕ) (ks : List Key) → Within keys ks
      → filter_map (copy_by number index) (enumerate_from n ks) ≡ filter_map (λ (k : ℕ × Key). option_map (λ (e : Entry). record e { key = record { item = number; index = k.0 } }) (entry_of es k.1)) (enumerate_from n ks)
  copied_from number n [] h = refl
  copied_from number n (k ∷ ks) h =
      ap₂ cons_option (ap (option_map (λ (e : Entry). record e { key = record { item = number; index = n } })) (entry_found k (first_within keys k ks h))) (copied_from number (n + 1) ks (rest_within keys k ks h))

  pub copies_are : (number : ℕ) → copies_by number index keys ≡ copies number es keys
  copies_are number = copied_from number 0 keys (whole keys)

-- what is left of the keys' entries are those without `\Deleted`
module _ (keys : List Key) (k : Key) (is : is_among keys k ≡ true) where
  left_step : (e : Entry) (xs ys : List Entry) → list_any (λ (x : Entry). same_key k x.key) xs ≡ list_any (λ (x : Entry). same_key k x.key) ys
      → list_any (λ (x : Entry). same_key k x.key) (cond (not e.flags.deleted) (e ∷ xs) xs) ≡ list_any (λ (x : Entry). same_key k x.key) (cond (not (is_among keys e.key && e.flags.deleted)) (e ∷ ys) ys)
  left_step e xs ys rest = go e.flags.deleted (is_among keys e.key) (same_key k e.key) refl (λ t. ap (is_among keys) (sym (one_key k e.key t)) ∙ is)
    where
      go : (d a t : Bool) → same_key k e.key ≡ t → (t ≡ true → a ≡ true) → list_any (λ (x : Entry). same_key k x.key) (cond (not d) (e ∷ xs) xs) ≡ list_any (λ (x : Entry). same_key k x.key) (cond (not (a && d)) (e ∷ ys) ys)
      go false true t same h = ap (λ b. same_key k e.key || b) rest
      go false false t same h = ap (λ b. same_key k e.key || b) rest
      go true true t same h = rest
      go true false true same h = absurd (true≢false (sym (h refl)))
      go true false false same h = rest ∙ ap (λ b. b || list_any (λ (x : Entry). same_key k x.key) ys) (sym same)

  left_any : (es : List Entry) → list_any (λ (e : Entry). same_key k e.key) (filter no_deleted es) ≡ list_any (λ (e : Entry). same_key k e.key) (expunged keys es)
  left_any [] = refl
  left_any (e ∷ es) = left_step e (filter no_deleted es) (expunged keys es) (left_any es)

pub left_is : (index : List (Key × Entry)) (keys : List Key) (es : List Entry) → ((k : Key) → found_at index k ≡ indexed keys (filter no_deleted es) k) → there_by index keys ≡ there (expunged keys es) keys
left_is index keys es found = same_filter keys _ _ (λ k is. ap is_some (indexed_found index keys (filter no_deleted es) found k is) ∙ some_found (λ (e : Entry). same_key k e.key) (filter no_deleted es) ∙ left_any keys k is es) keys (whole keys)

pub sights_more : (index : List (Key × Entry)) (keys : List Key) (i : ℕ) (d : Key) → i < length keys → sights_by index (take (i + 1) keys) ≡ sights_by index (take i keys) ++ cons_option (sight_at index (get_or keys i d)) []
sights_more index keys i d lt = ap (sights_by index) (take_more keys i d lt) ∙ filter_map-append (sight_at index) (take i keys) (get_or keys i d ∷ [])
