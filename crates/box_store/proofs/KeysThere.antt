-- How many keys are there, how many are marked, and how many mailboxes a user has.
use Rattle.std.proofs.Common.{◌≡◌, ℕ, suc, subst, ◌<◌, ◌≤◌, Bool, true, false, ◌||◌, cond, List, [], ◌∷◌, filter, map, length, refl, sym, ap, ◌∙◌, arith, nat_lt, ltb-true}
use Rattle.std.specs.Cmp.{both_ways}
use Rattle.std.specs.List.{list_any, count_by}
use Rattle.std.proofs.lemmas.Bool.{lt-ltb}
use Rattle.std.proofs.lemmas.List.{length-map}
use Rattle.std.proofs.lemmas.List.Sums.{length-filter, count_by-le-length}
use Rattle.undo_base.specs.declared.keys.Key.{Key}
use Rattle.verb_core.specs.declared.mailbox.Entry.{Entry}
use Rattle.verb_core.specs.Names.{is_empty}
use Rattle.verb_core.specs.Mailboxes.{there, same_key}
use Rattle.undo_base.specs.declared.keys.User.{User}
use Rattle.verb_core.specs.Boxes.{same_user, rows_of, names_of}
use Rattle.verb_core.specs.Step.{Boxes}
use Rattle.verb_core.specs.Live.{marked, lacks}

next_below : (m n : ℕ) → nat_lt (suc m) (suc n) ≡ nat_lt m n
next_below m n = both_ways _ _
    (λ h. let lt : suc m < suc n = ltb-true (suc m) (suc n) h in lt-ltb m n (omega arith))
    (λ h. let lt : m < n = ltb-true m n h in lt-ltb (suc m) (suc n) (omega arith))

module _ (p : Key → Bool) where
  few : (keys : List Key) → length (filter p keys) ≤ length keys
  few keys = subst (λ n. n ≤ length keys) (sym (length-filter p keys)) (count_by-le-length p keys)

  fewer : (keys : List Key) → nat_lt (length (filter p keys)) (length keys) ≡ list_any (λ key. is_empty (filter p (key ∷ []))) keys
  fewer [] = refl
  fewer (k ∷ ks) = elim (p k) as (λ b. nat_lt (length (cond b (k ∷ filter p ks) (filter p ks))) (length (k ∷ ks)) ≡ (is_empty (cond b (k ∷ []) []) || list_any (λ key. is_empty (filter p (key ∷ []))) ks)) [
    | true ↦ next_below (length (filter p ks)) (length ks) ∙ fewer ks
    | false ↦ let h : length (filter p ks) ≤ length ks = few ks in lt-ltb (length (filter p ks)) (suc (length ks)) (omega arith)
  ]

-- fewer keys are there than were asked for, where one is not there
pub fewer-there : (entries : List Entry) (keys : List Key) → nat_lt (length (there entries keys)) (length keys) ≡ lacks entries keys
fewer-there entries keys = fewer (λ key. list_any (λ e. same_key key e.key) entries) keys

-- how many are marked
pub length_marked : (entries : List Entry) → length (marked entries) ≡ count_by (λ e. e.flags.deleted) entries
length_marked entries = length-map (filter (λ e. e.flags.deleted) entries) (λ e. e.key) ∙ length-filter (λ e. e.flags.deleted) entries

-- how many mailboxes a user has
pub length_names : (u : User) (rs : Boxes) → length (names_of u rs) ≡ length (rows_of u rs)
length_names u rs = length-map (rows_of u rs) (λ r. r.0.name)

-- a user's rows are all his own
rows_again : (u : User) (rs : Boxes) → rows_of u (rows_of u rs) ≡ rows_of u rs
rows_again u [] = refl
rows_again u (r ∷ rs) = elim (same_user u r.0.user) as (λ b. same_user u r.0.user ≡ b → rows_of u (cond b (r ∷ rows_of u rs) (rows_of u rs)) ≡ cond b (r ∷ rows_of u rs) (rows_of u rs)) [
  | true ↦ λ e. ap (λ b. cond b (r ∷ rows_of u (rows_of u rs)) (rows_of u (rows_of u rs))) e ∙ ap (λ (t : Boxes). r ∷ t) (rows_again u rs)
  | false ↦ λ e. rows_again u rs
] refl

-- and have his names
pub names_again : (u : User) (rs run : Boxes) → run ≡ rows_of u rs → names_of u run ≡ names_of u rs
names_again u rs run is = ap (names_of u) is ∙ ap (map (λ r. r.0.name)) (rows_again u rs)

-- no more keys are there than were asked for
pub few-there : (entries : List Entry) (keys : List Key) → length (there entries keys) ≤ length keys
few-there entries keys = few (λ key. list_any (λ e. same_key key e.key) entries) keys
