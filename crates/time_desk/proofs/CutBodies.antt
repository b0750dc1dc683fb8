-- The bodies that a base names, each once.
use Rattle.std.proofs.Common.{◌≡◌, ◌<◌, ◌+◌, ℕ, Bool, true, ◌&&◌, List, [], ◌∷◌, map, drop, get_or, length, Option, Some, None, is_some, refl, sym, ap, ap₂, ◌∙◌, Less, Equal, Greater}
use Rattle.std.specs.BTreeSet.{insert_key}
use Rattle.std.specs.Cmp.{first_so, second_so}
use Rattle.std.specs.FinMap.Entries as rows
use Rattle.std.specs.List.{list_all}
use Rattle.std.specs.Ordering.{match_ordering}
use Rattle.std.proofs.lemmas.List.{drop_more}
use Rattle.std.proofs.lemmas.List.Folds.{list_all-map}
use Rattle.verb_core.specs.declared.mailbox.Body.{Body}
use Rattle.verb_core.specs.declared.mailbox.BoxId.{BoxId}
use Rattle.verb_core.specs.declared.mailbox.Entry.{Entry}
use Rattle.verb_core.specs.declared.mailbox.Mailbox.{Mailbox}
use Rattle.store_kept.specs.Founding.{entries_of}
use Rattle.store_kept.specs.Kept.{BaseTexts, body_cmp, with_base_text}
use Rattle.store_kept.specs.Texts.{all_bodies}
use Rattle.cycle_rules.specs.Cutting.{bodies_of, texts_by, with_text_of}
use Rattle.desk_journal.proofs.Once.{all_entries}
use Rattle.time_desk.specs.Cutting.{bodies_once, body_key, key_body, key_cmp, keys_once}

abbrev bodies_in : BaseTexts → List Body
bodies_in texts = map (λ (t : Body × List ℕ). t.0) texts

abbrev empty_text : Body → Option (List ℕ)
empty_text body = Some []

-- a body in its place, unless it is there
abbrev put_body : Body → List Body → List Body
put_body b [] = b ∷ []
put_body b (x ∷ xs) = rows.by_order (body_cmp b x) (b ∷ x ∷ xs) (x ∷ xs) (x ∷ put_body b xs)

put_is : (b : Body) (text : List ℕ) (texts : BaseTexts) → bodies_in (with_base_text b text texts) ≡ put_body b (bodies_in texts)
put_is b text [] = refl
put_is b text (t ∷ texts) =
    elim (body_cmp b t.0) as (λ o. bodies_in (rows.by_order o ((b, text) ∷ t ∷ texts) ((t.0, text) ∷ texts) (t ∷ with_base_text b text texts)) ≡ rows.by_order o (b ∷ t.0 ∷ bodies_in texts) (t.0 ∷ bodies_in texts) (t.0 ∷ put_body b (bodies_in texts))) [
      | Less ↦ refl
      | Equal ↦ refl
      | Greater ↦ ap (λ (xs : List Body). t.0 ∷ xs) (put_is b text texts)
    ]

-- ---- the keys of bodies

key_put : (b : Body) (xs : List Body) → insert_key key_cmp (map body_key xs) (body_key b) ≡ map body_key (put_body b xs)
key_put b [] = refl
key_put b (x ∷ xs) =
    elim (body_cmp b x) as (λ o. match_ordering o (body_key b ∷ body_key x ∷ map body_key xs) (body_key x ∷ map body_key xs) (body_key x ∷ insert_key key_cmp (map body_key xs) (body_key b)) ≡ map body_key (rows.by_order o (b ∷ x ∷ xs) (x ∷ xs) (x ∷ put_body b xs))) [
      | Less ↦ refl
      | Equal ↦ refl
      | Greater ↦ ap (λ (ks : List (ℕ × ℕ)). body_key x ∷ ks) (key_put b xs)
    ]

keys_are : (bodies : List Body) → keys_once bodies ≡ map body_key (bodies_once bodies)
keys_are [] = refl
keys_are (b ∷ bodies) =
    ap (λ (ks : List (ℕ × ℕ)). insert_key key_cmp ks (body_key b)) (keys_are bodies)
    ∙ key_put b (bodies_once bodies) ∙ ap (map body_key) (sym (put_is b [] (texts_by empty_text bodies)))

back : (bodies : List Body) → map key_body (map body_key bodies) ≡ bodies
back [] = refl
back (b ∷ bodies) = ap (λ (xs : List Body). b ∷ xs) (back bodies)

-- the bodies of the keys are the bodies
pub bodies_are : (bodies : List Body) → map key_body (keys_once bodies) ≡ bodies_once bodies
bodies_are bodies = ap (map key_body) (keys_are bodies) ∙ back (bodies_once bodies)

-- the keys of bodies, from the last to the first: one body more
pub key_before : (bodies : List Body) (place : ℕ) (d : Body) (new old : List (ℕ × ℕ)) (key : ℕ × ℕ) → place < length bodies → key ≡ body_key (get_or bodies place d)
    → new ≡ insert_key key_cmp old key → old ≡ keys_once (drop (place + 1) bodies) → new ≡ keys_once (drop place bodies)
key_before bodies place d new old key within key_is is_new before =
    is_new ∙ ap₂ (λ (ks : List (ℕ × ℕ)) (k : ℕ × ℕ). insert_key key_cmp ks k) before key_is
    ∙ sym (ap keys_once (drop_more bodies place d within))

-- ---- bodies that have a text

told_once : (told : Body → Option (List ℕ)) (bodies : List Body) → list_all (λ (b : Body). is_some (told b)) bodies ≡ true → bodies_in (texts_by told bodies) ≡ bodies_once bodies
told_once told [] all = refl
told_once told (b ∷ bodies) all =
    by (told b) (first_so (is_some (told b)) (list_all (λ (b : Body). is_some (told b)) bodies) all) (told_once told bodies (second_so (is_some (told b)) (list_all (λ (b : Body). is_some (told b)) bodies) all))
    ∙ sym (put_is b [] (texts_by empty_text bodies))
  where
    by : (o : Option (List ℕ)) → is_some o ≡ true → bodies_in (texts_by told bodies) ≡ bodies_once bodies → bodies_in (with_text_of b o (texts_by told bodies)) ≡ put_body b (bodies_once bodies)
    by None some rest = absurd (cc some)
    by (Some text) some rest = put_is b text (texts_by told bodies) ∙ ap (put_body b) rest

put_all : (test : Body → Bool) (b : Body) (xs : List Body) → test b ≡ true → list_all test xs ≡ true → list_all test (put_body b xs) ≡ true
put_all test b [] here all = ap₂ (λ (p q : Bool). p && q) here all
put_all test b (x ∷ xs) here all =
    let first : test x ≡ true = first_so (test x) (list_all test xs) all in
    let rest : list_all test xs ≡ true = second_so (test x) (list_all test xs) all in
    elim (body_cmp b x) as (λ o. list_all test (rows.by_order o (b ∷ x ∷ xs) (x ∷ xs) (x ∷ put_body b xs)) ≡ true) [
      | Less ↦ ap₂ (λ (p q : Bool). p && q) here all
      | Equal ↦ all
      | Greater ↦ ap₂ (λ (p q : Bool). p && q) first (put_all test b xs here rest)
    ]

once_all : (test : Body → Bool) (bodies : List Body) → list_all test bodies ≡ true → list_all test (bodies_once bodies) ≡ true
once_all test [] all = refl
once_all test (b ∷ bodies) all =
    ap (list_all test) (put_is b [] (texts_by empty_text bodies))
    ∙ put_all test b (bodies_once bodies) (first_so (test b) (list_all test bodies) all) (once_all test bodies (second_so (test b) (list_all test bodies) all))

-- a test of the bodies of all entries
in_boxes : (test : Body → Bool) (boxes : List (BoxId × Mailbox)) → all_bodies test boxes ≡ true → list_all test (bodies_of boxes) ≡ true
in_boxes test boxes all = list_all-map test (λ (e : Entry). e.body) (entries_of boxes) ∙ sym (all_entries (λ (e : Entry). test e.body) boxes) ∙ all

-- it is passed by each of them
pub boxes_once : (test : Body → Bool) (boxes : List (BoxId × Mailbox)) → all_bodies test boxes ≡ true → list_all test (bodies_once (bodies_of boxes)) ≡ true
boxes_once test boxes all = once_all test (bodies_of boxes) (in_boxes test boxes all)

-- and they are those that have a text, where each has one
pub boxes_told : (told : Body → Option (List ℕ)) (boxes : List (BoxId × Mailbox)) → all_bodies (λ (b : Body). is_some (told b)) boxes ≡ true
    → bodies_once (bodies_of boxes) ≡ map (λ (t : Body × List ℕ). t.0) (texts_by told (bodies_of boxes))
boxes_told told boxes all = sym (told_once told (bodies_of boxes) (in_boxes (λ (b : Body). is_some (told b)) boxes all))
