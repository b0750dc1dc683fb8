-- The bodies that a base names, and the texts of them that have come.
use Rattle.std.proofs.Common.{◌≡◌, ◌≢◌, ℕ, Bool, true, false, not, ◌&&◌, ◌||◌, cond, T, List, [], ◌∷◌, ◌++◌, map, Option, Some, None, Result, Ok, Err, IfOk, IfErr, length, get_or, is_some, option_map, option_and_then, refl, sym, ap, ◌∙◌, subst, is_eq, is_lt, Ordering, Less, Equal, Greater}
use Rattle.std.specs.Cmp.{both_ways, first_so, second_so, tied_itself}
use Rattle.std.specs.FinMap.Entries as rows
use Rattle.std.specs.List.Sorted.{IsBinarySearchResult, IsSearchInRange}
use Rattle.std.specs.List.{AllByRecursion, cons_option, insert, list_all, list_any}
use Rattle.std.specs.Prelude.{OnErr, OnOk}
use Rattle.undo_base.specs.declared.memory.NoMemory.{NoMemory}
use Rattle.std.specs.Ordering.{eq_by_cmp, ordering_reverse}
use Rattle.std.proofs.lemmas.List.Folds.{list_any-append}
use Rattle.verb_core.specs.declared.mailbox.Body.{Body}
use Rattle.verb_core.specs.declared.mailbox.BoxId.{BoxId}
use Rattle.verb_core.specs.declared.mailbox.Entry.{Entry}
use Rattle.verb_core.specs.declared.mailbox.Mailbox.{Mailbox}
use Rattle.verb_core.specs.Deeds.{same_body}
use Rattle.verb_core.proofs.Searched.{less_is}
use Rattle.store_kept.specs.Founding.{entries_of, has_text_of, is_of_body, names_body}
use Rattle.store_kept.specs.Kept.{BaseTexts, body_cmp, with_base_text}
use Rattle.store_kept.specs.Naming.{NamedTexts, all_come, are_rising, is_named, naming, texts_come, with_row, ComesIn, IsRowOf}
use Rattle.store_kept.specs.Texts.{all_bodies, text_before}
use Rattle.store_kept.proofs.Bodies.{bodies_total, exact_bodies, same_is, tied}
use Rattle.store_kept.proofs.Halves.{row_found, row_inserted, row_missing, row_set, turned}

abbrev Row : Type 0
Row = Body × Option (List ℕ)

-- the text of a row, behind others
abbrev with_come : Row → BaseTexts → BaseTexts
with_come r texts = cons_option (option_map (λ (text : List ℕ). (r.0, text)) r.1) texts

abbrev joined : Option (Option (List ℕ)) → Option (List ℕ)
joined o = option_and_then (λ (text : Option (List ℕ)). text) o

so : (b : Bool) → T b → b ≡ true
so true h = refl
so false h = absurd h

yes : {b : Bool} → b ≡ true → T b
yes {b} e = subst T (sym e) tt

-- ---- below a body

below_come : (body : Body) (named : NamedTexts) → rows.below_all body_cmp body named ≡ true → rows.below_all body_cmp body (texts_come named) ≡ true
below_come body [] h = refl
below_come body (r ∷ named) h =
    let rest = below_come body named (second_so _ _ h) in
    elim r.1 as (λ o. rows.below_all body_cmp body (cons_option (option_map (λ (text : List ℕ). (r.0, text)) o) (texts_come named)) ≡ true) [
      | None ↦ rest
      | Some text ↦ rw (first_so (is_lt (body_cmp body r.0)) (rows.below_all body_cmp body named) h) rest
    ]

below_first : (a b : Body) (named : NamedTexts) → body_cmp a b ≡ Less → rows.below_all body_cmp b named ≡ true → rows.below_all body_cmp a named ≡ true
below_first a b [] less h = refl
below_first a b (r ∷ named) less h =
    rw (bodies_total.trans a b r.0 less (less_is (body_cmp b r.0) (first_so _ _ h))) (below_first a b named less (second_so _ _ h))

-- a body before all of them has no text among them, and comes in first
none_below : (body : Body) (texts : BaseTexts) → rows.below_all body_cmp body texts ≡ true → text_before texts body ≡ None
none_below body [] h = refl
none_below body (t ∷ texts) h = rw (less_is (body_cmp body t.0) (first_so _ _ h)) (none_below body texts (second_so _ _ h))

first_in : (body : Body) (text : List ℕ) (texts : BaseTexts) → rows.below_all body_cmp body texts ≡ true → with_base_text body text texts ≡ (body, text) ∷ texts
first_in body text [] h = refl
first_in body text (t ∷ texts) h = rw (less_is (body_cmp body t.0) (first_so _ _ h)) refl

-- ---- the text of a body

pub before_is : (named : NamedTexts) (body : Body) → are_rising named ≡ true → text_before (texts_come named) body ≡ joined (rows.find body_cmp body named)
before_is [] body h = refl
before_is (r ∷ named) body h = by (before_is named body (second_so _ _ h)) r.1 (body_cmp body r.0) refl
  where
    below : rows.below_all body_cmp r.0 (texts_come named) ≡ true
    below = below_come r.0 named (first_so _ _ h)

    by : text_before (texts_come named) body ≡ joined (rows.find body_cmp body named) → (o : Option (List ℕ)) → (c : Ordering) → body_cmp body r.0 ≡ c
        → text_before (cons_option (option_map (λ (text : List ℕ). (r.0, text)) o) (texts_come named)) body ≡ joined (cond (is_eq (body_cmp body r.0)) (Some o) (rows.find body_cmp body named))
    by rest None Less is = rw is rest
    by rest None Equal is = rw is (subst (λ (b : Body). text_before (texts_come named) b ≡ None) (sym (exact_bodies body r.0 is)) (none_below r.0 (texts_come named) below))
    by rest None Greater is = rw is rest
    by rest (Some text) Less is = rw is rest
    by rest (Some text) Equal is = rw is refl
    by rest (Some text) Greater is = rw is rest

-- ---- one more row

-- a body that is named has no text by that
pub come_named : (body : Body) (named : NamedTexts) → rows.find body_cmp body named ≡ None → texts_come (with_row body None named) ≡ texts_come named
come_named body [] none = refl
come_named body (r ∷ named) none = by (come_named body named) (body_cmp body r.0) refl none
  where
    by : (rows.find body_cmp body named ≡ None → texts_come (with_row body None named) ≡ texts_come named) → (c : Ordering) → body_cmp body r.0 ≡ c → cond (is_eq c) (Some r.1) (rows.find body_cmp body named) ≡ None
        → texts_come (rows.by_order c ((body, None) ∷ r ∷ named) ((r.0, None) ∷ named) (r ∷ with_row body None named)) ≡ texts_come (r ∷ named)
    by rest Less is e = refl
    by rest Equal is e = cc
    by rest Greater is e = ap (with_come r) (rest e)

-- its text comes in its place
pub come_text : (body : Body) (text : List ℕ) (named : NamedTexts) → are_rising named ≡ true → texts_come (with_row body (Some text) named) ≡ with_base_text body text (texts_come named)
come_text body text [] h = refl
come_text body text (r ∷ named) h = by (come_text body text named (second_so _ _ h)) (body_cmp body r.0) refl
  where
    below : rows.below_all body_cmp r.0 named ≡ true
    below = first_so _ _ h

    less : body_cmp body r.0 ≡ Less → rows.below_all body_cmp body (r ∷ named) ≡ true
    less is = rw is (below_first body r.0 named is below)

    same : (o : Option (List ℕ)) → body_cmp body r.0 ≡ Equal
        → (r.0, text) ∷ texts_come named ≡ with_base_text body text (cons_option (option_map (λ (old : List ℕ). (r.0, old)) o) (texts_come named))
    same None is =
        ap (λ (b : Body). (b, text) ∷ texts_come named) (sym (exact_bodies body r.0 is))
        ∙ sym (first_in body text (texts_come named) (subst (λ (b : Body). rows.below_all body_cmp b (texts_come named) ≡ true) (sym (exact_bodies body r.0 is)) (below_come r.0 named below)))
    same (Some old) is = rw is refl

    more : (o : Option (List ℕ)) → body_cmp body r.0 ≡ Greater
        → cons_option (option_map (λ (old : List ℕ). (r.0, old)) o) (with_base_text body text (texts_come named)) ≡ with_base_text body text (cons_option (option_map (λ (old : List ℕ). (r.0, old)) o) (texts_come named))
    more None is = refl
    more (Some old) is = rw is refl

    by : texts_come (with_row body (Some text) named) ≡ with_base_text body text (texts_come named) → (c : Ordering) → body_cmp body r.0 ≡ c
        → texts_come (rows.by_order c ((body, Some text) ∷ r ∷ named) ((r.0, Some text) ∷ named) (r ∷ with_row body (Some text) named)) ≡ with_base_text body text (texts_come (r ∷ named))
    by rest Less is = sym (first_in body text (texts_come (r ∷ named)) (below_come body (r ∷ named) (less is)))
    by rest Equal is = same r.1 is
    by rest Greater is = ap (with_come r) rest ∙ more r.1 is

-- the others are named as before
pub still_named : (body : Body) (text : Option (List ℕ)) (named : NamedTexts) → is_named named body ≡ true → (other : Body) → is_named (with_row body text named) other ≡ is_named named other
still_named body text named there other =
    ap is_some (rows.find-put body_cmp bodies_total other body text named)
    ∙ elim (eq_by_cmp body_cmp other body) as (λ b. eq_by_cmp body_cmp other body ≡ b → is_some (cond b (Some text) (rows.find body_cmp other named)) ≡ is_named named other) [
      | true ↦ λ e. sym (ap (is_named named) (tied other body e) ∙ there)
      | false ↦ λ e. refl
    ] refl

pub rising_put : (body : Body) (text : Option (List ℕ)) (named : NamedTexts) → are_rising named ≡ true → are_rising (with_row body text named) ≡ true
rising_put body text named h = so _ (rows.is_sorted-put body_cmp bodies_total body text named (yes h))

-- ---- naming

pub naming_rises : (body : Body) (named : NamedTexts) → are_rising named ≡ true → are_rising (naming body named) ≡ true
naming_rises body named h = elim (is_named named body) as (λ b. are_rising (cond b named (with_row body None named)) ≡ true) [ true ↦ h | false ↦ rising_put body None named h ]

none_of : (o : Option (Option (List ℕ))) → is_some o ≡ false → o ≡ None
none_of None e = refl
none_of (Some text) e = cc

pub naming_comes : (body : Body) (named : NamedTexts) → texts_come (naming body named) ≡ texts_come named
naming_comes body named =
    elim (is_named named body) as (λ b. is_named named body ≡ b → texts_come (cond b named (with_row body None named)) ≡ texts_come named) [
      | true ↦ λ e. refl
      | false ↦ λ e. come_named body named (none_of (rows.find body_cmp body named) e)
    ] refl

pub naming_names : (body : Body) (named : NamedTexts) (other : Body) → is_named (naming body named) other ≡ (same_body other body || is_named named other)
naming_names body named other =
    elim (is_named named body) as (λ b. is_named named body ≡ b → is_named (cond b named (with_row body None named)) other ≡ (same_body other body || is_named named other)) [
      | true ↦ λ e. there (same_body other body) refl e
      | false ↦ λ e.
          ap is_some (rows.find-put body_cmp bodies_total other body None named)
          ∙ elim (eq_by_cmp body_cmp other body) as (λ b. is_some (cond b (Some None) (rows.find body_cmp other named)) ≡ (b || is_named named other)) [ true ↦ refl | false ↦ refl ]
          ∙ ap (λ (b : Bool). b || is_named named other) (sym (same_is other body))
    ] refl
  where
    there : (b : Bool) → same_body other body ≡ b → is_named named body ≡ true → is_named named other ≡ (b || is_named named other)
    there true same named_is = ap (is_named named) (tied other body (sym (same_is other body) ∙ same)) ∙ named_is
    there false other_is named_is = refl

-- ---- whether all have come

-- a test of each named body that has no text is the test of each body that mailboxes name
none_lacks : (named : NamedTexts) (body : Body) → are_rising named ≡ true → all_come named ≡ true → is_named named body ≡ true → has_text_of (texts_come named) body ≡ true
none_lacks named body rising all there = ap is_some (before_is named body rising) ∙ by (rows.find body_cmp body named) (come named all) there
  where
    come : (named : NamedTexts) → all_come named ≡ true → (text : Option (List ℕ)) → rows.find body_cmp body named ≡ Some text → is_some text ≡ true
    come [] all text e = cc
    come (r ∷ named) all text e =
        elim (eq_by_cmp body_cmp body r.0) as (λ b. cond b (Some r.1) (rows.find body_cmp body named) ≡ Some text → is_some text ≡ true) [
          | true ↦ λ is. let same : r.1 ≡ text = cc in ap is_some (sym same) ∙ first_so _ _ all
          | false ↦ λ is. come named (second_so _ _ all) text is
        ] e

    by : (o : Option (Option (List ℕ))) → ((text : Option (List ℕ)) → o ≡ Some text → is_some text ≡ true) → is_some o ≡ true → is_some (joined o) ≡ true
    by None h e = cc
    by (Some text) h e = h text refl

either : (a b : Bool) → b ≡ true → (a || b) ≡ true
either true b e = refl
either false b e = e

own_body : (e : Entry) → is_of_body e.body e ≡ true
own_body e = same_is e.body e.body ∙ ap is_eq (tied_itself bodies_total e.body)

-- what holds of each body that mailboxes name
pub all_of : (test : Body → Bool) (boxes : List (BoxId × Mailbox)) → ((body : Body) → names_body boxes body ≡ true → test body ≡ true) → all_bodies test boxes ≡ true
all_of test [] has = refl
all_of test (b ∷ boxes) has =
    rw (in_entries b.1.entries (λ body there. has body (list_any-append (is_of_body body) b.1.entries (entries_of boxes) ∙ rw there refl)))
    (all_of test boxes (λ body there. has body (list_any-append (is_of_body body) b.1.entries (entries_of boxes) ∙ either (list_any (is_of_body body) b.1.entries) (names_body boxes body) there)))
  where
    in_entries : (entries : List Entry) → ((body : Body) → list_any (is_of_body body) entries ≡ true → test body ≡ true) → list_all (λ (e : Entry). test e.body) entries ≡ true
    in_entries [] has = refl
    in_entries (e ∷ entries) has =
        rw (has e.body (rw (own_body e) refl)) (in_entries entries (λ body there. has body (either (is_of_body body e) (list_any (is_of_body body) entries) there)))

-- and the other way round
pub of_all : (test : Body → Bool) (boxes : List (BoxId × Mailbox)) → all_bodies test boxes ≡ true → (body : Body) → names_body boxes body ≡ true → test body ≡ true
of_all test [] all body there = cc
of_all test (b ∷ boxes) all body there = by (of_all test boxes (second_so _ _ all) body) (list_any (is_of_body body) b.1.entries) refl (sym (list_any-append (is_of_body body) b.1.entries (entries_of boxes)) ∙ there)
  where
    in_entries : (entries : List Entry) → list_all (λ (e : Entry). test e.body) entries ≡ true → list_any (is_of_body body) entries ≡ true → test body ≡ true
    in_entries [] all there = cc
    in_entries (e ∷ entries) all there =
        elim (is_of_body body e) as (λ b. is_of_body body e ≡ b → (b || list_any (is_of_body body) entries) ≡ true → test body ≡ true) [
          | true ↦ λ here any. ap test (tied body e.body (sym (same_is body e.body) ∙ here)) ∙ first_so _ _ all
          | false ↦ λ other any. in_entries entries (second_so _ _ all) any
        ] refl there

    by : (names_body boxes body ≡ true → test body ≡ true) → (here : Bool) → list_any (is_of_body body) b.1.entries ≡ here → (here || names_body boxes body) ≡ true → test body ≡ true
    by rest true here any = in_entries b.1.entries (first_so _ _ all) here
    by rest false other any = rest any

-- each row is found under its body
found_each : (named : NamedTexts) → are_rising named ≡ true → AllByRecursion (λ (r : Row). rows.find body_cmp r.0 named ≡ Some r.1) named
found_each [] rising = tt
found_each (h ∷ named) rising = (rw (tied_itself bodies_total h.0) refl, behind named (first_so _ _ rising) (found_each named (second_so _ _ rising)))
  where
    behind : (later : NamedTexts) → rows.below_all body_cmp h.0 later ≡ true → AllByRecursion (λ (r : Row). rows.find body_cmp r.0 named ≡ Some r.1) later
        → AllByRecursion (λ (r : Row). rows.find body_cmp r.0 (h ∷ named) ≡ Some r.1) later
    behind [] below found = tt
    behind (r ∷ later) below found =
        let over : body_cmp r.0 h.0 ≡ Greater = turned body_cmp bodies_total h.0 r.0 Less (less_is (body_cmp h.0 r.0) (first_so _ _ below)) in
        (rw over found.0, behind later (second_so _ _ below) found.1)

all_have : (named : NamedTexts) (boxes : List (BoxId × Mailbox)) → are_rising named ≡ true → ((body : Body) → is_named named body ≡ names_body boxes body) → all_come named ≡ true
    → all_bodies (has_text_of (texts_come named)) boxes ≡ true
all_have named boxes rising names all = all_of (has_text_of (texts_come named)) boxes (λ body there. none_lacks named body rising all (names body ∙ there))

have_all : (named : NamedTexts) (boxes : List (BoxId × Mailbox)) → are_rising named ≡ true → ((body : Body) → is_named named body ≡ names_body boxes body)
    → all_bodies (has_text_of (texts_come named)) boxes ≡ true → all_come named ≡ true
have_all named boxes rising names all = each named (found_each named rising)
  where
    each : (later : NamedTexts) → AllByRecursion (λ (r : Row). rows.find body_cmp r.0 named ≡ Some r.1) later → all_come later ≡ true
    each [] found = refl
    each (r ∷ later) found =
        let there : is_named named r.0 ≡ true = ap is_some found.0 in
        let has : has_text_of (texts_come named) r.0 ≡ true = of_all (has_text_of (texts_come named)) boxes all r.0 (sym (names r.0) ∙ there) in
        let come : is_some r.1 ≡ true = sym (ap is_some (before_is named r.0 rising) ∙ ap (λ (o : Option (Option (List ℕ))). is_some (joined o)) found.0) ∙ has in
        rw come (each later found.1)

-- all have come exactly where each body that mailboxes name has its text
pub whole_is : (named : NamedTexts) (boxes : List (BoxId × Mailbox)) → are_rising named ≡ true → ((body : Body) → is_named named body ≡ names_body boxes body)
    → all_come named ≡ all_bodies (has_text_of (texts_come named)) boxes
whole_is named boxes rising names = both_ways _ _ (all_have named boxes rising names) (have_all named boxes rising names)

-- ---- what a search by halves finds

pub row_there : (body : Body) (named : NamedTexts) → are_rising named ≡ true → (r : Result ℕ ℕ) → IsSearchInRange r (length named) → IsBinarySearchResult (λ (row : Row). body_cmp row.0 body) named r → IfOk r (IsRowOf body named)
row_there body named rising (Ok i) range equal = record {
  within = range;
  body_is = λ d. exact_bodies (get_or named i d).0 body (equal d);
  found = λ d. row_found body_cmp bodies_total exact_bodies body named rising i range equal d;
  put = λ text. row_set body_cmp bodies_total exact_bodies body text named rising i range (λ d. exact_bodies (get_or named i d).0 body (equal d));
}
row_there body named rising (Err at) range equal = tt

pub row_comes : (body : Body) (named : NamedTexts) → are_rising named ≡ true → (r : Result ℕ ℕ) → IsSearchInRange r (length named) → IsBinarySearchResult (λ (row : Row). body_cmp row.0 body) named r → IfErr r (ComesIn body named)
row_comes body named rising (Ok i) range parted = tt
row_comes body named rising (Err at) range parted = record {
  within = range;
  none = row_missing body_cmp bodies_total body named rising at parted;
  there = λ text. row_inserted body_cmp bodies_total body text named rising at range parted;
}

-- a body that is named, by its row
pub row_named : (body : Body) (named : NamedTexts) (text : Option (List ℕ)) → rows.find body_cmp body named ≡ Some text → is_named named body ≡ true
row_named body named text e = ap is_some e

pub row_has : (body : Body) (named : NamedTexts) (text : Option (List ℕ)) → are_rising named ≡ true → rows.find body_cmp body named ≡ Some text → has_text_of (texts_come named) body ≡ is_some text
row_has body named text rising e = ap is_some (before_is named body rising) ∙ ap (λ (o : Option (Option (List ℕ))). is_some (joined o)) e

pub none_has : (body : Body) (named : NamedTexts) → are_rising named ≡ true → rows.find body_cmp body named ≡ None → has_text_of (texts_come named) body ≡ false
none_has body named rising e = ap is_some (before_is named body rising) ∙ ap (λ (o : Option (Option (List ℕ))). is_some (joined o)) e

-- ---- what becomes of the rows

-- one more body is named, or no memory was found
pub named_rises : (r : Result (Unit {0}) NoMemory) (body : Body) (old new : NamedTexts) (place : ℕ) → OnOk r (new ≡ insert old place (body, None)) → OnErr r (new ≡ old) → ComesIn body old place → are_rising old ≡ true
    → are_rising new ≡ true
named_rises (Ok u) body old new place there same comes rising = ap are_rising (there ∙ comes.there None) ∙ rising_put body None old rising
named_rises (Err NoMemory) body old new place there same comes rising = ap are_rising same ∙ rising

pub named_is : (r : Result (Unit {0}) NoMemory) (body : Body) (old new : NamedTexts) (place : ℕ) → OnOk r (new ≡ insert old place (body, None)) → ComesIn body old place → OnOk r (new ≡ naming body old)
named_is (Ok u) body old new place there comes = there ∙ comes.there None ∙ sym (ap (λ (o : Option (Option (List ℕ))). cond (is_some o) old (with_row body None old)) comes.none)
named_is (Err NoMemory) body old new place there comes = tt

-- a body that is named stays so
pub named_again : (body : Body) (named : NamedTexts) (text : Option (List ℕ)) → rows.find body_cmp body named ≡ Some text → named ≡ naming body named
named_again body named text e = sym (ap (λ (o : Option (Option (List ℕ))). cond (is_some o) named (with_row body None named)) e)

-- the bodies of entries, and the entries
pub any_body : (body : Body) (entries : List Entry) → list_any (same_body body) (map (λ (e : Entry). e.body) entries) ≡ list_any (is_of_body body) entries
any_body body [] = refl
any_body body (e ∷ entries) = ap (λ (b : Bool). same_body body e.body || b) (any_body body entries)

-- one more body
pub any_more : (body : Body) (bodies : List Body) (last : Body) → list_any (same_body body) (bodies ++ last ∷ []) ≡ (same_body body last || list_any (same_body body) bodies)
any_more body bodies last = list_any-append (same_body body) bodies (last ∷ []) ∙ turned_round (list_any (same_body body) bodies) (same_body body last)
  where
    turned_round : (a b : Bool) → (a || (b || false)) ≡ (b || a)
    turned_round true true = refl
    turned_round true false = refl
    turned_round false true = refl
    turned_round false false = refl
