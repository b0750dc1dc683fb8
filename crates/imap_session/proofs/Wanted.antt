-- The texts that a FETCH or a SEARCH needs are those of entries of the store.
use Rattle.std.proofs.Common.{◌≡◌, ◌+◌, ◌==◌, ◌||◌, ℕ, Bool, cond, true, false, not, List, [], ◌∷◌, map, find, slice_get, Option, None, Some, option_map, option_and_then, refl}
use Rattle.std.specs.Prelude.{unwrap_or}
use Rattle.std.specs.Cmp.{first_so, second_so}
use Rattle.std.specs.List.{list_all, cons_option}
use Rattle.std.specs.Ordering.{eq_by_cmp}
use Rattle.verb_core.specs.declared.mailbox.Body.{Body}
use Rattle.verb_core.specs.declared.mailbox.BoxId.{BoxId}
use Rattle.verb_core.specs.declared.mailbox.Entry.{Entry}
use Rattle.verb_core.specs.declared.mailbox.Mailbox.{Mailbox}
use Rattle.verb_core.specs.Boxes.{box_cmp, mail_at, row_at}
use Rattle.verb_core.proofs.Validity.{both}
use Rattle.imap_fetch.specs.declared.messages.Message.{Message}
use Rattle.imap_fetch.specs.Asked.{body_sections}
use Rattle.imap_session.specs.declared.dialog.Fetching.{Fetching}
use Rattle.imap_session.specs.declared.dialog.Searching.{Searching}
use Rattle.imap_session.specs.Searching.{is_of_texts, is_too_large, search_bodies}
use Rattle.search_verb.specs.Meets.{needed}
use Rattle.imap_view.specs.declared.messages.Known.{Known}
use Rattle.imap_session.specs.Dialog.{holds_all}
use Rattle.imap_session.specs.Fetching.{bodies_of, is_refused_unread}
use Rattle.imap_view.specs.Named.{rows_at}
use Rattle.imap_view.specs.Views.{entry_of, is_message}

-- what is found is one of all
found_is : {X : Type 0} → (p q : X → Bool) (xs : List X) → list_all p xs ≡ true → list_all p (cons_option (find q xs) []) ≡ true
found_is p q [] h = refl
found_is {X} p q (x ∷ xs) h = by_test (q x) (found_is p q xs (second_so _ _ h))
  where
    by_test : (b : Bool) → list_all p (cons_option (find q xs) []) ≡ true → list_all p (cons_option (cond b (Some x) (find q xs)) []) ≡ true
    by_test true more = both (p x) true (first_so _ _ h) refl
    by_test false more = more

-- the entries of a mailbox are entries of the store
mail_is : (test : Body → Bool) (id : BoxId) (rs : List (BoxId × Mailbox)) → holds_all test rs ≡ true → list_all (λ (e : Entry). test e.body) (mail_at id rs) ≡ true
mail_is test id [] h = refl
mail_is test id (r ∷ rs) h = by_test (eq_by_cmp box_cmp id r.0) (mail_is test id rs (second_so _ _ h))
  where
    by_test : (b : Bool) → list_all (λ (e : Entry). test e.body) (mail_at id rs) ≡ true
        → list_all (λ (e : Entry). test e.body) (unwrap_or (option_map (λ (m : Mailbox). m.entries) (cond b (Some r.1) (row_at id rs))) []) ≡ true
    by_test true more = first_so _ _ h
    by_test false more = more

-- the messages that are still there are entries of the mailbox
rows_are : (test : Body → Bool) (sizes : Body → Option ℕ) (entries : List Entry) (view : List Known) (places : List ℕ) → list_all (λ (e : Entry). test e.body) entries ≡ true
    → list_all test (map (λ (m : Message). m.entry.body) (rows_at sizes entries view places)) ≡ true
rows_are test sizes entries view [] h = refl
rows_are test sizes entries view (place ∷ places) h = by_known (slice_get view place) (rows_are test sizes entries view places h)
  where
    by_entry : (o : Option Entry) → list_all (λ (e : Entry). test e.body) (cons_option o []) ≡ true
        → list_all test (map (λ (m : Message). m.entry.body) (rows_at sizes entries view places)) ≡ true
        → list_all test (map (λ (m : Message). m.entry.body) (cons_option (option_map (λ (e : Entry). record { place = place + 1; entry = e; size = unwrap_or (sizes e.body) 0 }) o) (rows_at sizes entries view places))) ≡ true
    by_entry None is more = more
    by_entry (Some e) is more = both (test e.body) (list_all test (map (λ (m : Message). m.entry.body) (rows_at sizes entries view places))) (first_so (test e.body) true is) more

    by_known : (k : Option Known)
        → list_all test (map (λ (m : Message). m.entry.body) (rows_at sizes entries view places)) ≡ true
        → list_all test (map (λ (m : Message). m.entry.body) (cons_option (option_map (λ (e : Entry). record { place = place + 1; entry = e; size = unwrap_or (sizes e.body) 0 }) (option_and_then (entry_of entries) k)) (rows_at sizes entries view places))) ≡ true
    by_known None more = more
    by_known (Some known) more = by_entry (find (is_message known) entries) (found_is (λ (e : Entry). test e.body) (is_message known) entries h) more

bodies_if : (test : Body → Bool) (b : Bool) (bodies : List Body) → list_all test bodies ≡ true → list_all test (cond b [] bodies) ≡ true
bodies_if test true bodies h = refl
bodies_if test false bodies h = h

-- the bodies of messages of a mailbox are those of entries of the store
pub bodies_are : (test : Body → Bool) (sizes : Body → Option ℕ) (id : BoxId) (rs : List (BoxId × Mailbox)) (f : Fetching) (view : List Known) (places : List ℕ)
    → f.rows ≡ rows_at sizes (mail_at id rs) view places → holds_all test rs ≡ true → list_all test (bodies_of f) ≡ true
bodies_are test sizes id rs f view places is h =
    bodies_if test ((body_sections f.form.attributes == 0) || is_refused_unread f) (map (λ (m : Message). m.entry.body) f.rows)
    (rw is (rows_are test sizes (mail_at id rs) view places (mail_is test id rs h)))

-- so are those that a SEARCH needs
pub searched_are : (test : Body → Bool) (sizes : Body → Option ℕ) (id : BoxId) (rs : List (BoxId × Mailbox)) (q : Searching) (view : List Known) (places : List ℕ)
    → q.rows ≡ rows_at sizes (mail_at id rs) view places → holds_all test rs ≡ true → list_all test (search_bodies q) ≡ true
searched_are test sizes id rs q view places is h =
    bodies_if test (not (is_of_texts (needed q.key)) || is_too_large q) (map (λ (m : Message). m.entry.body) q.rows)
    (rw is (rows_are test sizes (mail_at id rs) view places (mail_is test id rs h)))
