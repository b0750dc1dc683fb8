-- The messages of a view that are still there are those of which the store has the keys.
use Rattle.std.proofs.Common.{◌≡◌, ℕ, zero, suc, ◌≤◌, Bool, true, false, not, ◌&&◌, ◌||◌, cond, List, [], ◌∷◌, find, length, slice_get, refl, ap, ◌∙◌, arith, subst, true≢false, nat_lt, Option, None, Some, option_map, option_and_then, is_some, sym}
use Rattle.std.specs.Prelude.{◌==◌, ◌+◌, unwrap_or}
use Rattle.verb_core.specs.Names.{is_empty}
use Rattle.std.specs.Cmp.{first_so, second_so}
use Rattle.std.specs.List.{cons_option, list_all, list_any}
use Rattle.std.proofs.lemmas.Bool.Decides.{nat_tests}
use Rattle.undo_base.specs.declared.keys.Key.{Key}
use Rattle.imap_fetch.specs.declared.messages.Message.{Message}
use Rattle.verb_core.specs.declared.mailbox.Body.{Body}
use Rattle.verb_core.specs.declared.mailbox.Entry.{Entry}
use Rattle.verb_core.specs.Live.{lacks}
use Rattle.verb_core.specs.Mailboxes.{same_key}
use Rattle.imap_view.specs.declared.messages.Known.{Known}
use Rattle.imap_view.specs.Views.{entry_of, is_message}
use Rattle.imap_view.specs.Named.{keys_at, rows_at}
use Rattle.imap_view.specs.Following.{keeps_uids}

and_given : (a s : Bool) → (not s || a) ≡ true → (a && s) ≡ s
and_given true s h = refl
and_given false true h = h
and_given false false h = refl

-- a message is found by its UID and key where its key is there
found_by_key : (k : Known) (entries : List Entry) → list_all (λ (e : Entry). not (same_key k.key e.key) || (k.uid == e.uid)) entries ≡ true
    → is_some (find (is_message k) entries) ≡ list_any (λ (e : Entry). same_key k.key e.key) entries
found_by_key k [] h = refl
found_by_key k (e ∷ entries) h =
    ap (λ (b : Bool). is_some (cond b (Some e) (find (is_message k) entries))) (and_given (k.uid == e.uid) (same_key k.key e.key) (first_so _ _ h))
    ∙ by_key (same_key k.key e.key) (found_by_key k entries (second_so _ _ h))
  where
    by_key : (b : Bool) → is_some (find (is_message k) entries) ≡ list_any (λ (e : Entry). same_key k.key e.key) entries
        → is_some (cond b (Some e) (find (is_message k) entries)) ≡ (b || list_any (λ (e : Entry). same_key k.key e.key) entries)
    by_key true more = refl
    by_key false more = more

-- what holds of all holds of the one at a place
all_at : {X : Type 0} (p : X → Bool) (xs : List X) (i : ℕ) (x : X) → slice_get xs i ≡ Some x → list_all p xs ≡ true → p x ≡ true
all_at p [] i x is h = absurd (none_some is)
  where
    none_some : {X : Type 0} {x : X} → None ≡ Some x → ⊥
    none_some e = true≢false (sym (ap is_some e))
all_at p (y ∷ xs) zero x is h = subst (λ z. p z ≡ true) (ap (λ o. unwrap_or o y) is) (first_so _ _ h)
all_at p (y ∷ xs) (suc i) x is h = all_at p xs i x is (second_so _ _ h)

suc_lt : (a b : ℕ) → nat_lt (suc a) (suc b) ≡ nat_lt a b
suc_lt a b = grind (arith, nat_tests)

suc_more : (a b : ℕ) → a ≤ b → nat_lt a (suc b) ≡ true
suc_more a b le = grind (arith, nat_tests)

one_more : (f : Entry → Message) (o : Option Entry) (b : Bool) (key : Key) (rows : List Message) (named : ℕ) (lacking : Bool) → is_some o ≡ b → (length rows ≤ named) × (nat_lt (length rows) named ≡ lacking)
    → (length (cons_option (option_map f o) rows) ≤ suc named) × (nat_lt (length (cons_option (option_map f o) rows)) (suc named) ≡ (is_empty (cond b (key ∷ []) []) || lacking))
one_more f None true key rows named lacking e h = absurd (true≢false (sym e))
one_more f None false key rows named lacking e (le, is) = (omega arith, suc_more (length rows) named le)
one_more f (Some x) true key rows named lacking e (le, is) = (omega arith, suc_lt (length rows) named ∙ is)
one_more f (Some x) false key rows named lacking e h = absurd (true≢false e)

pub rows_as_keys : (sizes : Body → Option ℕ) (entries : List Entry) (view : List Known) (places : List ℕ) → keeps_uids entries view ≡ true
    → (length (rows_at sizes entries view places) ≤ length (keys_at view places)) × (nat_lt (length (rows_at sizes entries view places)) (length (keys_at view places)) ≡ lacks entries (keys_at view places))
rows_as_keys sizes entries view [] h = (omega arith, refl)
rows_as_keys sizes entries view (place ∷ places) h = by_known (slice_get view place) refl (rows_as_keys sizes entries view places h)
  where
    row : Entry → Message
    row e = record { place = place + 1; entry = e; size = unwrap_or (sizes e.body) 0 }

    by_known : (o : Option Known) → slice_get view place ≡ o
        → (length (rows_at sizes entries view places) ≤ length (keys_at view places)) × (nat_lt (length (rows_at sizes entries view places)) (length (keys_at view places)) ≡ lacks entries (keys_at view places))
        → (length (cons_option (option_map row (option_and_then (entry_of entries) o)) (rows_at sizes entries view places)) ≤ length (cons_option (option_map (λ (k : Known). k.key) o) (keys_at view places)))
        × (nat_lt (length (cons_option (option_map row (option_and_then (entry_of entries) o)) (rows_at sizes entries view places))) (length (cons_option (option_map (λ (k : Known). k.key) o) (keys_at view places))) ≡ lacks entries (cons_option (option_map (λ (k : Known). k.key) o) (keys_at view places)))
    by_known None is more = more
    by_known (Some k) is more =
        one_more row (find (is_message k) entries) (list_any (λ (e : Entry). same_key k.key e.key) entries) k.key (rows_at sizes entries view places) (length (keys_at view places)) (lacks entries (keys_at view places))
        (found_by_key k entries (all_at (λ (known : Known). list_all (λ (e : Entry). not (same_key known.key e.key) || (known.uid == e.uid)) entries) view place k is h)) more
