-- Messages of a view, and those of them that went.
use Rattle.std.proofs.Common.{◌≡◌, ℕ, zero, suc, ◌+◌, ◌<◌, Bool, true, false, not, ◌||◌, cond, List, [], ◌∷◌, ◌++◌, map, filter, take, length, get_or, refl, sym, ap, ap₂, subst, ◌∙◌, arith, eqb-true, add-one, add-zero, true≢false, nat_eq}
use Rattle.std.specs.Cmp.{first_so, second_so}
use Rattle.std.proofs.lemmas.Bool.Decides.{nat_tests}
use Rattle.std.specs.List.{list_all, list_any, enumerate_from}
use Rattle.undo_base.specs.declared.keys.Key.{Key}
use Rattle.imap_text.specs.Answers.{expunge_from, expunge_lines}
use Rattle.verb_core.specs.Mailboxes.{same_key}
use Rattle.verb_core.proofs.Validity.{both}
use Rattle.verb_core.specs.declared.mailbox.Entry.{Entry}
use Rattle.imap_view.specs.declared.messages.Known.{Known}
use Rattle.imap_view.specs.Views.{exists_text, has_more, is_current, is_lost, is_message, is_new, known_of, lost_in, news, view_of}

-- the entry of a message has its UID
pub uid_of_message : (known : Known) (e : Entry) → is_message known e ≡ true → e.uid ≡ known.uid
uid_of_message known e h = sym (eqb-true known.uid e.uid (first_so _ _ h))

pub uid_of_entry : (e : Entry) (known : Known) → is_message known e ≡ true → known.uid ≡ e.uid
uid_of_entry e known h = eqb-true known.uid e.uid (first_so _ _ h)

-- an entry, for a place that is not there
abbrev pub no_entry : Entry
no_entry = record {
  uid = 0;
  key = record { item = 0; index = 0 };
  body = record { origin = 0; rev = 0 };
  flags = record { answered = false; flagged = false; deleted = false; seen = false; draft = false };
  at = 0;
}

abbrev pub no_message : Known
no_message = record { uid = 0; key = record { item = 0; index = 0 } }

-- what went among a list of numbered messages
lost_rows : List Entry → List (ℕ × Known) → List ℕ
lost_rows entries rows = map (λ (k : ℕ × Known). k.0) (filter (λ k. is_lost entries k.1) rows)

-- one message more
lost_from_more : (entries : List Entry) (from : ℕ) (view : List Known) (i : ℕ) (d : Known) → i < length view
    → lost_rows entries (enumerate_from from (take (suc i) view)) ≡ lost_rows entries (enumerate_from from (take i view)) ++ cond (is_lost entries (get_or view i d)) ((from + i) ∷ []) []
unfolding lost_rows
lost_from_more entries from [] i d lt = absurd (omega arith)
lost_from_more entries from (k ∷ view) zero d lt =
    elim (is_lost entries k) as (λ b. map (λ (k : ℕ × Known). k.0) (cond b ((from, k) ∷ []) []) ≡ cond b ((from + 0) ∷ []) []) [ true ↦ ap (λ (n : ℕ). n ∷ []) (sym (add-zero from)) | false ↦ refl ]
lost_from_more entries from (k ∷ view) (suc i) d lt =
    let more = lost_from_more entries (from + 1) view i d (omega arith) in
    let number : (from + 1) + i ≡ from + suc i = omega arith in
    elim (is_lost entries k) as (λ b. map (λ (k : ℕ × Known). k.0) (cond b ((from, k) ∷ filter (λ k. is_lost entries k.1) (enumerate_from (from + 1) (take (suc i) view))) (filter (λ k. is_lost entries k.1) (enumerate_from (from + 1) (take (suc i) view))))
    ≡ map (λ (k : ℕ × Known). k.0) (cond b ((from, k) ∷ filter (λ k. is_lost entries k.1) (enumerate_from (from + 1) (take i view))) (filter (λ k. is_lost entries k.1) (enumerate_from (from + 1) (take i view)))) ++ cond (is_lost entries (get_or view i d)) ((from + suc i) ∷ []) []) [
      | true ↦ ap (λ (ns : List ℕ). from ∷ ns) (more ∙ ap (λ (n : ℕ). lost_rows entries (enumerate_from (from + 1) (take i view)) ++ cond (is_lost entries (get_or view i d)) (n ∷ []) []) number)
      | false ↦ more ∙ ap (λ (n : ℕ). lost_rows entries (enumerate_from (from + 1) (take i view)) ++ cond (is_lost entries (get_or view i d)) (n ∷ []) []) number
    ]

pub lost_more : (entries : List Entry) (view : List Known) (i : ℕ) (d : Known) → i < length view
    → lost_in entries (take (i + 1) view) ≡ lost_in entries (take i view) ++ cond (is_lost entries (get_or view i d)) ((i + 1) ∷ []) []
unfolding lost_rows
lost_more entries view i d lt =
    let number : 1 + i ≡ i + 1 = omega arith in
    ap (λ (n : ℕ). lost_in entries (take n view)) (add-one i) ∙ lost_from_more entries 1 view i d lt
    ∙ ap (λ (n : ℕ). lost_in entries (take i view) ++ cond (is_lost entries (get_or view i d)) (n ∷ []) []) number

-- ---- a view of exactly what lies in the mailbox

same_keys : (a b : Key) → same_key a b ≡ true → a ≡ b
same_keys a b h = λ i. record { item = eqb-true a.item b.item (first_so _ _ h) i; index = eqb-true a.index b.index (second_so _ _ h) i }

pub known_is : (known : Known) (e : Entry) → is_message known e ≡ true → known_of e ≡ known
known_is known e h = sym (λ i. record { uid = eqb-true known.uid e.uid (first_so _ _ h) i; key = same_keys known.key e.key (second_so _ _ h) i })

pub current_is : (entries : List Entry) (view : List Known) → is_current entries view ≡ true → view_of entries ≡ view
current_is [] [] h = refl
current_is (e ∷ entries) [] h = absurd (true≢false (sym h))
current_is [] (k ∷ view) h = absurd (true≢false (sym h))
current_is (e ∷ entries) (k ∷ view) h = λ i. known_is k e (first_so _ _ h) i ∷ current_is entries view (second_so _ _ h) i

alike : (n : ℕ) → nat_eq n n ≡ true
alike n = grind (arith, nat_tests)

itself : (e : Entry) → is_message (known_of e) e ≡ true
itself e = both _ _ (alike e.uid) (both _ _ (alike e.key.item) (alike e.key.index))

-- a view made of a mailbox is current
pub view_is_current : (entries : List Entry) → is_current entries (view_of entries) ≡ true
view_is_current [] = refl
view_is_current (e ∷ entries) = both _ _ (itself e) (view_is_current entries)

-- each of some is like one of all, where all have what some have
each_inside : {X : Type 0} (f : X → X → Bool) → ((x : X) → f x x ≡ true) → (xs ys : List X) → ((p : X → Bool) → list_any p xs ≡ true → list_any p ys ≡ true) → list_all (λ x. list_any (f x) ys) xs ≡ true
each_inside f same [] ys h = refl
each_inside {X = X} f same (x ∷ xs) ys h =
    both _ _ (h (f x) (ap (λ b. b || list_any (f x) xs) (same x))) (each_inside f same xs ys (λ p t. h p (later p t)))
  where
    later : (p : X → Bool) → list_any p xs ≡ true → (p x || list_any p xs) ≡ true
    later p t = elim (p x) as (λ b. (b || list_any p xs) ≡ true) [ true ↦ refl | false ↦ t ]

none_lost : (entries : List Entry) (from : ℕ) (some : List Entry) → list_all (λ (e : Entry). list_any (is_message (known_of e)) entries) some ≡ true → lost_rows entries (enumerate_from from (view_of some)) ≡ []
unfolding lost_rows
none_lost entries from [] h = refl
none_lost entries from (e ∷ some) h =
    ap (λ b. map (λ (k : ℕ × Known). k.0) (cond (not b) ((from, known_of e) ∷ filter (λ k. is_lost entries k.1) (enumerate_from (from + 1) (view_of some))) (filter (λ k. is_lost entries k.1) (enumerate_from (from + 1) (view_of some)))))
    (first_so (list_any (is_message (known_of e)) entries) (list_all (λ (e : Entry). list_any (is_message (known_of e)) entries) some) h)
    ∙ none_lost entries (from + 1) some (second_so (list_any (is_message (known_of e)) entries) _ h)

none_new : (view : List Known) (some : List Entry) → list_all (λ (e : Entry). list_any (λ known. is_message known e) view) some ≡ true → has_more some view ≡ false
none_new view [] h = refl
none_new view (e ∷ some) h =
    ap (λ b. not b || list_any (is_new view) some) (first_so (list_any (λ (known : Known). is_message known e) view) _ h)
    ∙ none_new view some (second_so (list_any (λ (known : Known). is_message known e) view) _ h)

any_of_view : (p : Known → Bool) (entries : List Entry) → list_any p (view_of entries) ≡ list_any (λ (e : Entry). p (known_of e)) entries
any_of_view p [] = refl
any_of_view p (e ∷ entries) = ap (λ b. p (known_of e) || b) (any_of_view p entries)

pub current_quiet : (entries : List Entry) (view : List Known) → is_current entries view ≡ true → news entries view ≡ []
unfolding lost_rows expunge_from
current_quiet entries view h =
    let lost : lost_in entries (view_of entries) ≡ [] = none_lost entries 1 entries (each_inside (λ (e f : Entry). is_message (known_of e) f) itself entries entries (λ p t. t)) in
    let there : list_all (λ (e : Entry). list_any (λ (known : Known). is_message known e) (view_of entries)) entries ≡ true =
    (λ i. list_all (λ (e : Entry). any_of_view (λ (known : Known). is_message known e) entries i) entries) ∙ each_inside (λ (e f : Entry). is_message (known_of f) e) itself entries entries (λ p t. t) in
    subst (λ (v : List Known). news entries v ≡ []) (current_is entries view h)
    (ap₂ (λ (ns : List ℕ) (more : Bool). expunge_lines ns ++ cond more (exists_text (length entries)) []) lost (none_new (view_of entries) entries there))
