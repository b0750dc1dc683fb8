-- A desk over a past that was cut off, while the records come that it begins with.
use Rattle.std.proofs.Common.{◌≡◌, ◌≢◌, inl, inr, ℕ, zero, suc, ◌+◌, ◌<◌, ◌≤◌, ◌==◌, Bool, true, false, not, ◌&&◌, ◌||◌, cond, List, [], ◌∷◌, ◌++◌, map, length, get_or, Option, Some, None, Result, Err, is_some, is_eq, option_map, option_and_then, nat_le, nat_lt, refl, ap, sym, subst, ◌∙◌, arith, true≢false, eqb-true, eq-eqb, zero-add, Ordering, Less, Equal, Greater}
use Rattle.std.specs.Cmp.{both_ways, first_so, second_so, tied_itself}
use Rattle.std.specs.Cmp.Lexicographic.{slice_cmp}
use Rattle.std.specs.FinMap.Entries as rows
use Rattle.std.specs.List.{AllByRecursion, cons_option, list_all, list_any}
use Rattle.std.specs.List.Sorted.{IsBinarySearchResult, IsNonDecreasingBy}
use Rattle.std.specs.Option.{option_or}
use Rattle.std.specs.Ordering.{eq_by_cmp, nat_cmp, ordering_then}
use Rattle.std.specs.Prelude.{◌↔◌, ◌⊎◌}
use Rattle.std.proofs.lemmas.Bool.{cases_order, leb-true, ltb-true}
use Rattle.std.proofs.lemmas.Cmp.{ranked}
use Rattle.std.proofs.lemmas.List.{append-nil}
use Rattle.std.proofs.lemmas.List.Folds.{list_any-append}
use Rattle.std.proofs.lemmas.List.Sums.{sum_by-cons}
use Rattle.undo_base.specs.declared.keys.Key.{Key}
use Rattle.undo_base.specs.declared.keys.User.{User}
use Rattle.verb_core.specs.declared.conf.Conf.{Conf}
use Rattle.verb_core.specs.declared.conf.House.{House}
use Rattle.verb_core.specs.declared.item.Item.{Item}
use Rattle.verb_core.specs.declared.mailbox.Body.{Body}
use Rattle.verb_core.specs.declared.mailbox.BoxId.{BoxId}
use Rattle.verb_core.specs.declared.mailbox.Entry.{Entry}
use Rattle.verb_core.specs.declared.mailbox.Mailbox.{Mailbox}
use Rattle.verb_core.specs.Boxes.{box_cmp, same_user}
use Rattle.verb_core.specs.Deeds.{same_body}
use Rattle.verb_core.specs.Fates.{AllOnce, IsFresh, count_in, of_key, times_held}
use Rattle.verb_core.specs.Items.{IsWellFormed, NumbersApart, text_in}
use Rattle.verb_core.specs.Mailboxes.{same_key}
use Rattle.verb_core.specs.Names.{is_empty}
use Rattle.verb_core.specs.Step.{run, step}
use Rattle.verb_core.specs.Store.{IsValid, MailStore, is_known}
use Rattle.verb_core.proofs.BoxLaws.{exact_boxes}
use Rattle.verb_core.proofs.FateLaws.{count_in-cons}
use Rattle.verb_core.proofs.Joins.{run_house, run_joined}
use Rattle.box_store.specs.Making.{makes_store, store_of_rows}
use Rattle.seal_log.specs.declared.place.Place.{Place}
use Rattle.shelf.specs.declared.note.Note.{Note}
use Rattle.shelf.specs.Notes.{NotesOnly, note_of, size_of}
use Rattle.store_kept.specs.Bases.{HasBase, IsNew}
use Rattle.store_kept.specs.Founding.{Based, are_reports, are_stamps, base_of, base_stands, can_be_kept, entries_of, founded, has_number, has_text_of, has_texts, is_entry_below, is_of_body, is_of_number, is_whole, names_body, names_number, once_each, origin_based, stamps_name, store_based, text_stands, with_item}
use Rattle.store_kept.specs.Kept.{BaseTexts, Kept, Reports, body_cmp, is_by_key, kept_from, with_base_text}
use Rattle.store_kept.specs.Naming.{NamedTexts, is_named, texts_come}
use Rattle.store_kept.specs.Texts.{all_bodies, has_text_with, text_before, text_with}
use Rattle.store_kept.proofs.Bodies.{bodies_total, same_is, tied}
use Rattle.store_kept.proofs.Known.{MailIsKept, StepsKeep, bodies_weaker, run_known}
use Rattle.mail_desk.specs.Desk.{IsDesk}
use Rattle.mail_desk.specs.Founding.{Founded, IsFounding, are_stamps_of, behind_named, numbers_named}
use Rattle.mail_desk.specs.Held.{marks_kept}
use Rattle.mail_desk.specs.Timeline.{NotesText, SizesOf, body_of}
use Rattle.mail_desk.proofs.BodyTexts.{itself, or_last, sizes_on}
use Rattle.mail_desk.proofs.Going.{own_with}
use Rattle.mail_desk.proofs.Indexes.{compared}
use Rattle.mail_desk.proofs.Timelines.{all_on, all_weaker, apart_on, unequal}

-- ---- numbers, found by halves

one_at : (number : ℕ) (xs : List ℕ) (i : ℕ) → i < length xs → ((d : ℕ) → get_or xs i d ≡ number) → list_any (λ (n : ℕ). n == number) xs ≡ true
one_at number [] i within is = absurd (omega arith)
one_at number (x ∷ xs) zero within is = rw (eq-eqb x number (is 0)) refl
one_at number (x ∷ xs) (suc i) within is = elim (x == number) as (λ b. (b || list_any (λ (n : ℕ). n == number) xs) ≡ true) [ true ↦ refl | false ↦ one_at number xs i (omega arith) is ]

none_at : (number : ℕ) (xs : List ℕ) → ((j : ℕ) → j < length xs → get_or xs j 0 ≢ number) → list_any (λ (n : ℕ). n == number) xs ≡ false
none_at number [] none = refl
none_at number (x ∷ xs) none =
    elim (x == number) as (λ b. (x == number) ≡ b → (b || list_any (λ (n : ℕ). n == number) xs) ≡ false) [
      | true ↦ λ here. absurd (none 0 (omega arith) (eqb-true x number here))
      | false ↦ λ other. none_at number xs (λ j within. none (suc j) (omega arith))
    ] refl

pub number_there : (number : ℕ) (xs : List ℕ) (i : ℕ) → i < length xs → ((d : ℕ) → nat_cmp (get_or xs i d) number ≡ Equal) → list_any (λ (n : ℕ). n == number) xs ≡ true
number_there number xs i within equal = one_at number xs i within (λ d. ranked (get_or xs i d) number Equal (sym (equal d)))

pub number_missing : (number : ℕ) (xs : List ℕ) → IsNonDecreasingBy (λ (n : ℕ). n) xs → (at : ℕ) → IsBinarySearchResult (λ (n : ℕ). nat_cmp n number) xs (let r : Result ℕ ℕ = Err at in r) → list_any (λ (n : ℕ). n == number) xs ≡ false
number_missing number xs rising at parted =
    let ends = parted (λ i j d le within. compared (get_or xs i d) (get_or xs j d) number (rising i j d le within)) in
    none_at number xs (λ j within same. elim (cases_order j at) [
      | inr (inl lt) ↦ (let lower : get_or xs j 0 < number = ranked (get_or xs j 0) number Less (sym (ends.0 j 0 (omega arith) lt)) in omega (arith, lower, same))
      | inl is ↦ (let higher : number < get_or xs j 0 = ranked (get_or xs j 0) number Greater (sym (ends.1 j 0 (omega arith) within)) in omega (arith, higher, same))
      | inr (inr gt) ↦ (let higher : number < get_or xs j 0 = ranked (get_or xs j 0) number Greater (sym (ends.1 j 0 (omega arith) within)) in omega (arith, higher, same))
    ])

-- the numbers of entries
pub any_number : (number : ℕ) (entries : List Entry) → list_any (λ (n : ℕ). n == number) (numbers_named entries) ≡ list_any (is_of_number number) entries
any_number number [] = refl
any_number number (e ∷ entries) =
    ap (λ (b : Bool). (e.key.item == number) || ((e.body.origin == number) || b)) (any_number number entries) ∙ joined (e.key.item == number) (e.body.origin == number) (list_any (is_of_number number) entries)
  where
    joined : (a b c : Bool) → (a || (b || c)) ≡ ((a || b) || c)
    joined true b c = refl
    joined false b c = refl

-- ---- stamps and mailboxes

pub stamps_none : (stamps : List (BoxId × ℕ)) → (length stamps == 0) ≡ are_stamps_of stamps []
stamps_none [] = refl
stamps_none (s ∷ stamps) = unequal (length (s ∷ stamps)) 0 (λ same. omega (arith, same))

exact_names : (xs ys : List BoxId) → is_eq (slice_cmp box_cmp xs ys) ≡ true → xs ≡ ys
exact_names [] [] e = refl
exact_names [] (y ∷ ys) e = cc
exact_names (x ∷ xs) [] e = cc
exact_names (x ∷ xs) (y ∷ ys) e =
    elim (box_cmp x y) as (λ o. box_cmp x y ≡ o → is_eq (ordering_then o (slice_cmp box_cmp xs ys)) ≡ true → x ∷ xs ≡ y ∷ ys) [
      | Less ↦ λ is f. cc
      | Equal ↦ λ is f. λ j. exact_boxes x y is j ∷ exact_names xs ys f j
      | Greater ↦ λ is f. cc
    ] refl e

pub named_by : (stamps : List (BoxId × ℕ)) (s : MailStore) → stamps_name stamps s ≡ true → map (λ (r : BoxId × ℕ). r.0) stamps ≡ map (λ (r : BoxId × Mailbox). r.0) s.boxes
named_by stamps s e = exact_names (map (λ (r : BoxId × ℕ). r.0) stamps) (map (λ (r : BoxId × Mailbox). r.0) s.boxes) e

-- ---- what a base that can stand has

module _ (house : House) (b : Based) (stands : base_stands house b ≡ true) where
  abbrev one : Bool
  one = nat_le b.next 4194304

  abbrev two : Bool
  two = one && makes_store house b.conf b.rows

  abbrev three : Bool
  three = two && once_each b.rows

  abbrev four : Bool
  four = three && list_all (is_entry_below b.next) (entries_of b.rows)

  abbrev five : Bool
  five = four && are_stamps house b.next b.stamps

  at_five : five ≡ true
  at_five = first_so five (are_reports house b.reports) stands

  at_four : four ≡ true
  at_four = first_so four (are_stamps house b.next b.stamps) at_five

  at_three : three ≡ true
  at_three = first_so three (list_all (is_entry_below b.next) (entries_of b.rows)) at_four

  at_two : two ≡ true
  at_two = first_so two (once_each b.rows) at_three

  pub next_small : b.next ≤ 4194304
  next_small = leb-true b.next 4194304 (first_so one (makes_store house b.conf b.rows) at_two)

  pub makes : makes_store house b.conf b.rows ≡ true
  makes = second_so one (makes_store house b.conf b.rows) at_two

  pub once : once_each b.rows ≡ true
  once = second_so two (once_each b.rows) at_three

  pub entries_below : list_all (is_entry_below b.next) (entries_of b.rows) ≡ true
  entries_below = second_so three (list_all (is_entry_below b.next) (entries_of b.rows)) at_four

  pub stamps_are : are_stamps house b.next b.stamps ≡ true
  stamps_are = second_so four (are_stamps house b.next b.stamps) at_five

  pub reports_are : is_by_key b.reports ≡ true
  reports_are = first_so (is_by_key b.reports) _ (second_so five (are_reports house b.reports) stands)

stamps_low : (house : House) (next : ℕ) (stamps : List (BoxId × ℕ)) → list_all (λ (r : BoxId × ℕ). nat_lt r.1 next && is_known house r.0.user) stamps ≡ true → AllByRecursion (λ (r : BoxId × ℕ). r.1 < next) stamps
stamps_low house next [] all = tt
stamps_low house next (r ∷ stamps) all =
    let rest = list_all (λ (q : BoxId × ℕ). nat_lt q.1 next && is_known house q.0.user) stamps in
    let here = first_so (nat_lt r.1 next && is_known house r.0.user) rest all in
    (ltb-true r.1 next (first_so (nat_lt r.1 next) (is_known house r.0.user) here), stamps_low house next stamps (second_so (nat_lt r.1 next && is_known house r.0.user) rest all))

-- ---- numbers that a base does not name

neither : (a c : Bool) → (a || c) ≡ false → (a ≡ false) × (c ≡ false)
neither true c e = absurd (true≢false e)
neither false c e = (refl, e)

-- those from the next on
beyond_entries : (next number : ℕ) (entries : List Entry) → list_all (is_entry_below next) entries ≡ true → next ≤ number → list_any (is_of_number number) entries ≡ false
beyond_entries next number [] all le = refl
beyond_entries next number (e ∷ entries) all le =
    let rest = list_all (is_entry_below next) entries in
    let here = first_so (is_entry_below next e) rest all in
    let low = first_so (nat_lt e.key.item next && nat_lt e.body.origin next) (nat_lt e.body.rev next) here in
    let item : e.key.item < next = ltb-true e.key.item next (first_so (nat_lt e.key.item next) (nat_lt e.body.origin next) low) in
    let origin : e.body.origin < next = ltb-true e.body.origin next (second_so (nat_lt e.key.item next) (nat_lt e.body.origin next) low) in
    rw (unequal e.key.item number (λ same. omega (arith, item, le, same)), unequal e.body.origin number (λ same. omega (arith, origin, le, same)))
    (beyond_entries next number entries (second_so (is_entry_below next e) rest all) le)

-- no message has one as its item
none_in : (key : Key) (number : ℕ) (entries : List Entry) → key.item ≡ number → list_any (is_of_number number) entries ≡ false → count_in (of_key key) entries ≡ 0
none_in key number [] is none = refl
none_in key number (e ∷ entries) is none =
    let both = neither (is_of_number number e) (list_any (is_of_number number) entries) none in
    let item : (e.key.item == number) ≡ false = (neither (e.key.item == number) (e.body.origin == number) both.0).0 in
    count_in-cons (of_key key) e entries
    ∙ ap (λ (x : Bool). cond (x && (key.index == e.key.index)) 1 0 + count_in (of_key key) entries) (unequal key.item e.key.item (λ same. true≢false (sym (eq-eqb e.key.item number (sym same ∙ is)) ∙ item)))
    ∙ zero-add (count_in (of_key key) entries) ∙ none_in key number entries is both.1

abbrev held_in : User → Key → BoxId × Mailbox → ℕ
held_in u key r = cond (same_user u r.0.user) (count_in (of_key key) r.1.entries) 0

none_if : (x : Bool) (n : ℕ) → n ≡ 0 → cond x n 0 ≡ 0
none_if true n e = e
none_if false n e = refl

none_held : (u : User) (key : Key) (number : ℕ) (boxes : List (BoxId × Mailbox)) → key.item ≡ number → names_number boxes number ≡ false → times_held u key boxes ≡ 0
none_held u key number [] is none = refl
none_held u key number (r ∷ boxes) is none =
    let both = neither (list_any (is_of_number number) r.1.entries) (names_number boxes number) (sym (list_any-append (is_of_number number) r.1.entries (entries_of boxes)) ∙ none) in
    sum_by-cons (held_in u key) r boxes
    ∙ ap (λ (n : ℕ). n + times_held u key boxes) (none_if (same_user u r.0.user) (count_in (of_key key) r.1.entries) (none_in key number r.1.entries is both.0))
    ∙ zero-add (times_held u key boxes) ∙ none_held u key number boxes is both.1

-- nor is one the origin of a text
any_weaker : (p q : Entry → Bool) → ((e : Entry) → p e ≡ true → q e ≡ true) → (entries : List Entry) → list_any p entries ≡ true → list_any q entries ≡ true
any_weaker p q so [] e = cc
any_weaker p q so (x ∷ entries) e =
    elim (p x) as (λ a. p x ≡ a → (a || list_any p entries) ≡ true → (q x || list_any q entries) ≡ true) [
      | true ↦ λ here any. rw (so x here) refl
      | false ↦ λ other any. or_second (q x) (list_any q entries) (any_weaker p q so entries any)
    ] refl e
  where
    or_second : (x y : Bool) → y ≡ true → (x || y) ≡ true
    or_second true y e = refl
    or_second false y e = e

origin_named : (rows : List (BoxId × Mailbox)) (body : Body) → names_body rows body ≡ true → names_number rows body.origin ≡ true
origin_named rows body named =
    any_weaker (is_of_body body) (is_of_number body.origin)
    (λ e same. second_true (e.key.item == body.origin) (e.body.origin == body.origin) (eq-eqb e.body.origin body.origin (sym (eqb-true body.origin e.body.origin (first_so (body.origin == e.body.origin) (body.rev == e.body.rev) same)))))
    (entries_of rows) named
  where
    second_true : (x y : Bool) → y ≡ true → (x || y) ≡ true
    second_true true y e = refl
    second_true false y e = e

-- each text that has come is of a body that is named
come_named : (named : NamedTexts) → AllByRecursion (λ (t : Body × List ℕ). is_named named t.0 ≡ true) (texts_come named)
come_named [] = tt
come_named (r ∷ named) = by r.1 (all_weaker (λ (t : Body × List ℕ). is_named named t.0 ≡ true) (λ (t : Body × List ℕ). is_named (r ∷ named) t.0 ≡ true) (λ t there. later (eq_by_cmp body_cmp t.0 r.0) (rows.find body_cmp t.0 named) there) (texts_come named) (come_named named))
  where
    later : (x : Bool) (o : Option (Option (List ℕ))) → is_some o ≡ true → is_some (cond x (Some r.1) o) ≡ true
    later true o e = refl
    later false o e = e

    by : (o : Option (List ℕ)) → AllByRecursion (λ (t : Body × List ℕ). is_named (r ∷ named) t.0 ≡ true) (texts_come named)
        → AllByRecursion (λ (t : Body × List ℕ). is_named (r ∷ named) t.0 ≡ true) (cons_option (option_map (λ (text : List ℕ). (r.0, text)) o) (texts_come named))
    by None rest = rest
    by (Some text) rest = (ap (λ (x : Bool). is_some (cond x (Some r.1) (rows.find body_cmp r.0 named))) (ap is_eq (tied_itself bodies_total r.0)), rest)

unnamed_are : (named : NamedTexts) (rows : List (BoxId × Mailbox)) (number : ℕ) → ((body : Body) → is_named named body ≡ names_body rows body) → names_number rows number ≡ false
    → AllByRecursion (λ (t : Body × List ℕ). t.0.origin ≢ number) (texts_come named)
unnamed_are named rows number names none =
    all_weaker (λ (t : Body × List ℕ). is_named named t.0 ≡ true) (λ (t : Body × List ℕ). t.0.origin ≢ number)
    (λ t there same. true≢false (sym (origin_named rows t.0 (sym (names t.0) ∙ there)) ∙ ap (names_number rows) same ∙ none)) (texts_come named) (come_named named)

-- ---- each message once

abbrev is_once : List (BoxId × Mailbox) → User → Entry → Bool
is_once all u e = nat_le (times_held u e.key all) 1

-- an entry that a user has under a key
once_in : (all : List (BoxId × Mailbox)) (u : User) (key : Key) (entries : List Entry) → list_all (is_once all u) entries ≡ true → (count_in (of_key key) entries ≡ 0) ⊎ (times_held u key all ≤ 1)
once_in all u key [] each = inl refl
once_in all u key (e ∷ entries) each = by (of_key key e) refl (once_in all u key entries (second_so (is_once all u e) (list_all (is_once all u) entries) each))
  where
    low : times_held u e.key all ≤ 1
    low = leb-true (times_held u e.key all) 1 (first_so (is_once all u e) (list_all (is_once all u) entries) each)

    key_is : of_key key e ≡ true → key ≡ e.key
    key_is same = λ j. record { item = eqb-true key.item e.key.item (first_so (key.item == e.key.item) (key.index == e.key.index) same) j; index = eqb-true key.index e.key.index (second_so (key.item == e.key.item) (key.index == e.key.index) same) j }

    by : (x : Bool) → of_key key e ≡ x → (count_in (of_key key) entries ≡ 0) ⊎ (times_held u key all ≤ 1) → (count_in (of_key key) (e ∷ entries) ≡ 0) ⊎ (times_held u key all ≤ 1)
    by true same rest = inr (subst (λ (k : Key). times_held u k all ≤ 1) (sym (key_is same)) low)
    by false other (inr le) = inr le
    by false other (inl none) = inl (count_in-cons (of_key key) e entries ∙ ap (λ (x : Bool). cond x 1 0 + count_in (of_key key) entries) other ∙ zero-add (count_in (of_key key) entries) ∙ none)

once_held : (all boxes : List (BoxId × Mailbox)) (u : User) (key : Key) → list_all (λ (r : BoxId × Mailbox). list_all (is_once all r.0.user) r.1.entries) boxes ≡ true → (times_held u key boxes ≡ 0) ⊎ (times_held u key all ≤ 1)
once_held all [] u key each = inl refl
once_held all (r ∷ boxes) u key each = by (same_user u r.0.user) refl (once_held all boxes u key (second_so (list_all (is_once all r.0.user) r.1.entries) (list_all (λ (q : BoxId × Mailbox). list_all (is_once all q.0.user) q.1.entries) boxes) each))
  where
    here : list_all (is_once all r.0.user) r.1.entries ≡ true
    here = first_so (list_all (is_once all r.0.user) r.1.entries) (list_all (λ (q : BoxId × Mailbox). list_all (is_once all q.0.user) q.1.entries) boxes) each

    user_is : same_user u r.0.user ≡ true → u ≡ r.0.user
    user_is same = λ j. record { 0 = eqb-true u.0 r.0.user.0 same j }

    counted : (n : ℕ) → held_in u key r ≡ n → times_held u key (r ∷ boxes) ≡ n + times_held u key boxes
    counted n e = sum_by-cons (held_in u key) r boxes ∙ ap (λ (m : ℕ). m + times_held u key boxes) e

    of_entries : same_user u r.0.user ≡ true → times_held u key boxes ≡ 0 → (count_in (of_key key) r.1.entries ≡ 0) ⊎ (times_held r.0.user key all ≤ 1) → (times_held u key (r ∷ boxes) ≡ 0) ⊎ (times_held u key all ≤ 1)
    of_entries same rest (inl none) = inl (counted 0 (ap (λ (x : Bool). cond x (count_in (of_key key) r.1.entries) 0) same ∙ none) ∙ zero-add (times_held u key boxes) ∙ rest)
    of_entries same rest (inr le) = inr (subst (λ (v : User). times_held v key all ≤ 1) (sym (user_is same)) le)

    by : (x : Bool) → same_user u r.0.user ≡ x → (times_held u key boxes ≡ 0) ⊎ (times_held u key all ≤ 1) → (times_held u key (r ∷ boxes) ≡ 0) ⊎ (times_held u key all ≤ 1)
    by x same (inr le) = inr le
    by true same (inl rest) = of_entries same rest (once_in all r.0.user key r.1.entries here)
    by false other (inl rest) = inl (counted 0 (ap (λ (x : Bool). cond x (count_in (of_key key) r.1.entries) 0) other) ∙ zero-add (times_held u key boxes) ∙ rest)

all_once : (house : House) (conf : Conf) (rows : List (BoxId × Mailbox)) → once_each rows ≡ true → AllOnce (store_of_rows house conf rows)
all_once house conf rows each u key = of (once_held rows rows u key each)
  where
    of : (times_held u key rows ≡ 0) ⊎ (times_held u key rows ≤ 1) → times_held u key rows ≤ 1
    of (inl none) = omega (arith, none)
    of (inr le) = le

-- ---- the store

abbrev pub MakesValid : Type 0
MakesValid = (house : House) (conf : Conf) (rows : List (BoxId × Mailbox)) → makes_store house conf rows ≡ true ↔ IsValid (store_of_rows house conf rows)

run_valid : StepsKeep → (s : MailStore) (t : List Item) → IsValid s → AllByRecursion (IsWellFormed s.house) t → IsValid (run s t)
run_valid stays s [] valid formed = valid
run_valid stays s (i ∷ t) valid formed = run_valid stays (step s i).0 t (stays s i valid formed.0) formed.1

pub store_valid : MakesValid → StepsKeep → (house : House) (b : Based) → base_stands house b ≡ true → AllByRecursion (IsWellFormed house) b.items → IsValid (store_based house b)
store_valid makes_valid stays house b stands formed = run_valid stays (base_of house b) b.items ((makes_valid house b.conf b.rows).0 (makes house b stands)) formed

pub store_house : (house : House) (b : Based) → (store_based house b).house ≡ house
store_house house b = run_house (base_of house b) b.items

-- ---- one more text

nil_of : (t : List Item) → is_empty t ≡ true → t ≡ []
nil_of [] e = refl
nil_of (i ∷ t) e = cc

same_agrees : (body other : Body) → same_body body other ≡ eq_by_cmp body_cmp other body
same_agrees body other = both_ways _ _
    (λ same. ap (eq_by_cmp body_cmp other) (tied body other (sym (same_is body other) ∙ same)) ∙ ap is_eq (tied_itself bodies_total other))
    (λ same. ap (same_body body) (tied other body same) ∙ itself body)

sizes_put : (old new : List (Body × Note)) (texts : BaseTexts) (body : Body) (text : List ℕ) (note : Note) → NotesOnly old new body note → note.length ≡ length text → SizesOf old texts [] → SizesOf new (with_base_text body text texts) []
sizes_put old new texts body text note noted long sizes other =
    ap (option_map (λ (n : Note). n.length)) (noted other ∙ ap (λ (x : Bool). cond x (Some note) (note_of old other)) (same_agrees body other))
    ∙ by (eq_by_cmp body_cmp other body)
    ∙ sym (ap (option_map length) (rows.find-put body_cmp bodies_total other body text texts))
  where
    by : (x : Bool) → option_map (λ (n : Note). n.length) (cond x (Some note) (note_of old other)) ≡ option_map length (cond x (Some text) (text_before texts other))
    by true = ap Some long
    by false = sizes other

-- the founding with it
pub founding_text : (f : Founded) (named new_named : NamedTexts) (numbers : List ℕ) (store : MailStore) (marks new_marks : List (ℕ × Place)) (body : Body) (text : List ℕ) (note : Note) (new_notes : List (Body × Note)) (new_texts : BaseTexts)
    → IsFounding f named numbers store marks → is_empty f.based.items ≡ true → ((other : Body) → is_named new_named other ≡ is_named named other) → new_texts ≡ with_base_text body text f.based.texts
    → NotesOnly f.notes new_notes body note → note.length ≡ length text → new_marks ≡ marks
    → IsFounding (record { house = f.house; opening = f.opening; based = record f.based { texts = new_texts }; notes = new_notes }) new_named numbers store new_marks
founding_text f named new_named numbers store marks new_marks body text note new_notes new_texts is empty names texts noted long same = record {
  house = is.house;
  aliases = is.aliases;
  filters = is.filters;
  stands = is.stands;
  bodies = λ other. names other ∙ is.bodies other;
  ordered = is.ordered;
  numbered = is.numbered;
  runs = is.runs;
  formed = is.formed;
  apart = is.apart;
  below = is.below;
  new = is.new;
  sizes = subst (λ (t : List Item). SizesOf new_notes new_texts t) (sym none)
      (subst (λ (ts : BaseTexts). SizesOf new_notes ts []) (sym texts) (sizes_put f.notes new_notes f.based.texts body text note noted long (subst (λ (t : List Item). SizesOf f.notes f.based.texts t) none is.sizes)));
  unmarked = same ∙ is.unmarked;
}
  where
    none : f.based.items ≡ []
    none = nil_of f.based.items empty

-- ---- one more item

not_so : (x : Bool) → not x ≡ true → x ≡ false
not_so true e = cc
not_so false e = refl

apart_of : (number : ℕ) (t : List Item) → has_number t number ≡ false → AllByRecursion (λ (j : Item). number ≢ j.number) t
apart_of number [] none = tt
apart_of number (i ∷ t) none =
    let both = neither (i.number == number) (has_number t number) none in
    ((λ same. true≢false (sym (eq-eqb i.number number (sym same)) ∙ both.0)), apart_of number t both.1)

module _ (b : Based) (i : Item) (may : can_be_kept b i ≡ true) where
  abbrev low : Bool
  low = nat_lt i.number b.next && nat_lt i.rev b.next

  abbrev unnamed : Bool
  unnamed = low && not (names_number b.rows i.number)

  at_unnamed : unnamed ≡ true
  at_unnamed = first_so unnamed (not (has_number b.items i.number)) may

  item_below : i.number < b.next
  item_below = ltb-true i.number b.next (first_so (nat_lt i.number b.next) (nat_lt i.rev b.next) (first_so low (not (names_number b.rows i.number)) at_unnamed))

  item_new : names_number b.rows i.number ≡ false
  item_new = not_so (names_number b.rows i.number) (second_so low (not (names_number b.rows i.number)) at_unnamed)

  item_apart : AllByRecursion (λ (j : Item). i.number ≢ j.number) b.items
  item_apart = apart_of i.number b.items (not_so (has_number b.items i.number) (second_so unnamed (not (has_number b.items i.number)) may))

-- the founding with it
pub founding_item : (f : Founded) (named : NamedTexts) (numbers : List ℕ) (store new_store : MailStore) (marks new_marks : List (ℕ × Place)) (item : Item) (place : Place) (from : ℕ) (new_notes : List (Body × Note)) (new_items : List Item)
    → IsFounding f named numbers store marks → IsWellFormed f.house item → can_be_kept f.based item ≡ true → new_items ≡ f.based.items ++ item ∷ [] → new_store ≡ (step store item).0
    → NotesText (text_in item.deed) (body_of item) place from f.notes new_notes → new_marks ≡ marks
    → IsFounding (record { house = f.house; opening = f.opening; based = record f.based { items = new_items }; notes = new_notes }) named numbers new_store new_marks
founding_item f named numbers store new_store marks new_marks item place from new_notes new_items is formed may items stored noted same =
    subst (λ (t : List Item). IsFounding (record { house = f.house; opening = f.opening; based = record f.based { items = t }; notes = new_notes }) named numbers new_store new_marks) (sym items) (record {
      house = is.house;
      aliases = is.aliases;
      filters = is.filters;
      stands = is.stands;
      bodies = is.bodies;
      ordered = is.ordered;
      numbered = is.numbered;
      runs = stored ∙ ap (λ (s : MailStore). (step s item).0) is.runs ∙ sym (run_joined (base_of f.house f.based) f.based.items (item ∷ []));
      formed = all_on (IsWellFormed f.house) f.based.items item is.formed formed;
      apart = apart_on f.based.items item is.apart (item_apart f.based item may);
      below = all_on (λ (i : Item). i.number < f.based.next) f.based.items item is.below (item_below f.based item may);
      new = all_on (λ (i : Item). names_number f.based.rows i.number ≡ false) f.based.items item is.new (item_new f.based item may);
      sizes = subst (λ (t : List Item). SizesOf new_notes f.based.texts t) (append-nil (f.based.items ++ item ∷ []))
          (sizes_on f.based.items [] item place from f.notes new_notes (item_apart f.based item may) (text_in item.deed) refl noted f.based.texts
          (subst (λ (t : List Item). SizesOf f.notes f.based.texts t) (sym (append-nil f.based.items)) is.sizes));
      unmarked = same ∙ is.unmarked;
    })

-- ---- the whole

module _ (makes_valid : MakesValid) (keeps : MailIsKept) (stays : StepsKeep) (f : Founded) (named : NamedTexts) (numbers : List ℕ) (store : MailStore) (marks : List (ℕ × Place)) (is : IsFounding f named numbers store marks)
    (come : texts_come named ≡ f.based.texts) (whole : is_whole f.house f.based ≡ true) where
  abbrev b : Based
  b = f.based

  all_texts : all_bodies (has_text_of b.texts) b.rows ≡ true
  all_texts = first_so (has_texts b) (stamps_name b.stamps (store_based f.house b)) whole

  new_is : (number : ℕ) → names_number b.rows number ≡ false → IsNew (origin_based f.house f.opening b) number
  new_is number none = record {
    fresh = λ u key item. none_held u key number b.rows item none;
    unnamed = subst (AllByRecursion (λ (t : Body × List ℕ). t.0.origin ≢ number)) come (unnamed_are named b.rows number is.bodies none);
  }

  base_valid : IsValid (base_of f.house b)
  base_valid = (makes_valid f.house b.conf b.rows).0 (makes f.house b is.stands)

  abbrev kept : Kept
  kept = kept_from (origin_based f.house f.opening b) store b.items b.stamps b.next b.reports (marks_kept 0 0 marks) b.deep None

  has_base : HasBase kept
  has_base = record {
    house_is = refl;
    stands = record {
      valid = base_valid;
      timeline = record { formed = is.formed; apart = is.apart };
      once = all_once f.house b.conf b.rows (once f.house b is.stands);
      fresh = all_weaker (λ (i : Item). names_number b.rows i.number ≡ false) (λ (i : Item). IsFresh i.number (base_of f.house b)) (λ i none. λ u key item. none_held u key i.number b.rows item none) b.items is.new;
    };
    new = all_weaker (λ (i : Item). names_number b.rows i.number ≡ false) (λ (i : Item). IsNew (origin_based f.house f.opening b) i.number) (λ i none. new_is i.number none) b.items is.new;
    beyond = λ number le. new_is number (beyond_entries b.next number (entries_of b.rows) (entries_below f.house b is.stands) le);
    drawn = omega arith;
    texts = all_texts;
  }

  texts_are : all_bodies (has_text_with b.texts b.items) store.boxes ≡ true
  texts_are =
      subst (λ (s : MailStore). all_bodies (has_text_with b.texts b.items) s.boxes ≡ true) (sym is.runs)
      (run_known keeps stays (has_text_with b.texts b.items) (base_of f.house b) b.items base_valid is.formed (own_with b.texts b.items)
      (bodies_weaker (has_text_of b.texts) (has_text_with b.texts b.items) b.rows (λ body has. or_last _ (text_before b.texts body) has) all_texts))

  pub founded_desk : IsDesk kept
  founded_desk = record {
    house = is.house;
    aliases = is.aliases;
    filters = is.filters;
    base = has_base;
    house_is = ap (λ (s : MailStore). s.house) is.runs ∙ store_house f.house b;
    valid = subst IsValid (sym is.runs) (store_valid makes_valid stays f.house b is.stands is.formed);
    next = next_small f.house b is.stands;
    since = omega arith;
    stamps = subst (λ (s : MailStore). map (λ (r : BoxId × ℕ). r.0) b.stamps ≡ map (λ (r : BoxId × Mailbox). r.0) s.boxes) (sym is.runs) (named_by b.stamps (store_based f.house b) (second_so (has_texts b) (stamps_name b.stamps (store_based f.house b)) whole));
    fresh = stamps_low f.house b.next b.stamps (second_so _ _ (stamps_are f.house b is.stands));
    formed = is.formed;
    apart = is.apart;
    below = is.below;
    reports = reports_are f.house b is.stands;
    texts = texts_are;
    undone = tt;
  }
