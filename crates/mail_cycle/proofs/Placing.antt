-- Each later item is judged by its own answer, and shows it where what it showed no longer holds.
use Rattle.std.proofs.Common.{◌≡◌, ◌≢◌, ℕ, zero, suc, ◌+◌, ◌≤◌, Bool, cond, true, false, ◌||◌, ◌==◌, arith, refl, sym, ◌∙◌, ap, ap₂, subst, List, [], ◌∷◌, ◌++◌, take, drop, length, filter, filter_map, find, map, not, Option, Some, None, option_and_then, option_map, slice_get, add-zero, eqb-true, length-append}
use Rattle.std.specs.List.{AllByRecursion, cons_option, enumerate_from}
use Rattle.std.proofs.lemmas.Bool.Decides.{nat_tests}
use Rattle.std.proofs.lemmas.List.{append_assoc, length-take-le, length_push, map-append}
use Rattle.std.proofs.lemmas.List.Elements.{filter-append}
use Rattle.undo_base.specs.declared.keys.User.{User}
use Rattle.verb_core.specs.declared.item.Item.{Item}
use Rattle.verb_core.specs.declared.item.Shown.{Shown}
use Rattle.verb_core.specs.Deeds.{mailbox_in}
use Rattle.verb_core.specs.Items.{NumbersApart}
use Rattle.verb_core.specs.Step.{answers, run, step}
use Rattle.verb_core.proofs.Joins.{answers_behind}
use Rattle.verb_bytes.specs.declared.journal.CycleAsk.{CycleAsk}
use Rattle.paradox.specs.Answers.{broken}
use Rattle.store_kept.specs.Kept.{Kept}
use Rattle.paradox.specs.Words.{told_of, verb_of}
use Rattle.paradox.specs.declared.reports.BrokenItem.{BrokenItem}
use Rattle.paradox.specs.declared.words.Reason.{Reason}
use Rattle.paradox.specs.declared.words.Reason.TheVariants.{Withdrawn}
use Rattle.paradox.specs.declared.words.Verb.{Verb}
use Rattle.repair_desk.specs.Repairs.{inserted, is_among, is_dropped, kept, numbers_of, repaired}
use Rattle.repair_desk.proofs.Everywhere.{weaker}
use Rattle.cycle_rules.specs.Cycles.{broken_at, compared_at, front_of, kept_at, repaired_items, timeline_at, told_at}
use Rattle.cycle_rules.specs.Judging.{judged, reason_by, shown_after, shown_by, with_told}
use Rattle.mail_cycle.specs.Places.{items_before, own_answer, reason_at, shown_at, telling_at, tellings}
use Rattle.mail_cycle.proofs.Cycled.{drop_more, length_acts, length_map}

-- ---- what is told of one item

-- of an item is told, if anything, under its number
numbered : (P : ℕ → Type 0) (i : Item) (reason : Option Reason) (list : List BrokenItem) → P i.number → AllByRecursion (λ (b : BrokenItem). P b.number) list → AllByRecursion (λ (b : BrokenItem). P b.number) (with_told i reason list)
numbered P i None list here rest = rest
numbered P i (Some reason) list here rest = by i.by (verb_of i.deed)
  where
    by : (user : Option User) (verb : Option Verb)
        → AllByRecursion (λ (b : BrokenItem). P b.number)
        (cons_option (option_and_then (λ (u : User). option_map (λ (v : Verb). record { number = i.number; user = u; verb = v; mailbox = mailbox_in i.deed; reason = reason }) verb) user) list)
    by None verb = rest
    by (Some u) None = rest
    by (Some u) (Some v) = (here, rest)

judged_numbers : (P : ℕ → Type 0) (drops : List ℕ) (t : List Item) (now : List Shown) → AllByRecursion (λ (j : Item). P j.number) t → AllByRecursion (λ (b : BrokenItem). P b.number) (judged drops t now)
judged_numbers P drops [] now all = tt
judged_numbers P drops (i ∷ t) now all = elim (is_among drops i.number) as (λ b. AllByRecursion (λ (x : BrokenItem). P x.number) (cond b (with_told i (Some Withdrawn) (judged drops t now)) (with_told i (reason_by i now) (judged drops t (drop 1 now))))) [
  | true ↦ numbered P i (Some Withdrawn) (judged drops t now) all.0 (judged_numbers P drops t now all.1)
  | false ↦ numbered P i (reason_by i now) (judged drops t (drop 1 now)) all.0 (judged_numbers P drops t (drop 1 now) all.1)
]

same_number : (n : ℕ) → (n == n) ≡ true
same_number n = grind (arith, nat_tests)

-- what is told under a number
abbrev under : ℕ → List BrokenItem → Option BrokenItem
under n list = find (λ (b : BrokenItem). b.number == n) list

under_none : (n : ℕ) (list : List BrokenItem) → AllByRecursion (λ (b : BrokenItem). n ≢ b.number) list → under n list ≡ None
under_none n [] all = refl
under_none n (b ∷ list) all = by (b.number == n) refl (under_none n list all.1)
  where
    by : (t : Bool) → (b.number == n) ≡ t → under n list ≡ None → cond t (Some b) (under n list) ≡ None
    by true same none = absurd (all.0 (sym (eqb-true b.number n same)))
    by false differs none = none

-- what is told of another item stands before it
passed : (n : ℕ) (i : Item) (reason : Option Reason) (list : List BrokenItem) → (i.number == n) ≡ false → under n (with_told i reason list) ≡ under n list
passed n i None list differs = refl
passed n i (Some reason) list differs = by i.by (verb_of i.deed)
  where
    by : (user : Option User) (verb : Option Verb)
        → under n (cons_option (option_and_then (λ (u : User). option_map (λ (v : Verb). record { number = i.number; user = u; verb = v; mailbox = mailbox_in i.deed; reason = reason }) verb) user) list) ≡ under n list
    by None verb = refl
    by (Some u) None = refl
    by (Some u) (Some v) = ap (λ b. cond b (Some (record { number = i.number; user = u; verb = v; mailbox = mailbox_in i.deed; reason = reason })) (under n list)) differs

met : (i : Item) (reason : Option Reason) (list : List BrokenItem) → under i.number list ≡ None → under i.number (with_told i reason list) ≡ option_and_then (told_of i) reason
met i None list none = none
met i (Some reason) list none = by i.by (verb_of i.deed)
  where
    by : (user : Option User) (verb : Option Verb)
        → under i.number (cons_option (option_and_then (λ (u : User). option_map (λ (v : Verb). record { number = i.number; user = u; verb = v; mailbox = mailbox_in i.deed; reason = reason }) verb) user) list)
        ≡ option_and_then (λ (u : User). option_map (λ (v : Verb). record { number = i.number; user = u; verb = v; mailbox = mailbox_in i.deed; reason = reason }) verb) user
    by None verb = none
    by (Some u) None = none
    by (Some u) (Some v) = ap (λ b. cond b (Some (record { number = i.number; user = u; verb = v; mailbox = mailbox_in i.deed; reason = reason })) (under i.number list)) (same_number i.number)

-- ---- the judge

drop_one : {X : Type 0} (k : ℕ) (xs : List X) → drop k (drop 1 xs) ≡ drop (suc k) xs
drop_one zero [] = refl
drop_one (suc k) [] = refl
drop_one k (x ∷ xs) = refl

differ : (a b : ℕ) → a ≢ b → (a == b) ≡ false
differ a b h = by (a == b) refl
  where
    by : (t : Bool) → (a == b) ≡ t → t ≡ false
    by true same = absurd (h (eqb-true a b same))
    by false other = refl

-- those of items that stay, by the numbers of those that go
abbrev staying : List ℕ → List Item → List Item
staying drops t = filter (λ (j : Item). not (is_among drops j.number)) t

here : (drops : List ℕ) (i : Item) (later : List Item) (now : List Shown) → AllByRecursion (λ (j : Item). i.number ≢ j.number) later
    → under i.number (judged drops (i ∷ later) now) ≡ option_and_then (told_of i) (cond (is_among drops i.number) (Some Withdrawn) (reason_by i now))
here drops i later now apart = elim (is_among drops i.number) as (λ b. under i.number (cond b (with_told i (Some Withdrawn) (judged drops later now)) (with_told i (reason_by i now) (judged drops later (drop 1 now))))
    ≡ option_and_then (told_of i) (cond b (Some Withdrawn) (reason_by i now))) [
      | true ↦ met i (Some Withdrawn) (judged drops later now) (under_none i.number (judged drops later now) (judged_numbers (λ n. i.number ≢ n) drops later now apart))
      | false ↦ met i (reason_by i now) (judged drops later (drop 1 now)) (under_none i.number (judged drops later (drop 1 now)) (judged_numbers (λ n. i.number ≢ n) drops later (drop 1 now) apart))
    ]

last_differs : (e : List Item) (i : Item) (later : List Item) (n : ℕ) → AllByRecursion (λ (j : Item). n ≢ j.number) (e ++ i ∷ later) → n ≢ i.number
last_differs [] i later n all = all.0
last_differs (j ∷ e) i later n all = last_differs e i later n all.1

-- the item is judged by the answer behind those of the earlier ones that stay
pub judged_alone : (drops : List ℕ) (earlier : List Item) (i : Item) (later : List Item) (now : List Shown) → NumbersApart (earlier ++ i ∷ later)
    → under i.number (judged drops (earlier ++ i ∷ later) now) ≡ option_and_then (told_of i) (cond (is_among drops i.number) (Some Withdrawn) (reason_by i (drop (length (staying drops earlier)) now)))
judged_alone drops [] i later now apart = here drops i later now apart.0
judged_alone drops (j ∷ e) i later now apart =
    let differs : (j.number == i.number) ≡ false = differ j.number i.number (last_differs e i later j.number apart.0) in
    elim (is_among drops j.number) as (λ b. under i.number (cond b (with_told j (Some Withdrawn) (judged drops (e ++ i ∷ later) now)) (with_told j (reason_by j now) (judged drops (e ++ i ∷ later) (drop 1 now))))
    ≡ option_and_then (told_of i) (cond (is_among drops i.number) (Some Withdrawn) (reason_by i (drop (length (cond (not b) (j ∷ staying drops e) (staying drops e))) now)))) [
      | true ↦ passed i.number j (Some Withdrawn) (judged drops (e ++ i ∷ later) now) differs ∙ judged_alone drops e i later now apart.1
      | false ↦ passed i.number j (reason_by j now) (judged drops (e ++ i ∷ later) (drop 1 now)) differs ∙ judged_alone drops e i later (drop 1 now) apart.1
          ∙ ap (λ (rest : List Shown). option_and_then (told_of i) (cond (is_among drops i.number) (Some Withdrawn) (reason_by i rest))) (drop_one (length (staying drops e)) now)
    ]

-- nothing but the later items is told of
among_more : (n m : ℕ) (t : List Item) → is_among (numbers_of t) n ≡ true → ((n == m) || is_among (numbers_of t) n) ≡ true
among_more n m t h = ap (λ b. (n == m) || b) h ∙ or_true (n == m)
  where
    or_true : (b : Bool) → (b || true) ≡ true
    or_true true = refl
    or_true false = refl

all_among : (t : List Item) → AllByRecursion (λ (j : Item). is_among (numbers_of t) j.number ≡ true) t
all_among [] = tt
all_among (i ∷ t) = (
  ap (λ b. b || is_among (numbers_of t) i.number) (same_number i.number),
  weaker (λ (j : Item). is_among (numbers_of t) j.number ≡ true) (λ (j : Item). is_among (numbers_of (i ∷ t)) j.number ≡ true) (λ j h. among_more j.number i.number t h) t (all_among t),
)

pub others_untold : (s : Kept) (at : ℕ) (ask : CycleAsk) (place : ℕ) → AllByRecursion (λ (b : BrokenItem). is_among (numbers_of (drop place s.timeline)) b.number ≡ true) (broken_at s at ask place)
others_untold s at ask place = judged_numbers (λ n. is_among (numbers_of (drop place s.timeline)) n ≡ true) ask.drops (drop place s.timeline) (compared_at s at ask place) (all_among (drop place s.timeline))

-- ---- what stands at a place

within : {X : Type 0} (n : ℕ) (xs ys : List X) (x : X) → slice_get xs n ≡ Some x → slice_get (xs ++ ys) n ≡ Some x
within n [] ys x e = cc
within zero (y ∷ xs) ys x e = e
within (suc n) (y ∷ xs) ys x e = within n xs ys x e

shown_there : (front k : ℕ) (before : List Item) (i : Item) (behind : List Item) (now : List Shown) → front + k ≡ length before
    → slice_get (shown_after front (before ++ i ∷ behind) now) (length before) ≡ Some (shown_by i (drop k now))
shown_there zero zero [] i behind now e = refl
shown_there zero (suc k) [] i behind now e = absurd (omega arith)
shown_there (suc front) k [] i behind now e = absurd (omega arith)
shown_there zero zero (j ∷ before) i behind now e = absurd (omega arith)
shown_there zero (suc k) (j ∷ before) i behind now e = shown_there zero k before i behind (drop 1 now) (omega arith) ∙ ap (λ (rest : List Shown). Some (shown_by i rest)) (drop_one k now)
shown_there (suc front) k (j ∷ before) i behind now e = shown_there front k before i behind now (omega arith)

-- ---- the place in the new timeline

module _ (s : Kept) (at : ℕ) (ask : CycleAsk) (place : ℕ) (earlier : List Item) (i : Item) (later : List Item) where
  abbrev before : List Item
  before = items_before s at ask place earlier

  abbrev behind : List Item
  behind = map (repaired ask s.next) (kept ask later)

  length_before : place ≤ length s.timeline → length before ≡ place + length ask.inserts + length (kept ask earlier)
  length_before le =
      length-append (take place s.timeline ++ inserted s.next at ask.inserts) (map (repaired ask s.next) (kept ask earlier))
      ∙ ap₂ (λ (a b : ℕ). a + b)
      (length-append (take place s.timeline) (inserted s.next at ask.inserts) ∙ ap₂ (λ (a b : ℕ). a + b) (length-take-le place s.timeline le) (length_acts s.next at ask.inserts))
      (length_map (repaired ask s.next) (kept ask earlier))

  -- the new timeline, around the item that stays
  pub around : drop place s.timeline ≡ earlier ++ i ∷ later → is_among ask.drops i.number ≡ false → repaired_items s at ask place ≡ before ++ repaired ask s.next i ∷ behind
  around split stays =
      ap (λ (t : List Item). take place s.timeline ++ inserted s.next at ask.inserts ++ map (repaired ask s.next) (kept ask t)) split
      ∙ ap (λ (t : List Item). take place s.timeline ++ inserted s.next at ask.inserts ++ map (repaired ask s.next) t) (filter-append (λ (j : Item). not (is_dropped ask j)) earlier (i ∷ later))
      ∙ ap (λ (b : Bool). take place s.timeline ++ inserted s.next at ask.inserts ++ map (repaired ask s.next) (kept ask earlier ++ cond (not b) (i ∷ kept ask later) (kept ask later))) stays
      ∙ ap (λ (t : List Item). take place s.timeline ++ inserted s.next at ask.inserts ++ t) (map-append (repaired ask s.next) (kept ask earlier) (i ∷ kept ask later))
      ∙ sym (append_assoc (take place s.timeline ++ inserted s.next at ask.inserts) (map (repaired ask s.next) (kept ask earlier)) (repaired ask s.next i ∷ behind))

  -- its answer stands behind those of the earlier ones that stay
  pub answer_at : place ≤ length s.timeline → drop place s.timeline ≡ earlier ++ i ∷ later → is_among ask.drops i.number ≡ false
      → drop (length (kept ask earlier)) (compared_at s at ask place) ≡ own_answer s at ask place earlier i ∷ answers (step (run s.base before) (repaired ask s.next i)).0 behind
  answer_at le split stays =
      drop_more (length (kept ask earlier)) (front_of ask place) (answers s.base (repaired_items s at ask place))
      ∙ ap₂ (λ (n : ℕ) (t : List Item). drop n (answers s.base t)) (sym (length_before le)) (around split stays)
      ∙ answers_behind s.base before (repaired ask s.next i ∷ behind)

  -- the reason by that answer is that by its own step
  reason_alone : place ≤ length s.timeline → drop place s.timeline ≡ earlier ++ i ∷ later
      → option_and_then (told_of i) (cond (is_among ask.drops i.number) (Some Withdrawn) (reason_by i (drop (length (kept ask earlier)) (compared_at s at ask place)))) ≡ telling_at s at ask place earlier i
  reason_alone le split = by (is_among ask.drops i.number) refl
    where
      by : (b : Bool) → is_among ask.drops i.number ≡ b
          → option_and_then (told_of i) (cond b (Some Withdrawn) (reason_by i (drop (length (kept ask earlier)) (compared_at s at ask place))))
          ≡ option_and_then (told_of i) (cond b (Some Withdrawn) (broken i (own_answer s at ask place earlier i)))
      by true goes = refl
      by false stays = ap (λ (now : List Shown). option_and_then (told_of i) (reason_by i now)) (answer_at le split stays)

  pub told_alone : place ≤ length s.timeline → NumbersApart (drop place s.timeline) → drop place s.timeline ≡ earlier ++ i ∷ later
      → under i.number (broken_at s at ask place) ≡ option_and_then (told_of i) (reason_at s at ask place earlier i)
  told_alone le apart split =
      ap (λ (t : List Item). under i.number (judged ask.drops t (compared_at s at ask place))) split
      ∙ judged_alone ask.drops earlier i later (compared_at s at ask place) (subst NumbersApart split apart)
      ∙ reason_alone le split

  -- a later item that stays shows its own answer, where what it showed no longer holds
  pub shown_alone : place ≤ length s.timeline → drop place s.timeline ≡ earlier ++ i ∷ later → is_among ask.drops i.number ≡ false
      → slice_get (timeline_at s at ask place) (length before) ≡ Some (shown_at s at ask place earlier i)
  shown_alone le split stays =
      within (length before) (kept_at s at ask place) (told_at s at ask place) _
      (ap (λ (t : List Item). slice_get (shown_after (front_of ask place) t (compared_at s at ask place)) (length before)) (around split stays)
      ∙ shown_there (front_of ask place) (length (kept ask earlier)) before (repaired ask s.next i) behind (compared_at s at ask place) (sym (length_before le))
      ∙ ap (λ (now : List Shown). Some (shown_by (repaired ask s.next i) now)) (answer_at le split stays))

-- ---- the whole list

-- one more is before: it stays, or it goes
one_staying : (i : Item) (b : Bool) → length (cond (not b) (i ∷ []) []) ≡ cond b 0 1
one_staying i true = refl
one_staying i false = refl

staying_on : (drops : List ℕ) (e : List Item) (i : Item) → length (staying drops (e ++ i ∷ [])) ≡ length (staying drops e) + cond (is_among drops i.number) 0 1
staying_on drops e i =
    ap (λ (t : List Item). length t) (filter-append (λ (j : Item). not (is_among drops j.number)) e (i ∷ []))
    ∙ length-append (staying drops e) (staying drops (i ∷ []))
    ∙ ap (λ (n : ℕ). length (staying drops e) + n) (one_staying i (is_among drops i.number))

-- one more, before the rest
told_step : (drops : List ℕ) (now : List Shown) (telling : ℕ × Item → Option BrokenItem) (e : List Item) (i : Item) (t : List Item)
    → option_and_then (told_of i) (cond (is_among drops i.number) (Some Withdrawn) (reason_by i (drop (length (staying drops e)) now))) ≡ telling (length e, i)
    → judged drops t (drop (length (staying drops (e ++ i ∷ []))) now) ≡ filter_map telling (enumerate_from (length (e ++ i ∷ [])) t)
    → judged drops (i ∷ t) (drop (length (staying drops e)) now) ≡ filter_map telling (enumerate_from (length e) (i ∷ t))
told_step drops now telling e i t own rest = by (is_among drops i.number) refl
  where
    behind : List Shown
    behind = drop (length (staying drops e)) now

    more : judged drops t (drop (length (staying drops e) + cond (is_among drops i.number) 0 1) now) ≡ filter_map telling (enumerate_from (length e + 1) t)
    more = ap (λ (n : ℕ). judged drops t (drop n now)) (sym (staying_on drops e i)) ∙ rest ∙ ap (λ (n : ℕ). filter_map telling (enumerate_from n t)) (length_push e i)

    by : (b : Bool) → is_among drops i.number ≡ b
        → cond b (with_told i (Some Withdrawn) (judged drops t behind)) (with_told i (reason_by i behind) (judged drops t (drop 1 behind))) ≡ cons_option (telling (length e, i)) (filter_map telling (enumerate_from (length e + 1) t))
    by true goes = ap₂ (λ (one : Option BrokenItem) (list : List BrokenItem). cons_option one list)
        (ap (λ (b : Bool). option_and_then (told_of i) (cond b (Some Withdrawn) (reason_by i behind))) (sym goes) ∙ own)
        (ap (λ (n : ℕ). judged drops t (drop n now)) (sym (ap (λ (b : Bool). length (staying drops e) + cond b 0 1) goes ∙ add-zero (length (staying drops e)))) ∙ more)
    by false stays = ap₂ (λ (one : Option BrokenItem) (list : List BrokenItem). cons_option one list)
        (ap (λ (b : Bool). option_and_then (told_of i) (cond b (Some Withdrawn) (reason_by i behind))) (sym stays) ∙ own)
        (ap (λ (l : List Shown). judged drops t l) (drop_more 1 (length (staying drops e)) now)
        ∙ ap (λ (b : Bool). judged drops t (drop (length (staying drops e) + cond b 0 1) now)) (sym stays) ∙ more)

-- what is told of later items, if of each that is told by the answers behind those of the earlier ones that stay
told_each : (drops : List ℕ) (now : List Shown) (all : List Item) (telling : ℕ × Item → Option BrokenItem)
    → ((e : List Item) (i : Item) (later : List Item) → all ≡ e ++ i ∷ later
    → option_and_then (told_of i) (cond (is_among drops i.number) (Some Withdrawn) (reason_by i (drop (length (staying drops e)) now))) ≡ telling (length e, i))
    → (e t : List Item) → all ≡ e ++ t → judged drops t (drop (length (staying drops e)) now) ≡ filter_map telling (enumerate_from (length e) t)
told_each drops now all telling each e [] split = refl
told_each drops now all telling each e (i ∷ t) split =
    told_step drops now telling e i t (each e i t split) (told_each drops now all telling each (e ++ i ∷ []) t (split ∙ sym (append_assoc e (i ∷ []) t)))

take_front : (e t : List Item) → take (length e) (e ++ t) ≡ e
take_front [] t = refl
take_front (i ∷ e) t = ap (λ (rest : List Item). i ∷ rest) (take_front e t)

pub told_in_order : (s : Kept) (at : ℕ) (ask : CycleAsk) (place : ℕ) → place ≤ length s.timeline → broken_at s at ask place ≡ tellings s at ask place
told_in_order s at ask place le =
    told_each ask.drops (compared_at s at ask place) (drop place s.timeline) (λ (r : ℕ × Item). telling_at s at ask place (take r.0 (drop place s.timeline)) r.1)
    (λ e i later split. reason_alone s at ask place e i later le split
    ∙ ap (λ (earlier : List Item). telling_at s at ask place earlier i) (sym (ap (take (length e)) split ∙ take_front e (i ∷ later))))
    [] (drop place s.timeline) refl
