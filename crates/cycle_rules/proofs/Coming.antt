-- The items that stood behind the point of a cycle can come back.
use Rattle.std.proofs.Common.{◌≡◌, ◌≢◌, ℕ, zero, suc, ◌+◌, ◌<◌, ◌≤◌, Bool, cond, true, false, arith, refl, sym, ◌∙◌, ap, ap₂, subst, List, [], ◌∷◌, ◌++◌, take, drop, length, map, Option, Some, None, is_some}
use Rattle.std.specs.List.{AllByRecursion}
use Rattle.std.proofs.lemmas.List.{drop_at, length-append, length-take-le, take-append-drop, take-append-le, take_all}
use Rattle.undo_base.specs.declared.keys.User.{User}
use Rattle.verb_core.specs.declared.conf.House.{House}
use Rattle.verb_core.specs.declared.item.Act.{Act}
use Rattle.verb_core.specs.declared.item.Act.TheVariants.{Give}
use Rattle.verb_core.specs.declared.item.Deed.{Deed}
use Rattle.verb_core.specs.declared.item.Deed.TheVariants.{Deliver, Append, Act as Acts, Notice}
use Rattle.verb_core.specs.declared.item.Item.{Item}
use Rattle.verb_core.specs.declared.item.Shown.{Shown}
use Rattle.verb_core.specs.Deeds.{with_text}
use Rattle.verb_core.specs.Items.{IsTimeline, IsWellFormed, NumbersApart}
use Rattle.verb_bytes.specs.declared.journal.CycleAsk.{CycleAsk}
use Rattle.paradox.specs.Answers.{broken}
use Rattle.stored_items.specs.Stored.{AllHeard, IsHeard, stored, stored_deed}
use Rattle.stored_items.proofs.Heard.{handed_on, length_alike, mapped_alike}
use Rattle.repair_desk.specs.Repairs.{inserted, kept, new_timeline, numbers_of, repaired, replaced_by, takes_text, text_asked}
use Rattle.repair_desk.proofs.Everywhere.{everywhere, inserted_above, joined, mapped, passing, rest_of, same_number, taken, weaker}
use Rattle.withdraw.specs.Coming.{AreSame, AreSameTexts, CanComeBack, IsSame, IsSameIf, IsSameText, TextsComeBack}
use Rattle.store_kept.specs.Kept.{Kept}
use Rattle.cycle_rules.specs.Asking.{undone_at}
use Rattle.cycle_rules.specs.Cycles.{front_of, repaired_items}
use Rattle.cycle_rules.specs.Judging.{shown_after, shown_by}
use Rattle.cycle_rules.specs.Repairing.{notice_items}

-- ---- one item

bare : (text : List ℕ) (d : Deed) → with_text [] (with_text text d) ≡ with_text [] d
bare text (Deliver from to old) = refl
bare text (Append mailbox flags moment old) = refl
bare text (Acts (Give user mailbox old)) = refl
bare text (Notice user old) = refl
bare text _ = refl

-- with another text
repaired_same : (ask : CycleAsk) (c : ℕ) (i : Item) → IsSame i (repaired ask c i)
repaired_same ask c i = elim (text_asked ask.replaces i.number) as (λ o. IsSame i (replaced_by c i o)) [
  | None ↦ record { by = refl; but_text = refl }
  | Some text ↦ elim (takes_text i.deed) as (λ b. IsSame i (cond b (record i { rev = c; deed = with_text text i.deed }) i)) [
    | true ↦ record { by = refl; but_text = bare text i.deed }
    | false ↦ record { by = refl; but_text = refl }
  ]
]

-- which has the rev of the cycle
repaired_text : (ask : CycleAsk) (c : ℕ) (i : Item) → i.rev < c → (repaired ask c i).rev ≡ i.rev → (repaired ask c i).deed ≡ i.deed
repaired_text ask c i old = elim (text_asked ask.replaces i.number) as (λ o. (replaced_by c i o).rev ≡ i.rev → (replaced_by c i o).deed ≡ i.deed) [
  | None ↦ λ e. refl
  | Some text ↦ elim (takes_text i.deed) as (λ b. (cond b (record i { rev = c; deed = with_text text i.deed }) i).rev ≡ i.rev → (cond b (record i { rev = c; deed = with_text text i.deed }) i).deed ≡ i.deed) [
    | true ↦ λ e. absurd (let new : c ≡ i.rev = e in omega arith)
    | false ↦ λ e. refl
  ]
]

bare_stored : (d : Deed) → with_text [] (stored_deed d) ≡ with_text [] d
bare_stored (Notice user text) = refl
bare_stored (Deliver from to text) = refl
bare_stored (Append mailbox flags moment text) = refl
bare_stored (Acts (Give user mailbox text)) = refl
bare_stored d = bare [] d

-- as it was read
heard_same : (i k h : Item) → IsHeard k h → IsSameIf i k → IsSameIf i h
heard_same i k h is same e =
    let here = same (ap (λ (j : Item). j.number) (sym is.stored_is) ∙ e) in
    record {
      by = ap (λ (j : Item). j.by) is.stored_is ∙ here.by;
      but_text = sym (bare_stored h.deed) ∙ ap (λ (j : Item). with_text [] j.deed) is.stored_is ∙ bare_stored k.deed ∙ here.but_text;
    }

-- with another answer
shown_keeps : (P : Item → Type 0) → ((i : Item) (shown : Shown) → P i → P (record i { shown = shown })) → (i : Item) (now : List Shown) → P i → P (shown_by i now)
shown_keeps P h i [] p = p
shown_keeps P h i (x ∷ now) p = elim (is_some (broken i x)) as (λ b. P (cond b (record i { shown = x }) i)) [ true ↦ h i x p | false ↦ p ]

all_shown : (P : Item → Type 0) → ((i : Item) (shown : Shown) → P i → P (record i { shown = shown })) → (front : ℕ) (t : List Item) (now : List Shown) → AllByRecursion P t → AllByRecursion P (shown_after front t now)
all_shown P h front [] now a = tt
all_shown P h zero (i ∷ t) now a = (shown_keeps P h i now a.0, all_shown P h zero t (drop 1 now) a.1)
all_shown P h (suc front) (i ∷ t) now a = (a.0, all_shown P h front t now a.1)

same_shown : (i k : Item) (shown : Shown) → IsSameIf i k → IsSameIf i (record k { shown = shown })
same_shown i k shown same e = record { by = (same e).by; but_text = (same e).but_text }

text_shown : (i k : Item) (shown : Shown) → IsSameText i k → IsSameText i (record k { shown = shown })
text_shown i k shown same e r = same e r

-- ---- numbers

number_shown : (i : Item) (now : List Shown) → (shown_by i now).number ≡ i.number
number_shown i [] = refl
number_shown i (x ∷ now) = elim (is_some (broken i x)) as (λ b. (cond b (record i { shown = x }) i).number ≡ i.number) [ true ↦ refl | false ↦ refl ]

numbers_shown : (front : ℕ) (t : List Item) (now : List Shown) → numbers_of (shown_after front t now) ≡ numbers_of t
numbers_shown front [] now = refl
numbers_shown zero (i ∷ t) now = ap₂ (λ (n : ℕ) (ns : List ℕ). n ∷ ns) (number_shown i now) (numbers_shown zero t (drop 1 now))
numbers_shown (suc front) (i ∷ t) now = ap (λ (ns : List ℕ). i.number ∷ ns) (numbers_shown front t now)

pub length_shown : (front : ℕ) (t : List Item) (now : List Shown) → length (shown_after front t now) ≡ length t
length_shown front [] now = refl
length_shown zero (i ∷ t) now = let rest = length_shown zero t (drop 1 now) in omega (arith, rest)
length_shown (suc front) (i ∷ t) now = let rest = length_shown front t now in omega (arith, rest)

numbers_taken : (n : ℕ) (t : List Item) → numbers_of (take n t) ≡ take n (numbers_of t)
numbers_taken zero t = refl
numbers_taken (suc n) [] = refl
numbers_taken (suc n) (i ∷ t) = ap (λ (ns : List ℕ). i.number ∷ ns) (numbers_taken n t)

above : (low number at : ℕ) (told : List (User × List ℕ)) → low ≤ number → AllByRecursion (λ (j : Item). low < j.number) (notice_items number at told)
above low number at [] le = tt
above low number at (n ∷ ns) le = (omega arith, above low (number + 1) at ns (omega arith))

first_is : (x y : ℕ) (xs ys : List ℕ) → x ∷ xs ≡ y ∷ ys → x ≡ y
first_is x y xs ys e = cc

others_are : (x y : ℕ) (xs ys : List ℕ) → x ∷ xs ≡ y ∷ ys → xs ≡ ys
others_are x y xs ys e = cc

-- what is said of numbers alone can be said where they are the same
by_numbers : (P : ℕ → Type 0) (xs ys zs : List Item) → numbers_of xs ≡ numbers_of ys → AllByRecursion (λ (i : Item). P i.number) (ys ++ zs) → AllByRecursion (λ (i : Item). P i.number) (xs ++ zs)
by_numbers P [] [] zs e a = a
by_numbers P [] (y ∷ ys) zs e a = cc
by_numbers P (x ∷ xs) [] zs e a = cc
by_numbers P (x ∷ xs) (y ∷ ys) zs e a = (
  subst P (sym (first_is x.number y.number (numbers_of xs) (numbers_of ys) e)) a.0,
  by_numbers P xs ys zs (others_are x.number y.number (numbers_of xs) (numbers_of ys) e) a.1,
)

apart_by : (xs ys zs : List Item) → numbers_of xs ≡ numbers_of ys → NumbersApart (ys ++ zs) → NumbersApart (xs ++ zs)
apart_by [] [] zs e a = a
apart_by [] (y ∷ ys) zs e a = cc
apart_by (x ∷ xs) [] zs e a = cc
apart_by (x ∷ xs) (y ∷ ys) zs e a = (
  subst (λ (n : ℕ). AllByRecursion (λ (j : Item). n ≢ j.number) (xs ++ zs)) (sym (first_is x.number y.number (numbers_of xs) (numbers_of ys) e))
      (by_numbers (λ n. y.number ≢ n) xs ys zs (others_are x.number y.number (numbers_of xs) (numbers_of ys) e) a.0),
  apart_by xs ys zs (others_are x.number y.number (numbers_of xs) (numbers_of ys) e) a.1,
)

-- ---- the later items among those that stay

-- where numbers are distinct, one that has an item's number is that item
one_of_them : (t : List Item) → NumbersApart t → AllByRecursion (λ (i : Item). AllByRecursion (λ (k : Item). k.number ≡ i.number → k ≡ i) t) t
one_of_them [] a = tt
one_of_them (x ∷ xs) a = (
  ((λ e. refl), weaker (λ (k : Item). x.number ≢ k.number) (λ (k : Item). k.number ≡ x.number → k ≡ x) (λ k differs e. absurd (differs (sym e))) xs a.0),
  further xs a.0 (one_of_them xs a.1),
)
  where
    further : (ys : List Item) → AllByRecursion (λ (i : Item). x.number ≢ i.number) ys → AllByRecursion (λ (i : Item). AllByRecursion (λ (k : Item). k.number ≡ i.number → k ≡ i) xs) ys
        → AllByRecursion (λ (i : Item). AllByRecursion (λ (k : Item). k.number ≡ i.number → k ≡ i) (x ∷ xs)) ys
    further [] a b = tt
    further (y ∷ ys) a b = (((λ e. absurd (a.0 e)), b.0), further ys a.1 b.1)

-- no item of the first of two lists has a number of the second
pub apart_from : (xs ys : List Item) → NumbersApart (xs ++ ys) → AllByRecursion (λ (i : Item). AllByRecursion (λ (j : Item). j.number ≢ i.number) xs) ys
apart_from [] ys a = each ys
  where
    each : (ys : List Item) → AllByRecursion (λ (i : Item). Unit {0}) ys
    each [] = tt
    each (y ∷ ys) = (tt, each ys)
apart_from (x ∷ xs) ys a = more ys (second_of xs ys a.0) (apart_from xs ys a.1)
  where
    second_of : (xs ys : List Item) → AllByRecursion (λ (i : Item). x.number ≢ i.number) (xs ++ ys) → AllByRecursion (λ (i : Item). x.number ≢ i.number) ys
    second_of [] ys a = a
    second_of (z ∷ xs) ys a = second_of xs ys a.1

    more : (ys : List Item) → AllByRecursion (λ (i : Item). x.number ≢ i.number) ys → AllByRecursion (λ (i : Item). AllByRecursion (λ (j : Item). j.number ≢ i.number) xs) ys
        → AllByRecursion (λ (i : Item). AllByRecursion (λ (j : Item). j.number ≢ i.number) (x ∷ xs)) ys
    more [] a b = tt
    more (y ∷ ys) a b = ((a.0, b.0), more ys a.1 b.1)

rest_apart : (n : ℕ) (t : List Item) → NumbersApart t → NumbersApart (drop n t)
rest_apart zero t a = a
rest_apart (suc n) [] a = tt
rest_apart (suc n) (i ∷ t) a = rest_apart n t a.1

module _ (s : Kept) (at : ℕ) (ask : CycleAsk) (place : ℕ) (timeline : IsTimeline s.house s.timeline) (below : AllByRecursion (λ (i : Item). i.number < s.next) s.timeline) where
  abbrev later : List Item
  later = drop place s.timeline

  abbrev acts : List Item
  acts = inserted s.next at ask.inserts

  split_apart : NumbersApart (take place s.timeline ++ later)
  split_apart = subst NumbersApart (sym (take-append-drop place s.timeline)) timeline.apart

  low : AllByRecursion (λ (i : Item). i.number < s.next) later
  low = rest_of (λ (i : Item). i.number < s.next) place s.timeline below

  -- acts that come in have higher numbers
  acts_differ : (i : Item) → i.number < s.next → AllByRecursion (λ (j : Item). j.number ≢ i.number) acts
  acts_differ i lt = weaker (λ (j : Item). s.next < j.number) (λ (j : Item). j.number ≢ i.number) (λ j gt e. let same : j.number ≡ i.number = e in absurd (omega arith)) acts (inserted_above s.next s.next at ask.inserts (omega arith))

  -- a later item among the repaired ones: what holds of those with other numbers, and of it with another text
  among : (P : Item → Type 0) (i : Item) → i.number < s.next → ((j : Item) → j.number ≢ i.number → P j)
      → AllByRecursion (λ (j : Item). j.number ≢ i.number) (take place s.timeline) → AllByRecursion (λ (k : Item). k.number ≡ i.number → k ≡ i) later → ((k : Item) → (k.number ≡ i.number → k ≡ i) → P (repaired ask s.next k))
      → AllByRecursion P (repaired_items s at ask place)
  among P i lt others front mine each =
      everywhere P s.timeline ask s.next at place (weaker (λ (j : Item). j.number ≢ i.number) P others (take place s.timeline) front) (weaker (λ (j : Item). j.number ≢ i.number) P others acts (acts_differ i lt))
      (mapped (λ (k : Item). k.number ≡ i.number → k ≡ i) P (repaired ask s.next) each (kept ask later) (passing (λ (k : Item). k.number ≡ i.number → k ≡ i) _ later mine))

  one_same : (i : Item) → i.number < s.next → AllByRecursion (λ (j : Item). j.number ≢ i.number) (take place s.timeline) → AllByRecursion (λ (k : Item). k.number ≡ i.number → k ≡ i) later
      → AllByRecursion (IsSameIf i) (repaired_items s at ask place)
  one_same i lt front mine =
      among (IsSameIf i) i lt (λ j differs e. absurd (differs e)) front mine
      (λ k is e. subst (λ (j : Item). IsSame j (repaired ask s.next k)) (is (sym (same_number ask s.next k) ∙ e)) (repaired_same ask s.next k))

  one_text : (i : Item) → i.number < s.next → i.rev < s.next → AllByRecursion (λ (j : Item). j.number ≢ i.number) (take place s.timeline) → AllByRecursion (λ (k : Item). k.number ≡ i.number → k ≡ i) later
      → AllByRecursion (IsSameText i) (repaired_items s at ask place)
  one_text i lt old front mine =
      among (IsSameText i) i lt (λ j differs e. absurd (differs e)) front mine
      (λ k is e. subst (λ (j : Item). (repaired ask s.next j).rev ≡ i.rev → (repaired ask s.next j).deed ≡ i.deed) (sym (is (sym (same_number ask s.next k) ∙ e))) (repaired_text ask s.next i old))

  -- ---- among those that are left

  abbrev left : List Item → List Shown → List (User × List ℕ) → List Item
  left heard now told = shown_after (front_of ask place) heard now ++ notice_items (s.next + length ask.inserts) at told

  notices_differ : (i : Item) → i.number < s.next → (told : List (User × List ℕ)) → AllByRecursion (λ (j : Item). j.number ≢ i.number) (notice_items (s.next + length ask.inserts) at told)
  notices_differ i lt told =
      weaker (λ (j : Item). s.next < j.number) (λ (j : Item). j.number ≢ i.number) (λ j gt e. let same : j.number ≡ i.number = e in absurd (omega arith)) _ (above s.next (s.next + length ask.inserts) at told (omega arith))

  same_left : (heard : List Item) (now : List Shown) (told : List (User × List ℕ)) → AllHeard (repaired_items s at ask place) heard → (is : List Item) → AllByRecursion (λ (i : Item). i.number < s.next) is
      → AllByRecursion (λ (i : Item). AllByRecursion (λ (j : Item). j.number ≢ i.number) (take place s.timeline)) is → AllByRecursion (λ (i : Item). AllByRecursion (λ (k : Item). k.number ≡ i.number → k ≡ i) later) is
      → AreSame is (drop place (left heard now told))
  same_left heard now told all [] lt front mine = tt
  same_left heard now told all (i ∷ is) lt front mine = (
    rest_of (IsSameIf i) place (left heard now told)
        (joined (IsSameIf i) (shown_after (front_of ask place) heard now) (notice_items (s.next + length ask.inserts) at told)
        (all_shown (IsSameIf i) (same_shown i) (front_of ask place) heard now (handed_on (IsSameIf i) (heard_same i) (repaired_items s at ask place) heard all (one_same i lt.0 front.0 mine.0)))
        (weaker (λ (j : Item). j.number ≢ i.number) (IsSameIf i) (λ j differs e. absurd (differs e)) _ (notices_differ i lt.0 told))),
    same_left heard now told all is lt.1 front.1 mine.1,
  )

  texts_left : (now : List Shown) (told : List (User × List ℕ)) → (is : List Item) → AllByRecursion (λ (i : Item). i.number < s.next) is → AllByRecursion (λ (i : Item). i.rev < s.next) is
      → AllByRecursion (λ (i : Item). AllByRecursion (λ (j : Item). j.number ≢ i.number) (take place s.timeline)) is → AllByRecursion (λ (i : Item). AllByRecursion (λ (k : Item). k.number ≡ i.number → k ≡ i) later) is
      → AreSameTexts is (drop place (left (repaired_items s at ask place) now told))
  texts_left now told [] lt old front mine = tt
  texts_left now told (i ∷ is) lt old front mine = (
    rest_of (IsSameText i) place (left (repaired_items s at ask place) now told)
        (joined (IsSameText i) (shown_after (front_of ask place) (repaired_items s at ask place) now) (notice_items (s.next + length ask.inserts) at told)
        (all_shown (IsSameText i) (text_shown i) (front_of ask place) (repaired_items s at ask place) now (one_text i lt.0 old.0 front.0 mine.0))
        (weaker (λ (j : Item). j.number ≢ i.number) (IsSameText i) (λ j differs e. absurd (differs e)) _ (notices_differ i lt.0 told))),
    texts_left now told is lt.1 old.1 front.1 mine.1,
  )

  -- ---- the whole

  mine : AllByRecursion (λ (i : Item). AllByRecursion (λ (k : Item). k.number ≡ i.number → k ≡ i) later) later
  mine = one_of_them later (rest_apart place s.timeline timeline.apart)

  front_differs : AllByRecursion (λ (i : Item). AllByRecursion (λ (j : Item). j.number ≢ i.number) (take place s.timeline)) later
  front_differs = apart_from (take place s.timeline) later split_apart

  -- the numbers of the front are those of before
  front_numbers : (heard : List Item) (now : List Shown) (told : List (User × List ℕ)) → place ≤ length s.timeline → AllHeard (repaired_items s at ask place) heard → numbers_of (take place (left heard now told)) ≡ numbers_of (take place s.timeline)
  front_numbers heard now told within all =
      let behind = acts ++ map (repaired ask s.next) (kept ask later) in
      let size : length (take place s.timeline) ≡ place = length-take-le place s.timeline within in
      let same : numbers_of (shown_after (front_of ask place) heard now) ≡ numbers_of (repaired_items s at ask place) =
      numbers_shown (front_of ask place) heard now ∙ mapped_alike (λ (i : Item). i.number) (λ i. refl) (repaired_items s at ask place) heard all in
      let long : place ≤ length (shown_after (front_of ask place) heard now) =
      omega (arith, size, length_shown (front_of ask place) heard now, length_alike (repaired_items s at ask place) heard all, length-append (take place s.timeline ++ acts) (map (repaired ask s.next) (kept ask later)), length-append (take place s.timeline) acts) in
      let enough : place ≤ length (take place s.timeline ++ acts) = omega (arith, size, length-append (take place s.timeline) acts) in
      let exact : place ≤ length (take place s.timeline) = omega (arith, size) in
      ap (λ (xs : List Item). numbers_of xs) (take-append-le place (shown_after (front_of ask place) heard now) (notice_items (s.next + length ask.inserts) at told) long)
      ∙ numbers_taken place (shown_after (front_of ask place) heard now)
      ∙ ap (λ (ns : List ℕ). take place ns) same
      ∙ sym (numbers_taken place (repaired_items s at ask place))
      ∙ ap (λ (xs : List Item). numbers_of xs) (take-append-le place (take place s.timeline ++ acts) (map (repaired ask s.next) (kept ask later)) enough ∙ take-append-le place (take place s.timeline) acts exact ∙ take_all place (take place s.timeline) (omega (arith, size)))

  pub can_come_back : (heard : List Item) (now : List Shown) (told : List (User × List ℕ)) → place ≤ length s.timeline → AllHeard (repaired_items s at ask place) heard → IsTimeline s.house (left heard now told)
      → CanComeBack s.house (left heard now told) (undone_at s ask place (length (repaired_items s at ask place)))
  can_come_back heard now told within all again =
      let size : length (take place s.timeline) ≡ place = length-take-le place s.timeline within in
      let long : length (shown_after (front_of ask place) heard now) ≡ length (repaired_items s at ask place) = length_shown (front_of ask place) heard now ∙ length_alike (repaired_items s at ask place) heard all in
      record {
        position = omega (arith, size, length-append (take place s.timeline ++ acts) (map (repaired ask s.next) (kept ask later)), length-append (take place s.timeline) acts);
        placed = omega (arith, long, length-append (shown_after (front_of ask place) heard now) (notice_items (s.next + length ask.inserts) at told));
        before = record {
          formed = joined (IsWellFormed s.house) (take place (left heard now told)) later (taken (IsWellFormed s.house) place (left heard now told) again.formed) (rest_of (IsWellFormed s.house) place s.timeline timeline.formed);
          apart = apart_by (take place (left heard now told)) (take place s.timeline) later (front_numbers heard now told within all) split_apart;
        };
        older = low;
        newer = subst (AllByRecursion (λ (i : Item). s.next < i.number)) (sym (drop_at (shown_after (front_of ask place) heard now) (notice_items (s.next + length ask.inserts) at told) (length (repaired_items s at ask place)) long))
            (above s.next (s.next + length ask.inserts) at told (omega arith));
        same = same_left heard now told all later low front_differs mine;
      }

  pub texts_come_back : (now : List Shown) (told : List (User × List ℕ)) → AllByRecursion (λ (i : Item). i.rev < s.next) s.timeline
      → TextsComeBack (left (repaired_items s at ask place) now told) (undone_at s ask place (length (repaired_items s at ask place)))
  texts_come_back now told revs =
      let old : AllByRecursion (λ (i : Item). i.rev < s.next) later = rest_of (λ (i : Item). i.rev < s.next) place s.timeline revs in
      record { older = old; same = texts_left now told later low old front_differs mine }
