-- A timeline without a cycle is one.
use Rattle.std.proofs.Common.{◌≡◌, ◌≢◌, ℕ, zero, suc, ◌<◌, ◌≤◌, ◌==◌, Bool, cond, true, false, arith, refl, sym, ◌∙◌, ap, subst, List, [], ◌∷◌, ◌++◌, take, drop, length, map, Option, Some, None, option_map, eqb-true}
use Rattle.std.specs.List.{AllByRecursion}
use Rattle.std.proofs.lemmas.List.{drop-append-le, length-append, length-take-le, take-append-le, take_at}
use Rattle.verb_core.specs.declared.conf.House.{House}
use Rattle.verb_core.specs.declared.item.Act.TheVariants.{Give}
use Rattle.verb_core.specs.declared.item.Deed.{Deed}
use Rattle.verb_core.specs.declared.item.Deed.TheVariants.{Deliver, Append, Act as Acts, Notice}
use Rattle.verb_core.specs.declared.item.Item.{Item}
use Rattle.verb_core.specs.declared.item.Shown.{Shown}
use Rattle.verb_core.specs.Deeds.{with_text}
use Rattle.verb_core.specs.Fates.{IsFresh}
use Rattle.verb_core.specs.Items.{IsTimeline, IsWellFormed, NumbersApart, has_form}
use Rattle.verb_core.specs.Store.{MailStore}
use Rattle.withdraw.specs.declared.undone.UndoneBehind.{UndoneBehind}
use Rattle.withdraw.specs.Coming.{AreSame, AreSameTexts, CanComeBack, IsSame, IsSameIf, IsSameText, TextsComeBack}
use Rattle.withdraw.specs.Unediting.{as_shown, item_of, showing, unedited_behind}
use Rattle.withdraw.proofs.Parts.{both, first_of, joined, mapped, rest_of, second_of, taken, weaker}
use Rattle.withdraw.proofs.Shown.{same_but_shown, same_number}

-- ---- well-formed items

form : (text : List ℕ) (deed : Deed) (shown : Shown) → has_form (with_text text deed) shown ≡ has_form deed shown
form text (Deliver from to old) shown = refl
form text (Append mailbox flags moment old) shown = refl
form text (Acts (Give user mailbox old)) shown = refl
form text (Notice user old) shown = refl
form text _ shown = refl

-- what is found has the number, and what holds of all
pub found_has : (P : Item → Type 0) (n : ℕ) (xs : List Item) (j : Item) → AllByRecursion P xs → item_of xs n ≡ Some j → P j × (j.number ≡ n)
found_has P n [] j a e = cc
found_has P n (x ∷ xs) j a e = by (x.number == n) refl (found_has P n xs j a.1) e
  where
    is : (y z : Item) → Some y ≡ Some z → y ≡ z
    is y z e = cc

    by : (b : Bool) → (x.number == n) ≡ b → (item_of xs n ≡ Some j → P j × (j.number ≡ n)) → cond b (Some x) (item_of xs n) ≡ Some j → P j × (j.number ≡ n)
    by true here rest e = (subst P (is x j e) a.0, ap (λ (y : Item). y.number) (sym (is x j e)) ∙ eqb-true x.number n here)
    by false here rest e = rest e

shown_formed : (house : House) (i j : Item) → IsWellFormed house i → IsWellFormed house j → IsSame i j → IsWellFormed house (record i { shown = j.shown })
shown_formed house i j formed there same = record {
  by = formed.by;
  users = formed.users;
  few = formed.few;
  form = sym (form [] i.deed j.shown) ∙ ap (λ (d : Deed). has_form d j.shown) (sym same.but_text) ∙ form [] j.deed j.shown ∙ there.form;
}

as_shown_formed : (house : House) (present : List Item) (i : Item) → IsWellFormed house i → AllByRecursion (IsWellFormed house) present → AllByRecursion (IsSameIf i) present → IsWellFormed house (as_shown present i)
as_shown_formed house present i formed all same = by (item_of present i.number) refl
  where
    by : (o : Option Item) → item_of present i.number ≡ o → IsWellFormed house (showing i (option_map (λ (j : Item). j.shown) o))
    by None e = formed
    by (Some j) e =
        let found = found_has (λ (k : Item). IsWellFormed house k × IsSameIf i k) i.number present j (both (IsWellFormed house) (IsSameIf i) present all same) e in
        shown_formed house i j formed found.0.0 (found.0.1 found.1)

later_formed : (house : House) (present later : List Item) → AllByRecursion (IsWellFormed house) later → AllByRecursion (IsWellFormed house) present → AreSame later present → AllByRecursion (IsWellFormed house) (map (as_shown present) later)
later_formed house present [] formed all same = tt
later_formed house present (i ∷ is) formed all same = (as_shown_formed house present i formed.0 all same.0, later_formed house present is formed.1 all same.1)

-- ---- distinct numbers

-- what holds of an item's number holds of it as it is shown
pub of_numbers : (P : ℕ → Type 0) (present later : List Item) → AllByRecursion (λ (i : Item). P i.number) later → AllByRecursion (λ (i : Item). P i.number) (map (as_shown present) later)
of_numbers P present later a = mapped (λ (i : Item). P i.number) (λ (i : Item). P i.number) (as_shown present) (λ i h. subst P (sym (same_number present i)) h) later a

later_apart : (present later : List Item) → NumbersApart later → NumbersApart (map (as_shown present) later)
later_apart present [] a = tt
later_apart present (i ∷ is) a = (
  subst (λ n. AllByRecursion (λ (j : Item). n ≢ j.number) (map (as_shown present) is)) (sym (same_number present i)) (of_numbers (λ n. i.number ≢ n) present is a.0),
  later_apart present is a.1,
)

before_apart : (present front later : List Item) → NumbersApart (front ++ later) → NumbersApart (front ++ map (as_shown present) later)
before_apart present [] later a = later_apart present later a
before_apart present (x ∷ xs) later a = (
  joined (λ (j : Item). x.number ≢ j.number) xs (map (as_shown present) later) (first_of (λ (j : Item). x.number ≢ j.number) xs later a.0)
      (of_numbers (λ n. x.number ≢ n) present later (second_of (λ (j : Item). x.number ≢ j.number) xs later a.0)),
  before_apart present xs later a.1,
)

both_apart : (xs ys : List Item) → NumbersApart xs → NumbersApart ys → AllByRecursion (λ (i : Item). AllByRecursion (λ (j : Item). i.number ≢ j.number) ys) xs → NumbersApart (xs ++ ys)
both_apart [] ys first second cross = second
both_apart (x ∷ xs) ys first second cross = (joined (λ (j : Item). x.number ≢ j.number) xs ys first.0 cross.0, both_apart xs ys first.1 second cross.1)

rest_apart : (n : ℕ) (t : List Item) → NumbersApart t → NumbersApart (drop n t)
rest_apart zero t a = a
rest_apart (suc n) [] a = tt
rest_apart (suc n) (i ∷ t) a = rest_apart n t a.1

-- the first items of a list, and the last
ends_apart : (m n : ℕ) (t : List Item) → m ≤ n → NumbersApart t → AllByRecursion (λ (i : Item). AllByRecursion (λ (j : Item). i.number ≢ j.number) (drop n t)) (take m t)
ends_apart zero n t le a = tt
ends_apart (suc m) n [] le a = tt
ends_apart (suc m) zero (x ∷ xs) le a = absurd (omega arith)
ends_apart (suc m) (suc n) (x ∷ xs) le a = (rest_of (λ (j : Item). x.number ≢ j.number) n xs a.0, ends_apart m n xs (omega arith) a.1)

-- lower numbers and higher ones
levels_apart : (c : ℕ) (xs ys : List Item) → AllByRecursion (λ (i : Item). i.number < c) xs → AllByRecursion (λ (j : Item). c < j.number) ys → AllByRecursion (λ (i : Item). AllByRecursion (λ (j : Item). i.number ≢ j.number) ys) xs
levels_apart c xs ys low high =
    weaker (λ (i : Item). i.number < c) (λ (i : Item). AllByRecursion (λ (j : Item). i.number ≢ j.number) ys)
    (λ i lt. weaker (λ (j : Item). c < j.number) (λ (j : Item). i.number ≢ j.number) (λ j gt e. let same : i.number ≡ j.number = e in absurd (omega arith)) ys high) xs low

-- ---- the whole

-- what holds of the items in force, and of those that come back as they are shown, holds of the whole
everywhere : (P : Item → Type 0) (present : List Item) (last : UndoneBehind) → AllByRecursion P (map (as_shown (drop last.position present)) last.later) → AllByRecursion P present → AllByRecursion P (unedited_behind present last)
everywhere P present last later all =
    joined P (take last.position present ++ map (as_shown (drop last.position present)) last.later) (drop last.placed present)
    (joined P (take last.position present) (map (as_shown (drop last.position present)) last.later) (taken P last.position present all) later)
    (rest_of P last.placed present all)

same_rev : (present : List Item) (i : Item) → (as_shown present i).rev ≡ i.rev
same_rev present i = ap (λ (j : Item). j.rev) (same_but_shown present i)

pub fresh_back : (base : MailStore) (present : List Item) (last : UndoneBehind) → AllByRecursion (λ (i : Item). IsFresh i.number base) last.later → AllByRecursion (λ (i : Item). IsFresh i.number base) present
    → AllByRecursion (λ (i : Item). IsFresh i.number base) (unedited_behind present last)
fresh_back base present last later all = everywhere (λ (i : Item). IsFresh i.number base) present last (of_numbers (λ n. IsFresh n base) (drop last.position present) last.later later) all

pub revs_back : (present : List Item) (last : UndoneBehind) (next : ℕ) → last.cycle < next → TextsComeBack present last → AllByRecursion (λ (i : Item). i.rev < next) present
    → AllByRecursion (λ (i : Item). i.rev < next) (unedited_behind present last)
revs_back present last next lt texts below =
    let behind = drop last.position present in
    everywhere (λ (i : Item). i.rev < next) present last
    (mapped (λ (i : Item). i.rev < last.cycle) (λ (i : Item). i.rev < next) (as_shown behind) (λ i h. let is : (as_shown behind i).rev ≡ i.rev = same_rev behind i in omega arith) last.later texts.older) below

pub front_back : (present : List Item) (last : UndoneBehind) → last.position ≤ length present → take last.position (unedited_behind present last) ≡ take last.position present
front_back present last within =
    let front = take last.position present in
    let later = map (as_shown (drop last.position present)) last.later in
    let size : length front ≡ last.position = length-take-le last.position present within in
    take-append-le last.position (front ++ later) (drop last.placed present) (omega (arith, size, length-append front later))
    ∙ take_at front later last.position size

module _ (house : House) (present : List Item) (last : UndoneBehind) (back : CanComeBack house present last) where
  abbrev behind : List Item
  behind = drop last.position present

  abbrev front : List Item
  front = take last.position present

  low : AllByRecursion (λ (i : Item). i.number < last.cycle) (map (as_shown behind) last.later)
  low = of_numbers (λ n. n < last.cycle) behind last.later back.older

  pub timeline_back : IsTimeline house present → IsTimeline house (unedited_behind present last)
  timeline_back timeline = record {
    formed = everywhere (IsWellFormed house) present last
        (later_formed house behind last.later (second_of (IsWellFormed house) front last.later back.before.formed) (rest_of (IsWellFormed house) last.position present timeline.formed) back.same) timeline.formed;
    apart = both_apart (front ++ map (as_shown behind) last.later) (drop last.placed present)
        (before_apart behind front last.later back.before.apart) (rest_apart last.placed present timeline.apart)
        (joined (λ (i : Item). AllByRecursion (λ (j : Item). i.number ≢ j.number) (drop last.placed present)) front (map (as_shown behind) last.later)
        (ends_apart last.position last.placed present back.position timeline.apart)
        (levels_apart last.cycle (map (as_shown behind) last.later) (drop last.placed present) low back.newer));
  }

  pub below_back : (next : ℕ) → last.cycle < next → AllByRecursion (λ (i : Item). i.number < next) present → AllByRecursion (λ (i : Item). i.number < next) (unedited_behind present last)
  below_back next lt below =
      let Low : Item → Type 0 = λ i. i.number < next in
      everywhere Low present last (weaker (λ (i : Item). i.number < last.cycle) Low (λ i h. omega arith) (map (as_shown behind) last.later) low) below

  -- ---- one more item

  others : (i : Item) → last.cycle < i.number → (later : List Item) → AllByRecursion (λ (k : Item). k.number < last.cycle) later → AreSame later behind → AreSame later (behind ++ i ∷ [])
  others i lt [] older same = tt
  others i lt (k ∷ ks) older same = (
    joined (IsSameIf k) behind (i ∷ []) same.0 ((λ e. let is : i.number ≡ k.number = e in let low : k.number < last.cycle = older.0 in absurd (omega arith)), tt),
    others i lt ks older.1 same.1,
  )

  pub stays_back : (i : Item) → last.cycle < i.number → CanComeBack house (present ++ i ∷ []) last
  stays_back i lt =
      let within : last.position ≤ length present = omega (arith, back.position, back.placed) in record {
        position = back.position;
        placed = omega (arith, back.placed, length-append present (i ∷ []));
        before = subst (λ (xs : List Item). IsTimeline house (xs ++ last.later)) (sym (take-append-le last.position present (i ∷ []) within)) back.before;
        older = back.older;
        newer = subst (AllByRecursion (λ (j : Item). last.cycle < j.number)) (sym (drop-append-le last.placed present (i ∷ []) back.placed))
            (joined (λ (j : Item). last.cycle < j.number) (drop last.placed present) (i ∷ []) back.newer (lt, tt));
        same = subst (AreSame last.later) (sym (drop-append-le last.position present (i ∷ []) within)) (others i lt last.later back.older back.same);
      }

  other_texts : (i : Item) → last.cycle < i.number → (later : List Item) → AllByRecursion (λ (k : Item). k.number < last.cycle) later → AreSameTexts later behind → AreSameTexts later (behind ++ i ∷ [])
  other_texts i lt [] older same = tt
  other_texts i lt (k ∷ ks) older same = (
    joined (IsSameText k) behind (i ∷ []) same.0 ((λ e. let is : i.number ≡ k.number = e in let low : k.number < last.cycle = older.0 in absurd (omega arith)), tt),
    other_texts i lt ks older.1 same.1,
  )

  pub texts_stay : (i : Item) → last.cycle < i.number → TextsComeBack present last → TextsComeBack (present ++ i ∷ []) last
  texts_stay i lt texts =
      let within : last.position ≤ length present = omega (arith, back.position, back.placed) in record {
        older = texts.older;
        same = subst (AreSameTexts last.later) (sym (drop-append-le last.position present (i ∷ []) within)) (other_texts i lt last.later back.older texts.same);
      }
