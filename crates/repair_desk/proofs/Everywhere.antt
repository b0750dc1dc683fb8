-- What holds of each item of a repaired timeline.
use Rattle.std.proofs.Common.{◌≡◌, ◌≢◌, ℕ, zero, suc, ◌+◌, ◌<◌, ◌≤◌, Bool, cond, true, false, arith, refl, sym, ◌∙◌, subst, List, [], ◌∷◌, ◌++◌, take, drop, length, filter, map, Some, None}
use Rattle.std.specs.List.{AllByRecursion, list_all}
use Rattle.std.specs.Cmp.{first_so, second_so}
use Rattle.verb_core.specs.declared.conf.House.{House}
use Rattle.verb_core.specs.declared.item.Act.{Act}
use Rattle.verb_core.specs.declared.item.Act.TheVariants.{Give}
use Rattle.verb_core.specs.declared.item.Item.{Item}
use Rattle.verb_core.specs.declared.item.Deed.{Deed}
use Rattle.verb_core.specs.declared.item.Deed.TheVariants.{Deliver, Append, Act as Acts}
use Rattle.verb_core.specs.declared.item.Shown.{Shown}
use Rattle.verb_core.specs.Items.{IsWellFormed, IsTimeline, NumbersApart, is_own, users_in, keys_in, has_form}
use Rattle.verb_core.specs.Store.{is_known}
use Rattle.verb_bytes.specs.declared.journal.CycleAsk.{CycleAsk}
use Rattle.verb_core.specs.Deeds.{with_text}
use Rattle.repair_desk.specs.Repairs.{are_known, inserted, kept, new_timeline, repaired, replaced_by, takes_text, text_asked}

-- ---- parts of lists

module _ {X : Type 0} where
  pub joined : (P : X → Type 0) (xs ys : List X) → AllByRecursion P xs → AllByRecursion P ys → AllByRecursion P (xs ++ ys)
  joined P [] ys a b = b
  joined P (x ∷ xs) ys a b = (a.0, joined P xs ys a.1 b)

  pub taken : (P : X → Type 0) (n : ℕ) (xs : List X) → AllByRecursion P xs → AllByRecursion P (take n xs)
  taken P zero xs a = tt
  taken P (suc n) [] a = tt
  taken P (suc n) (x ∷ xs) a = (a.0, taken P n xs a.1)

  pub rest_of : (P : X → Type 0) (n : ℕ) (xs : List X) → AllByRecursion P xs → AllByRecursion P (drop n xs)
  rest_of P zero xs a = a
  rest_of P (suc n) [] a = tt
  rest_of P (suc n) (x ∷ xs) a = rest_of P n xs a.1

  pub passing : (P : X → Type 0) (p : X → Bool) (xs : List X) → AllByRecursion P xs → AllByRecursion P (filter p xs)
  passing P p [] a = tt
  passing P p (x ∷ xs) a = elim (p x) as (λ b. AllByRecursion P (cond b (x ∷ filter p xs) (filter p xs))) [ true ↦ (a.0, passing P p xs a.1) | false ↦ passing P p xs a.1 ]

  pub mapped : (P Q : X → Type 0) (f : X → X) → ((x : X) → P x → Q (f x)) → (xs : List X) → AllByRecursion P xs → AllByRecursion Q (map f xs)
  mapped P Q f h [] a = tt
  mapped P Q f h (x ∷ xs) a = (h x a.0, mapped P Q f h xs a.1)

  pub weaker : (P Q : X → Type 0) → ((x : X) → P x → Q x) → (xs : List X) → AllByRecursion P xs → AllByRecursion Q xs
  weaker P Q h [] a = tt
  weaker P Q h (x ∷ xs) a = (h x a.0, weaker P Q h xs a.1)

-- ---- an item with another text

pub same_number : (ask : CycleAsk) (c : ℕ) (i : Item) → (repaired ask c i).number ≡ i.number
same_number ask c i = elim (text_asked ask.replaces i.number) as (λ o. (replaced_by c i o).number ≡ i.number) [
  | None ↦ refl
  | Some text ↦ elim (takes_text i.deed) as (λ b. (cond b (record i { rev = c; deed = with_text text i.deed }) i).number ≡ i.number) [ true ↦ refl | false ↦ refl ]
]

own : (text : List ℕ) (deed : Deed) → is_own (with_text text deed) ≡ is_own deed
own text (Deliver from to old) = refl
own text (Append mailbox flags moment old) = refl
own text (Acts (Give user mailbox old)) = refl
own text _ = refl

users : (text : List ℕ) (deed : Deed) → users_in (with_text text deed) ≡ users_in deed
users text (Deliver from to old) = refl
users text (Append mailbox flags moment old) = refl
users text (Acts (Give user mailbox old)) = refl
users text _ = refl

keys : (text : List ℕ) (deed : Deed) → keys_in (with_text text deed) ≡ keys_in deed
keys text (Deliver from to old) = refl
keys text (Append mailbox flags moment old) = refl
keys text (Acts (Give user mailbox old)) = refl
keys text _ = refl

form : (text : List ℕ) (deed : Deed) (shown : Shown) → has_form (with_text text deed) shown ≡ has_form deed shown
form text (Deliver from to old) shown = refl
form text (Append mailbox flags moment old) shown = refl
form text (Acts (Give user mailbox old)) shown = refl
form text _ shown = refl

with_text_formed : (house : House) (c : ℕ) (text : List ℕ) (i : Item) → IsWellFormed house i → IsWellFormed house (record i { rev = c; deed = with_text text i.deed })
with_text_formed house c text i formed = record {
  by = formed.by ∙ sym (own text i.deed);
  users = rw (users text i.deed) formed.users;
  few = rw (keys text i.deed) formed.few;
  form = form text i.deed i.shown ∙ formed.form;
}

pub repaired_formed : (house : House) (ask : CycleAsk) (c : ℕ) (i : Item) → IsWellFormed house i → IsWellFormed house (repaired ask c i)
repaired_formed house ask c i formed = elim (text_asked ask.replaces i.number) as (λ o. IsWellFormed house (replaced_by c i o)) [
  | None ↦ formed
  | Some text ↦ elim (takes_text i.deed) as (λ b. IsWellFormed house (cond b (record i { rev = c; deed = with_text text i.deed }) i)) [
    | true ↦ with_text_formed house c text i formed
    | false ↦ formed
  ]
]

-- ---- acts that come in

pub inserted_formed : (house : House) (number at : ℕ) (acts : List Act) → are_known house acts ≡ true → AllByRecursion (IsWellFormed house) (inserted number at acts)
inserted_formed house number at [] known = tt
inserted_formed house number at (act ∷ acts) known = (
  record { by = refl; users = first_so (list_all (is_known house) (users_in (Acts act))) _ known; few = omega arith; form = refl },
  inserted_formed house (number + 1) at acts (second_so (list_all (is_known house) (users_in (Acts act))) _ known),
)

pub inserted_above : (low number at : ℕ) (acts : List Act) → low ≤ number → AllByRecursion (λ (j : Item). low < j.number) (inserted number at acts)
inserted_above low number at [] le = tt
inserted_above low number at (act ∷ acts) le = (omega arith, inserted_above low (number + 1) at acts (omega arith))

pub inserted_below : (most number at : ℕ) (acts : List Act) → number + length acts ≤ most → AllByRecursion (λ (j : Item). j.number ≤ most) (inserted number at acts)
inserted_below most number at [] le = tt
inserted_below most number at (act ∷ acts) le = (omega arith, inserted_below most (number + 1) at acts (omega arith))

-- ---- the whole

pub everywhere : (P : Item → Type 0) (t : List Item) (ask : CycleAsk) (c at place : ℕ) → AllByRecursion P (take place t) → AllByRecursion P (inserted c at ask.inserts)
    → AllByRecursion P (map (repaired ask c) (kept ask (drop place t))) → AllByRecursion P (new_timeline t ask c at place)
everywhere P t ask c at place front acts later = joined P (take place t ++ inserted c at ask.inserts) _ (joined P (take place t) _ front acts) later

-- what holds of an item's number alone holds of it with another text
pub of_numbers : (P : ℕ → Type 0) (ask : CycleAsk) (c : ℕ) (later : List Item) → AllByRecursion (λ (i : Item). P i.number) later → AllByRecursion (λ (i : Item). P i.number) (map (repaired ask c) (kept ask later))
of_numbers P ask c later a =
    mapped (λ (i : Item). P i.number) (λ (i : Item). P i.number) (repaired ask c) (λ i h. subst P (sym (same_number ask c i)) h) (kept ask later) (passing (λ (i : Item). P i.number) _ later a)

pub all_formed : (house : House) (t : List Item) (ask : CycleAsk) (c at place : ℕ) → AllByRecursion (IsWellFormed house) t → are_known house ask.inserts ≡ true
    → AllByRecursion (IsWellFormed house) (new_timeline t ask c at place)
all_formed house t ask c at place formed known =
    everywhere (IsWellFormed house) t ask c at place (taken (IsWellFormed house) place t formed) (inserted_formed house c at ask.inserts known)
    (mapped (IsWellFormed house) (IsWellFormed house) (repaired ask c) (repaired_formed house ask c) (kept ask (drop place t)) (passing (IsWellFormed house) _ (drop place t) (rest_of (IsWellFormed house) place t formed)))

pub all_below : (t : List Item) (ask : CycleAsk) (c at place : ℕ) → AllByRecursion (λ (i : Item). i.number < c) t → AllByRecursion (λ (i : Item). i.number ≤ c + length ask.inserts) (new_timeline t ask c at place)
all_below t ask c at place below =
    let Low : Item → Type 0 = λ i. i.number ≤ c + length ask.inserts in
    let low : AllByRecursion Low t = weaker (λ (i : Item). i.number < c) Low (λ i h. omega arith) t below in
    everywhere Low t ask c at place (taken Low place t low) (inserted_below (c + length ask.inserts) c at ask.inserts (omega arith))
    (of_numbers (λ n. n ≤ c + length ask.inserts) ask c (drop place t) (rest_of Low place t low))

old_revs : (c number at : ℕ) (acts : List Act) → AllByRecursion (λ (j : Item). j.rev ≤ c) (inserted number at acts)
old_revs c number at [] = tt
old_revs c number at (act ∷ acts) = (omega arith, old_revs c (number + 1) at acts)

repaired_rev : (ask : CycleAsk) (c : ℕ) (i : Item) → i.rev ≤ c → (repaired ask c i).rev ≤ c
repaired_rev ask c i le = elim (text_asked ask.replaces i.number) as (λ o. (replaced_by c i o).rev ≤ c) [
  | None ↦ le
  | Some text ↦ elim (takes_text i.deed) as (λ b. (cond b (record i { rev = c; deed = with_text text i.deed }) i).rev ≤ c) [ true ↦ omega arith | false ↦ le ]
]

pub revs_below : (t : List Item) (ask : CycleAsk) (c at place : ℕ) → AllByRecursion (λ (i : Item). i.rev < c) t → AllByRecursion (λ (i : Item). i.rev ≤ c) (new_timeline t ask c at place)
revs_below t ask c at place below =
    let Low : Item → Type 0 = λ i. i.rev ≤ c in
    let low : AllByRecursion Low t = weaker (λ (i : Item). i.rev < c) Low (λ i h. omega arith) t below in
    everywhere Low t ask c at place (taken Low place t low) (old_revs c c at ask.inserts)
    (mapped Low Low (repaired ask c) (repaired_rev ask c) (kept ask (drop place t)) (passing Low _ (drop place t) (rest_of Low place t low)))

-- ---- distinct numbers

filtered_apart : (p : Item → Bool) (t : List Item) → NumbersApart t → NumbersApart (filter p t)
filtered_apart p [] a = tt
filtered_apart p (i ∷ t) a = elim (p i) as (λ b. NumbersApart (cond b (i ∷ filter p t) (filter p t))) [
  | true ↦ (passing (λ (j : Item). i.number ≢ j.number) p t a.0, filtered_apart p t a.1)
  | false ↦ filtered_apart p t a.1
]

mapped_apart : (ask : CycleAsk) (c : ℕ) (t : List Item) → NumbersApart t → NumbersApart (map (repaired ask c) t)
mapped_apart ask c [] a = tt
mapped_apart ask c (i ∷ t) a = (
  mapped (λ (j : Item). i.number ≢ j.number) (λ (j : Item). (repaired ask c i).number ≢ j.number) (repaired ask c)
      (λ j h e. h (sym (same_number ask c i) ∙ e ∙ same_number ask c j)) t a.0,
  mapped_apart ask c t a.1,
)

rest_apart : (n : ℕ) (t : List Item) → NumbersApart t → NumbersApart (drop n t)
rest_apart zero t a = a
rest_apart (suc n) [] a = tt
rest_apart (suc n) (i ∷ t) a = rest_apart n t a.1

-- acts with numbers above those of what follows
inserted_apart : (number at : ℕ) (acts : List Act) (t : List Item) → NumbersApart t → AllByRecursion (λ (j : Item). j.number ≤ number) t → NumbersApart (inserted number at acts ++ t)
inserted_apart number at [] t a below = a
inserted_apart number at (act ∷ acts) t a below = (
  joined (λ (j : Item). number + 1 ≢ j.number) (inserted (number + 1) at acts) t
      (weaker (λ (j : Item). number + 1 < j.number) (λ (j : Item). number + 1 ≢ j.number) (λ j h e. absurd (omega arith)) _ (inserted_above (number + 1) (number + 1) at acts (omega arith)))
      (weaker (λ (j : Item). j.number ≤ number) (λ (j : Item). number + 1 ≢ j.number) (λ j h e. absurd (omega arith)) t below),
  inserted_apart (number + 1) at acts t a (weaker (λ (j : Item). j.number ≤ number) (λ (j : Item). j.number ≤ number + 1) (λ j h. omega arith) t below),
)

behind_apart : (t : List Item) (ask : CycleAsk) (c at : ℕ) → NumbersApart t → AllByRecursion (λ (i : Item). i.number < c) t → NumbersApart (inserted c at ask.inserts ++ map (repaired ask c) (kept ask t))
behind_apart t ask c at a below =
    inserted_apart c at ask.inserts (map (repaired ask c) (kept ask t)) (mapped_apart ask c (kept ask t) (filtered_apart _ t a))
    (of_numbers (λ n. n ≤ c) ask c t (weaker (λ (i : Item). i.number < c) (λ (i : Item). i.number ≤ c) (λ i h. omega arith) t below))

pub all_apart : (t : List Item) (ask : CycleAsk) (c at place : ℕ) → NumbersApart t → AllByRecursion (λ (i : Item). i.number < c) t → NumbersApart (new_timeline t ask c at place)
all_apart t ask c at zero a below = behind_apart t ask c at a below
all_apart [] ask c at (suc place) a below = behind_apart [] ask c at tt tt
all_apart (i ∷ t) ask c at (suc place) a below =
    let Other : Item → Type 0 = λ j. i.number ≢ j.number in (
      everywhere Other t ask c at place (taken Other place t a.0)
          (weaker (λ (j : Item). c < j.number) Other (λ j h e. absurd (let this : i.number < c = below.0 in let same : i.number ≡ j.number = e in omega arith)) (inserted c at ask.inserts) (inserted_above c c at ask.inserts (omega arith)))
          (of_numbers (λ n. i.number ≢ n) ask c (drop place t) (rest_of Other place t a.0)),
      all_apart t ask c at place a.1 below.1,
    )

pub timeline_again : (house : House) (t : List Item) (ask : CycleAsk) (c at place : ℕ) → IsTimeline house t → AllByRecursion (λ (i : Item). i.number < c) t → are_known house ask.inserts ≡ true
    → IsTimeline house (new_timeline t ask c at place)
timeline_again house t ask c at place timeline below known = record {
  formed = all_formed house t ask c at place timeline.formed known;
  apart = all_apart t ask c at place timeline.apart below;
}
