-- A body that has a text without the cycle has it at present, or had it before the cycle.
use Rattle.std.proofs.Common.{◌≡◌, ◌≢◌, ℕ, ◌==◌, Bool, true, false, ◌&&◌, cond, ap, refl, sym, ◌∙◌, subst, List, [], ◌∷◌, ◌++◌, take, drop, map, find, Option, Some, None, is_some, option_and_then, eqb-true}
use Rattle.std.specs.List.{AllByRecursion}
use Rattle.std.specs.Option.{option_or}
use Rattle.std.specs.Cmp.{first_so, second_so}
use Rattle.std.proofs.lemmas.List.{take-append-drop}
use Rattle.std.proofs.lemmas.List.Folds.{find-append}
use Rattle.verb_core.specs.declared.conf.House.{House}
use Rattle.verb_core.specs.declared.item.Item.{Item}
use Rattle.verb_core.specs.declared.mailbox.Body.{Body}
use Rattle.verb_core.specs.Items.{IsTimeline, NumbersApart, text_in, text_of}
use Rattle.withdraw.specs.declared.undone.UndoneBehind.{UndoneBehind}
use Rattle.withdraw.specs.Coming.{AreSameTexts, CanComeBack, IsSameText, TextsComeBack}
use Rattle.withdraw.specs.Unediting.{as_shown, unedited_behind}
use Rattle.withdraw.proofs.Parts.{joined, rest_of, taken, weaker}
use Rattle.withdraw.proofs.Shown.{apart_from, same_but_shown}

-- whether an item brought the text of a body
abbrev brings : Body → Item → Bool
brings body i = (i.number == body.origin) && (i.rev == body.rev) && is_some (text_in i.deed)

number_of : (body : Body) (i : Item) → brings body i ≡ true → i.number ≡ body.origin
number_of body i h = eqb-true i.number body.origin (first_so (i.number == body.origin) _ (first_so _ (is_some (text_in i.deed)) h))

rev_of : (body : Body) (i : Item) → brings body i ≡ true → i.rev ≡ body.rev
rev_of body i h = eqb-true i.rev body.rev (second_so (i.number == body.origin) _ (first_so _ (is_some (text_in i.deed)) h))

-- if an item brings the text of a body, the items have that text
abbrev Has : List Item → Body → Item → Type 0
Has t body i = brings body i ≡ true → text_of t body ≡ text_in i.deed

-- if it does, it is the one that is found
abbrev IsFound : List Item → Body → Item → Type 0
IsFound t body i = brings body i ≡ true → find (brings body) t ≡ Some i

-- each item of a timeline is
all_found : (body : Body) (t : List Item) → NumbersApart t → AllByRecursion (IsFound t body) t
all_found body [] a = tt
all_found body (x ∷ xs) a = (
  (λ h. ap (λ b. cond b (Some x) (find (brings body) xs)) h),
  further xs a.0 (all_found body xs a.1),
)
  where
    past : (i : Item) (b : Bool) → brings body x ≡ b → x.number ≢ i.number → IsFound xs body i → brings body i ≡ true → cond b (Some x) (find (brings body) xs) ≡ Some i
    past i true e differs found h = absurd (differs (number_of body x e ∙ sym (number_of body i h)))
    past i false e differs found h = found h

    further : (ys : List Item) → AllByRecursion (λ (i : Item). x.number ≢ i.number) ys → AllByRecursion (IsFound xs body) ys → AllByRecursion (IsFound (x ∷ xs) body) ys
    further [] differ found = tt
    further (y ∷ ys) differ found = (past y (brings body x) refl differ.0 found.0, further ys differ.1 found.1)

-- what is found brings the text, and what holds of all holds of it
found_brings : (P : Item → Type 0) (body : Body) (t : List Item) (j : Item) → AllByRecursion P t → find (brings body) t ≡ Some j → P j × (brings body j ≡ true)
found_brings P body [] j a e = cc
found_brings P body (x ∷ xs) j a e = by (brings body x) refl (found_brings P body xs j a.1) e
  where
    is : (y z : Item) → Some y ≡ Some z → y ≡ z
    is y z e = cc

    by : (b : Bool) → brings body x ≡ b → (find (brings body) xs ≡ Some j → P j × (brings body j ≡ true)) → cond b (Some x) (find (brings body) xs) ≡ Some j → P j × (brings body j ≡ true)
    by true here rest e = (subst P (is x j e) a.0, subst (λ (y : Item). brings body y ≡ true) (is x j e) here)
    by false here rest e = rest e

-- what all have is what is found
told : (body : Body) (y : List ℕ) (t items : List Item) → AllByRecursion (Has t body) items → text_of items body ≡ Some y → text_of t body ≡ Some y
told body y t [] all e = cc
told body y t (i ∷ is) all e = by (brings body i) refl (told body y t is all.1) e
  where
    by : (b : Bool) → brings body i ≡ b → (text_of is body ≡ Some y → text_of t body ≡ Some y) → option_and_then (λ (j : Item). text_in j.deed) (cond b (Some i) (find (brings body) is)) ≡ Some y → text_of t body ≡ Some y
    by true here rest e = all.0 here ∙ e
    by false here rest e = rest e

-- ---- at present, or before the cycle

abbrev text_found : Option Item → Option (List ℕ)
text_found o = option_and_then (λ (j : Item). text_in j.deed) o

module _ (body : Body) (present later : List Item) where
  both_found : find (brings body) (present ++ later) ≡ option_or (find (brings body) present) (find (brings body) later)
  both_found = find-append (brings body) present later

  first_has : (i : Item) → IsFound present body i → Has (present ++ later) body i
  first_has i found h = ap text_found (both_found ∙ ap (λ (o : Option Item). option_or o (find (brings body) later)) (found h))

  second_has : (i : Item) → IsFound later body i → AllByRecursion (IsSameText i) present → Has (present ++ later) body i
  second_has i found same h = ap text_found both_found ∙ by (find (brings body) present) refl
    where
      by : (o : Option Item) → find (brings body) present ≡ o → text_found (option_or o (find (brings body) later)) ≡ text_in i.deed
      by None e = ap text_found (found h)
      by (Some j) e =
          let there = found_brings (IsSameText i) body present j same e in
          ap text_in (there.0 (number_of body j there.1 ∙ sym (number_of body i h)) (rev_of body j there.1 ∙ sym (rev_of body i h)))

  all_first : NumbersApart present → AllByRecursion (Has (present ++ later) body) present
  all_first apart = weaker (IsFound present body) (Has (present ++ later) body) first_has present (all_found body present apart)

  all_second : (is : List Item) → AllByRecursion (IsFound later body) is → AreSameTexts is present → AllByRecursion (Has (present ++ later) body) is
  all_second [] found same = tt
  all_second (i ∷ is) found same = (second_has i found.0 same.0, all_second is found.1 same.1)

-- as they are shown they bring the same
shown_have : (t : List Item) (body : Body) (present is : List Item) → AllByRecursion (Has t body) is → AllByRecursion (Has t body) (map (as_shown present) is)
shown_have t body present [] all = tt
shown_have t body present (i ∷ is) all = (
  subst (λ (j : Item). brings body j ≡ true → text_of t body ≡ text_in j.deed) (sym (same_but_shown present i)) all.0,
  shown_have t body present is all.1,
)

-- none of the front has the number of an item that can come back
same_everywhere : (n : ℕ) (present later : List Item) → AllByRecursion (λ (i : Item). AllByRecursion (λ (j : Item). j.number ≢ i.number) (take n present)) later → AreSameTexts later (drop n present) → AreSameTexts later present
same_everywhere n present [] differ same = tt
same_everywhere n present (i ∷ is) differ same = (
  subst (AllByRecursion (IsSameText i)) (take-append-drop n present)
      (joined (IsSameText i) (take n present) (drop n present) (weaker (λ (j : Item). j.number ≢ i.number) (IsSameText i) (λ j differs e. absurd (differs e)) (take n present) differ.0) same.0),
  same_everywhere n present is differ.1 same.1,
)

second_apart : (xs ys : List Item) → NumbersApart (xs ++ ys) → NumbersApart ys
second_apart [] ys a = a
second_apart (x ∷ xs) ys a = second_apart xs ys a.1

pub texts_back : (house : House) (present : List Item) (last : UndoneBehind) (body : Body) (text : List ℕ) → IsTimeline house present → CanComeBack house present last → TextsComeBack present last
    → text_of (unedited_behind present last) body ≡ Some text → text_of (present ++ last.later) body ≡ Some text
texts_back house present last body text timeline back texts e =
    let all = present ++ last.later in
    let front = take last.position present in
    let behind = drop last.position present in
    let first : AllByRecursion (Has all body) present = all_first body present last.later timeline.apart in
    let second : AllByRecursion (Has all body) last.later = all_second body present last.later last.later (all_found body last.later (second_apart front last.later back.before.apart))
    (same_everywhere last.position present last.later (apart_from front last.later back.before.apart) texts.same) in
    told body text all (unedited_behind present last)
    (joined (Has all body) (front ++ map (as_shown behind) last.later) (drop last.placed present)
    (joined (Has all body) front (map (as_shown behind) last.later) (taken (Has all body) last.position present first) (shown_have all body behind last.later second))
    (rest_of (Has all body) last.placed present first))
    e
