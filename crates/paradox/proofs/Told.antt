-- Broken items are told, of users of the house, who get notices.
use Rattle.std.proofs.Common.{◌≡◌, ℕ, ◌+◌, ◌<◌, ◌≤◌, ◌==◌, Bool, true, false, ◌&&◌, ◌||◌, cond, List, [], ◌∷◌, ◌++◌, map, filter, length, Option, Some, None, is_some, option_map, refl, sym, ap, ◌∙◌, subst, eq-eqb, arith}
use Rattle.std.specs.Prelude.{option_and_then, nat_lt}
use Rattle.std.specs.List.{list_all, list_any, enumerate_from, cons_option}
use Rattle.std.proofs.lemmas.Bool.Decides.{Decides-eqb, not_from_Decides, nat_tests}
use Rattle.std.proofs.lemmas.List.Folds.{list_any-append}
use Rattle.undo_base.specs.declared.keys.User.{User}
use Rattle.verb_core.specs.declared.conf.Account.{Account}
use Rattle.verb_core.specs.declared.conf.House.{House}
use Rattle.verb_core.specs.declared.item.Item.{Item}
use Rattle.verb_core.specs.declared.item.Deed.{Deed}
use Rattle.verb_core.specs.declared.item.Deed.TheVariants as deed
use Rattle.verb_core.specs.declared.item.Shown.{Shown}
use Rattle.verb_core.specs.declared.item.Shown.TheVariants.{Nothing}
use Rattle.verb_core.specs.Boxes.{same_user}
use Rattle.verb_core.specs.Deeds.{deed_word, mailbox_in}
use Rattle.verb_core.specs.Items.{IsWellFormed, is_own, has_form, users_in}
use Rattle.verb_core.specs.Store.{is_known}
use Rattle.paradox.specs.declared.reports.BrokenItem.{BrokenItem}
use Rattle.paradox.specs.declared.words.Verb.{Verb}
use Rattle.paradox.specs.declared.words.Reason.{Reason}
use Rattle.paradox.specs.Answers.{amiss}
use Rattle.paradox.specs.Letters.{is_told, users_told}
use Rattle.paradox.specs.Words.{verb_of, verb_word, told_of}
use Rattle.paradox.proofs.Searching.{or_true}

-- ---- an item that a user did is told

verb_of_own : (d : Deed) → is_own d ≡ true → is_some (verb_of d) ≡ true
verb_of_own (deed.Act act) own = cc
verb_of_own (deed.Notice user text) own = cc
verb_of_own d own = refl

some_mapped : {X Y : Type 0} (f : X → Y) (x : Option X) → is_some (option_map f x) ≡ is_some x
some_mapped f None = refl
some_mapped f (Some x) = refl

-- as it is told where the user is one, and the verb is one
abbrev told_by : Item → Reason → Option Verb → Option User → Option BrokenItem
told_by i reason verbs by =
    option_and_then (λ user. option_map (λ verb. record { number = i.number; user = user; verb = verb; mailbox = mailbox_in i.deed; reason = reason }) verbs) by

told_if : (i : Item) (reason : Reason) (verbs : Option Verb) (by : Option User) → is_some by ≡ true → is_some verbs ≡ true → is_some (told_by i reason verbs by) ≡ true
told_if i reason verbs None has is = cc
told_if i reason verbs (Some user) has is = some_mapped (λ verb. record { number = i.number; user = user; verb = verb; mailbox = mailbox_in i.deed; reason = reason }) verbs ∙ is

pub own_is_told : (house : House) (i : Item) (reason : Reason) → IsWellFormed house i → is_some i.by ≡ true → is_some (told_of i reason) ≡ true
own_is_told house i reason formed by = told_if i reason (verb_of i.deed) i.by by (verb_of_own i.deed (sym formed.by ∙ by))

-- ---- what is broken is a user's own

break_of_own : (d : Deed) (shown : Shown) (looks : Bool) (now : Shown) (reason : Reason) → has_form d shown ≡ true → amiss looks shown now ≡ Some reason → is_own d ≡ true
break_of_own (deed.Deliver from to text) Nothing looks now reason form is = cc
break_of_own (deed.Deliver from to text) shown looks now reason form is = cc
break_of_own (deed.Act act) Nothing looks now reason form is = cc
break_of_own (deed.Act act) shown looks now reason form is = cc
break_of_own (deed.Notice user text) Nothing looks now reason form is = cc
break_of_own (deed.Notice user text) shown looks now reason form is = cc
break_of_own d shown looks now reason form is = refl

pub broken_is_told : (house : House) (i : Item) (looks : Bool) (now : Shown) (reason : Reason) → IsWellFormed house i → amiss looks i.shown now ≡ Some reason → is_some (told_of i reason) ≡ true
broken_is_told house i looks now reason formed is =
    own_is_told house i reason formed (formed.by ∙ break_of_own i.deed i.shown looks now reason formed.form is)

-- ---- the user is one of the house

told_user : (i : Item) (reason : Reason) (verbs : Option Verb) (by : Option User) (told : BrokenItem) → told_by i reason verbs by ≡ Some told → by ≡ Some told.user
told_user i reason verbs None told is = cc
told_user i reason None (Some user) told is = cc
told_user i reason (Some verb) (Some user) told is = ap (λ (b : Option BrokenItem). option_map (λ (x : BrokenItem). x.user) b) is

left_so : (a b : Bool) → (a && b) ≡ true → a ≡ true
left_so true b is = refl
left_so false b is = is

pub told_is_known : (house : House) (i : Item) (reason : Reason) (told : BrokenItem) → IsWellFormed house i → told_of i reason ≡ Some told → is_known house told.user ≡ true
told_is_known house i reason told formed is =
    left_so (is_known house told.user) (list_all (is_known house) (users_in i.deed))
    (subst (λ (by : Option User). list_all (is_known house) (cons_option by (users_in i.deed)) ≡ true) (told_user i reason (verb_of i.deed) i.by told is) formed.users)

-- ---- who has an item in the list gets a notice

module _ (test : User → Bool) (u : User) (passes : test u ≡ true) where
  found_among : (k : ℕ) (xs : List Account) → k ≤ u.0 → u.0 < k + length xs → list_any (same_user u) (filter test (map (λ (a : ℕ × Account). record { 0 = a.0 }) (enumerate_from k xs))) ≡ true
  found_among k [] low high = absurd (omega arith)
  found_among k (x ∷ xs) low high =
      let rest : List User = filter test (map (λ (a : ℕ × Account). record { 0 = a.0 }) (enumerate_from (k + 1) xs)) in
      elim (u.0 == k) as (λ b. (u.0 == k) ≡ b → list_any (same_user u) (cond (test (record { 0 = k })) (record { 0 = k } ∷ rest) rest) ≡ true) [
        | true ↦ λ e.
            ap (λ c. list_any (same_user u) (cond c (record { 0 = k } ∷ rest) rest)) (ap (λ n. test (record { 0 = n })) (sym ((Decides-eqb u.0 k).0 e)) ∙ passes)
            ∙ ap (λ c. c || list_any (same_user u) rest) e
        | false ↦ λ e.
            let apart : u.0 ≡ k → ⊥ = not_from_Decides (u.0 == k) (Decides-eqb u.0 k) e in
            let later : list_any (same_user u) rest ≡ true = found_among (k + 1) xs (omega arith) (omega arith) in
            elim (test (record { 0 = k })) as (λ c. list_any (same_user u) (cond c (record { 0 = k } ∷ rest) rest) ≡ true) [
              | true ↦ ap (λ c. (u.0 == k) || c) later ∙ or_true (u.0 == k)
              | false ↦ later
            ]
      ] refl

told_in : (before after : List BrokenItem) (told : BrokenItem) → is_told (before ++ told ∷ after) told.user ≡ true
told_in before after told =
    list_any-append (λ (b : BrokenItem). same_user told.user b.user) before (told ∷ after)
    ∙ ap (λ c. list_any (λ (b : BrokenItem). same_user told.user b.user) before || (c || list_any (λ (b : BrokenItem). same_user told.user b.user) after)) (eq-eqb told.user.0 told.user.0 refl)
    ∙ or_true (list_any (λ (b : BrokenItem). same_user told.user b.user) before)

below : (a b : ℕ) → nat_lt a b ≡ true → a < 0 + b
below a b is = grind (arith, nat_tests)

pub who_is_told : (house : House) (before : List BrokenItem) (told : BrokenItem) (after : List BrokenItem) → is_known house told.user ≡ true → list_any (same_user told.user) (users_told house (before ++ told ∷ after)) ≡ true
who_is_told house before told after known =
    found_among (is_told (before ++ told ∷ after)) told.user (told_in before after told) 0 house.accounts (omega arith) (below told.user.0 (length house.accounts) known)

-- ---- the word of a verb is that of its deed

pub verb_of_deed : (d : Deed) → option_map verb_word (verb_of d) ≡ cond (is_some (verb_of d)) (Some (deed_word d)) None
verb_of_deed (deed.Act act) = refl
verb_of_deed (deed.Notice user text) = refl
verb_of_deed d = refl
