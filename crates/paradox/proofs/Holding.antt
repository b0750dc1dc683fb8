-- Answers that are given again as they were.
use Rattle.std.proofs.Common.{◌≡◌, ℕ, ◌==◌, Bool, true, false, not, ◌&&◌, ◌||◌, if◌then◌else◌, List, [], ◌∷◌, ◌++◌, Option, Some, None, bytes_eq, nat_lt, refl, sym, ap, ◌∙◌, subst, eq-eqb, append_assoc, arith}
use Rattle.std.specs.List.{list_all, list_any}
use Rattle.std.specs.Cmp.Lexicographic.{nat_list_eq_equiv}
use Rattle.std.proofs.lemmas.Bool.Decides.{nat_tests}
use Rattle.std.proofs.lemmas.List.Folds.{list_any-append}
use Rattle.undo_base.specs.declared.keys.Key.{Key}
use Rattle.verb_core.specs.declared.item.Item.{Item}
use Rattle.verb_core.specs.declared.item.Sight.{Sight}
use Rattle.verb_core.specs.declared.item.Shown.{Shown}
use Rattle.verb_core.specs.declared.item.Shown.TheVariants.{Nothing, Seen, Names, Count, Done, Copied, Put, Left, Way as Went, Moved}
use Rattle.verb_core.specs.declared.item.Way.{Way}
use Rattle.verb_core.specs.declared.item.Way.TheVariants.{Plain, NoSource, Merged}
use Rattle.verb_core.specs.Mailboxes.{same_key}
use Rattle.paradox.specs.declared.words.Reason.{Reason}
use Rattle.paradox.specs.declared.words.Reason.TheVariants as why
use Rattle.paradox.specs.Answers.{all_among, same_message, same_sight, is_fewer, is_renamed_amiss, given, amiss, looks_at_texts, broken}
use Rattle.paradox.proofs.Searching.{or_true}

-- what is broken, from what was shown
pub by_shown : (item : Item) (shown now : Shown) (r : Option Reason) → item.shown ≡ shown → r ≡ amiss (looks_at_texts item.deed) shown now → r ≡ broken item now
by_shown item shown now r is e = e ∙ ap (λ (s : Shown). amiss (looks_at_texts item.deed) s now) (sym is)

module _ {A : Type 0} (same : A → A → Bool) (itself : (x : A) → same x x ≡ true) where
  -- each member is among what stands before the list and the list
  each_after : (before xs : List A) → list_all (λ x. list_any (same x) (before ++ xs)) xs ≡ true
  each_after before [] = refl
  each_after before (x ∷ xs) =
      let here : list_any (same x) (before ++ x ∷ xs) ≡ true =
      list_any-append (same x) before (x ∷ xs) ∙ ap (λ b. list_any (same x) before || (b || list_any (same x) xs)) (itself x) ∙ or_true (list_any (same x) before) in
      ap (λ b. b && list_all (λ y. list_any (same y) (before ++ x ∷ xs)) xs) here
      ∙ subst (λ (all : List A). list_all (λ y. list_any (same y) all) xs ≡ true) (append_assoc before (x ∷ []) xs) (each_after (before ++ x ∷ []) xs)

  -- each member of a list is among the list
  all_in_itself : (xs : List A) → all_among same xs xs ≡ true
  all_in_itself xs = each_after [] xs

key_itself : (k : Key) → same_key k k ≡ true
key_itself k = ap (λ b. b && k.index == k.index) (eq-eqb k.item k.item refl) ∙ eq-eqb k.index k.index refl

sight_itself : (s : Sight) → same_sight s s ≡ true
sight_itself s = ap (λ b. b && s.rev == s.rev) (key_itself s.key) ∙ eq-eqb s.rev s.rev refl

nothing_given : (cause : Bool) (reason : Reason) → cause ≡ true → given (not cause) reason ≡ None
nothing_given cause reason is = ap (λ b. given (not b) reason) is

not_less : (n : ℕ) → nat_lt n n ≡ false
not_less n = grind (arith, nat_tests)

as_many : (count : Option ℕ) → given (is_fewer count count) why.Fewer ≡ None
as_many None = refl
as_many (Some n) = ap (λ b. given b why.Fewer) (not_less n)

same_way : (way : Way) → given (is_renamed_amiss way way) why.Renamed ≡ None
same_way Plain = refl
same_way NoSource = refl
same_way Merged = refl

no_turn : (b : Bool) → given (b && not b) why.Redirected ≡ None
no_turn true = refl
no_turn false = refl

and_false : (b : Bool) → (b && false) ≡ false
and_false true = refl
and_false false = refl

-- what is shown again as it was is not amiss
pub holds : (looks : Bool) (shown : Shown) → amiss looks shown shown ≡ None
holds looks Nothing = refl
holds looks (Seen shown) =
    ap (λ b. if b then given (looks && not (all_among same_sight shown shown)) why.Changed else Some why.Missing) (all_in_itself same_message (λ s. key_itself s.key) shown)
    ∙ ap (λ b. given (looks && not b) why.Changed) (all_in_itself same_sight sight_itself shown)
    ∙ ap (λ b. given b why.Changed) (and_false looks)
holds looks (Names shown) = nothing_given (all_among bytes_eq shown shown) why.NoName (all_in_itself bytes_eq nat_list_eq_equiv.refl shown)
holds looks (Count shown) = as_many shown
holds looks (Done shown) = nothing_given (all_among same_key shown shown) why.Missing (all_in_itself same_key key_itself shown)
holds looks (Copied shown was) =
    ap (λ b. if b then given (was && not was) why.Redirected else Some why.Missing) (all_in_itself same_key key_itself shown) ∙ no_turn was
holds looks (Put was) = no_turn was
holds looks (Left shown) = nothing_given (all_among same_key shown shown) why.Left (all_in_itself same_key key_itself shown)
holds looks (Went shown) = same_way shown
holds looks (Moved shown) = nothing_given (all_among same_key shown shown) why.Moved (all_in_itself same_key key_itself shown)
