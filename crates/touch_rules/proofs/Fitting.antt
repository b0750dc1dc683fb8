-- Pairs of touches, and tests of all pairs of two lists.
use Rattle.std.proofs.Common.{◌≡◌, ℕ, Bool, true, false, not, ◌&&◌, ◌||◌, List, [], ◌∷◌, Option, Some, None, bytes_eq, refl, sym, ap, ap₂, ◌∙◌, true≢false}
use Rattle.std.specs.List.{list_all}
use Rattle.std.specs.Cmp.{first_so, second_so}
use Rattle.touch_rules.specs.declared.touched.Touch.{Touch}
use Rattle.touch_rules.specs.declared.touched.Touch.TheVariants.{Keys, Tail, Whole, Names, Every}
use Rattle.touch_rules.specs.Commuting.{user_of, is_every, mailbox_of, same_mailbox, share_place, does_write, both_read, different, are_independent, commute}
use Rattle.touch_rules.proofs.Edits.{flip_eqb, common_flip}

-- whether two touches let their items come in either order
abbrev pub fits : Touch → Touch → Bool
fits a b = not (share_place a b) || both_read a b || different a b

-- whether two touches let their items be independent
abbrev pub is_free : Touch → Touch → Bool
is_free a b = not (share_place a b) || both_read a b

flip_or : (a b : Bool) → (a || b) ≡ (b || a)
flip_or true true = refl
flip_or true false = refl
flip_or false true = refl
flip_or false false = refl

flip_bytes : (a b : List ℕ) → bytes_eq a b ≡ bytes_eq b a
flip_bytes [] [] = refl
flip_bytes [] (y ∷ b) = refl
flip_bytes (x ∷ a) [] = refl
flip_bytes (x ∷ a) (y ∷ b) = ap₂ (λ p q. p && q) (flip_eqb x y) (flip_bytes a b)

flip_mailbox : (a b : Option (List ℕ)) → same_mailbox a b ≡ same_mailbox b a
flip_mailbox None None = refl
flip_mailbox None (Some b) = refl
flip_mailbox (Some a) None = refl
flip_mailbox (Some a) (Some b) = flip_bytes a b

flip_every : (a b c d : Bool) → c ≡ d → (a || b || c) ≡ (b || a || d)
flip_every true true c d is = refl
flip_every true false c d is = refl
flip_every false true c d is = refl
flip_every false false c d is = is

flip_place : (a b : Touch) → share_place a b ≡ share_place b a
flip_place a b = ap₂ (λ p q. p && q) (flip_eqb (user_of a).0 (user_of b).0) (flip_every (is_every a) (is_every b) _ _ (flip_mailbox (mailbox_of a) (mailbox_of b)))

flip_read : (a b : Touch) → both_read a b ≡ both_read b a
flip_read a b = ap not (flip_or (does_write a) (does_write b))

flip_different : (a b : Touch) → different a b ≡ different b a
flip_different (Keys u m ks w) (Keys v n ls x) = ap not (common_flip ks ls)
flip_different (Keys u m ks w) (Tail v n i) = refl
flip_different (Keys u m ks w) (Whole v n x) = refl
flip_different (Keys u m ks w) (Names v x) = refl
flip_different (Tail u m i) (Keys v n ks w) = refl
flip_different (Tail u m i) (Tail v n j) = refl
flip_different (Tail u m i) (Whole v n x) = refl
flip_different (Tail u m i) (Names v x) = refl
flip_different (Whole u m w) (Keys v n ks x) = refl
flip_different (Whole u m w) (Tail v n j) = refl
flip_different (Whole u m w) (Whole v n x) = refl
flip_different (Whole u m w) (Names v x) = refl
flip_different (Names u w) (Keys v n ks x) = refl
flip_different (Names u w) (Tail v n j) = refl
flip_different (Names u w) (Whole v n x) = refl
flip_different (Names u w) (Names v x) = refl
flip_different (Keys u m ks w) (Every v) = refl
flip_different (Tail u m i) (Every v) = refl
flip_different (Whole u m w) (Every v) = refl
flip_different (Names u w) (Every v) = refl
flip_different (Every u) (Keys v n ks x) = refl
flip_different (Every u) (Tail v n j) = refl
flip_different (Every u) (Whole v n x) = refl
flip_different (Every u) (Names v x) = refl
flip_different (Every u) (Every v) = refl

fits_flip : (a b : Touch) → fits a b ≡ fits b a
fits_flip a b = ap₂ (λ p q. p || q) (ap₂ (λ p q. not p || q) (flip_place a b) (flip_read a b)) (flip_different a b)

is_free_flip : (a b : Touch) → is_free a b ≡ is_free b a
is_free_flip a b = ap₂ (λ p q. not p || q) (flip_place a b) (flip_read a b)

-- ---- all pairs, by the one list or by the other

module _ {A B : Type 0} (test : A → B → Bool) where
  all_none : (xs : List A) → list_all (λ a. list_all (test a) []) xs ≡ true
  all_none [] = refl
  all_none (x ∷ xs) = all_none xs

  all_more : (b : B) (ys : List B) (xs : List A) → list_all (λ a. list_all (test a) (b ∷ ys)) xs ≡ (list_all (λ a. test a b) xs && list_all (λ a. list_all (test a) ys) xs)
  all_more b ys [] = refl
  all_more b ys (x ∷ xs) = ap (λ c. (test x b && list_all (test x) ys) && c) (all_more b ys xs) ∙ shuffled (test x b) (list_all (test x) ys) (list_all (λ a. test a b) xs) (list_all (λ a. list_all (test a) ys) xs)
    where
      shuffled : (a b c d : Bool) → ((a && b) && (c && d)) ≡ ((a && c) && (b && d))
      shuffled true true c d = refl
      shuffled true false true d = refl
      shuffled true false false d = refl
      shuffled false b c d = refl

  pub turned_round : (xs : List A) (ys : List B) → list_all (λ a. list_all (test a) ys) xs ≡ list_all (λ b. list_all (λ a. test a b) xs) ys
  turned_round xs [] = all_none xs
  turned_round xs (y ∷ ys) = all_more y ys xs ∙ ap (λ c. list_all (λ a. test a y) xs && c) (turned_round xs ys)

all_same : {A : Type 0} (p q : A → Bool) → ((x : A) → p x ≡ q x) → (xs : List A) → list_all p xs ≡ list_all q xs
all_same p q is [] = refl
all_same p q is (x ∷ xs) = ap₂ (λ a b. a && b) (is x) (all_same p q is xs)

pub commute_flip : (xs ys : List Touch) → commute xs ys ≡ commute ys xs
commute_flip xs ys = turned_round fits xs ys ∙ all_same (λ b. list_all (λ a. fits a b) xs) (λ b. list_all (fits b) xs) (λ b. all_same (λ a. fits a b) (fits b) (λ a. fits_flip a b) xs) ys

pub independent_flip : (xs ys : List Touch) → are_independent xs ys ≡ are_independent ys xs
independent_flip xs ys = turned_round is_free xs ys ∙ all_same (λ b. list_all (λ a. is_free a b) xs) (λ b. list_all (is_free b) xs) (λ b. all_same (λ a. is_free a b) (is_free b) (λ a. is_free_flip a b) xs) ys

-- independent items commute
or_more : (a b : Bool) → a ≡ true → (a || b) ≡ true
or_more true b h = refl
or_more false b h = absurd (true≢false (sym h))

pub all_weaker : {A : Type 0} (p q : A → Bool) → ((x : A) → p x ≡ true → q x ≡ true) → (xs : List A) → list_all p xs ≡ true → list_all q xs ≡ true
all_weaker p q so [] h = refl
all_weaker p q so (x ∷ xs) h = both_so (q x) (list_all q xs) (so x (first_so _ _ h)) (all_weaker p q so xs (second_so _ _ h))
  where
    both_so : (a b : Bool) → a ≡ true → b ≡ true → (a && b) ≡ true
    both_so true b h k = k
    both_so false b h k = h

pub independent_commute : (xs ys : List Touch) → are_independent xs ys ≡ true → commute xs ys ≡ true
independent_commute xs ys h = all_weaker (λ a. list_all (is_free a) ys) (λ a. list_all (fits a) ys) (λ a. all_weaker (is_free a) (fits a) (λ b. or_more (is_free a b) (different a b)) ys) xs h
