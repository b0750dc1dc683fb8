-- Parts and pairs of touches: the parts of one that another asks for tell whether both speak of the same messages.
use Rattle.std.proofs.Common.{◌≡◌, ℕ, Bool, true, false, not, ◌&&◌, ◌||◌, ◌==◌, cond, List, [], ◌∷◌, Option, Some, None, refl, sym, ap, ap₂, ◌∙◌, bytes_eq, eqb-true, eq-eqb, true≢false}
use Rattle.std.specs.List.{list_all, list_any}
use Rattle.std.specs.Cmp.{first_so, second_so}
use Rattle.undo_base.specs.declared.keys.Key.{Key}
use Rattle.verb_core.specs.Mailboxes.{same_key, is_among}
use Rattle.verb_core.specs.Boxes.{same_user}
use Rattle.touch_rules.specs.declared.touched.Touch.{Touch}
use Rattle.touch_rules.specs.declared.touched.Touch.TheVariants.{Keys, Tail, Whole as WholeBox, Names, Every}
use Rattle.touch_rules.specs.Commuting.{user_of, is_every, mailbox_of, same_mailbox, share_place, does_write, both_read, different, have_common, has_number, are_independent, commute}
use Rattle.replay_plan.specs.declared.slots.Part.{Part}
use Rattle.replay_plan.specs.declared.slots.Part.TheVariants.{Anywhere, Everywhere, Anything, Whole, Tails, TailOf, KeysOf, At, Level}
use Rattle.replay_plan.specs.Slots.{is_users, mailbox_at, spot_on, same_part, same_way, same_spot, key_parts, key_asked, parts_of, own_asked, users_asked, asked_by, is_at, asked_on}
use Rattle.replay_plan.proofs.Tables.{one_name, one_part, way_itself, name_itself}

-- ---- all and any

module _ {X : Type 0} where
  pub all_ext : (f g : X → Bool) → ((x : X) → f x ≡ g x) → (xs : List X) → list_all f xs ≡ list_all g xs
  all_ext f g h [] = refl
  all_ext f g h (x ∷ xs) = ap₂ (λ a b. a && b) (h x) (all_ext f g h xs)

  pub any_ext : (f g : X → Bool) → ((x : X) → f x ≡ g x) → (xs : List X) → list_any f xs ≡ list_any g xs
  any_ext f g h [] = refl
  any_ext f g h (x ∷ xs) = ap₂ (λ a b. a || b) (h x) (any_ext f g h xs)

  pub all_and : (f g : X → Bool) → (xs : List X) → list_all (λ x. f x && g x) xs ≡ (list_all f xs && list_all g xs)
  all_and f g [] = refl
  all_and f g (x ∷ xs) = ap (λ r. (f x && g x) && r) (all_and f g xs) ∙ four (f x) (g x) (list_all f xs) (list_all g xs)
    where
      four : (a b c d : Bool) → ((a && b) && (c && d)) ≡ ((a && c) && (b && d))
      four true true c d = refl
      four true false true d = refl
      four true false false d = refl
      four false b c d = refl

  pub all_or : (f : X → Bool) (b : Bool) → (xs : List X) → list_all (λ x. f x || b) xs ≡ (list_all f xs || b)
  all_or f b [] = refl
  all_or f b (x ∷ xs) = ap (λ r. (f x || b) && r) (all_or f b xs) ∙ apart (f x) (list_all f xs) b
    where
      apart : (a c d : Bool) → ((a || d) && (c || d)) ≡ ((a && c) || d)
      apart true c d = refl
      apart false true true = refl
      apart false false true = refl
      apart false true false = refl
      apart false false false = refl

  -- tests that are one where a third holds
  pub all_where : (w f g : X → Bool) → ((x : X) → w x ≡ true → f x ≡ g x) → (xs : List X) → list_all w xs ≡ true → list_all f xs ≡ list_all g xs
  all_where w f g h [] all = refl
  all_where w f g h (x ∷ xs) all = ap₂ (λ a b. a && b) (h x (first_so _ _ all)) (all_where w f g h xs (second_so _ _ all))

  pub not_any : (f : X → Bool) → (xs : List X) → not (list_any f xs) ≡ list_all (λ x. not (f x)) xs
  not_any f [] = refl
  not_any f (x ∷ xs) = neither (f x) (list_any f xs) ∙ ap (λ r. not (f x) && r) (not_any f xs)
    where
      neither : (a b : Bool) → not (a || b) ≡ (not a && not b)
      neither true b = refl
      neither false b = refl

  pub all_true : (xs : List X) → list_all (λ (_ : X). true) xs ≡ true
  all_true [] = refl
  all_true (x ∷ xs) = all_true xs

pub all_swap : {X Y : Type 0} (f : X → Y → Bool) (xs : List X) (ys : List Y) → list_all (λ x. list_all (f x) ys) xs ≡ list_all (λ y. list_all (λ x. f x y) xs) ys
all_swap f [] ys = sym (all_true ys)
all_swap f (x ∷ xs) ys = ap (λ r. list_all (f x) ys && r) (all_swap f xs ys) ∙ sym (all_and (f x) (λ y. list_all (λ x. f x y) xs) ys)

-- ---- tests either way round

flipped : (a b : Bool) → (a || b) ≡ (b || a)
flipped true true = refl
flipped true false = refl
flipped false true = refl
flipped false false = refl

pub either_number : (a b : ℕ) → (a == b) ≡ (b == a)
either_number a b = elim (a == b) as (λ t. (a == b) ≡ t → t ≡ (b == a)) [
  | true ↦ λ is. sym (eq-eqb b a (sym (eqb-true a b is)))
  | false ↦ λ isnt. elim (b == a) as (λ t. (b == a) ≡ t → false ≡ t) [ true ↦ λ is. absurd (true≢false (sym (eq-eqb a b (sym (eqb-true b a is))) ∙ isnt)) | false ↦ λ _. refl ] refl
] refl

either_key : (a b : Key) → same_key a b ≡ same_key b a
either_key a b = ap₂ (λ x y. x && y) (either_number a.item b.item) (either_number a.index b.index)

either_name : (a b : List ℕ) → bytes_eq a b ≡ bytes_eq b a
either_name a b = elim (bytes_eq a b) as (λ t. bytes_eq a b ≡ t → t ≡ bytes_eq b a) [
  | true ↦ λ is. sym (name_itself b a (sym (one_name a b is)))
  | false ↦ λ isnt. elim (bytes_eq b a) as (λ t. bytes_eq b a ≡ t → false ≡ t) [ true ↦ λ is. absurd (true≢false (sym (name_itself a b (sym (one_name b a is))) ∙ isnt)) | false ↦ λ _. refl ] refl
] refl

either_mailbox : (a b : Option (List ℕ)) → same_mailbox a b ≡ same_mailbox b a
either_mailbox (Some a) (Some b) = either_name a b
either_mailbox (Some a) None = refl
either_mailbox None (Some b) = refl
either_mailbox None None = refl

-- ---- parts

among_parts_everywhere : (ks : List Key) → list_any (same_part Everywhere) (key_parts ks) ≡ false
among_parts_everywhere [] = refl
among_parts_everywhere (k ∷ ks) = among_parts_everywhere ks

among_parts_whole : (ks : List Key) → list_any (same_part Whole) (key_parts ks) ≡ false
among_parts_whole [] = refl
among_parts_whole (k ∷ ks) = among_parts_whole ks

among_parts_tails : (ks : List Key) → list_any (same_part Tails) (key_parts ks) ≡ false
among_parts_tails [] = refl
among_parts_tails (k ∷ ks) = among_parts_tails ks

among_parts_tail : (n : ℕ) (ks : List Key) → list_any (same_part (TailOf n)) (key_parts ks) ≡ false
among_parts_tail n [] = refl
among_parts_tail n (k ∷ ks) = among_parts_tail n ks

among_parts_at : (o : Key) (ks : List Key) → list_any (same_part (At o.item o.index)) (key_parts ks) ≡ is_among ks o
among_parts_at o [] = refl
among_parts_at o (k ∷ ks) = ap (λ b. same_key o k || b) (among_parts_at o ks)

among_parts_keys : (n : ℕ) (ks : List Key) → list_any (same_part (KeysOf n)) (key_parts ks) ≡ has_number n ks
among_parts_keys n [] = refl
among_parts_keys n (k ∷ ks) = ap₂ (λ a b. a || b) (either_number n k.item) (among_parts_keys n ks)

any_swapped : (ks os : List Key) → list_all (λ o. not (is_among ks o)) os ≡ not (have_common ks os)
any_swapped ks os =
    all_ext (λ o. not (is_among ks o)) (λ o. list_all (λ k. not (same_key o k)) ks) (λ o. not_any (same_key o) ks) os
    ∙ all_swap (λ o k. not (same_key o k)) os ks
    ∙ all_ext (λ k. list_all (λ o. not (same_key o k)) os) (λ k. not (is_among os k))
    (λ k. all_ext (λ o. not (same_key o k)) (λ o. not (same_key k o)) (λ o. ap not (either_key o k)) os ∙ sym (not_any (same_key k) os)) ks
    ∙ sym (not_any (is_among os) ks)

keys_keys : (ks os : List Key) → list_all (λ p. not (list_any (same_part p) (parts_of (Keys (record { 0 = 0 }) [] ks true)))) (key_asked os) ≡ list_all (λ o. not (is_among ks o)) os
keys_keys ks [] = refl
keys_keys ks (o ∷ os) = ap₂ (λ a b. not a && b) (among_parts_tail o.item ks) (ap₂ (λ a b. not a && b) (among_parts_at o ks) (keys_keys ks os))

tail_keys : (n : ℕ) (os : List Key) → list_all (λ p. not (list_any (same_part p) (Anywhere ∷ Anything ∷ Tails ∷ TailOf n ∷ []))) (key_asked os) ≡ not (has_number n os)
tail_keys n [] = refl
tail_keys n (o ∷ os) = ap (λ r. not ((o.item == n) || false) && (true && r)) (tail_keys n os) ∙ neither (o.item == n) (has_number n os)
  where
    neither : (a b : Bool) → (not (a || false) && (true && not b)) ≡ not (a || b)
    neither true b = refl
    neither false b = refl

none_of_all : (os : List Key) → list_all (λ p. not (list_any (same_part p) (Anywhere ∷ Everywhere ∷ []))) (key_asked os) ≡ true
none_of_all [] = refl
none_of_all (o ∷ os) = none_of_all os

-- two touches of which none is of all of its user speak of different messages where no part of its place is asked for that the other is of
parts_differ : (a b : Touch) → list_all (λ p. not (list_any (same_part p) (parts_of a))) (own_asked b) ≡ (is_every a || is_every b || different a b)
parts_differ (Keys u m ks w) (Keys v n os c) = ap₂ (λ x y. not x && y) (among_parts_whole ks) (keys_keys ks os ∙ any_swapped ks os)
parts_differ (Keys u m ks w) (Tail v n number) =
    ap₂ (λ x y. not x && y) (among_parts_whole ks) (ap₂ (λ x y. not x && y) (among_parts_tails ks) (ap (λ x. not x && true) (among_parts_keys number ks) ∙ and_true (not (has_number number ks))))
  where
    and_true : (b : Bool) → (b && true) ≡ b
    and_true true = refl
    and_true false = refl
parts_differ (Keys u m ks w) (WholeBox v n c) = refl
parts_differ (Keys u m ks w) (Names v c) = refl
parts_differ (Tail u m number) (Keys v n os c) = tail_keys number os
parts_differ (Tail u m number) (Tail v n other) = refl
parts_differ (Tail u m number) (WholeBox v n c) = refl
parts_differ (Tail u m number) (Names v c) = refl
parts_differ (WholeBox u m w) (Keys v n os c) = refl
parts_differ (WholeBox u m w) (Tail v n number) = refl
parts_differ (WholeBox u m w) (WholeBox v n c) = refl
parts_differ (WholeBox u m w) (Names v c) = refl
parts_differ (Names u w) (Keys v n os c) = refl
parts_differ (Names u w) (Tail v n number) = refl
parts_differ (Names u w) (WholeBox v n c) = refl
parts_differ (Names u w) (Names v c) = refl
parts_differ (Keys u m ks w) (Every v) = refl
parts_differ (Tail u m number) (Every v) = refl
parts_differ (WholeBox u m w) (Every v) = refl
parts_differ (Names u w) (Every v) = refl
parts_differ (Every u) (Keys v n os c) = none_of_all os
parts_differ (Every u) (Tail v n number) = refl
parts_differ (Every u) (WholeBox v n c) = refl
parts_differ (Every u) (Names v c) = refl
parts_differ (Every u) (Every v) = refl

is_anywhere : (a : Touch) → list_any (same_part Anywhere) (parts_of a) ≡ true
is_anywhere (Keys u m ks w) = refl
is_anywhere (Tail u m number) = refl
is_anywhere (WholeBox u m w) = refl
is_anywhere (Names u w) = refl
is_anywhere (Every u) = refl

is_everywhere : (a : Touch) → list_any (same_part Everywhere) (parts_of a) ≡ is_every a
is_everywhere (Keys u m ks w) = among_parts_everywhere ks
is_everywhere (Tail u m number) = refl
is_everywhere (WholeBox u m w) = refl
is_everywhere (Names u w) = refl
is_everywhere (Every u) = refl

-- a touch asks for what is of all of its user; and one that is of all of it asks for anything
users_meet : (a b : Touch) → list_any (same_part (users_asked b)) (parts_of a) ≡ (is_every a || is_every b)
users_meet a (Keys v n os c) = is_everywhere a ∙ flipped false (is_every a)
users_meet a (Tail v n number) = is_everywhere a ∙ flipped false (is_every a)
users_meet a (WholeBox v n c) = is_everywhere a ∙ flipped false (is_every a)
users_meet a (Names v c) = is_everywhere a ∙ flipped false (is_every a)
users_meet a (Every v) = is_anywhere a ∙ flipped true (is_every a)

every_same : (a b : Touch) → (is_every a || is_every b) ≡ true → different a b ≡ false
every_same (Keys u m ks w) (Every v) h = refl
every_same (Tail u m number) (Every v) h = refl
every_same (WholeBox u m w) b h = refl
every_same (Names u w) b h = refl
every_same (Every u) b h = refl
every_same _ _ h = absurd (true≢false (sym h))

asks_users : (b : Touch) → is_users (users_asked b) ≡ true
asks_users (Keys v n os c) = refl
asks_users (Tail v n number) = refl
asks_users (WholeBox v n c) = refl
asks_users (Names v c) = refl
asks_users (Every v) = refl

asks_own : (b : Touch) → list_all (λ p. not (is_users p)) (own_asked b) ≡ true
asks_own (Keys v n os c) = keys_own os
  where
    keys_own : (os : List Key) → list_all (λ p. not (is_users p)) (key_asked os) ≡ true
    keys_own [] = refl
    keys_own (o ∷ os) = keys_own os
asks_own (Tail v n number) = refl
asks_own (WholeBox v n c) = refl
asks_own (Names v c) = refl
asks_own (Every v) = refl

-- ---- spots

-- whether a part is at one place for two touches
abbrev meet : Part → Touch → Touch → Bool
meet p a b = same_user (user_of a) (user_of b) && (is_users p || same_mailbox (mailbox_of a) (mailbox_of b))

-- two touches have one spot where it is at one place, and the parts are one
one_place : (a b : Touch) (w : Bool) (p q : Part) → same_spot (spot_on b w p) (spot_on a w q) ≡ (meet p a b && same_part p q)
one_place a b w p q = elim (same_part p q) as (λ t. same_part p q ≡ t → (same_user (user_of b) (user_of a) && (same_mailbox (mailbox_at b p) (mailbox_at a q) && (same_way w w && t))) ≡ (meet p a b && t)) [
  | true ↦ λ is.
      ap₂ (λ x y. x && (y && (same_way w w && true))) (either_number (user_of b).0 (user_of a).0) (ap (λ r. same_mailbox (mailbox_at b p) (mailbox_at a r)) (sym (one_part p q is)) ∙ at_one (is_users p))
      ∙ ap (λ x. same_user (user_of a) (user_of b) && ((is_users p || same_mailbox (mailbox_of a) (mailbox_of b)) && (x && true))) (way_itself w)
      ∙ three (same_user (user_of a) (user_of b)) (is_users p || same_mailbox (mailbox_of a) (mailbox_of b)) true
  | false ↦ λ _.
      ap (λ x. same_user (user_of b) (user_of a) && (same_mailbox (mailbox_at b p) (mailbox_at a q) && (x && false))) (way_itself w)
      ∙ nothing (same_user (user_of b) (user_of a)) (same_mailbox (mailbox_at b p) (mailbox_at a q)) (meet p a b)
] refl
  where
    three : (x y z : Bool) → (x && (y && (true && z))) ≡ ((x && y) && z)
    three true y z = refl
    three false y z = refl

    nothing : (x y z : Bool) → (x && (y && (true && false))) ≡ (z && false)
    nothing true true z = never z
      where
        never : (z : Bool) → false ≡ (z && false)
        never true = refl
        never false = refl
    nothing true false z = never z
      where
        never : (z : Bool) → false ≡ (z && false)
        never true = refl
        never false = refl
    nothing false y z = never z
      where
        never : (z : Bool) → false ≡ (z && false)
        never true = refl
        never false = refl

    at_one : (t : Bool) → same_mailbox (cond t None (mailbox_of b)) (cond t None (mailbox_of a)) ≡ (t || same_mailbox (mailbox_of a) (mailbox_of b))
    at_one true = refl
    at_one false = either_mailbox (mailbox_of b) (mailbox_of a)

not_at : (a b : Touch) (parts : List Part) (p : Part) → not (is_at parts a (asked_on b p)) ≡ ((not (meet p a b) || both_read a b) || not (list_any (same_part p) parts))
not_at a b parts p =
    ap₂ (λ x y. not ((x || does_write a) && y)) (twice (does_write b)) (any_ext (λ q. same_spot (asked_on b p) (spot_on a (not (does_write b)) q)) (λ q. meet p a b && same_part p q) (λ q. one_place a b (not (does_write b)) p q) parts ∙ out (meet p a b) parts)
    ∙ cases (does_write a) (does_write b) (meet p a b) (list_any (same_part p) parts)
  where
    twice : (x : Bool) → not (not x) ≡ x
    twice true = refl
    twice false = refl

    out : (s : Bool) (qs : List Part) → list_any (λ q. s && same_part p q) qs ≡ (s && list_any (same_part p) qs)
    out true qs = refl
    out false [] = refl
    out false (q ∷ qs) = out false qs

    cases : (wa wb s l : Bool) → not ((wb || wa) && (s && l)) ≡ ((not s || not (wa || wb)) || not l)
    cases true true true l = refl
    cases true true false l = refl
    cases true false true l = refl
    cases true false false l = refl
    cases false true true l = refl
    cases false true false l = refl
    cases false false true l = refl
    cases false false false l = refl

-- whether both are at one place of their own
abbrev own_place : Touch → Touch → Bool
own_place a b = same_user (user_of a) (user_of b) && same_mailbox (mailbox_of a) (mailbox_of b)

at_own : (p : Part) (a b : Touch) → not (is_users p) ≡ true → meet p a b ≡ own_place a b
at_own p a b own = ap (λ t. same_user (user_of a) (user_of b) && (t || same_mailbox (mailbox_of a) (mailbox_of b))) (negated (is_users p) own)
  where
    negated : (t : Bool) → not t ≡ true → t ≡ false
    negated true h = sym h
    negated false h = refl

-- what is asked for at its place
own_is : (a b : Touch) → list_all (λ p. not (is_at (parts_of a) a (asked_on b p))) (own_asked b) ≡ ((not (own_place a b) || both_read a b) || (is_every a || is_every b || different a b))
own_is a b =
    all_where (λ p. not (is_users p)) (λ p. not (is_at (parts_of a) a (asked_on b p))) (λ p. not (list_any (same_part p) (parts_of a)) || (not (own_place a b) || both_read a b))
    (λ p own. not_at a b (parts_of a) p ∙ ap (λ t. (not t || both_read a b) || not (list_any (same_part p) (parts_of a))) (at_own p a b own) ∙ flipped (not (own_place a b) || both_read a b) (not (list_any (same_part p) (parts_of a)))) (own_asked b) (asks_own b)
    ∙ all_or (λ p. not (list_any (same_part p) (parts_of a))) (not (own_place a b) || both_read a b) (own_asked b)
    ∙ flipped (list_all (λ p. not (list_any (same_part p) (parts_of a))) (own_asked b)) (not (own_place a b) || both_read a b)
    ∙ ap (λ r. (not (own_place a b) || both_read a b) || r) (parts_differ a b)

-- what is asked for at its user
users_is : (a b : Touch) → not (is_at (parts_of a) a (asked_on b (users_asked b))) ≡ (not (same_user (user_of a) (user_of b) && (is_every a || is_every b)) || both_read a b)
users_is a b =
    not_at a b (parts_of a) (users_asked b)
    ∙ ap₂ (λ t u. (not (same_user (user_of a) (user_of b) && (t || same_mailbox (mailbox_of a) (mailbox_of b))) || both_read a b) || not u) (asks_users b) (users_meet a b)
    ∙ joined (same_user (user_of a) (user_of b)) (is_every a || is_every b) (both_read a b)
  where
    joined : (s e r : Bool) → ((not (s && true) || r) || not e) ≡ (not (s && e) || r)
    joined true true true = refl
    joined true true false = refl
    joined true false true = refl
    joined true false false = refl
    joined false e r = refl

-- a pair of touches, by their parts
pair_is : (a b : Touch) → list_all (λ p. not (is_at (parts_of a) a (asked_on b p))) (asked_by b) ≡ (not (share_place a b) || both_read a b || different a b)
pair_is a b =
    ap₂ (λ x y. x && y) (users_is a b) (own_is a b)
    ∙ joined (same_user (user_of a) (user_of b)) (is_every a || is_every b) (same_mailbox (mailbox_of a) (mailbox_of b)) (both_read a b) (different a b) (every_same a b)
  where
    joined : (s e m r d : Bool) → (e ≡ true → d ≡ false) → ((not (s && e) || r) && ((not (s && m) || r) || (e || d))) ≡ (not (s && (e || m)) || r || d)
    joined false e m r d h = refl
    joined true true m true d h = flipped (not m || true) true
    joined true true m false d h = sym (h refl)
    joined true false m r d h = refl

-- items commute where none of the spots that one asks for is marked by the other
pub commute_is : (xs ys : List Touch) → list_all (λ b. list_all (λ p. not (list_any (λ a. is_at (parts_of a) a (asked_on b p)) xs)) (asked_by b)) ys ≡ commute xs ys
commute_is xs ys =
    all_ext (λ b. list_all (λ p. not (list_any (λ a. is_at (parts_of a) a (asked_on b p)) xs)) (asked_by b)) (λ b. list_all (λ a. not (share_place a b) || both_read a b || different a b) xs)
    (λ b.
    all_ext (λ p. not (list_any (λ a. is_at (parts_of a) a (asked_on b p)) xs)) (λ p. list_all (λ a. not (is_at (parts_of a) a (asked_on b p))) xs)
    (λ p. not_any (λ a. is_at (parts_of a) a (asked_on b p)) xs) (asked_by b)
    ∙ all_swap (λ p a. not (is_at (parts_of a) a (asked_on b p))) (asked_by b) xs
    ∙ all_ext (λ a. list_all (λ p. not (is_at (parts_of a) a (asked_on b p))) (asked_by b)) (λ a. not (share_place a b) || both_read a b || different a b) (λ a. pair_is a b) xs)
    ys
    ∙ all_swap (λ b a. not (share_place a b) || both_read a b || different a b) ys xs

-- at places of their own both only read
abbrev pub are_apart : List Touch → List Touch → Bool
are_apart xs ys = list_all (λ a. list_all (λ b. not (own_place a b) || both_read a b) ys) xs

-- items that commute are independent where they are at places of their own
pub apart_same : (xs ys : List Touch) → commute xs ys ≡ true → are_apart xs ys ≡ are_independent xs ys
apart_same xs ys h =
    all_where (λ a. list_all (λ b. not (share_place a b) || both_read a b || different a b) ys) (λ a. list_all (λ b. not (own_place a b) || both_read a b) ys) (λ a. list_all (λ b. not (share_place a b) || both_read a b) ys)
    (λ a all. all_where (λ b. not (share_place a b) || both_read a b || different a b) (λ b. not (own_place a b) || both_read a b) (λ b. not (share_place a b) || both_read a b)
    (λ b fit. pair (same_user (user_of a) (user_of b)) (is_every a || is_every b) (same_mailbox (mailbox_of a) (mailbox_of b)) (both_read a b) (different a b) (every_same a b) fit) ys all) xs h
  where
    pair : (s e m r d : Bool) → (e ≡ true → d ≡ false) → (not (s && (e || m)) || r || d) ≡ true → (not (s && m) || r) ≡ (not (s && (e || m)) || r)
    pair false e m r d h fit = refl
    pair true false m r d h fit = refl
    pair true true m true d h fit = flipped (not m) true
    pair true true m false d h fit = absurd (true≢false (sym fit ∙ h refl))

-- items are apart, or have different levels
pub apart_is : (l level : ℕ) (xs ys : List Touch) → list_all (λ b. not (list_any (λ a. is_at (Level l ∷ []) a (asked_on b (Level level))) xs)) ys ≡ (are_apart xs ys || not (l == level))
apart_is l level xs ys =
    all_ext (λ b. not (list_any (λ a. is_at (Level l ∷ []) a (asked_on b (Level level))) xs)) (λ b. list_all (λ a. (not (own_place a b) || both_read a b) || not (l == level)) xs)
    (λ b. not_any (λ a. is_at (Level l ∷ []) a (asked_on b (Level level))) xs
    ∙ all_ext (λ a. not (is_at (Level l ∷ []) a (asked_on b (Level level)))) (λ a. (not (own_place a b) || both_read a b) || not (l == level))
    (λ a. not_at a b (Level l ∷ []) (Level level) ∙ ap (λ t. (not (own_place a b) || both_read a b) || not t) (alone (level == l) ∙ either_number level l)) xs)
    ys
    ∙ all_swap (λ b a. (not (own_place a b) || both_read a b) || not (l == level)) ys xs
    ∙ all_ext (λ a. list_all (λ b. (not (own_place a b) || both_read a b) || not (l == level)) ys) (λ a. list_all (λ b. not (own_place a b) || both_read a b) ys || not (l == level))
    (λ a. all_or (λ b. not (own_place a b) || both_read a b) (not (l == level)) ys) xs
    ∙ all_or (λ a. list_all (λ b. not (own_place a b) || both_read a b) ys) (not (l == level)) xs
  where
    alone : (b : Bool) → (b || false) ≡ b
    alone true = refl
    alone false = refl
