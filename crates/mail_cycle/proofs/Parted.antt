-- Items of which the first were performed one after the other, and those behind them in some way.
use Rattle.std.proofs.Common.{◌≡◌, ◌∙◌, ℕ, zero, suc, ◌+◌, ◌-◌, ◌≤◌, arith, refl, sym, ap, ap₂, subst, List, [], ◌∷◌, ◌++◌, length, map, take, drop, Result, Ok, Err, IfOk}
use Rattle.std.specs.List.{AllByRecursion}
use Rattle.std.proofs.lemmas.List.{append_assoc, drop-drop, drop-take, length-append, length-take-le, take-append-drop, take-take, take_at}
use Rattle.verb_core.specs.declared.item.Item.{Item}
use Rattle.verb_core.specs.declared.item.Resolved.{Resolved}
use Rattle.verb_core.specs.declared.item.Shown.{Shown}
use Rattle.verb_core.specs.Step.{answers, run, step}
use Rattle.verb_core.specs.Store.{MailStore}
use Rattle.verb_core.proofs.Joins.{answers_behind, run_joined}
use Rattle.stored_items.specs.Stored.{AllHeard}
use Rattle.stored_items.proofs.Heard.{all_heard_themselves, heard_joined, length_alike}
use Rattle.replay_crew.specs.Orders.{turns}
use Rattle.replay_crew.specs.Resolving.{stored_turn, turn_of}

-- ---- behind the first so many

-- the first so many of a list, with others behind them
pub first_of : {X : Type 0} (n : ℕ) (t xs : List X) → n ≤ length t → take n (take n t ++ xs) ≡ take n t
first_of n t xs le = take_at (take n t) xs n (length-take-le n t le)

pub behind_of : {X : Type 0} (n : ℕ) (t xs : List X) → n ≤ length t → drop n (take n t ++ xs) ≡ xs
behind_of zero t xs le = refl
behind_of (suc n) [] xs le = absurd (omega arith)
behind_of (suc n) (y ∷ t) xs le = behind_of n t xs (omega arith)

-- of those behind the first ones, those through a place and those behind it
pub through_of : {X : Type 0} (n place : ℕ) (t xs : List X) → n ≤ place → take n xs ≡ take n t → take n t ++ take (place - n) (drop n xs) ≡ take place xs
through_of {X} n place t xs few same =
    let all : n + (place - n) ≡ place = omega arith in
    ap₂ (λ (a b : List X). a ++ b) (sym same ∙ sym (take-take n (n + (place - n)) xs (omega arith))) (sym (drop-take n (place - n) xs))
    ∙ take-append-drop n (take (n + (place - n)) xs)
    ∙ ap (λ (k : ℕ). take k xs) all

pub later_of : {X : Type 0} (n place : ℕ) (xs : List X) → n ≤ place → drop (place - n) (drop n xs) ≡ drop place xs
later_of n place xs few = let all : n + (place - n) ≡ place = omega arith in drop-drop (place - n) n xs ∙ ap (λ (k : ℕ). drop k xs) all

pub at_heard : (n place : ℕ) (before items rest xs : List Item) → n ≤ place → take n items ≡ take n before → rest ≡ drop n items → AllHeard (take (place - n) rest) xs → AllHeard (take place items) (take n before ++ xs)
at_heard n place before items rest xs few same are is =
    subst (λ (t : List Item). AllHeard t (take n before ++ xs)) (through_of n place before items few same)
    (heard_joined (take n before) (take n before) (take (place - n) (drop n items)) xs (all_heard_themselves (take n before)) (subst (λ (t : List Item). AllHeard (take (place - n) t) xs) are is))

pub at_same : (n place : ℕ) (before items rest xs : List Item) → n ≤ place → take n items ≡ take n before → rest ≡ drop n items → xs ≡ take (place - n) rest → take n before ++ xs ≡ take place items
at_same n place before items rest xs few same are is =
    ap (λ (t : List Item). take n before ++ t) (is ∙ ap (take (place - n)) are) ∙ through_of n place before items few same

-- behind the first items, which are as they were: those through a place, from a beginning, and those behind it from there
module _ (first mid after : MailStore) (count place : ℕ) (before items front next : List Item) (shows : List Shown) (few : count ≤ place) (long : place ≤ length before) (le : place ≤ length items)
    (are : AllHeard (take place items) (take count before ++ front)) (to : mid ≡ run first front) (on : after ≡ run mid next) (told : shows ≡ answers mid next) where
  pub many : length front ≡ place - count
  many =
      let both = length_alike (take place items) (take count before ++ front) are ∙ length-take-le place items le in
      omega (arith, both, length-append (take count before) front, length-take-le count before (omega arith))

  pub led : after ≡ run first (front ++ next)
  led = on ∙ ap (λ (s : MailStore). run s next) to ∙ sym (run_joined first front next)

  pub shown : shows ≡ drop (place - count) (answers first (front ++ next))
  shown =
      told ∙ ap (λ (s : MailStore). answers s next) to ∙ sym (answers_behind first front next)
      ∙ ap (λ (n : ℕ). drop n (answers first (front ++ next))) many

  pub begins : take count (take count before ++ (front ++ next)) ≡ take count before
  begins = first_of count before (front ++ next) (omega arith)

  pub heard : AllHeard (drop place items) next → AllHeard items (take count before ++ (front ++ next))
  heard others =
      subst (AllHeard items) (append_assoc (take count before) front next)
      (subst (λ (t : List Item). AllHeard t (take count before ++ front ++ next)) (take-append-drop place items) (heard_joined (take place items) (take count before ++ front) (drop place items) next are others))

  pub alike : take count before ++ front ≡ take place items → next ≡ drop place items → take count before ++ (front ++ next) ≡ items
  alike one other = sym (append_assoc (take count before) front next) ∙ ap₂ (λ (a b : List Item). a ++ b) one other ∙ take-append-drop place items

-- ---- items that were resolved

-- they are as many
pub as_many : (s : MailStore) (items : List Item) (all : List Resolved) → map turn_of all ≡ map stored_turn (turns s items) → length all ≡ length items
as_many s [] [] are = refl
as_many s [] (r ∷ all) are = cc
as_many s (i ∷ items) [] are = cc
as_many s (i ∷ items) (r ∷ all) are = ap suc (as_many (step s i).0 items all (ap (drop 1) are))

-- ---- results

pub if_ok : {T E : Type 0} (r : Result T E) (P Q : T → Type 0) → ((x : T) → P x → Q x) → IfOk r P → IfOk r Q
if_ok (Ok x) P Q so is = so x is
if_ok (Err e) P Q so is = tt

pub if_both : {T E : Type 0} (r : Result T E) (P Q S : T → Type 0) → ((x : T) → P x → Q x → S x) → IfOk r P → IfOk r Q → IfOk r S
if_both (Ok x) P Q S so one other = so x one other
if_both (Err e) P Q S so one other = tt

pub all_dropped : (P : Item → Type 0) (n : ℕ) (items : List Item) → AllByRecursion P items → AllByRecursion P (drop n items)
all_dropped P zero items all = all
all_dropped P (suc n) [] all = tt
all_dropped P (suc n) (i ∷ items) all = all_dropped P n items all.1
