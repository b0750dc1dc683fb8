-- What holds of the parts of a cycle.
use Rattle.std.proofs.Common.{◌≡◌, ℕ, zero, suc, ◌+◌, ◌≤◌, Bool, cond, true, false, ◌&&◌, arith, nat_lt, refl, ◌∙◌, ap, ap₂, List, [], ◌∷◌, drop, length, filter, map, Some, is_some, take}
use Rattle.std.specs.List.{AllByRecursion, enumerate_from, list_all}
use Rattle.std.specs.Cmp.{first_so, second_so}
use Rattle.std.proofs.lemmas.Bool.{lt-ltb}
use Rattle.std.proofs.lemmas.List.{drop-drop}
use Rattle.undo_base.specs.declared.keys.User.{User}
use Rattle.verb_core.specs.declared.conf.Account.{Account}
use Rattle.verb_core.specs.declared.conf.House.{House}
use Rattle.verb_core.specs.declared.item.Act.{Act}
use Rattle.verb_core.specs.declared.item.Item.{Item}
use Rattle.verb_core.specs.declared.item.Shown.{Shown}
use Rattle.verb_core.specs.Items.{IsWellFormed}
use Rattle.verb_core.specs.Step.{answers, run, step}
use Rattle.verb_core.specs.Store.{MailStore, is_known, users_of}
use Rattle.verb_core.proofs.Validity.{all-filter, both}
use Rattle.paradox.specs.Answers.{broken}
use Rattle.paradox.specs.Letters.{is_told, notice_text, notices, users_told}
use Rattle.paradox.specs.declared.reports.BrokenItem.{BrokenItem}
use Rattle.paradox.specs.declared.words.Reason.TheVariants.{Withdrawn}
use Rattle.repair_desk.specs.Repairs.{inserted, is_among}
use Rattle.cycle_rules.specs.Cycles.{notice_items}
use Rattle.cycle_rules.specs.Judging.{judged, reason_by, shown_after, shown_by, with_told}

-- ---- runs

-- behind a place
pub run_behind : (place : ℕ) (base : MailStore) (t : List Item) → run (run base (take place t)) (drop place t) ≡ run base t
run_behind zero base t = refl
run_behind (suc place) base [] = refl
run_behind (suc place) base (i ∷ t) = run_behind place (step base i).0 t

pub answers_behind : (place : ℕ) (base : MailStore) (t : List Item) → answers (run base (take place t)) (drop place t) ≡ drop place (answers base t)
answers_behind zero base t = refl
answers_behind (suc place) base [] = refl
answers_behind (suc place) base (i ∷ t) = answers_behind place (step base i).0 t

-- what an item showed does not matter to the store
shows_apart : (s : MailStore) (i : Item) (now : List Shown) → (step s (shown_by i now)).0 ≡ (step s i).0
shows_apart s i [] = refl
shows_apart s i (x ∷ rest) = elim (is_some (broken i x)) as (λ b. (step s (cond b (record i { shown = x }) i)).0 ≡ (step s i).0) [ true ↦ refl | false ↦ refl ]

pub run_shown : (base : MailStore) (front : ℕ) (t : List Item) (now : List Shown) → run base (shown_after front t now) ≡ run base t
run_shown base front [] now = refl
run_shown base zero (i ∷ t) now = run_shown (step base (shown_by i now)).0 zero t (drop 1 now) ∙ ap (λ (s : MailStore). run s t) (shows_apart base i now)
run_shown base (suc front) (i ∷ t) now = run_shown (step base i).0 front t now

pub length_shown : (front : ℕ) (t : List Item) (now : List Shown) → length (shown_after front t now) ≡ length t
length_shown front [] now = refl
length_shown zero (i ∷ t) now = ap suc (length_shown zero t (drop 1 now))
length_shown (suc front) (i ∷ t) now = ap suc (length_shown front t now)

-- behind the first so many, of which none is compared
pub shown_behind : (count front n : ℕ) (t : List Item) (now : List Shown) → n + count ≡ front → drop count (shown_after front t now) ≡ shown_after n (drop count t) now
shown_behind zero front n t now e = let same : front ≡ n = omega arith in ap (λ (f : ℕ). shown_after f t now) same
shown_behind (suc count) zero n t now e = absurd (omega arith)
shown_behind (suc count) (suc front) n [] now e = refl
shown_behind (suc count) (suc front) n (i ∷ t) now e = shown_behind count front n t now (omega arith)

pub shown_front : (count front : ℕ) (t : List Item) (now : List Shown) → count ≤ front → take count (shown_after front t now) ≡ take count t
shown_front zero front t now le = refl
shown_front (suc count) zero t now le = absurd (omega arith)
shown_front (suc count) (suc front) [] now le = refl
shown_front (suc count) (suc front) (i ∷ t) now le = ap (λ (rest : List Item). i ∷ rest) (shown_front count front t now (omega arith))

-- ---- the answers that are compared

pub drop_more : {X : Type 0} (n place : ℕ) (xs : List X) → drop n (drop place xs) ≡ drop (place + n) xs
drop_more n place xs = drop-drop n place xs

pub length_acts : (number at : ℕ) (acts : List Act) → length (inserted number at acts) ≡ length acts
length_acts number at [] = refl
length_acts number at (act ∷ acts) = ap suc (length_acts (number + 1) at acts)

-- ---- what is dropped

-- numbers among which the same ones are drop the same
pub judged_same : (a b : List ℕ) → ((n : ℕ) → is_among a n ≡ is_among b n) → (t : List Item) (now : List Shown) → judged a t now ≡ judged b t now
judged_same a b same [] now = refl
judged_same a b same (i ∷ t) now =
    ap (λ d. cond d (with_told i (Some Withdrawn) (judged a t now)) (with_told i (reason_by i now) (judged a t (drop 1 now)))) (same i.number)
    ∙ ap₂ (λ (x y : List BrokenItem). cond (is_among b i.number) (with_told i (Some Withdrawn) x) (with_told i (reason_by i now) y)) (judged_same a b same t now) (judged_same a b same t (drop 1 now))

-- ---- notices

known_from : (n k : ℕ) (xs : List Account) → k + length xs ≤ n → list_all (λ (u : User). nat_lt u.0 n) (map (λ (a : ℕ × Account). record { 0 = a.0 }) (enumerate_from k xs)) ≡ true
known_from n k [] le = refl
known_from n k (x ∷ xs) le = both _ _ (lt-ltb k n (omega arith)) (known_from n (k + 1) xs (omega arith))

told_known : (house : House) (list : List BrokenItem) → list_all (is_known house) (users_told house list) ≡ true
told_known house list = all-filter (is_known house) (is_told list) (users_of house) (known_from (length house.accounts) 0 house.accounts (omega arith))

-- items of notices are well formed
formed_notices : (house : House) (number at : ℕ) (text : User → List ℕ) (users : List User) → list_all (is_known house) users ≡ true
    → AllByRecursion (IsWellFormed house) (notice_items number at (map (λ (u : User). (u, text u)) users))
formed_notices house number at text [] known = tt
formed_notices house number at text (u ∷ us) known = (
  record { by = refl; users = ap (λ b. b && true) (first_so (is_known house u) _ known); few = omega arith; form = refl },
  formed_notices house (number + 1) at text us (second_so (is_known house u) _ known),
)

pub told_formed : (house : House) (number at c : ℕ) (list : List BrokenItem) → AllByRecursion (IsWellFormed house) (notice_items number at (notices house c at list))
told_formed house number at c list = formed_notices house number at (λ (u : User). notice_text house u c at list) (users_told house list) (told_known house list)

length_items : (number at : ℕ) (ns : List (User × List ℕ)) → length (notice_items number at ns) ≡ length ns
length_items number at [] = refl
length_items number at (n ∷ ns) = ap suc (length_items (number + 1) at ns)

pub length_map : {X Y : Type 0} (f : X → Y) (xs : List X) → length (map f xs) ≡ length xs
length_map f [] = refl
length_map f (x ∷ xs) = ap suc (length_map f xs)

length_enumerated : (k : ℕ) (xs : List Account) → length (enumerate_from k xs) ≡ length xs
length_enumerated k [] = refl
length_enumerated k (x ∷ xs) = ap suc (length_enumerated (k + 1) xs)

fewer : {X : Type 0} (p : X → Bool) (xs : List X) → length (filter p xs) ≤ length xs
fewer p [] = omega arith
fewer {X} p (x ∷ xs) =
    let rest = fewer p xs in
    elim (p x) as (λ b. length (cond b (x ∷ filter p xs) (filter p xs)) ≤ suc (length xs)) [ true ↦ omega arith | false ↦ omega arith ]

-- a user gets one notice at most
pub few_notices : (house : House) (c at : ℕ) (list : List BrokenItem) → length (notices house c at list) ≤ length house.accounts
few_notices house c at list =
    let all : length (users_of house) ≡ length house.accounts = length_map (λ (a : ℕ × Account). record { 0 = a.0 }) (enumerate_from 0 house.accounts) ∙ length_enumerated 0 house.accounts in
    let some : length (notices house c at list) ≡ length (users_told house list) = length_map (λ (u : User). (u, notice_text house u c at list)) (users_told house list) in
    let few : length (users_told house list) ≤ length (users_of house) = fewer (is_told list) (users_of house) in
    omega arith

pub few_told : (house : House) (number c at : ℕ) (list : List BrokenItem) → length (notice_items number at (notices house c at list)) ≤ length house.accounts
few_told house number c at list =
    let same = length_items number at (notices house c at list) in
    let few = few_notices house c at list in
    omega arith
