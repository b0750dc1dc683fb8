-- Mailboxes that extend others, and the stamps of all.
use Rattle.std.proofs.Common.{◌≡◌, ◌≢◌, unwrap_or, ℕ, ◌<◌, ◌≤◌, ◌==◌, Bool, true, false, ◌&&◌, ◌||◌, cond, nat_le, arith, refl, sym, ◌∙◌, ap, List, [], ◌∷◌, map, Some, is_eq, Ordering, Less, Equal, Greater, eqb-true, true≢false, append_assoc, ◌++◌}
use Rattle.std.specs.List.{AllByRecursion, list_all, list_any}
use Rattle.std.specs.Cmp.{first_so, second_so}
use Rattle.std.proofs.lemmas.Bool.Decides.{nat_tests}
use Rattle.std.proofs.lemmas.List.Folds.{list_any-append}
use Rattle.undo_base.specs.declared.keys.Key.{Key}
use Rattle.verb_core.specs.declared.mailbox.Body.{Body}
use Rattle.verb_core.specs.declared.mailbox.BoxId.{BoxId}
use Rattle.verb_core.specs.declared.mailbox.Entry.{Entry}
use Rattle.verb_core.specs.declared.mailbox.Mailbox.{Mailbox}
use Rattle.verb_core.specs.Boxes.{box_cmp, row_at}
use Rattle.verb_core.specs.Mailboxes.{same_key}
use Rattle.verb_core.proofs.BoxLaws.{exact_boxes}
use Rattle.verb_core.specs.Deeds.{same_body}
use Rattle.repair_desk.specs.Renewals.{extends, extends_one, is_old, renewed, same_mail, stamp_after}

pub both : (p q : Bool) → p ≡ true → q ≡ true → (p && q) ≡ true
both p q e f = rw (e, f) refl

equal_is : (o : Ordering) → is_eq o ≡ true → o ≡ Equal
equal_is Less h = absurd (true≢false (sym h))
equal_is Equal h = refl
equal_is Greater h = absurd (true≢false (sym h))

-- ---- the same mail

one_key : (a b : Key) → same_key a b ≡ true → a ≡ b
one_key a b h = λ j. record { item = eqb-true a.item b.item (first_so _ _ h) j; index = eqb-true a.index b.index (second_so _ _ h) j }

one_body : (a b : Body) → same_body a b ≡ true → a ≡ b
one_body a b h = λ j. record { origin = eqb-true a.origin b.origin (first_so _ _ h) j; rev = eqb-true a.rev b.rev (second_so _ _ h) j }

-- whether mail is old, by its UID, key and body alone
abbrev old_by : Mailbox → ℕ → Key → Body → Bool
old_by a uid key body = nat_le a.next uid || list_any (λ (o : Entry). uid == o.uid && same_key key o.key && same_body body o.body) a.entries

alike : (a : Mailbox) (e f : Entry) → same_mail e f ≡ true → is_old a e ≡ is_old a f
alike a e f h =
    let uid : e.uid ≡ f.uid = eqb-true e.uid f.uid (first_so (e.uid == f.uid) (same_key e.key f.key) (first_so _ (same_body e.body f.body) h)) in
    let key : e.key ≡ f.key = one_key e.key f.key (second_so (e.uid == f.uid) (same_key e.key f.key) (first_so _ (same_body e.body f.body) h)) in
    let body : e.body ≡ f.body = one_body e.body f.body (second_so _ (same_body e.body f.body) h) in
    λ j. old_by a (uid j) (key j) (body j)

-- ---- one after the other

-- mail that is found among old mail is old
through : (a : Mailbox) (e : Entry) (es : List Entry) → list_any (same_mail e) es ≡ true → list_all (is_old a) es ≡ true → is_old a e ≡ true
through a e [] any all = absurd (true≢false (sym any))
through a e (f ∷ es) any all = by (same_mail e f) refl any (λ found. through a e es found (second_so (is_old a f) _ all))
  where
    by : (b : Bool) → same_mail e f ≡ b → (b || list_any (same_mail e) es) ≡ true → (list_any (same_mail e) es ≡ true → is_old a e ≡ true) → is_old a e ≡ true
    by true same any rest = alike a e f same ∙ first_so (is_old a f) _ all
    by false same any rest = rest any

older : (a b : Mailbox) → nat_le a.next b.next ≡ true → list_all (is_old a) b.entries ≡ true → (es : List Entry) → list_all (is_old b) es ≡ true → list_all (is_old a) es ≡ true
older a b le all [] h = refl
older a b le all (e ∷ es) h = both (is_old a e) _ (one (nat_le b.next e.uid) refl (first_so (is_old b e) _ h)) (older a b le all es (second_so (is_old b e) _ h))
  where
    one : (v : Bool) → nat_le b.next e.uid ≡ v → (v || list_any (same_mail e) b.entries) ≡ true → is_old a e ≡ true
    one true here h = let above : nat_le a.next e.uid ≡ true = grind (arith, nat_tests) in rw above refl
    one false here h = through a e b.entries h all

pub transitive : (a b c : Mailbox) → extends a b ≡ true → extends b c ≡ true → extends a c ≡ true
transitive a b c ab bc =
    let low : nat_le a.next b.next ≡ true = first_so _ (list_all (is_old a) b.entries) ab in
    let high : nat_le b.next c.next ≡ true = first_so _ (list_all (is_old b) c.entries) bc in
    let le : nat_le a.next c.next ≡ true = grind (arith, nat_tests) in
    both (nat_le a.next c.next) _ le (older a b low (second_so (nat_le a.next b.next) _ ab) c.entries (second_so (nat_le b.next c.next) _ bc))

-- ---- a mailbox and itself

same_number : (n : ℕ) → (n == n) ≡ true
same_number n = grind (arith, nat_tests)

same_itself : (e : Entry) → same_mail e e ≡ true
same_itself e = rw (same_number e.uid, same_number e.key.item, same_number e.key.index, same_number e.body.origin, same_number e.body.rev) refl

-- a mailbox's own entries are among them
pub among : (n : ℕ) (front es : List Entry) → list_all (λ (e : Entry). nat_le n e.uid || list_any (same_mail e) (front ++ es)) es ≡ true
among n front [] = refl
among n front (e ∷ es) =
    both (nat_le n e.uid || list_any (same_mail e) (front ++ e ∷ es)) _
    (ap (λ b. nat_le n e.uid || b) (list_any-append (same_mail e) front (e ∷ es) ∙ ap (λ b. list_any (same_mail e) front || (b || list_any (same_mail e) es)) (same_itself e) ∙ last (list_any (same_mail e) front)) ∙ last (nat_le n e.uid))
    (ap (λ (all : List Entry). list_all (λ (x : Entry). nat_le n x.uid || list_any (same_mail x) all) es) (sym (append_assoc front (e ∷ []) es)) ∙ among n (front ++ e ∷ []) es)
  where
    last : (b : Bool) → (b || true) ≡ true
    last true = refl
    last false = refl

pub itself : (m : Mailbox) → extends m m ≡ true
itself m = let le : nat_le m.next m.next ≡ true = grind (arith, nat_tests) in both (nat_le m.next m.next) _ le (among m.next [] m.entries)

-- ---- the stamps

pub named : (before after : List (BoxId × Mailbox)) (stamps : List (BoxId × ℕ)) (c : ℕ) → map (λ (r : BoxId × ℕ). r.0) (renewed before after stamps c) ≡ map (λ (r : BoxId × Mailbox). r.0) after
named before [] stamps c = refl
named before (r ∷ after) stamps c = ap (λ (ids : List BoxId). r.0 ∷ ids) (named before after stamps c)

pub each : (before after : List (BoxId × Mailbox)) (stamps : List (BoxId × ℕ)) (c : ℕ) (id : BoxId) (m : Mailbox) → row_at id after ≡ Some m
    → row_at id (renewed before after stamps c) ≡ Some (stamp_after before stamps c (id, m))
each before [] stamps c id m e = cc
each before (r ∷ after) stamps c id m e = by (is_eq (box_cmp id r.0)) refl e (each before after stamps c id m)
  where
    by : (b : Bool) → is_eq (box_cmp id r.0) ≡ b → cond b (Some r.1) (row_at id after) ≡ Some m → (row_at id after ≡ Some m → row_at id (renewed before after stamps c) ≡ Some (stamp_after before stamps c (id, m)))
        → cond b (Some (stamp_after before stamps c r)) (row_at id (renewed before after stamps c)) ≡ Some (stamp_after before stamps c (id, m))
    by true here e rest =
        let name : r.0 ≡ id = sym (exact_boxes id r.0 (equal_is (box_cmp id r.0) here)) in
        let mail : r.1 ≡ m = cc in
        λ j. Some (stamp_after before stamps c (name j, mail j))
    by false here e rest = rest e

-- a stamp that is not the cycle's
pub kept : (before after : List (BoxId × Mailbox)) (stamps : List (BoxId × ℕ)) (c : ℕ) (id : BoxId) (m : Mailbox) (stamp : ℕ) → row_at id after ≡ Some m
    → row_at id (renewed before after stamps c) ≡ Some stamp → stamp ≢ c → extends_one (row_at id before) m ≡ true
kept before after stamps c id m stamp e f other = by (extends_one (row_at id before) m) (sym (each before after stamps c id m e) ∙ f)
  where
    by : (b : Bool) → Some (cond b (unwrap_or (row_at id stamps) c) c) ≡ Some stamp → b ≡ true
    by true h = refl
    by false h = let same : stamp ≡ c = cc in absurd (other same)

stamp_below : (id : BoxId) (stamps : List (BoxId × ℕ)) (c : ℕ) → AllByRecursion (λ (r : BoxId × ℕ). r.1 < c) stamps → unwrap_or (row_at id stamps) c ≤ c
stamp_below id [] c all = omega arith
stamp_below id (r ∷ stamps) c all = elim (is_eq (box_cmp id r.0)) as (λ b. unwrap_or (cond b (Some r.1) (row_at id stamps)) c ≤ c) [
  | true ↦ let low : r.1 < c = all.0 in omega arith
  | false ↦ stamp_below id stamps c all.1
]

pub below : (before after : List (BoxId × Mailbox)) (stamps : List (BoxId × ℕ)) (c : ℕ) → AllByRecursion (λ (r : BoxId × ℕ). r.1 < c) stamps → AllByRecursion (λ (r : BoxId × ℕ). r.1 ≤ c) (renewed before after stamps c)
below before [] stamps c all = tt
below before (r ∷ after) stamps c all = (
  elim (extends_one (row_at r.0 before) r.1) as (λ b. cond b (unwrap_or (row_at r.0 stamps) c) c ≤ c) [ true ↦ stamp_below r.0 stamps c all | false ↦ omega arith ],
  below before after stamps c all,
)
