-- A row that takes another name goes from its place to the one where that would stand, past the rows between.
use Rattle.std.proofs.Common.{◌≡◌, ℕ, zero, suc, ◌+◌, ◌-◌, ◌<◌, ◌≤◌, Bool, true, false, ◌&&◌, cond, List, [], ◌∷◌, ◌++◌, Option, None, option_map, unwrap_or, take, drop, length, get_or, set, remove, refl, sym, ap, ap₂, ◌∙◌, subst, arith, true≢false, Ordering, Less, Equal, Greater, is_eq, is_gt, is_lt}
use Rattle.std.specs.List.{AllByRecursion}
use Rattle.std.specs.Cmp.{first_so, second_so}
use Rattle.std.specs.FinMap.Entries as rows
use Rattle.std.proofs.lemmas.List.{append_assoc, length-append, length-drop, drop_more, take-append-drop, take-take, get_or-take, get_or_at, set_at, length-take-le, take_at, drop_at}
use Rattle.undo_base.specs.declared.keys.User.{User}
use Rattle.verb_core.specs.declared.mailbox.BoxId.{BoxId}
use Rattle.verb_core.specs.declared.mailbox.Mailbox.{Mailbox}
use Rattle.verb_core.specs.Mailboxes.{no_mail}
use Rattle.verb_core.specs.Boxes.{box_cmp, box_of, is_rising, row_at, add_row, drop_row}
use Rattle.verb_core.specs.Step.{Boxes}
use Rattle.verb_core.proofs.BoxLaws.{exact_boxes, boxes_total, itself}
use Rattle.verb_core.proofs.Searched.{less_is, turned_over}
use Rattle.mail_rows.specs.Places.{IsGap, IsPlace, place_in, stands_at}
use Rattle.mail_rows.proofs.PlaceLaws.{drop_placed, gap_within, row_placed}
use Rattle.box_store.specs.declared.effect.Move.{Move}
use Rattle.box_store.specs.Effects.{row_moved}
use Rattle.box_store.proofs.WorkLaws.{moved_some}

-- ---- rows below a mailbox, and above it

-- each of these stands before the mailbox
abbrev AllBefore : BoxId → Boxes → Type 0
AllBefore id X = AllByRecursion (λ (r : BoxId × Mailbox). box_cmp id r.0 ≡ Greater) X

-- the mailbox goes behind those before it
put_behind : (id : BoxId) (m : Mailbox) (X Y : Boxes) → AllBefore id X → rows.below_all box_cmp id Y ≡ true → add_row id m (X ++ Y) ≡ X ++ (id, m) ∷ Y
put_behind id m [] [] before after = refl
put_behind id m [] (y ∷ ys) before after = ap (λ (o : Ordering). rows.by_order o ((id, m) ∷ y ∷ ys) ((y.0, m) ∷ ys) (y ∷ add_row id m ys)) (less_is (box_cmp id y.0) (first_so _ _ after))
put_behind id m (x ∷ X) Y before after =
    ap (λ (o : Ordering). rows.by_order o ((id, m) ∷ x ∷ X ++ Y) ((x.0, m) ∷ X ++ Y) (x ∷ add_row id m (X ++ Y))) before.0
    ∙ ap (λ (t : Boxes). x ∷ t) (put_behind id m X Y before.1 after)

below_from : (id : BoxId) (r : BoxId × Mailbox) (Y : Boxes) → box_cmp id r.0 ≡ Less → rows.below_all box_cmp r.0 Y ≡ true → rows.below_all box_cmp id Y ≡ true
below_from id r [] less h = refl
below_from id r (y ∷ Y) less h = ap₂ (λ (o : Ordering) (b : Bool). is_lt o && b) (boxes_total.trans id r.0 y.0 less (less_is (box_cmp r.0 y.0) (first_so _ _ h))) (below_from id r Y less (second_so _ _ h))

equal_is : (o : Ordering) → is_eq o ≡ true → o ≡ Equal
equal_is Less h = absurd (true≢false (sym h))
equal_is Equal h = refl
equal_is Greater h = absurd (true≢false (sym h))

self_equal : (q : BoxId) → box_cmp q q ≡ Equal
self_equal q = equal_is (box_cmp q q) (itself q)

greater_is : (o : Ordering) → is_gt o ≡ true → o ≡ Greater
greater_is Less h = absurd (true≢false (sym h))
greater_is Equal h = absurd (true≢false (sym h))
greater_is Greater h = refl

-- at the gap of a mailbox the rows before it are below, and those behind it above
pub parted : (id : BoxId) (X Y : Boxes) → is_rising (X ++ Y) ≡ true → length X ≡ place_in id (X ++ Y) → stands_at id (length X) (X ++ Y) ≡ false → AllBefore id X × (rows.below_all box_cmp id Y ≡ true)
parted id [] [] rising at none = (tt, refl)
parted id [] (y ∷ Y) rising at none = (
  tt,
  elim (box_cmp id y.0) as (λ o. box_cmp id y.0 ≡ o → rows.below_all box_cmp id (y ∷ Y) ≡ true) [
    | Less ↦ λ e. ap₂ (λ (o : Ordering) (b : Bool). is_lt o && b) e (below_from id y Y e (first_so _ _ rising))
    | Equal ↦ λ e. absurd (true≢false (sym (ap is_eq e) ∙ none))
    | Greater ↦ λ e. absurd (zero_suc (at ∙ ap (λ (o : Ordering). cond (is_gt o) (suc (place_in id Y)) 0) e))
  ] refl,
)
  where
    zero_suc : {n : ℕ} → ◌≡◌ {A = ℕ} 0 (suc n) → ⊥
    zero_suc h = omega (arith, h)
parted id (x ∷ X) Y rising at none = elim (is_gt (box_cmp id x.0)) as (λ b. is_gt (box_cmp id x.0) ≡ b → suc (length X) ≡ cond b (suc (place_in id (X ++ Y))) 0 → AllBefore id (x ∷ X) × (rows.below_all box_cmp id Y ≡ true)) [
  | true ↦ λ e at. (let more : AllBefore id X × (rows.below_all box_cmp id Y ≡ true) = parted id X Y (second_so _ _ rising) (omega (arith, at)) none in ((greater_is (box_cmp id x.0) e, more.0), more.1))
  | false ↦ λ e at. absurd (omega (arith, at))
] refl at

-- ---- a row taken out

without_it : (A B : Boxes) (r : BoxId × Mailbox) → remove (A ++ r ∷ B) (length A) ≡ A ++ B
without_it [] B r = refl
without_it (a ∷ A) B r = ap (λ (t : Boxes). a ∷ t) (without_it A B r)

place_of_it : (A B : Boxes) (r : BoxId × Mailbox) → is_rising (A ++ r ∷ B) ≡ true → IsPlace r.0 (A ++ r ∷ B) (length A)
place_of_it [] B r rising = record {
  at = sym (ap (λ (o : Ordering). cond (is_gt o) (suc (place_in r.0 B)) 0) (self_equal r.0));
  there = ap is_eq (self_equal r.0);
}
place_of_it (a ∷ A) B r rising =
    let rest : IsPlace r.0 (A ++ r ∷ B) (length A) = place_of_it A B r (second_so _ _ rising) in
    record { at = ap suc rest.at ∙ sym (ap (λ (o : Ordering). cond (is_gt o) (suc (place_in r.0 (A ++ r ∷ B))) 0) (turned_over a.0 r.0 Less (below_it A (first_so _ _ rising)))); there = rest.there }
  where
    below_it : (A : Boxes) → rows.below_all box_cmp a.0 (A ++ r ∷ B) ≡ true → box_cmp a.0 r.0 ≡ Less
    below_it [] h = less_is (box_cmp a.0 r.0) (first_so _ _ h)
    below_it (x ∷ X) h = below_it X (second_so _ _ h)

dropped : (A B : Boxes) (r : BoxId × Mailbox) → is_rising (A ++ r ∷ B) ≡ true → drop_row r.0 (A ++ r ∷ B) ≡ A ++ B
dropped A B r rising = sym (drop_placed r.0 (A ++ r ∷ B) (length A) (place_of_it A B r rising) rising) ∙ without_it A B r

-- ---- a row that goes to a gap

before_left : (id : BoxId) (A C : Boxes) (r : BoxId × Mailbox) → AllBefore id (A ++ r ∷ C) → AllBefore id (A ++ C)
before_left id [] C r all = all.1
before_left id (a ∷ A) C r all = (all.0, before_left id A C r all.1)

below_left : (id : BoxId) (C D : Boxes) (r : BoxId × Mailbox) → rows.below_all box_cmp id (C ++ r ∷ D) ≡ true → rows.below_all box_cmp id (C ++ D) ≡ true
below_left id [] D r h = second_so _ _ h
below_left id (c ∷ C) D r h = ap₂ (λ (a b : Bool). a && b) (first_so _ _ h) (below_left id C D r (second_so _ _ h))

-- behind the rows between
pub goes_behind : (id : BoxId) (A C D : Boxes) (r : BoxId × Mailbox) → is_rising (A ++ r ∷ C ++ D) ≡ true → IsGap id (A ++ r ∷ C ++ D) (length (A ++ r ∷ C))
    → A ++ C ++ (id, r.1) ∷ D ≡ add_row id r.1 (drop_row r.0 (A ++ r ∷ C ++ D))
goes_behind id A C D r rising gap =
    let parts : AllBefore id (A ++ r ∷ C) × (rows.below_all box_cmp id D ≡ true) = parted id (A ++ r ∷ C) D rising gap.at gap.missing in
    sym (
    ap (λ (rs : Boxes). add_row id r.1 (drop_row r.0 rs)) (append_assoc A (r ∷ C) D)
    ∙ ap (add_row id r.1) (dropped A (C ++ D) r (subst (λ (rs : Boxes). is_rising rs ≡ true) (append_assoc A (r ∷ C) D) rising))
    ∙ ap (add_row id r.1) (sym (append_assoc A C D))
    ∙ put_behind id r.1 (A ++ C) D (before_left id A C r parts.0) parts.1
    )

-- before them
pub goes_before : (id : BoxId) (A C D : Boxes) (r : BoxId × Mailbox) → is_rising (A ++ C ++ r ∷ D) ≡ true → IsGap id (A ++ C ++ r ∷ D) (length A)
    → A ++ (id, r.1) ∷ C ++ D ≡ add_row id r.1 (drop_row r.0 (A ++ C ++ r ∷ D))
goes_before id A C D r rising gap =
    let whole = append_assoc A C (r ∷ D) in
    let parts : AllBefore id A × (rows.below_all box_cmp id (C ++ r ∷ D) ≡ true) = parted id A (C ++ r ∷ D) (subst (λ (rs : Boxes). is_rising rs ≡ true) whole rising) (subst (λ (rs : Boxes). length A ≡ place_in id rs) whole gap.at) (subst (λ (rs : Boxes). stands_at id (length A) rs ≡ false) whole gap.missing) in
    append_assoc A ((id, r.1) ∷ C) D
    ∙ sym (
    ap (add_row id r.1) (dropped (A ++ C) D r rising)
    ∙ ap (add_row id r.1) (append_assoc A C D)
    ∙ put_behind id r.1 A (C ++ D) parts.0 (below_left id C D r parts.1)
    )

-- ---- the same, by the places

split_behind : (rs : Boxes) (p g : ℕ) (d : BoxId × Mailbox) → p < g → g ≤ length rs → rs ≡ take p rs ++ get_or rs p d ∷ drop (p + 1) (take g rs) ++ drop g rs
split_behind rs p g d lt le =
    let wide : length (take g rs) ≡ g = length-take-le g rs le in
    sym (take-append-drop g rs)
    ∙ ap (λ (t : Boxes). t ++ drop g rs) (
    sym (take-append-drop p (take g rs))
    ∙ ap₂ (λ (s t : Boxes). s ++ t) (take-take p g rs (omega (arith, lt))) (drop_more (take g rs) p d (omega (arith, lt, wide)) ∙ ap (λ (r : BoxId × Mailbox). r ∷ drop (p + 1) (take g rs)) (get_or-take g rs p d lt))
    )

split_before : (rs : Boxes) (p g : ℕ) (d : BoxId × Mailbox) → g ≤ p → p < length rs → rs ≡ take g rs ++ drop g (take p rs) ++ get_or rs p d ∷ drop (p + 1) rs
split_before rs p g d le lt =
    sym (take-append-drop p rs)
    ∙ ap₂ (λ (s t : Boxes). s ++ t) (sym (take-append-drop g (take p rs)) ∙ ap (λ (s : Boxes). s ++ drop g (take p rs)) (take-take g p rs le)) (drop_more rs p d lt)

module _ (u : User) (name : List ℕ) (rs new : Boxes) (p g : ℕ) (d : BoxId × Mailbox) where
  pub behind_is : is_rising rs ≡ true → p < g → IsGap (box_of u name) rs g → (get_or rs p d).0.user ≡ u
      → ((front between back : Boxes) (r : BoxId × Mailbox) → rs ≡ front ++ r ∷ between ++ back → length front ≡ p → suc p + length between ≡ g → new ≡ front ++ between ++ (box_of r.0.user name, r.1) ∷ back)
      → new ≡ add_row (box_of u name) (get_or rs p d).1 (drop_row (get_or rs p d).0 rs)
  behind_is rising lt gap own went =
      let within : g ≤ length rs = gap_within (box_of u name) rs g gap in
      let front = take p rs in
      let r = get_or rs p d in
      let between = drop (p + 1) (take g rs) in
      let back = drop g rs in
      let whole : rs ≡ front ++ r ∷ between ++ back = split_behind rs p g d lt within in
      let first : length front ≡ p = length-take-le p rs (omega (arith, lt, within)) in
      let wide : length (take g rs) ≡ g = length-take-le g rs within in
      let count : length between ≡ length (take g rs) - (p + 1) = length-drop (p + 1) (take g rs) in
      let at : length (front ++ r ∷ between) ≡ g = length-append front (r ∷ between) ∙ omega (arith, first, count, wide, lt) in
      went front between back r whole first (omega (arith, count, wide, lt))
      ∙ ap (λ (v : User). front ++ between ++ (box_of v name, r.1) ∷ back) own
      ∙ goes_behind (box_of u name) front between back r (subst (λ (bs : Boxes). is_rising bs ≡ true) whole rising) (subst (IsGap (box_of u name) (front ++ r ∷ between ++ back)) (sym at) (subst (λ (bs : Boxes). IsGap (box_of u name) bs g) whole gap))
      ∙ ap (λ (bs : Boxes). add_row (box_of u name) r.1 (drop_row r.0 bs)) (sym whole)

  pub before_is : is_rising rs ≡ true → g ≤ p → p < length rs → IsGap (box_of u name) rs g → (get_or rs p d).0.user ≡ u
      → ((front between back : Boxes) (r : BoxId × Mailbox) → rs ≡ front ++ between ++ r ∷ back → length front ≡ g → g + length between ≡ p → new ≡ front ++ (box_of r.0.user name, r.1) ∷ between ++ back)
      → new ≡ add_row (box_of u name) (get_or rs p d).1 (drop_row (get_or rs p d).0 rs)
  before_is rising le lt gap own went =
      let front = take g rs in
      let r = get_or rs p d in
      let between = drop g (take p rs) in
      let back = drop (p + 1) rs in
      let whole : rs ≡ front ++ between ++ r ∷ back = split_before rs p g d le lt in
      let first : length front ≡ g = length-take-le g rs (omega (arith, le, lt)) in
      let wide : length (take p rs) ≡ p = length-take-le p rs (omega (arith, lt)) in
      let count : length between ≡ length (take p rs) - g = length-drop g (take p rs) in
      went front between back r whole first (omega (arith, count, wide, le))
      ∙ ap (λ (v : User). front ++ (box_of v name, r.1) ∷ between ++ back) own
      ∙ goes_before (box_of u name) front between back r (subst (λ (bs : Boxes). is_rising bs ≡ true) whole rising) (subst (IsGap (box_of u name) (front ++ between ++ r ∷ back)) (sym first) (subst (λ (bs : Boxes). IsGap (box_of u name) bs g) whole gap))
      ∙ ap (λ (bs : Boxes). add_row (box_of u name) r.1 (drop_row r.0 bs)) (sym whole)

-- ---- a row renamed, and then blocks that change places

module _ {X : Type 0} where
  one_in_front : (front back : List X) (x : X) → front ++ x ∷ [] ++ back ≡ front ++ x ∷ back
  one_in_front front back x = append_assoc front (x ∷ []) back

  -- two blocks of items that change places
  pub swapped : (items front one other back new : List X) (from middle to : ℕ) → new ≡ drop (middle - from) (take (to - from) (drop from items)) ++ take (middle - from) (take (to - from) (drop from items))
      → items ≡ front ++ one ++ other ++ back → length front ≡ from → from + length one ≡ middle → middle + length other ≡ to
      → take from items ++ (new ++ drop (to - from) (drop from items)) ≡ front ++ other ++ one ++ back
  swapped items front one other back new from middle to turned is first second third =
      let front_is : items ≡ front ++ (one ++ other ++ back) = is ∙ ap (λ (t : List X). t ++ back) (append_assoc front one other) ∙ append_assoc front (one ++ other) back in
      let behind : drop from items ≡ one ++ other ++ back = ap (drop from) front_is ∙ drop_at front (one ++ other ++ back) from first in
      let wide : length (one ++ other) ≡ to - from = length-append one other ∙ omega (arith, second, third) in
      let block : take (to - from) (drop from items) ≡ one ++ other = ap (take (to - from)) behind ∙ take_at (one ++ other) back (to - from) wide in
      let rest : drop (to - from) (drop from items) ≡ back = ap (drop (to - from)) behind ∙ drop_at (one ++ other) back (to - from) wide in
      let count : length one ≡ middle - from = omega (arith, second) in
      let new_is : new ≡ other ++ one = turned ∙ ap₂ (λ (s t : List X). s ++ t) (ap (drop (middle - from)) block ∙ drop_at one other (middle - from) count) (ap (take (middle - from)) block ∙ take_at one other (middle - from) count) in
      ap₂ (λ (s t : List X). s ++ t) (ap (take from) front_is ∙ take_at front (one ++ other ++ back) from first) (ap₂ (λ (s t : List X). s ++ t) new_is rest)
      ∙ sym (append_assoc front (other ++ one) back)
      ∙ ap (λ (t : List X). t ++ back) (sym (append_assoc front other one))

-- a row that takes another name
pub renamed_at : (name : List ℕ) (rs front back : Boxes) (r x : BoxId × Mailbox) (place : ℕ) → rs ≡ front ++ r ∷ back → length front ≡ place
    → set rs place (box_of (get_or rs place x).0.user name, (get_or rs place x).1) ≡ front ++ (box_of r.0.user name, r.1) ∷ back
renamed_at name rs front back r x place is first =
    ap (λ (bs : Boxes). set bs place (box_of (get_or bs place x).0.user name, (get_or bs place x).1)) is
    ∙ ap (λ (q : BoxId × Mailbox). set (front ++ r ∷ back) place (box_of q.0.user name, q.1)) (get_or_at front r back x place first)
    ∙ set_at front r back (box_of r.0.user name, r.1) place first

module _ (name : List ℕ) (rs middle new : Boxes) (front between back : Boxes) (r : BoxId × Mailbox) (p g : ℕ) where
  abbrev changed : BoxId × Mailbox
  changed = (box_of r.0.user name, r.1)

  pub renamed_behind : ((front back : Boxes) (r : BoxId × Mailbox) → rs ≡ front ++ r ∷ back → length front ≡ p → middle ≡ front ++ (box_of r.0.user name, r.1) ∷ back)
      → ((front one other back : Boxes) → middle ≡ front ++ one ++ other ++ back → length front ≡ p → p + length one ≡ p + 1 → (p + 1) + length other ≡ g → new ≡ front ++ other ++ one ++ back)
      → rs ≡ front ++ r ∷ between ++ back → length front ≡ p → suc p + length between ≡ g → new ≡ front ++ between ++ changed ∷ back
  renamed_behind named swapped is first wide =
      let middle_is : middle ≡ front ++ changed ∷ (between ++ back) = named front (between ++ back) r (is ∙ append_assoc front (r ∷ between) back) first in
      let parts : middle ≡ front ++ (changed ∷ []) ++ between ++ back = middle_is ∙ sym (ap (λ (t : Boxes). t ++ back) (append_assoc front (changed ∷ []) between) ∙ append_assoc front (changed ∷ between) back) in
      swapped front (changed ∷ []) between back parts first refl (omega (arith, wide))
      ∙ one_in_front (front ++ between) back changed

  pub renamed_before : ((front back : Boxes) (r : BoxId × Mailbox) → rs ≡ front ++ r ∷ back → length front ≡ p → middle ≡ front ++ (box_of r.0.user name, r.1) ∷ back)
      → ((front one other back : Boxes) → middle ≡ front ++ one ++ other ++ back → length front ≡ g → g + length one ≡ p → p + length other ≡ p + 1 → new ≡ front ++ other ++ one ++ back)
      → rs ≡ front ++ between ++ r ∷ back → length front ≡ g → g + length between ≡ p → new ≡ front ++ changed ∷ between ++ back
  renamed_before named swapped is first wide =
      let middle_is : middle ≡ front ++ between ++ changed ∷ back = named (front ++ between) back r is (length-append front between ∙ omega (arith, first, wide)) in
      swapped front between (changed ∷ []) back (middle_is ∙ sym (one_in_front (front ++ between) back changed)) first wide refl
      ∙ ap (λ (t : Boxes). t ++ back) (append_assoc front (changed ∷ []) between)

-- what stands at the place of a mailbox is its row
pub placed_id : (id : BoxId) (rs : Boxes) (place : ℕ) → IsPlace id rs place → (d : BoxId × Mailbox) → (get_or rs place d).0 ≡ id
placed_id id rs place is d = there rs place is.there
  where
    there : (bs : Boxes) (i : ℕ) → stands_at id i bs ≡ true → (get_or bs i d).0 ≡ id
    there [] i h = absurd (true≢false (sym h))
    there (b ∷ bs) zero h = sym (exact_boxes id b.0 (equal_is (box_cmp id b.0) h))
    there (b ∷ bs) (suc i) h = there bs i h

-- ---- a mailbox that takes another name

-- what a slice of all rows leaves in their list
pub written_back : (new items : Boxes) (n : ℕ) → length new ≡ n → take n (new ++ drop (length new) items) ≡ new
written_back new items n whole = take_at new (drop (length new) items) n whole

-- it is moved where it was found
pub moved_is : (u : User) (m : Move) (name : List ℕ) (rs items new : Boxes) (place : ℕ) → rs ≡ items → name ≡ m.to → IsPlace (box_of u m.from) items place
    → ((d : BoxId × Mailbox) → new ≡ add_row (box_of u name) (get_or rs place d).1 (drop_row (get_or rs place d).0 rs)) → new ≡ row_moved u m items
moved_is u m name rs items new place at named is went =
    let d : BoxId × Mailbox = (box_of u m.from, no_mail) in
    went d
    ∙ ap₂ (λ (n : List ℕ) (bs : Boxes). add_row (box_of u n) (get_or bs place d).1 (drop_row (get_or bs place d).0 bs)) named at
    ∙ ap (λ (q : BoxId). add_row (box_of u m.to) (get_or items place d).1 (drop_row q items)) (placed_id (box_of u m.from) items place is d)
    ∙ moved_some u m (get_or items place d).1 items (row_placed (box_of u m.from) items place is d)

-- and nothing moves where it is missing
pub stays_put : (u : User) (m : Move) (rs : Boxes) → row_at (box_of u m.from) rs ≡ None → rs ≡ row_moved u m rs
stays_put u m rs none = sym (ap (λ (o : Option Mailbox). unwrap_or (option_map (λ x. add_row (box_of u m.to) x (drop_row (box_of u m.from) rs)) o) rs) none)
