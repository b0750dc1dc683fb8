-- Rows of which a store is made: their fronts, and one row more.
use Rattle.std.proofs.Common.{◌≡◌, ℕ, zero, suc, ◌+◌, ◌<◌, ◌≤◌, Bool, true, false, ◌&&◌, ◌||◌, cond, List, [], ◌∷◌, ◌++◌, Option, Some, None, is_some, length, take, drop, get_or, inl, inr, true≢false, ap₂, append_assoc, refl, sym, ap, subst, ◌∙◌, arith}
use Rattle.std.specs.List.{list_all, enumerate_from}
use Rattle.std.specs.Ordering.{is_lt, is_eq, eq_by_cmp, nat_cmp, ordering_then}
use Rattle.std.specs.Cmp.{both_ways, nat_cmp_total, tied_itself}
use Rattle.std.specs.Cmp.Lexicographic.{slice_cmp}
use Rattle.std.proofs.Math.Bool.{or-false}
use Rattle.std.specs.FinMap.Entries as rows
use Rattle.std.specs.declared.cmp.Ordering.{Ordering}
use Rattle.std.specs.declared.cmp.Ordering.TheVariants.{Less, Equal, Greater}
use Rattle.std.proofs.lemmas.List.{take_all, take_more, take-take, take-append-drop, get_or-map, length-map}
use Rattle.std.proofs.lemmas.Bool.{cases_order}
use Rattle.std.proofs.lemmas.List.Folds.{list_all_more}
use Rattle.std.proofs.lemmas.List.FromFn.{length-enumerate_from, get_or-enumerate_from}
use Rattle.undo_base.specs.declared.keys.User.{User}
use Rattle.verb_core.specs.declared.mailbox.BoxId.{BoxId}
use Rattle.verb_core.specs.declared.mailbox.Mailbox.{Mailbox}
use Rattle.verb_core.specs.declared.conf.Account.{Account}
use Rattle.verb_core.specs.declared.conf.House.{House}
use Rattle.verb_core.specs.declared.conf.Conf.{Conf}
use Rattle.verb_core.specs.Names.{superiors, is_inferior, is_slash}
use Rattle.verb_core.specs.Boxes.{box_cmp, box_of, has_row, row_at, has_superiors, is_rising}
use Rattle.verb_core.specs.Store.{is_house, is_row, users_of}
use Rattle.verb_core.proofs.BoxLaws.{boxes_total, tied}
use Rattle.verb_core.proofs.NameLaws.{never_itself, superior_first, of_superior, of_superiors}
use Rattle.verb_core.proofs.NameBytes.{begins_empty, one_ends, none_ends}
use Rattle.box_store.specs.Making.{are_rows, have_fixed, knows_aliases, makes_store, IsRefusedAt}

abbrev Boxes : Type 0
Boxes = List (BoxId × Mailbox)

-- ---- two tests

first : (s t : Bool) → (s && t) ≡ true → s ≡ true
first true t e = refl
first false t e = e

second : (s t : Bool) → (s && t) ≡ true → t ≡ true
second true t e = e
second false t e = absurd (cc)

both : (s t : Bool) → s ≡ true → t ≡ true → (s && t) ≡ true
both s t p q = rw (p, q) refl

and_true : (s : Bool) → (s && true) ≡ s
and_true true = refl
and_true false = refl

and_false : (s : Bool) → (s && false) ≡ false
and_false true = refl
and_false false = refl

or_true : (s : Bool) → (s || true) ≡ true
or_true true = refl
or_true false = refl

less : (o : Ordering) → is_lt o ≡ true → o ≡ Less
less Less e = refl
less Equal e = absurd (cc)
less Greater e = absurd (cc)

-- ---- rows that rise

-- what is below all, and below one above their last, is below that one too
below_more : (id : BoxId) (rs : Boxes) (l r : BoxId × Mailbox) → rows.below_all box_cmp id (rs ++ l ∷ []) ≡ true → is_lt (box_cmp l.0 r.0) ≡ true → rows.below_all box_cmp id (rs ++ l ∷ r ∷ []) ≡ true
below_more id [] l r below lt =
    let here : box_cmp id l.0 ≡ Less = less (box_cmp id l.0) (first (is_lt (box_cmp id l.0)) true below) in
    let there : box_cmp id r.0 ≡ Less = boxes_total.trans id l.0 r.0 here (less (box_cmp l.0 r.0) lt) in
    rw (here, there) refl
below_more id (x ∷ rs) l r below lt =
    both (is_lt (box_cmp id x.0)) (rows.below_all box_cmp id (rs ++ l ∷ r ∷ [])) (first (is_lt (box_cmp id x.0)) (rows.below_all box_cmp id (rs ++ l ∷ [])) below)
    (below_more id rs l r (second (is_lt (box_cmp id x.0)) (rows.below_all box_cmp id (rs ++ l ∷ [])) below) lt)

-- one more row is above those that rise, if it is above their last
rising_last : (rs : Boxes) (l r : BoxId × Mailbox) → is_rising (rs ++ l ∷ []) ≡ true → is_lt (box_cmp l.0 r.0) ≡ is_rising (rs ++ l ∷ r ∷ [])
rising_last [] l r rise = sym (and_true (is_lt (box_cmp l.0 r.0) && true) ∙ and_true (is_lt (box_cmp l.0 r.0)))
rising_last (x ∷ rs) l r rise =
    let below = first (rows.below_all box_cmp x.0 (rs ++ l ∷ [])) (is_rising (rs ++ l ∷ [])) rise in
    let rest : is_lt (box_cmp l.0 r.0) ≡ is_rising (rs ++ l ∷ r ∷ []) = rising_last rs l r (second (rows.below_all box_cmp x.0 (rs ++ l ∷ [])) (is_rising (rs ++ l ∷ [])) rise) in
    elim (is_lt (box_cmp l.0 r.0)) as (λ t. is_lt (box_cmp l.0 r.0) ≡ t → t ≡ (rows.below_all box_cmp x.0 (rs ++ l ∷ r ∷ []) && is_rising (rs ++ l ∷ r ∷ []))) [
      | true ↦ λ e. sym (both _ _ (below_more x.0 rs l r below e) (sym rest ∙ e))
      | false ↦ λ e. sym (ap (λ t. rows.below_all box_cmp x.0 (rs ++ l ∷ r ∷ []) && t) (sym rest ∙ e) ∙ and_false (rows.below_all box_cmp x.0 (rs ++ l ∷ r ∷ [])))
    ] refl

-- the first row rises alone
pub rising_first : (rs : Boxes) (place : ℕ) → place ≡ 0 → 0 < length rs → true ≡ is_rising (take (place + 1) rs)
rising_first [] place e lt = absurd (omega arith)
rising_first (r ∷ rs) place e lt = rw e refl

rising_next : (rs : Boxes) (n : ℕ) (d e : BoxId × Mailbox) → n + 1 < length rs → is_rising (take (n + 1) rs) ≡ true → is_lt (box_cmp (get_or rs n d).0 (get_or rs (n + 1) e).0) ≡ is_rising (take (n + 1 + 1) rs)
rising_next rs n d e within rise =
    let back : take (n + 1) rs ≡ take n rs ++ get_or rs n d ∷ [] = take_more rs n d (omega arith) in
    let last : take (n + 1 + 1) rs ≡ take n rs ++ get_or rs n d ∷ get_or rs (n + 1) e ∷ [] =
    take_more rs (n + 1) e within ∙ ap (λ (front : Boxes). front ++ get_or rs (n + 1) e ∷ []) back ∙ append_assoc (take n rs) (get_or rs n d ∷ []) (get_or rs (n + 1) e ∷ []) in
    rising_last (take n rs) (get_or rs n d) (get_or rs (n + 1) e) (ap is_rising (sym back) ∙ rise) ∙ ap is_rising (sym last)

-- a row rises behind those before it, if it is above the one before it
pub rising_above : (rs : Boxes) (place n : ℕ) (d e : BoxId × Mailbox) → n + 1 ≡ place → place < length rs → is_rising (take place rs) ≡ true → is_lt (box_cmp (get_or rs n d).0 (get_or rs place e).0) ≡ is_rising (take (place + 1) rs)
rising_above rs place n d e same = subst (λ (p : ℕ). p < length rs → is_rising (take p rs) ≡ true → is_lt (box_cmp (get_or rs n d).0 (get_or rs p e).0) ≡ is_rising (take (p + 1) rs)) same (rising_next rs n d e)

-- ---- superiors

has_row-end : (q : BoxId) (rs : Boxes) (r : BoxId × Mailbox) → has_row q (rs ++ r ∷ []) ≡ (has_row q rs || eq_by_cmp box_cmp q r.0)
has_row-end q [] r = elim (eq_by_cmp box_cmp q r.0) as (λ t. is_some (cond t (Some r.1) None) ≡ t) [ true ↦ refl | false ↦ refl ]
has_row-end q (x ∷ rs) r = elim (eq_by_cmp box_cmp q x.0) as (λ t. is_some (cond t (Some x.1) (row_at q (rs ++ r ∷ []))) ≡ (is_some (cond t (Some x.1) (row_at q rs)) || eq_by_cmp box_cmp q r.0)) [ true ↦ refl | false ↦ has_row-end q rs r ]

has_row-append : (q : BoxId) (rs ss : Boxes) → has_row q (rs ++ ss) ≡ (has_row q rs || has_row q ss)
has_row-append q [] ss = refl
has_row-append q (x ∷ rs) ss = elim (eq_by_cmp box_cmp q x.0) as (λ t. is_some (cond t (Some x.1) (row_at q (rs ++ ss))) ≡ (is_some (cond t (Some x.1) (row_at q rs)) || has_row q ss)) [ true ↦ refl | false ↦ has_row-append q rs ss ]

-- of the superiors of a name two tests say the same
alike_above : (name : List ℕ) (p q : List ℕ → Bool) → ((n : List ℕ) → is_inferior n name ≡ true → p n ≡ q n) → list_all p (superiors name) ≡ list_all q (superiors name)
alike_above name p q same = both_ways _ _
    (λ h. of_superiors q name (λ n below. sym (same n below) ∙ of_superior p name n h below))
    (λ h. of_superiors p name (λ n below. same n below ∙ of_superior q name n h below))

-- a row behind others has its superiors among these
above_end : (rs : Boxes) (r : BoxId × Mailbox) → has_superiors (rs ++ r ∷ []) r ≡ has_superiors rs r
above_end rs r = alike_above r.0.name (λ n. has_row (box_of r.0.user n) (rs ++ r ∷ [])) (λ n. has_row (box_of r.0.user n) rs) (λ n below.
    has_row-end (box_of r.0.user n) rs r
    ∙ elim (eq_by_cmp box_cmp (box_of r.0.user n) r.0) as (λ t. eq_by_cmp box_cmp (box_of r.0.user n) r.0 ≡ t → (has_row (box_of r.0.user n) rs || t) ≡ has_row (box_of r.0.user n) rs) [
      | true ↦ λ e. absurd (itself_below n (ap (λ (q : BoxId). q.name) (tied (box_of r.0.user n) r.0 e)) below)
      | false ↦ λ e. or-false (has_row (box_of r.0.user n) rs)
    ] refl)
  where
    itself_below : (n : List ℕ) → n ≡ r.0.name → is_inferior n r.0.name ≡ true → ⊥
    itself_below n is below = true≢false (sym (subst (λ (m : List ℕ). is_inferior m r.0.name ≡ true) is below) ∙ never_itself r.0.name)

-- what has its superiors has them when a row more is there
kept_above : (rs : Boxes) (r x : BoxId × Mailbox) → has_superiors rs x ≡ true → has_superiors (rs ++ r ∷ []) x ≡ true
kept_above rs r x h = of_superiors (λ n. has_row (box_of x.0.user n) (rs ++ r ∷ [])) x.0.name (λ n below.
    has_row-end (box_of x.0.user n) rs r ∙ ap (λ t. t || eq_by_cmp box_cmp (box_of x.0.user n) r.0) (of_superior (λ m. has_row (box_of x.0.user m) rs) x.0.name n h below))

all_above : (rs more : Boxes) (r : BoxId × Mailbox) → list_all (has_superiors rs) more ≡ true → list_all (has_superiors (rs ++ r ∷ [])) (more ++ r ∷ []) ≡ has_superiors rs r
all_above rs [] r h = and_true (has_superiors (rs ++ r ∷ []) r) ∙ above_end rs r
all_above rs (x ∷ more) r h = ap₂ (λ s t. s && t) (kept_above rs r x (first (has_superiors rs x) (list_all (has_superiors rs) more) h)) (all_above rs more r (second (has_superiors rs x) (list_all (has_superiors rs) more) h))

-- the parts of what rows have
module _ (house : House) (rs : Boxes) (are : are_rows house rs ≡ true) where
  two : (is_rising rs && list_all (is_row house) rs) ≡ true
  two = first (is_rising rs && list_all (is_row house) rs) (list_all (has_superiors rs) rs) are

  rise_of : is_rising rs ≡ true
  rise_of = first (is_rising rs) (list_all (is_row house) rs) two

  rows_of_house : list_all (is_row house) rs ≡ true
  rows_of_house = second (is_rising rs) (list_all (is_row house) rs) two

  superiors_of : list_all (has_superiors rs) rs ≡ true
  superiors_of = second (is_rising rs && list_all (is_row house) rs) (list_all (has_superiors rs) rs) are

-- what the front of rows has
pub rows_more : (house : House) (rs : Boxes) (place : ℕ) (d : BoxId × Mailbox) → place < length rs → are_rows house (take place rs) ≡ true
    → (is_rising (take (place + 1) rs) && is_row house (get_or rs place d) && has_superiors (take place rs) (get_or rs place d)) ≡ are_rows house (take (place + 1) rs)
rows_more house rs place d lt front =
    let r = get_or rs place d in
    let longer : take (place + 1) rs ≡ take place rs ++ r ∷ [] = take_more rs place d lt in
    let each : list_all (is_row house) (take (place + 1) rs) ≡ is_row house r =
    list_all_more (is_row house) rs place d lt ∙ ap (λ t. t && is_row house r) (rows_of_house house (take place rs) front) in
    let above : list_all (has_superiors (take (place + 1) rs)) (take (place + 1) rs) ≡ has_superiors (take place rs) r =
    ap (λ (t : Boxes). list_all (has_superiors t) t) longer ∙ all_above (take place rs) (take place rs) r (superiors_of house (take place rs) front) in
    ap₂ (λ s t. is_rising (take (place + 1) rs) && s && t) (sym each) (sym above)

below_front : (id : BoxId) (k : ℕ) (rs : Boxes) → rows.below_all box_cmp id rs ≡ true → rows.below_all box_cmp id (take k rs) ≡ true
below_front id zero rs below = refl
below_front id (suc k) [] below = refl
below_front id (suc k) (r ∷ rs) below =
    both _ _ (first (is_lt (box_cmp id r.0)) (rows.below_all box_cmp id rs) below) (below_front id k rs (second (is_lt (box_cmp id r.0)) (rows.below_all box_cmp id rs) below))

rising_front : (k : ℕ) (rs : Boxes) → is_rising rs ≡ true → is_rising (take k rs) ≡ true
rising_front zero rs rise = refl
rising_front (suc k) [] rise = refl
rising_front (suc k) (r ∷ rs) rise =
    both _ _ (below_front r.0 k rs (first (rows.below_all box_cmp r.0 rs) (is_rising rs) rise)) (rising_front k rs (second (rows.below_all box_cmp r.0 rs) (is_rising rs) rise))

each_front : (p : BoxId × Mailbox → Bool) (k : ℕ) (rs : Boxes) → list_all p rs ≡ true → list_all p (take k rs) ≡ true
each_front p zero rs all = refl
each_front p (suc k) [] all = refl
each_front p (suc k) (r ∷ rs) all = both _ _ (first (p r) (list_all p rs) all) (each_front p k rs (second (p r) (list_all p rs) all))

-- what is below all rows is below each
below_each : (id q : BoxId) (rs : Boxes) → rows.below_all box_cmp id rs ≡ true → has_row q rs ≡ true → box_cmp id q ≡ Less
below_each id q [] below there = absurd (true≢false (sym there))
below_each id q (r ∷ rs) below there =
    elim (eq_by_cmp box_cmp q r.0) as (λ t. eq_by_cmp box_cmp q r.0 ≡ t → is_some (cond t (Some r.1) (row_at q rs)) ≡ true → box_cmp id q ≡ Less) [
      | true ↦ λ e _. subst (λ (p : BoxId). box_cmp id p ≡ Less) (sym (tied q r.0 e)) (less (box_cmp id r.0) (first (is_lt (box_cmp id r.0)) (rows.below_all box_cmp id rs) below))
      | false ↦ λ e h. below_each id q rs (second (is_lt (box_cmp id r.0)) (rows.below_all box_cmp id rs) below) h
    ] refl there

-- a superior does not stand behind
not_behind : (id : BoxId) (n : List ℕ) → is_inferior n id.name ≡ true → box_cmp id (box_of id.user n) ≡ Less → ⊥
not_behind id n below behind =
    let before : box_cmp (box_of id.user n) id ≡ Less = ap (λ o. ordering_then o (slice_cmp nat_cmp n id.name)) (tied_itself nat_cmp_total id.user.0) ∙ superior_first n id.name below in
    true≢false (sym (ap is_eq (tied_itself boxes_total id)) ∙ ap is_eq (boxes_total.trans id (box_of id.user n) id behind before))

-- so a row in front of others has its superiors in front of them
front_above : (front more rest : Boxes) → is_rising (more ++ rest) ≡ true → list_all (has_superiors (front ++ rest)) more ≡ true → list_all (has_superiors front) more ≡ true
front_above front [] rest rise h = refl
front_above front (x ∷ more) rest rise h =
    both _ _
    (of_superiors (λ n. has_row (box_of x.0.user n) front) x.0.name (λ n below. elim (has_row (box_of x.0.user n) rest) as (λ t. has_row (box_of x.0.user n) rest ≡ t → has_row (box_of x.0.user n) front ≡ true) [
      | true ↦ λ e. absurd (not_behind x.0 n below (below_each x.0 (box_of x.0.user n) (more ++ rest) (first (rows.below_all box_cmp x.0 (more ++ rest)) (is_rising (more ++ rest)) rise) (has_row-append (box_of x.0.user n) more rest ∙ ap (λ t. has_row (box_of x.0.user n) more || t) e ∙ or_true (has_row (box_of x.0.user n) more))))
      | false ↦ λ e. sym (or-false (has_row (box_of x.0.user n) front)) ∙ ap (λ t. has_row (box_of x.0.user n) front || t) (sym e) ∙ sym (has_row-append (box_of x.0.user n) front rest)
          ∙ of_superior (λ m. has_row (box_of x.0.user m) (front ++ rest)) x.0.name n (first (has_superiors (front ++ rest) x) (list_all (has_superiors (front ++ rest)) more) h) below
    ] refl))
    (front_above front more rest (second (rows.below_all box_cmp x.0 (more ++ rest)) (is_rising (more ++ rest)) rise) (second (has_superiors (front ++ rest) x) (list_all (has_superiors (front ++ rest)) more) h))

-- rows that can stand have fronts that can
rows_front : (house : House) (k : ℕ) (rs : Boxes) → are_rows house rs ≡ true → are_rows house (take k rs) ≡ true
rows_front house k rs are =
    let parts : take k rs ++ drop k rs ≡ rs = take-append-drop k rs in
    let rise = rise_of house rs are in
    both _ _
    (both _ _ (rising_front k rs rise) (each_front (is_row house) k rs (rows_of_house house rs are)))
    (front_above (take k rs) (take k rs) (drop k rs) (ap is_rising parts ∙ rise)
    (ap (λ (t : Boxes). list_all (has_superiors t) (take k rs)) parts ∙ each_front (has_superiors rs) k rs (superiors_of house rs are)))

-- ---- the users of a house

-- one user more
pub users_more : (p : User → Bool) (house : House) (i : ℕ) → i < length house.accounts → list_all p (take (i + 1) (users_of house)) ≡ (list_all p (take i (users_of house)) && p (record { 0 = i }))
users_more p house i lt =
    let all = enumerate_from 0 house.accounts in
    let nobody : ℕ × Account = (0, record { name = []; password = [] }) in
    let user : ℕ × Account → User = λ a. record { 0 = a.0 } in
    let number : ℕ → User = λ n. record { 0 = n } in
    let plain : 0 + i ≡ i = omega arith in
    let within : i < length all = omega (arith, length-enumerate_from 0 house.accounts) in
    let here : get_or (users_of house) i (record { 0 = 0 }) ≡ record { 0 = i } =
    get_or-map user all i nobody (record { 0 = 0 }) within ∙ ap user (get_or-enumerate_from 0 house.accounts i nobody lt) ∙ ap number plain in
    list_all_more p (users_of house) i (record { 0 = 0 }) (omega (arith, length-map all user)) ∙ ap (λ u. list_all p (take i (users_of house)) && p u) here

pub users_all : (p : User → Bool) (house : House) (place : ℕ) → length house.accounts ≤ place → list_all p (take place (users_of house)) ≡ list_all p (users_of house)
users_all p house place le =
    let user : ℕ × Account → User = λ a. record { 0 = a.0 } in
    ap (list_all p) (take_all place (users_of house) (omega (arith, length-map (enumerate_from 0 house.accounts) user, length-enumerate_from 0 house.accounts)))

-- ---- rows that are refused

-- they make no store
pub refused_are_none : (house : House) (rs : Boxes) (place : ℕ) → IsRefusedAt house rs place → (are_rows house rs && have_fixed house rs) ≡ false
refused_are_none house rs place refused =
    elim (are_rows house rs && have_fixed house rs) as (λ t. (are_rows house rs && have_fixed house rs) ≡ t → t ≡ false) [
      | true ↦ λ e.
          let front = rows_front house (place + 1) rs (first (are_rows house rs) (have_fixed house rs) e) in
          let fixed = second (are_rows house rs) (have_fixed house rs) e in
          elim (cases_order place (length rs)) [
            | inr (inl within) ↦ sym front ∙ refused.here within
            | inl same ↦ sym fixed ∙ refused.missing (omega arith)
            | inr (inr behind) ↦ absurd (omega arith)
          ]
      | false ↦ λ e. refl
    ] refl

-- with whatever configuration
pub refused_make_none : (house : House) (conf : Conf) (rs : Boxes) (place : ℕ) → IsRefusedAt house rs place → makes_store house conf rs ≡ true → ⊥
refused_make_none house conf rs place refused makes =
    let parts = first (is_house house && are_rows house rs && have_fixed house rs) (knows_aliases house conf) makes in
    let are = second (is_house house) (are_rows house rs) (first (is_house house && are_rows house rs) (have_fixed house rs) parts) in
    let fixed = second (is_house house && are_rows house rs) (have_fixed house rs) parts in
    let no : true ≡ false = sym (both (are_rows house rs) (have_fixed house rs) are fixed) ∙ refused_are_none house rs place refused in
    cc

-- and they are not refused before that place
not_before : (house : House) (rs : Boxes) (one other : ℕ) → IsRefusedAt house rs one → IsRefusedAt house rs other → one < other → ⊥
not_before house rs one other here there lt =
    let front = rows_front house (one + 1) (take other rs) there.before in
    let same : take (one + 1) (take other rs) ≡ take (one + 1) rs = take-take (one + 1) other rs (omega arith) in
    let no : true ≡ false = sym front ∙ ap (are_rows house) same ∙ here.here (omega arith) in
    cc

pub one_place : (house : House) (rs : Boxes) (one other : ℕ) → IsRefusedAt house rs one → IsRefusedAt house rs other → one ≡ other
one_place house rs one other here there =
    elim (cases_order one other) [
      | inl same ↦ same
      | inr (inl less) ↦ absurd (not_before house rs one other here there less)
      | inr (inr more) ↦ absurd (not_before house rs other one there here more)
    ]

-- ---- the superiors of a name, byte by byte

all_joined : (p : List ℕ → Bool) (xs ys : List (List ℕ)) → list_all p (xs ++ ys) ≡ (list_all p xs && list_all p ys)
all_joined p [] ys = refl
all_joined p (x ∷ xs) ys = elim (p x) as (λ t. (t && list_all p (xs ++ ys)) ≡ ((t && list_all p xs) && list_all p ys)) [ true ↦ all_joined p xs ys | false ↦ refl ]

-- one byte more may end a superior
pub one_above : (p : List ℕ → Bool) (name : List ℕ) (k d : ℕ) → 1 ≤ k → k < length name
    → list_all p (superiors (take (k + 1) name)) ≡ (list_all p (superiors (take k name)) && cond (is_slash (get_or name k d)) (p (take k name)) true)
one_above p name k d low lt = elim (is_slash (get_or name k d)) as (λ b. is_slash (get_or name k d) ≡ b → list_all p (superiors (take (k + 1) name)) ≡ (list_all p (superiors (take k name)) && cond b (p (take k name)) true)) [
  | true ↦ λ e.
      let longer : superiors (take k name) ++ take k name ∷ [] ≡ superiors (take (k + 1) name) = one_ends name (superiors (take k name)) (superiors (take k name) ++ take k name ∷ []) k d low lt refl e refl in
      ap (list_all p) (sym longer) ∙ all_joined p (superiors (take k name)) (take k name ∷ []) ∙ ap (λ t. list_all p (superiors (take k name)) && t) (and_true (p (take k name)))
  | false ↦ λ e.
      let same : superiors (take k name) ≡ superiors (take (k + 1) name) = none_ends name (superiors (take k name)) k d low lt refl e in
      ap (list_all p) (sym same) ∙ sym (and_true (list_all p (superiors (take k name))))
] refl

pub none_above : (p : List ℕ → Bool) (name : List ℕ) → true ≡ list_all p (superiors (take 1 name))
none_above p name = ap (list_all p) (begins_empty name [] refl)

pub all_read : (p : List ℕ → Bool) (name : List ℕ) (k : ℕ) → length name ≤ k → list_all p (superiors (take k name)) ≡ list_all p (superiors name)
all_read p name k le = ap (λ (t : List ℕ). list_all p (superiors t)) (take_all k name le)
