-- An item finds the aims that it would find behind another with which it commutes.
use Rattle.std.proofs.Common.{◌≡◌, ℕ, Bool, true, false, not, ◌&&◌, cond, List, [], ◌∷◌, ◌++◌, map, filter, Option, Some, None, is_some, option_map, unwrap_or, refl, sym, ap, ap₂, ◌∙◌, true≢false}
use Rattle.std.specs.List.{AllByRecursion}
use Rattle.undo_base.specs.declared.keys.User.{User}
use Rattle.verb_core.specs.declared.conf.Conf.{Conf}
use Rattle.verb_core.specs.declared.conf.Filter.{Filter}
use Rattle.verb_core.specs.declared.conf.House.{House}
use Rattle.verb_core.specs.declared.item.Item.{Item}
use Rattle.verb_core.specs.declared.item.Aim.{Aim}
use Rattle.verb_core.specs.declared.item.Deed.{Deed}
use Rattle.verb_core.specs.declared.item.Deed.TheVariants.{Deliver, Append, Copy, Act as Acts, Notice}
use Rattle.verb_core.specs.declared.item.Act.TheVariants.{Give}
use Rattle.verb_core.specs.declared.mailbox.BoxId.{BoxId}
use Rattle.verb_core.specs.Names.{inbox, lost_found}
use Rattle.verb_core.specs.Boxes.{box_of, has_row}
use Rattle.verb_core.specs.Store.{MailStore, IsValid}
use Rattle.verb_core.specs.Items.{IsWellFormed, actor, text_in}
use Rattle.verb_core.specs.Recipients.{recipients, some_unknown}
use Rattle.verb_core.specs.Filters.{deciding}
use Rattle.verb_core.specs.Aims.{Sought, aim_at, into_or, and_postmaster, delivered, sought, sought_by}
use Rattle.verb_core.specs.Step.{Boxes, step, step_with}
use Rattle.verb_core.specs.Touched.{deed_touches, touches_box}
use Rattle.verb_core.proofs.AimNames.{sought_by-same}
use Rattle.verb_core.proofs.Frame.{other_stays}
use Rattle.touch_rules.specs.declared.touched.Touch.{Touch}
use Rattle.touch_rules.specs.declared.touched.Touch.TheVariants.{Keys, Tail, Whole, Names, Every}
use Rattle.touch_rules.specs.Table.{tail_on, looked_for, touches_of}
use Rattle.touch_rules.specs.Commuting.{commute}
use Rattle.touch_rules.specs.Swapping.{brings_mail, sets_conf, resolved, CanHave, Swap, SwapAnew}
use Rattle.touch_rules.proofs.Fitting.{commute_flip}
use Rattle.touch_rules.proofs.Changes.{has_kept}
use Rattle.touch_rules.proofs.Plain.{moves_boxes, row_of, changes, works}
use Rattle.touch_rules.proofs.Elsewhere.{Off, off_all, no_mail_of}
use Rattle.touch_rules.proofs.Orders.{conf_same, swap_given}

-- a mailbox to which mail comes, or that is touched as a whole, is there in both or in neither
abbrev HasSame : Boxes → Boxes → Touch → Type 0
HasSame rs ss (Keys u n keys writes) = Unit {0}
HasSame rs ss (Tail u n number) = has_row (box_of u n) rs ≡ has_row (box_of u n) ss
HasSame rs ss (Whole u n writes) = has_row (box_of u n) rs ≡ has_row (box_of u n) ss
HasSame rs ss (Names u writes) = Unit {0}
HasSame rs ss (Every u) = Unit {0}

all_first : (P : Touch → Type 0) (xs ys : List Touch) → AllByRecursion P (xs ++ ys) → AllByRecursion P xs
all_first P [] ys h = tt
all_first P (x ∷ xs) ys h = (h.0, all_first P xs ys h.1)

all_second : (P : Touch → Type 0) (xs ys : List Touch) → AllByRecursion P (xs ++ ys) → AllByRecursion P ys
all_second P [] ys h = h
all_second P (x ∷ xs) ys h = all_second P xs ys h.1

all_front : (P : Touch → Type 0) (number : ℕ) (xs ys : List Aim) → AllByRecursion P (map (tail_on number) (xs ++ ys)) → AllByRecursion P (map (tail_on number) xs)
all_front P number [] ys h = tt
all_front P number (x ∷ xs) ys h = (h.0, all_front P number xs ys h.1)

module _ (rs ss : Boxes) (number : ℕ) (name other : List ℕ) where
  abbrev one : User → Bool
  one u = has_row (box_of u name) rs

  abbrev two : User → Bool
  two u = has_row (box_of u name) ss

  -- a user's mailbox is an aim, or it is missed
  same_one : (u : User) (missed : List User) (b : Bool) → one u ≡ b → HasSame rs ss (tail_on number (aim_at u (cond b name other) 0)) → AllByRecursion (HasSame rs ss) (map looked_for (map (λ w. aim_at w name 0) (cond (not b) (u ∷ missed) missed)))
      → (one u ≡ two u) × AllByRecursion (HasSame rs ss) (map looked_for (map (λ w. aim_at w name 0) missed))
  same_one u missed true is aim gone = (aim, gone)
  same_one u missed false is aim gone = (gone.0, gone.1)

  same_users : (users : List User) → AllByRecursion (HasSame rs ss) (map (tail_on number) (into_or rs name other users).aims) → AllByRecursion (HasSame rs ss) (map looked_for (into_or rs name other users).missed)
      → AllByRecursion (λ (u : User). one u ≡ two u) users
  same_users [] aims gone = tt
  same_users (u ∷ users) aims gone =
      let h : (one u ≡ two u) × AllByRecursion (HasSame rs ss) (map looked_for (into_or rs name other users).missed) = same_one u (filter (λ w. not (one w)) users) (one u) refl aims.0 gone in
      (h.0, same_users users aims.1 h.1)

  aims_same : (users : List User) → AllByRecursion (λ (u : User). one u ≡ two u) users → map (λ u. aim_at u (cond (one u) name other) 0) users ≡ map (λ u. aim_at u (cond (two u) name other) 0) users
  aims_same [] h = refl
  aims_same (u ∷ users) h = ap₂ (λ (b : Bool) (found : List Aim). aim_at u (cond b name other) 0 ∷ found) h.0 (aims_same users h.1)

  missed_same : (users : List User) → AllByRecursion (λ (u : User). one u ≡ two u) users → filter (λ u. not (one u)) users ≡ filter (λ u. not (two u)) users
  missed_same [] h = refl
  missed_same (u ∷ users) h = ap₂ (λ (b : Bool) (us : List User). cond (not b) (u ∷ us) us) h.0 (missed_same users h.1)

  into_same : (users : List User) → AllByRecursion (HasSame rs ss) (map (tail_on number) (into_or rs name other users).aims) → AllByRecursion (HasSame rs ss) (map looked_for (into_or rs name other users).missed)
      → into_or rs name other users ≡ into_or ss name other users
  into_same users aims gone =
      let h : AllByRecursion (λ (u : User). one u ≡ two u) users = same_users users aims gone in
      ap₂ (λ (found : List Aim) (us : List User). record { aims = found; missed = map (λ u. aim_at u name 0) us }) (aims_same users h) (missed_same users h)

  into_all : (users : List User) → AllByRecursion (HasSame rs ss) (map (tail_on number) (into_or rs name other users).aims ++ map looked_for (into_or rs name other users).missed) → into_or rs name other users ≡ into_or ss name other users
  into_all users h = into_same users (all_first (HasSame rs ss) (map (tail_on number) (into_or rs name other users).aims) (map looked_for (into_or rs name other users).missed) h)
      (all_second (HasSame rs ss) (map (tail_on number) (into_or rs name other users).aims) (map looked_for (into_or rs name other users).missed) h)

module _ (house : House) (conf : Conf) (rs ss : Boxes) (i : Item) where
  abbrev here : MailStore
  here = record { house = house; conf = conf; boxes = rs }

  abbrev there_too : MailStore
  there_too = record { house = house; conf = conf; boxes = ss }

  post_same : (to : List (List ℕ)) (name : List ℕ) (users : List User) (b : Bool)
      → AllByRecursion (HasSame rs ss) (map (tail_on i.number) (cond b (record { aims = (into_or rs name inbox users).aims ++ aim_at house.postmaster lost_found 1 ∷ []; missed = (into_or rs name inbox users).missed }) (into_or rs name inbox users)).aims ++ map looked_for (cond b (record { aims = (into_or rs name inbox users).aims ++ aim_at house.postmaster lost_found 1 ∷ []; missed = (into_or rs name inbox users).missed }) (into_or rs name inbox users)).missed)
      → into_or rs name inbox users ≡ into_or ss name inbox users
  post_same to name users true h = into_same rs ss i.number name inbox users
      (all_front (HasSame rs ss) i.number (into_or rs name inbox users).aims (aim_at house.postmaster lost_found 1 ∷ []) (all_first (HasSame rs ss) (map (tail_on i.number) ((into_or rs name inbox users).aims ++ aim_at house.postmaster lost_found 1 ∷ [])) (map looked_for (into_or rs name inbox users).missed) h))
      (all_second (HasSame rs ss) (map (tail_on i.number) ((into_or rs name inbox users).aims ++ aim_at house.postmaster lost_found 1 ∷ [])) (map looked_for (into_or rs name inbox users).missed) h)
  post_same to name users false h = into_all rs ss i.number name inbox users h

  delivered_kept : (to : List (List ℕ)) (file : Option (Option (List ℕ))) → AllByRecursion (HasSame rs ss) (map (tail_on i.number) (delivered here to file).aims ++ map looked_for (delivered here to file).missed) → delivered here to file ≡ delivered there_too to file
  delivered_kept to None h = ap (and_postmaster here to) (post_same to inbox (recipients house conf to) (some_unknown house conf to) h)
  delivered_kept to (Some None) h = refl
  delivered_kept to (Some (Some name)) h = ap (and_postmaster here to) (post_same to name (recipients house conf to) (some_unknown house conf to) h)

  sought_kept : (text : List ℕ) (by : Option User) (d : Deed) → AllByRecursion (HasSame rs ss) (row_of (sought here text by d) i by d) → sought here text by d ≡ sought there_too text by d
  sought_kept text by (Deliver from to t) h = delivered_kept to (option_map (λ (f : Filter). f.file) (deciding conf from to text)) h
  sought_kept text by (Append mailbox flags moment t) h = into_all rs ss i.number mailbox lost_found (actor by (Append mailbox flags moment []) ∷ []) h
  sought_kept text by (Copy mailbox keys target) h = into_all rs ss i.number target lost_found (actor by (Copy mailbox keys target) ∷ []) h.1
  sought_kept text by (Acts (Give u mailbox t)) h = into_all rs ss i.number mailbox lost_found (u ∷ []) h
  sought_kept text by (Notice u t) h = into_all rs ss i.number inbox inbox (u ∷ []) h
  sought_kept text by _ h = refl

aims_kept : (s t : MailStore) (i : Item) → s.house ≡ t.house → s.conf ≡ t.conf → AllByRecursion (HasSame s.boxes t.boxes) (row_of (sought_by s i) i i.by i.deed) → sought_by s i ≡ sought_by t i
aims_kept s t i houses confs h =
    sought_kept s.house s.conf s.boxes t.boxes i (unwrap_or (text_in i.deed) []) i.by i.deed h
    ∙ ap₂ (λ (house : House) (conf : Conf). sought (record { house = house; conf = conf; boxes = t.boxes }) (unwrap_or (text_in i.deed) []) i.by i.deed) houses confs

no_aims_by : (s : MailStore) (text : List ℕ) (by : Option User) (d : Deed) → brings_mail d ≡ false → sought s text by d ≡ record { aims = []; missed = [] }
no_aims_by s text by (Deliver from to t) off = absurd (true≢false off)
no_aims_by s text by (Append mailbox flags moment t) off = absurd (true≢false off)
no_aims_by s text by (Copy mailbox keys target) off = absurd (true≢false off)
no_aims_by s text by (Acts (Give u mailbox t)) off = absurd (true≢false off)
no_aims_by s text by (Notice u t) off = absurd (true≢false off)
no_aims_by s text by _ off = refl

-- the aims that an item finds are such as it can have
pub can_find : (s : MailStore) (i : Item) → CanHave (sought_by s i) i
can_find s i off = no_aims_by s (unwrap_or (text_in i.deed) []) i.by i.deed off

-- ---- behind an item that commutes

-- a mailbox that an item with these aims does not touch is there afterwards where it was before
module _ (to : Sought) (s : MailStore) (i : Item) (moves : moves_boxes i.deed ≡ true) (can : CanHave to i) where
  has_off : (id : BoxId) → deed_touches (actor i.by i.deed) i.deed id ≡ false → has_row id (step_with to s i).0.boxes ≡ has_row id s.boxes
  has_off id off = ap is_some (other_stays id to s i (ap (λ (t : Sought). touches_box t i id) (can (no_mail_of i.deed moves)) ∙ off))

  behind : (ts : List Touch) → AllByRecursion (Off (deed_touches (actor i.by i.deed) i.deed)) ts → AllByRecursion (HasSame (step_with to s i).0.boxes s.boxes) ts
  behind [] off = tt
  behind (Keys u n keys w ∷ ts) off = (tt, behind ts off.1)
  behind (Tail u n number ∷ ts) off = (has_off (box_of u n) off.0, behind ts off.1)
  behind (Whole u n w ∷ ts) off = (has_off (box_of u n) off.0, behind ts off.1)
  behind (Names u w ∷ ts) off = (tt, behind ts off.1)
  behind (Every u ∷ ts) off = (tt, behind ts off.1)

  before : (ts : List Touch) → AllByRecursion (Off (deed_touches (actor i.by i.deed) i.deed)) ts → AllByRecursion (HasSame s.boxes (step_with to s i).0.boxes) ts
  before [] off = tt
  before (Keys u n keys w ∷ ts) off = (tt, before ts off.1)
  before (Tail u n number ∷ ts) off = (sym (has_off (box_of u n) off.0), before ts off.1)
  before (Whole u n w ∷ ts) off = (sym (has_off (box_of u n) off.0), before ts off.1)
  before (Names u w ∷ ts) off = (tt, before ts off.1)
  before (Every u ∷ ts) off = (tt, before ts off.1)

has_still : (to : Sought) (s : MailStore) (i : Item) → moves_boxes i.deed ≡ false → CanHave to i → (id : BoxId) → has_row id (step_with to s i).0.boxes ≡ has_row id s.boxes
has_still to s i still can id = ap (has_row id) (works to i i.by i.deed s.boxes still can) ∙ has_kept id (changes to i i.by i.deed s.boxes) s.boxes

-- an item finds behind another what it finds before it
finds_behind : (to : Sought) (s : MailStore) (i j : Item) → sets_conf i.deed ≡ false → CanHave to i → commute (row_of (sought_by (step_with to s i).0 j) j j.by j.deed) (row_of to i i.by i.deed) ≡ true
    → sought_by (step_with to s i).0 j ≡ sought_by s j
finds_behind to s i j plain can fit = elim (moves_boxes i.deed) as (λ b. moves_boxes i.deed ≡ b → sought_by (step_with to s i).0 j ≡ sought_by s j) [
  | true ↦ λ moves. aims_kept (step_with to s i).0 s j refl (conf_same s.house i.deed s.conf plain) (behind to s i moves can (row_of (sought_by (step_with to s i).0 j) j j.by j.deed) (off_all to i i.by i.deed (row_of (sought_by (step_with to s i).0 j) j j.by j.deed) moves fit))
  | false ↦ λ still. sought_by-same (step_with to s i).0 s j refl (conf_same s.house i.deed s.conf plain) (has_still to s i still can)
] refl

finds_before : (from : Sought) (s : MailStore) (i j : Item) → sets_conf j.deed ≡ false → CanHave from j → commute (row_of (sought_by s i) i i.by i.deed) (row_of from j j.by j.deed) ≡ true
    → sought_by s i ≡ sought_by (step_with from s j).0 i
finds_before from s i j plain can fit = elim (moves_boxes j.deed) as (λ b. moves_boxes j.deed ≡ b → sought_by s i ≡ sought_by (step_with from s j).0 i) [
  | true ↦ λ moves. aims_kept s (step_with from s j).0 i refl (sym (conf_same s.house j.deed s.conf plain)) (before from s j moves can (row_of (sought_by s i) i i.by i.deed) (off_all from j j.by j.deed (row_of (sought_by s i) i i.by i.deed) moves fit))
  | false ↦ λ still. sought_by-same s (step_with from s j).0 i refl (sym (conf_same s.house j.deed s.conf plain)) (λ id. sym (has_still from s j still can id))
] refl

-- items that commute may come in either order, each with the aims of its turn
pub swap_anew : (s : MailStore) (i j : Item) → IsValid s → IsWellFormed s.house i → IsWellFormed s.house j → sets_conf i.deed ≡ false → sets_conf j.deed ≡ false
    → commute (touches_of (resolved (sought_by s i) i)) (touches_of (resolved (sought_by (step s i).0 j) j)) ≡ true → SwapAnew s i j
swap_anew s i j valid formed formed' plain plain' fit =
    let to : Sought = sought_by s i in
    let from : Sought = sought_by (step s i).0 j in
    let can : CanHave to i = can_find s i in
    let can' : CanHave from j = can_find (step s i).0 j in
    let swap : Swap to from s i j = swap_given to from s i j valid formed formed' can can' fit (ap (λ b. b && sets_conf j.deed) plain) in
    let earlier : from ≡ sought_by s j = finds_behind to s i j plain can (commute_flip (row_of from j j.by j.deed) (row_of to i i.by i.deed) ∙ fit) in
    let later : to ≡ sought_by (step_with from s j).0 i = finds_before from s i j plain' can' fit in
    let whole : step_with to (step_with from s j).0 i ≡ step (step s j).0 i =
    ap (λ (t : Sought). step_with t (step_with from s j).0 i) later ∙ ap (λ (t : Sought). step (step_with t s j).0 i) earlier in
    record {
      store = swap.store ∙ ap (λ r. r.0) whole;
      first = sym (ap (λ r. r.1) whole) ∙ swap.first;
      second = swap.second ∙ ap (λ (t : Sought). (step_with t s j).1) earlier;
    }
