-- What a client knows of mail by UID lasts over items, cycles and withdrawals.
use Rattle.std.proofs.Common.{◌≡◌, ◌≢◌, ℕ, ◌<◌, ◌≤◌, ◌==◌, Bool, true, false, cond, arith, refl, sym, ◌∙◌, ap, subst, inl, inr, List, [], ◌∷◌, ◌++◌, drop, find, length, map, take, Option, Some, None, is_some, unwrap_or, eqb-true}
use Rattle.std.specs.Prelude.{◌⊎◌}
use Rattle.std.specs.Cmp.{first_so}
use Rattle.std.specs.Option.{option_or}
use Rattle.std.proofs.lemmas.List.{append-nil, take-append-drop}
use Rattle.std.proofs.lemmas.List.Folds.{find-append}
use Rattle.verb_core.specs.declared.item.Item.{Item}
use Rattle.verb_core.specs.declared.mailbox.Body.{Body}
use Rattle.verb_core.specs.declared.mailbox.BoxId.{BoxId}
use Rattle.verb_core.specs.declared.mailbox.Mailbox.{Mailbox}
use Rattle.verb_core.specs.Boxes.{has_row, row_at}
use Rattle.verb_core.specs.Items.{IsTimeline, NumbersApart, text_in, text_of}
use Rattle.verb_core.specs.Step.{Boxes, run, step}
use Rattle.verb_core.specs.Store.{IsValid}
use Rattle.verb_core.proofs.StampLaws.{stamp-each}
use Rattle.verb_bytes.specs.declared.journal.CycleAsk.{CycleAsk}
use Rattle.withdraw.specs.declared.undone.UndoneBehind.{UndoneBehind}
use Rattle.withdraw.specs.Coming.{TextsComeBack}
use Rattle.withdraw.proofs.Back.{timeline_back}
use Rattle.withdraw.proofs.Texts.{texts_back}
use Rattle.store_kept.specs.Bases.{HasBase}
use Rattle.store_kept.specs.Coming.{Comes, ComesIf, HasUndone}
use Rattle.store_kept.specs.Kept.{Kept, Marks, mailbox_at, origin_of, performed, stamp_at, store_of, upgraded}
use Rattle.store_kept.specs.Texts.{items_behind, text_at_hand, text_before, text_kept, text_with}
use Rattle.store_kept.proofs.Coming.{base_at_hand, base_kept, brings, comes_from, items_first, text_found, with_first}
use Rattle.repair_desk.specs.Renewals.{extends_one, stamp_after}
use Rattle.repair_desk.specs.Repairs.{position}
use Rattle.repair_desk.proofs.Extended.{each, itself, transitive}
use Rattle.repair_desk.proofs.Growth.{step_extends}
use Rattle.repair_desk.proofs.Points.{within}
use Rattle.cycle_rules.specs.Asking.{Due, NoNumbers, NoPoint, Repeats, Rewinds, after_cycle, due_anew, due_at}
use Rattle.cycle_rules.specs.Cycles.{Cycled, cycled_at, leaves_numbers, timeline_at}
use Rattle.cycle_rules.specs.Withdrawals.{after_withdrawal, restored_items, unedit_of, withdrawn_at}
use Rattle.mail_cycle.specs.Permanence.{StampsLast, TextsLast, TextsStay, UidsLast, UidsStay}
use Rattle.mail_cycle.proofs.Left.{left_texts, repaired_texts}
use Rattle.mail_cycle.proofs.Made.{through_stays}

-- ---- no step, and two steps

own_mailbox : (o : Option Mailbox) (m : Mailbox) → o ≡ Some m → extends_one o m ≡ true
own_mailbox None m e = cc
own_mailbox (Some old) m e = let same : m ≡ old = cc in ap (λ (new : Mailbox). extends_one (Some old) new) same ∙ itself old

-- what is known of snapshots makes no difference
pub lasts_marked : (s : Kept) (marks : Marks) → UidsLast s (record s { marks = marks })
lasts_marked s marks = record {
  next = omega arith;
  stamps = λ id stamp m below stamped mail. (stamped, own_mailbox (mailbox_at s id) m mail);
  texts = λ body text number rev is. is;
}

-- nor does an upgrade, which changes no mailbox
pub lasts_upgraded : (s : Kept) → UidsLast s (upgraded s)
lasts_upgraded s = record {
  next = omega arith;
  stamps = λ id stamp m below stamped mail. (stamped, own_mailbox (mailbox_at s id) m mail);
  texts = λ body text number rev is. is;
}

pub lasts_itself : (s : Kept) → UidsLast s s
lasts_itself s = record {
  next = omega arith;
  stamps = λ id stamp m below stamped mail. (stamped, own_mailbox (mailbox_at s id) m mail);
  texts = λ body text number rev is. is;
}

stamps_on : (a b c : Kept) → a.next ≤ b.next → StampsLast a b → StampsLast b c → StampsLast a c
stamps_on a b c rises first second id stamp m below stamped mail = by (mailbox_at b id) refl (second id stamp m (omega arith) stamped mail)
  where
    along : (o : Option Mailbox) (n : Mailbox) → extends_one o n ≡ true → extends_one (Some n) m ≡ true → extends_one o m ≡ true
    along None n g h = cc
    along (Some old) n g h = transitive old n m g h

    by : (o : Option Mailbox) → mailbox_at b id ≡ o → (stamp_at b id ≡ Some stamp) × (extends_one o m ≡ true) → (stamp_at a id ≡ Some stamp) × (extends_one (mailbox_at a id) m ≡ true)
    by None e is = cc
    by (Some n) e is = let then = first id stamp n below is.0 e in (then.0, along (mailbox_at a id) n then.1 is.1)

pub lasts_on : (a b c : Kept) → UidsLast a b → UidsLast b c → UidsLast a c
lasts_on a b c first second =
    let low = first.next in
    let high = second.next in
    record {
      next = omega arith;
      stamps = stamps_on a b c low first.stamps second.stamps;
      texts = λ body text number rev is. first.texts body text number rev (second.texts body text (omega arith) (omega arith) is);
    }

-- ---- an item

-- an item of another number brings no text of a body
skipped : (body : Body) (i : Item) (t more : List Item) → i.number ≢ body.origin → find (brings body) ((t ++ i ∷ []) ++ more) ≡ find (brings body) (t ++ more)
skipped body i [] more apart =
    elim (brings body i) as (λ b. brings body i ≡ b → cond b (Some i) (find (brings body) more) ≡ find (brings body) more) [
      | true ↦ λ here. absurd (apart (eqb-true i.number body.origin (first_so (i.number == body.origin) (i.rev == body.rev) (first_so _ (is_some (text_in i.deed)) here))))
      | false ↦ λ other. refl
    ] refl
skipped body i (j ∷ t) more apart = ap (λ (o : Option Item). cond (brings body j) (Some j) o) (skipped body i t more apart)

module _ (s : Kept) (i : Item) (valid : IsValid (store_of s)) (named : map (λ (r : BoxId × ℕ). r.0) s.stamps ≡ map (λ (r : BoxId × Mailbox). r.0) (store_of s).boxes) (number : i.number ≡ s.next) where
  item_stamps : StampsLast s (performed s i)
  item_stamps id stamp m below stamped mail =
      by (has_row id (store_of s).boxes) refl mail
      (ap (λ (o : Option Mailbox). cond (is_some o) (cond (has_row id (store_of s).boxes) (row_at id s.stamps) (Some i.number)) None) (sym mail)
      ∙ sym (stamp-each i.number (store_of s).boxes (step (store_of s) i).0.boxes s.stamps id named) ∙ stamped)
    where
      by : (b : Bool) → has_row id (store_of s).boxes ≡ b → row_at id (step (store_of s) i).0.boxes ≡ Some m → cond b (row_at id s.stamps) (Some i.number) ≡ Some stamp
          → (stamp_at s id ≡ Some stamp) × (extends_one (mailbox_at s id) m ≡ true)
      by true there after is = (is, step_extends (store_of s) i id m valid after there)
      by false there after is = let same : i.number ≡ stamp = cc in absurd (omega arith)

  item_texts : TextsLast s (performed s i)
  item_texts body text origin rev is =
      sym (ap (λ (o : Option Item). option_or (text_found o) (text_before s.texts body)) (skipped body i s.timeline (items_behind s.undone) (λ same. absurd (omega arith)))) ∙ is

  pub lasts_performed : UidsLast s (performed s i)
  lasts_performed = record { next = omega arith; stamps = item_stamps; texts = item_texts }

-- ---- a cycle

-- a stamp that is not the cycle's was there, and its mailbox is extended
stamp_kept : (before : Boxes) (stamps : List (BoxId × ℕ)) (c stamp : ℕ) (id : BoxId) (m : Mailbox) → stamp < c → stamp_after before stamps c (id, m) ≡ stamp
    → (row_at id stamps ≡ Some stamp) × (extends_one (row_at id before) m ≡ true)
stamp_kept before stamps c stamp id m below is = by (extends_one (row_at id before) m) (row_at id stamps) is
  where
    by : (b : Bool) (o : Option ℕ) → cond b (unwrap_or o c) c ≡ stamp → (o ≡ Some stamp) × (b ≡ true)
    by false o e = absurd (omega arith)
    by true None e = absurd (omega arith)
    by true (Some old) e = (ap (λ n. Some n) e, refl)

-- a text is of the first items, or none of these brings it
in_parts : (body : Body) (text : List ℕ) (xs ys : List Item) → text_of (xs ++ ys) body ≡ Some text → (text_of xs body ≡ Some text) ⊎ ((find (brings body) xs ≡ None) × (text_of ys body ≡ Some text))
in_parts body text xs ys e = by (find (brings body) xs) refl (sym (ap text_found (find-append (brings body) xs ys)) ∙ e)
  where
    by : (o : Option Item) → find (brings body) xs ≡ o → text_found (option_or o (find (brings body) ys)) ≡ Some text → (text_of xs body ≡ Some text) ⊎ ((find (brings body) xs ≡ None) × (text_of ys body ≡ Some text))
    by None none is = inr (none, is)
    by (Some i) here is = inl (ap text_found here ∙ is)

none_first : (body : Body) (xs ys : List Item) → find (brings body) (xs ++ ys) ≡ None → find (brings body) xs ≡ None
none_first body xs ys e = by (find (brings body) xs) (sym (find-append (brings body) xs ys) ∙ e)
  where
    by : (o : Option Item) → option_or o (find (brings body) ys) ≡ None → o ≡ None
    by None is = refl
    by (Some i) is = is

-- what stood behind a place, where none of the items through it brings it
rest_text : (body : Body) (text : List ℕ) (place : ℕ) (t : List Item) → find (brings body) (take place t) ≡ None → text_of (drop place t) body ≡ Some text → text_of t body ≡ Some text
rest_text body text place t none e =
    subst (λ (items : List Item). text_of items body ≡ Some text) (take-append-drop place t)
    (ap text_found (find-append (brings body) (take place t) (drop place t)) ∙ ap (λ (o : Option Item). text_found (option_or o (find (brings body) (drop place t)))) none ∙ e)

module _ (s : Kept) (at : ℕ) (ask : CycleAsk) (base : HasBase s) (undone : HasUndone s) (apart : NumbersApart s.timeline) where
  cycle_stamps : (place : ℕ) → StampsLast s (after_cycle s ask (cycled_at s at ask place))
  cycle_stamps place id stamp m below stamped mail =
      let after : Boxes = (run s.base (timeline_at s at ask place)).boxes in
      let one : Some (stamp_after (store_of s).boxes s.stamps s.next (id, m)) ≡ Some stamp = sym (each (store_of s).boxes after s.stamps s.next id m mail) ∙ stamped in
      stamp_kept (store_of s).boxes s.stamps s.next stamp id m below (let same : stamp_after (store_of s).boxes s.stamps s.next (id, m) ≡ stamp = cc in same)

  -- a text that is at hand afterwards is one of the items that are left, or of those that stood behind the point, or comes with the base
  cycle_texts : (place : ℕ) → place ≤ length s.timeline → TextsLast s (after_cycle s ask (cycled_at s at ask place))
  cycle_texts place le body text origin rev is = from (comes_from s.texts (timeline_at s at ask place ++ drop place s.timeline) body text is)
    where
      front_none : find (brings body) (timeline_at s at ask place) ≡ None → find (brings body) (take place s.timeline) ≡ None
      front_none none = subst (λ (items : List Item). find (brings body) items ≡ None) (through_stays s at ask place le)
          (none_first body (take place (timeline_at s at ask place)) (drop place (timeline_at s at ask place)) (ap (find (brings body)) (take-append-drop place (timeline_at s at ask place)) ∙ none))

      of_parts : (text_of (timeline_at s at ask place) body ≡ Some text) ⊎ ((find (brings body) (timeline_at s at ask place) ≡ None) × (text_of (drop place s.timeline) body ≡ Some text)) → text_of s.timeline body ≡ Some text
      of_parts (inl left) = left_texts s at ask place body text apart (omega arith) (λ same. absurd (omega arith)) left
      of_parts (inr later) = rest_text body text place s.timeline (front_none later.0) later.1

      from : (text_of (timeline_at s at ask place ++ drop place s.timeline) body ≡ Some text) ⊎ ((find (brings body) (timeline_at s at ask place ++ drop place s.timeline) ≡ None) × (text_before s.texts body ≡ Some text))
          → text_at_hand s body ≡ Some text
      from (inl own) = items_first s.texts s.timeline (items_behind s.undone) body text (of_parts (in_parts body text (timeline_at s at ask place) (drop place s.timeline) own))
      from (inr before) = base_at_hand s body text base undone before.1

  lasts_at : (place : ℕ) → place ≤ length s.timeline → UidsLast s (after_cycle s ask (cycled_at s at ask place))
  lasts_at place le = record { next = omega arith; stamps = cycle_stamps place; texts = cycle_texts place le }

  abbrev LastsBy : Due → Type 0
  LastsBy (Repeats report) = Unit {0}
  LastsBy NoPoint = Unit {0}
  LastsBy NoNumbers = Unit {0}
  LastsBy (Rewinds due) = UidsLast s (after_cycle s ask due)

  by_place : (o : Option ℕ) → position s.timeline ask.point ≡ o → LastsBy (due_at s at ask o)
  by_place None there = tt
  by_place (Some place) there =
      elim (leaves_numbers s ask) as (λ b. LastsBy (cond b (Rewinds (cycled_at s at ask place)) NoNumbers)) [ true ↦ lasts_at place (within s.timeline ask.point place there) | false ↦ tt ]

-- what a cycle leaves lasts
pub lasts_cycled : (s : Kept) (at : ℕ) (ask : CycleAsk) (due : Cycled) → HasBase s → HasUndone s → NumbersApart s.timeline → due_anew s at ask ≡ Rewinds due → UidsLast s (after_cycle s ask due)
lasts_cycled s at ask due base undone apart is = subst (LastsBy s at ask base undone apart) is (by_place s at ask base undone apart (position s.timeline ask.point) refl)

-- ---- a withdrawal

-- what comes back was at hand
pub lasts_withdrawn : (s : Kept) (at : ℕ) (key : List ℕ) (last : UndoneBehind) → HasBase s → IsTimeline s.house s.timeline → s.undone ≡ Some last → Comes (origin_of s) s.timeline s.next last
    → TextsComeBack s.timeline last → UidsLast s (after_withdrawal s key (withdrawn_at s at last))
lasts_withdrawn s at key last base timeline is comes texts = record { next = omega arith; stamps = stamps_then; texts = texts_then }
  where
    led : Boxes
    led = (run s.base (withdrawn_at s at last).timeline).boxes

    stamps_then : StampsLast s (after_withdrawal s key (withdrawn_at s at last))
    stamps_then id stamp m below stamped mail =
        let one : Some (stamp_after (store_of s).boxes s.stamps s.next (id, m)) ≡ Some stamp = sym (each (store_of s).boxes led s.stamps s.next id m mail) ∙ stamped in
        stamp_kept (store_of s).boxes s.stamps s.next stamp id m below (let same : stamp_after (store_of s).boxes s.stamps s.next (id, m) ≡ stamp = cc in same)

    -- what comes back was at hand, and so was what comes with the base
    restored : (body : Body) (text : List ℕ) → body.origin < s.next → text_of (withdrawn_at s at last).timeline body ≡ Some text → text_at_hand s body ≡ Some text
    restored body text origin left =
        let whole : IsTimeline s.house (restored_items s last) = timeline_back s.house s.timeline last comes.back timeline in
        with_first s.texts (s.timeline ++ items_behind s.undone) body text
        (subst (λ (o : Option UndoneBehind). text_of (s.timeline ++ items_behind o) body ≡ Some text) (sym is)
        (texts_back s.house s.timeline last body text timeline comes.back texts (repaired_texts s at (unedit_of s last) body text whole.apart (omega arith) left)))

    by_source : (body : Body) (text : List ℕ) → body.origin < s.next
        → (text_of (withdrawn_at s at last).timeline body ≡ Some text) ⊎ ((find (brings body) (withdrawn_at s at last).timeline ≡ None) × (text_before s.texts body ≡ Some text)) → text_at_hand s body ≡ Some text
    by_source body text origin (inl own) = restored body text origin own
    by_source body text origin (inr before) = base_at_hand s body text base (subst (ComesIf (origin_of s) s.timeline s.next) (sym is) comes) before.1

    texts_then : TextsLast s (after_withdrawal s key (withdrawn_at s at last))
    texts_then body text origin rev at_hand =
        by_source body text origin
        (comes_from s.texts (withdrawn_at s at last).timeline body text (subst (λ (items : List Item). text_with s.texts items body ≡ Some text) (append-nil (withdrawn_at s at last).timeline) at_hand))

-- ---- no text comes back but by a withdrawal

pub stay_itself : (s : Kept) → TextsStay s s
stay_itself s body text origin rev is = is

pub stay_marked : (s : Kept) (marks : Marks) → TextsStay s (record s { marks = marks })
stay_marked s marks body text origin rev is = is

pub stay_upgraded : (s : Kept) → TextsStay s (upgraded s)
stay_upgraded s body text origin rev is = is

pub stay_on : (a b c : Kept) → a.next ≤ b.next → TextsStay a b → TextsStay b c → TextsStay a c
stay_on a b c rises first second body text origin rev is = first body text origin rev (second body text (omega arith) (omega arith) is)

pub stay_performed : (s : Kept) (i : Item) → i.number ≡ s.next → TextsStay s (performed s i)
stay_performed s i number body text origin rev is =
    let same : find (brings body) (s.timeline ++ i ∷ []) ≡ find (brings body) s.timeline =
    ap (find (brings body)) (sym (append-nil (s.timeline ++ i ∷ []))) ∙ skipped body i s.timeline [] (λ same. absurd (omega arith)) ∙ ap (find (brings body)) (append-nil s.timeline) in
    sym (ap (λ (o : Option Item). option_or (text_found o) (text_before s.texts body)) same) ∙ is

module _ (s : Kept) (at : ℕ) (ask : CycleAsk) (base : HasBase s) (apart : NumbersApart s.timeline) where
  stay_at : (place : ℕ) → TextsStay s (after_cycle s ask (cycled_at s at ask place))
  stay_at place body text origin rev is = from (comes_from s.texts (timeline_at s at ask place) body text is)
    where
      from : (text_of (timeline_at s at ask place) body ≡ Some text) ⊎ ((find (brings body) (timeline_at s at ask place) ≡ None) × (text_before s.texts body ≡ Some text)) → text_kept s body ≡ Some text
      from (inl own) = with_first s.texts s.timeline body text (left_texts s at ask place body text apart (omega arith) (λ same. absurd (omega arith)) own)
      from (inr before) = base_kept s body text base before.1

  abbrev StayBy : Due → Type 0
  StayBy (Repeats report) = Unit {0}
  StayBy NoPoint = Unit {0}
  StayBy NoNumbers = Unit {0}
  StayBy (Rewinds due) = TextsStay s (after_cycle s ask due)

  stay_by_place : (o : Option ℕ) → StayBy (due_at s at ask o)
  stay_by_place None = tt
  stay_by_place (Some place) = elim (leaves_numbers s ask) as (λ b. StayBy (cond b (Rewinds (cycled_at s at ask place)) NoNumbers)) [ true ↦ stay_at place | false ↦ tt ]

pub stay_cycled : (s : Kept) (at : ℕ) (ask : CycleAsk) (due : Cycled) → HasBase s → NumbersApart s.timeline → due_anew s at ask ≡ Rewinds due → TextsStay s (after_cycle s ask due)
stay_cycled s at ask due base apart is = subst (StayBy s at ask base apart) is (stay_by_place s at ask base apart (position s.timeline ask.point))

-- what a client knows lasts with them
pub uids_stay_on : (a b c : Kept) → UidsStay a b → UidsStay b c → UidsStay a c
uids_stay_on a b c first second = (lasts_on a b c first.0 second.0, stay_on a b c first.0.next first.1 second.1)
