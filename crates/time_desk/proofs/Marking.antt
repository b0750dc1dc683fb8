-- Where snapshots lie behind a repair.
use Rattle.std.proofs.Common.{◌≡◌, ℕ, zero, suc, ◌≤◌, List, ◌∷◌, ◌++◌, length, map, take, drop, length-take-le, refl, ap, sym, subst, ◌∙◌, arith, []}
use Rattle.std.proofs.lemmas.List.{length-append, take-append-le}
use Rattle.verb_core.specs.declared.item.Item.{Item}
use Rattle.shelf.specs.Marks.{marks_at_or_before}
use Rattle.verb_bytes.specs.declared.journal.CycleAsk.{CycleAsk}
use Rattle.verb_core.specs.declared.item.Shown.{Shown}
use Rattle.store_kept.specs.Kept.{Kept}
use Rattle.repair_desk.specs.Repairs.{inserted, kept as kept_of, repaired}
use Rattle.repair_desk.proofs.Points.{front, within}
use Rattle.withdraw.specs.declared.undone.UndoneBehind.{UndoneBehind}
use Rattle.withdraw.specs.Unediting.{as_shown}
use Rattle.withdraw.proofs.Back.{front_back}
use Rattle.cycle_rules.specs.Cycles.{repair_of, repaired_items}
use Rattle.cycle_rules.specs.Repairing.{Repair, front_in}
use Rattle.cycle_rules.specs.Withdrawals.{restored_items, unedit_of}
use Rattle.mail_cycle.specs.Comparing.{compared_from, timeline_by, told_by}
use Rattle.cycle_rules.specs.Judging.{shown_after}
use Rattle.mail_cycle.specs.Leaving.{IsMade, items_left}
use Rattle.time_desk.specs.Cycling.{IsCycled}
use Rattle.mail_cycle.specs.declared.settling.Rewound.{Rewound}
use Rattle.desk_journal.specs.Stored.{MarksLie}
use Rattle.desk_journal.proofs.Marking.{Mark, marks_rewound}

-- ---- a repair

shown_front : (place front : ℕ) (t : List Item) (now : List Shown) → place ≤ front → take place (shown_after front t now) ≡ take place t
shown_front zero front t now less = refl
shown_front (suc place) front [] now less = refl
shown_front (suc place) zero (i ∷ t) now less = absurd (omega arith)
shown_front (suc place) (suc front) (i ∷ t) now less = ap (λ (rest : List Item). i ∷ rest) (shown_front place front t now (omega arith))

pub length_shown : (front : ℕ) (t : List Item) (now : List Shown) → length (shown_after front t now) ≡ length t
length_shown front [] now = refl
length_shown zero (i ∷ t) now = ap suc (length_shown zero t (drop 1 now))
length_shown (suc front) (i ∷ t) now = ap suc (length_shown front t now)

-- it leaves the items through its place as they were
module _ (s : Kept) (at : ℕ) (repair : Repair) (now : List Shown) (same : take repair.place repair.items ≡ take repair.place s.timeline) (long : repair.place ≤ length repair.items) where
  left_front : take repair.place (timeline_by s at repair repair.items now) ≡ take repair.place s.timeline
  left_front =
      take-append-le repair.place (shown_after (front_in repair) repair.items now) (told_by s at repair now)
      (omega (arith, long, length_shown (front_in repair) repair.items now))
      ∙ shown_front repair.place (front_in repair) repair.items now (omega arith)
      ∙ same

  left_long : repair.place ≤ length (timeline_by s at repair repair.items now)
  left_long =
      let shown = shown_after (front_in repair) repair.items now in
      omega (arith, long, length_shown (front_in repair) repair.items now, length-append shown (told_by s at repair now))

-- the snapshots at its place or before stay marked, where what was read is what was stored
rework_marks : (payloads : List (List ℕ)) (a b : Kept) (at : ℕ) (repair : Repair) (honest : Type 0) (made : Rewound) (marks : List Mark) → honest → IsMade a at repair honest made
    → take repair.place repair.items ≡ take repair.place a.timeline → repair.place ≤ length repair.items
    → b.base ≡ a.base → b.timeline ≡ items_left a.timeline made → MarksLie payloads a marks → MarksLie payloads b (marks_at_or_before made.place marks)
rework_marks payloads a b at repair honest made marks truth is same long base put all =
    let from = is.made_from in
    let now = compared_from repair is.first is.count from.heard in
    let items : b.timeline ≡ timeline_by a at repair repair.items now = put ∙ from.leaves.timeline ∙ ap (λ (t : List Item). timeline_by a at repair t now) (from.same truth) in
    subst (λ (n : ℕ). MarksLie payloads b (marks_at_or_before n marks)) (sym from.leaves.place)
    (marks_rewound payloads a b repair.place marks base (ap (take repair.place) items ∙ left_front a at repair now same long)
    (subst (λ (t : List Item). repair.place ≤ length t) (sym items) (left_long a at repair now same long)) all)

-- ---- a cycle

pub made_marks : (payloads : List (List ℕ)) (a b : Kept) (at : ℕ) (ask : CycleAsk) (honest : Type 0) (made : Rewound) (marks : List Mark) → honest → IsCycled a at ask honest made
    → b.base ≡ a.base → b.timeline ≡ items_left a.timeline made → MarksLie payloads a marks → MarksLie payloads b (marks_at_or_before made.place marks)
made_marks payloads a b at ask honest made marks truth is base put all =
    let le : is.place ≤ length a.timeline = within a.timeline ask.point is.place is.is_place in
    let head = take is.place a.timeline ++ inserted a.next at ask.inserts in
    let later = map (repaired ask a.next) (kept_of ask (drop is.place a.timeline)) in
    let long : is.place ≤ length (repaired_items a at ask is.place) =
    omega (arith, le, length-take-le is.place a.timeline le, length-append head later, length-append (take is.place a.timeline) (inserted a.next at ask.inserts)) in
    rework_marks payloads a b at (repair_of a at ask is.place) honest made marks truth is.is_made (front a.timeline ask a.next at is.place le) long base put all

-- ---- a withdrawal

pub withdrawn_marks : (payloads : List (List ℕ)) (a b : Kept) (at : ℕ) (last : UndoneBehind) (honest : Type 0) (made : Rewound) (marks : List Mark) → honest → IsMade a at (unedit_of a last) honest made
    → b.base ≡ a.base → b.timeline ≡ items_left a.timeline made → MarksLie payloads a marks → MarksLie payloads b (marks_at_or_before made.place marks)
withdrawn_marks payloads a b at last honest made marks truth is base put all =
    let le : last.position ≤ length a.timeline = is.place in
    let head = take last.position a.timeline in
    let later = map (as_shown (drop last.position a.timeline)) last.later in
    let rest = drop last.placed a.timeline in
    let long : last.position ≤ length (restored_items a last) =
    omega (arith, le, length-take-le last.position a.timeline le, length-append head (later ++ rest), length-append (head ++ later) rest, length-append head later) in
    rework_marks payloads a b at (unedit_of a last) honest made marks truth is (front_back a.timeline last le) long base put all
