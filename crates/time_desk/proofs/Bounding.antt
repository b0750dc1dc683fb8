-- How many items a repair leaves, and how many a cycle performs at most that is refused.
use Rattle.std.proofs.Common.{◌≡◌, ◌∙◌, ℕ, ◌+◌, ◌-◌, ◌≤◌, arith, Bool, true, false, cond, refl, sym, ap, subst, suc, List, [], ◌∷◌, ◌++◌, drop, length, Option, Some, None, Result, Ok, Err}
use Rattle.std.specs.Prelude.{OnErr, filter, not}
use Rattle.std.proofs.lemmas.List.{length-append, length-drop, length-map}
use Rattle.verb_core.specs.declared.item.Item.{Item}
use Rattle.verb_core.specs.Store.{MailStore}
use Rattle.verb_bytes.specs.declared.journal.CycleAsk.{CycleAsk}
use Rattle.paradox.specs.declared.reports.Report.{Report}
use Rattle.stored_items.specs.Stored.{AllHeard}
use Rattle.store_kept.specs.Kept.{Kept, newest_at}
use Rattle.repair_desk.specs.Repairs.{edited_at, is_dropped, numbers_of, position}
use Rattle.repair_desk.proofs.Points.{within}
use Rattle.cycle_rules.specs.Asking.{Due, NoNumbers, NoPoint, Repeats, Rewinds, due_anew, due_at}
use Rattle.cycle_rules.specs.Cycles.{cycled_at, leaves_numbers, repair_of}
use Rattle.cycle_rules.specs.Repairing.{Cycled, Repair, front_in}
use Rattle.cycle_rules.specs.Judging.{shown_after}
use Rattle.mail_cycle.specs.Comparing.{broken_by, compared_from, told_by}
use Rattle.mail_cycle.specs.Leaving.{IsMadeFrom, items_left}
use Rattle.mail_cycle.specs.declared.settling.Rewound.{Rewound}
use Rattle.mail_cycle.proofs.Cycled.{few_told}
use Rattle.mail_cycle.proofs.Left.{left_few, length_repaired}
use Rattle.time_desk.specs.Cycling.{IsCycled, most_performed, most_tried}
use Rattle.time_desk.proofs.Marking.{length_shown}

-- items as they were read are as many
heard_length : (items heard : List Item) → AllHeard items heard → length heard ≡ length items
heard_length [] [] all = refl
heard_length [] (h ∷ hs) all = absurd all
heard_length (i ∷ items) [] all = absurd all
heard_length (i ∷ items) (h ∷ hs) all = ap suc (heard_length items hs all.1)

-- it has the items through the place, the acts that come in, the later ones that stay, and the notices
pub made_length : (kept : Kept) (at : ℕ) (repair : Repair) (first : MailStore) (count : ℕ) (honest : Type 0) (made : Rewound) → length repair.items ≡ repair.place + repair.acts + repair.kept → IsMadeFrom kept at repair first count honest made
    → length (items_left kept.timeline made) ≡ repair.place + repair.acts + made.report.kept + length made.report.notices
made_length kept at repair first count honest made long is =
    let now = compared_from repair first count is.heard in
    let told = told_by kept at repair now in
    ap (λ (t : List Item). length t) is.leaves.timeline
    ∙ whole (length (shown_after (front_in repair) is.heard now ++ told)) (length (shown_after (front_in repair) is.heard now)) (length is.heard) (length repair.items)
    repair.place repair.acts repair.kept (length told) (length (numbers_of told))
    (length-append (shown_after (front_in repair) is.heard now) told) (length_shown (front_in repair) is.heard now) (heard_length repair.items is.heard is.all) long (length-map told (λ (i : Item). i.number))
    ∙ ap (λ (r : Report). repair.place + repair.acts + r.kept + length r.notices) (sym is.leaves.report)
  where
    whole : (all shown heard items a b c d e : ℕ) → all ≡ shown + d → shown ≡ heard → heard ≡ items → items ≡ a + b + c → e ≡ d → all ≡ a + b + c + e
    whole all shown heard items a b c d e p q r s t = omega arith

-- what holds anyway holds where there is a refusal
pub any_err : {T E P : Type 0} (result : Result T E) → P → OnErr result P
any_err (Ok x) holds = tt
any_err (Err e) holds = holds

-- no more stay than there are
fewer : {X : Type 0} (test : X → Bool) (xs : List X) → length (filter test xs) ≤ length xs
fewer test [] = omega arith
fewer test (x ∷ xs) = elim (test x) as (λ b. length (cond b (x ∷ filter test xs) (filter test xs)) ≤ length (x ∷ xs)) [
  | true ↦ omega (arith, fewer test xs)
  | false ↦ omega (arith, fewer test xs)
]

module _ (kept : Kept) (at : ℕ) (ask : CycleAsk) (place : ℕ) where
  -- how many later items stay
  abbrev stay : ℕ
  stay = (edited_at kept.timeline ask kept.next at place).kept

  stay_few : place ≤ length kept.timeline → place + stay ≤ length kept.timeline
  stay_few le =
      let few : stay ≤ length (drop place kept.timeline) = fewer (λ (i : Item). not (is_dropped ask i)) (drop place kept.timeline) in
      omega (arith, few, length-drop place kept.timeline, le)

  -- the repaired items are no more than those in force and the acts
  pub repaired_few : place ≤ length kept.timeline → length (repair_of kept at ask place).items ≤ length kept.timeline + length ask.inserts
  repaired_few le = omega (arith, length_repaired kept at ask place le, stay_few le)

-- what was made has no more items
pub made_few : (kept : Kept) (at : ℕ) (ask : CycleAsk) (told : Type 0) (made : Rewound) → IsCycled kept at ask told made
    → length (items_left kept.timeline made) ≤ length kept.timeline + length ask.inserts + length kept.house.accounts
made_few kept at ask told made cycled =
    let place = cycled.place in
    let is = cycled.is_made in
    let repair = repair_of kept at ask place in
    let le : place ≤ length kept.timeline = within kept.timeline ask.point place cycled.is_place in
    let now = compared_from repair is.first is.count is.made_from.heard in
    let all : length (items_left kept.timeline made) ≡ place + length ask.inserts + made.report.kept + length made.report.notices =
    made_length kept at repair is.first is.count told made (length_repaired kept at ask place le) is.made_from in
    let stayed : made.report.kept ≡ (edited_at kept.timeline ask kept.next at place).kept = ap (λ (r : Report). r.kept) is.made_from.leaves.report in
    let notices : length made.report.notices ≡ length (told_by kept at repair now) =
    ap (λ (r : Report). length r.notices) is.made_from.leaves.report ∙ length-map (told_by kept at repair now) (λ (i : Item). i.number) in
    let few : length (told_by kept at repair now) ≤ length kept.house.accounts = few_told kept.house (kept.next + length ask.inserts) kept.next at (broken_by repair now) in
    omega (arith, all, stayed, notices, few, stay_few kept at ask place le)

-- a cycle that is due tells each account once at most
abbrev TellsFew : Kept → Due → Type 0
TellsFew kept (Repeats report) = Unit {0}
TellsFew kept NoPoint = Unit {0}
TellsFew kept NoNumbers = Unit {0}
TellsFew kept (Rewinds due) = length due.report.notices ≤ length kept.house.accounts

tells_few : (kept : Kept) (at : ℕ) (ask : CycleAsk) (place : Option ℕ) → TellsFew kept (due_at kept at ask place)
tells_few kept at ask None = tt
tells_few kept at ask (Some place) = elim (leaves_numbers kept ask) as (λ b. TellsFew kept (cond b (Rewinds (cycled_at kept at ask place)) NoNumbers)) [ true ↦ left_few kept at ask place | false ↦ tt ]

-- so what it performs where it is done is no more than where it is refused
pub performed_few : (kept : Kept) (at : ℕ) (ask : CycleAsk) (due : Cycled) → due_anew kept at ask ≡ Rewinds due → most_performed kept ask due ≤ most_tried kept ask due
performed_few kept at ask due is =
    more (due.place - newest_at due.place kept.marks.places) (length ask.inserts) due.report.kept (length due.report.notices) (length kept.house.accounts)
    (subst (TellsFew kept) is (tells_few kept at ask (position kept.timeline ask.point)))
  where
    more : (a b c d e : ℕ) → d ≤ e → a + b + c + d ≤ a + b + c + e
    more a b c d e le = omega arith
