-- A cycle behind the last item, from a snapshot there, performs nothing.
use Rattle.std.proofs.Common.{◌≡◌, ◌∙◌, ℕ, ◌+◌, ◌≤◌, arith, Bool, cond, refl, true, false, ap, subst, sym, List, [], length, Option, Some, None, Result, Ok, Err, IfOk, OnOk}
use Rattle.verb_bytes.specs.declared.journal.CycleAsk.{CycleAsk}
use Rattle.verb_core.specs.declared.item.Act.{Act}
use Rattle.verb_core.specs.declared.item.Item.{Item}
use Rattle.paradox.specs.declared.reports.Report.{Report}
use Rattle.store_kept.specs.Kept.{Kept, newest_at, report_of}
use Rattle.repair_desk.specs.Repairs.{position}
use Rattle.cycle_rules.specs.Asking.{Due, NoNumbers, NoPoint, Repeats, Rewinds, cycle_due, due_at, due_by}
use Rattle.cycle_rules.specs.Cycles.{Cycled, cycled_at, leaves_numbers, report_at, timeline_at}
use Rattle.time_desk.specs.Cycling.{CyclesBy, most_performed}
use Rattle.desk_journal.specs.Lasting.{Lasting}
use Rattle.undo_outside.specs.Disk.{DiskTold}
use Rattle.time_desk.specs.declared.fault.CycleFault.{CycleFault}

-- a cycle that is due behind a place is the one behind that place
due_there : (kept : Kept) (at : ℕ) (ask : CycleAsk) (place : ℕ) (due : Cycled) → position kept.timeline ask.point ≡ Some place → cycle_due kept at ask ≡ Rewinds due → due ≡ cycled_at kept at ask place
due_there kept at ask place due there is = by (report_of kept.reports ask.key) (leaves_numbers kept ask)
    (sym (ap (λ (found : Option ℕ). due_by (report_of kept.reports ask.key) (due_at kept at ask found)) there) ∙ is)
  where
    by : (earlier : Option Report) (left : Bool) → due_by earlier (cond left (Rewinds (cycled_at kept at ask place)) NoNumbers) ≡ Rewinds due → due ≡ cycled_at kept at ask place
    by None true same = cc
    by None false same = cc
    by (Some report) left same = cc

module _ (kept : Kept) (at : ℕ) (ask : CycleAsk) (none : ask.inserts ≡ []) (there : position kept.timeline ask.point ≡ Some (length kept.timeline)) (newest : newest_at (length kept.timeline) kept.marks.places ≡ length kept.timeline)
    (same : timeline_at kept at ask (length kept.timeline) ≡ kept.timeline)
    (long : length (timeline_at kept at ask (length kept.timeline)) ≡ length kept.timeline + length ask.inserts + (report_at kept at ask (length kept.timeline)).kept + length (report_at kept at ask (length kept.timeline)).notices) where
  -- nothing is performed
  nothing : most_performed kept ask (cycled_at kept at ask (length kept.timeline)) ≡ 0
  nothing =
      let acts : length ask.inserts ≡ 0 = ap (λ (acts : List Act). length acts) none in
      let all : length (timeline_at kept at ask (length kept.timeline)) ≡ length kept.timeline = ap (λ (items : List Item). length items) same in
      omega (arith, acts, all, long, newest)

  -- whatever is due, the counter does not rise
  pub never_rises : (result : Result Report CycleFault) (before after : ℕ) → ((due : Cycled) → cycle_due kept at ask ≡ Rewinds due → OnOk result (after ≤ before + most_performed kept ask due))
      → ((earlier : Report) → cycle_due kept at ask ≡ Repeats earlier → after ≡ before) → (cycle_due kept at ask ≡ NoPoint → OnOk result ⊥) → (cycle_due kept at ask ≡ NoNumbers → OnOk result ⊥)
      → OnOk result (after ≤ before)
  never_rises (Err fault) before after rewinds repeats no_point no_numbers = tt
  never_rises (Ok report) before after rewinds repeats no_point no_numbers = by (cycle_due kept at ask) refl
    where
      by : (d : Due) → cycle_due kept at ask ≡ d → after ≤ before
      by (Repeats earlier) is = let still = repeats earlier is in omega (arith, still)
      by NoPoint is = absurd (no_point is)
      by NoNumbers is = absurd (no_numbers is)
      by (Rewinds due) is =
          let few : after ≤ before + most_performed kept ask due = rewinds due is in
          let zero_is : most_performed kept ask due ≡ 0 = ap (most_performed kept ask) (due_there kept at ask (length kept.timeline) due there is) ∙ nothing in
          omega (arith, few, zero_is)

-- a cycle that is answered with a report has its point, and numbers are left for it
pub has_point : {D : Type 0} (told : D → DiskTold) (at : ℕ) (ask : CycleAsk) (old new : Lasting D) (result : Result Report CycleFault) (due : Due)
    → IfOk result (λ report. CyclesBy told at ask old new report due) → due ≡ NoPoint → OnOk result ⊥
has_point told at ask old new (Err fault) due done is = tt
has_point told at ask old new (Ok report) due done is = subst (CyclesBy told at ask old new report) is done

pub has_numbers : {D : Type 0} (told : D → DiskTold) (at : ℕ) (ask : CycleAsk) (old new : Lasting D) (result : Result Report CycleFault) (due : Due)
    → IfOk result (λ report. CyclesBy told at ask old new report due) → due ≡ NoNumbers → OnOk result ⊥
has_numbers told at ask old new (Err fault) due done is = tt
has_numbers told at ask old new (Ok report) due done is = subst (CyclesBy told at ask old new report) is done
