-- What cycles and withdrawals report is in the ranges of records, but for the lengths of lists.
use Rattle.std.proofs.Common.{◌≡◌, ℕ, ◌+◌, ◌≤◌, ◌==◌, Bool, true, false, cond, not, List, [], ◌∷◌, drop, length, map, Option, Some, None, Less, Equal, Greater, refl, arith, eqb-true}
use Rattle.std.specs.Prelude.{option_and_then, option_map}
use Rattle.std.specs.FinMap.Entries as rows
use Rattle.std.specs.List.{AllByRecursion, cons_option}
use Rattle.undo_base.specs.declared.keys.User.{User}
use Rattle.undo_base.specs.Name.{IsName}
use Rattle.verb_core.specs.declared.item.Item.{Item}
use Rattle.verb_core.specs.declared.item.Shown.{Shown}
use Rattle.verb_core.specs.declared.mailbox.BoxId.{BoxId}
use Rattle.verb_core.specs.declared.mailbox.Mailbox.{Mailbox}
use Rattle.verb_core.specs.Deeds.{mailbox_in}
use Rattle.paradox.specs.declared.reports.BrokenItem.{BrokenItem}
use Rattle.paradox.specs.declared.reports.Report.{Report}
use Rattle.paradox.specs.declared.words.Reason.{Reason}
use Rattle.paradox.specs.declared.words.Reason.TheVariants.{Withdrawn}
use Rattle.paradox.specs.declared.words.Verb.{Verb as VerbTold}
use Rattle.paradox.specs.Words.{verb_of}
use Rattle.verb_bytes.specs.declared.journal.CycleAsk.{CycleAsk}
use Rattle.store_kept.specs.Kept.{Kept, Reports, key_cmp, store_of, with_report}
use Rattle.repair_desk.specs.Renewals.{renewed, stamp_after}
use Rattle.repair_desk.specs.Repairs.{dropped, is_among, missing, numbers_of, replaced, unmatched}
use Rattle.cycle_rules.specs.Judging.{judged, reason_by, with_told}
use Rattle.cycle_rules.specs.Repairing.{Repair, compared_in, led_in, notice_items, renewed_by, report_in, stamps_in, told_in}
use Rattle.kept_laws.proofs.Fits.{AreRows, Fits, FitsBroken, FitsKeyed, FitsReport, FitsRow, FitsStamp, IsFour}
use Rattle.kept_laws.proofs.Deeds.{deed_fits}
use Rattle.kept_laws.proofs.Lists.{all_filtered, all_joined, all_mapped}

-- ---- the items that are told of

told_fits : (i : Item) → Fits i → (reason : Option Reason) (list : List BrokenItem) → AllByRecursion FitsBroken list → AllByRecursion FitsBroken (with_told i reason list)
told_fits i fits None list h = h
told_fits i fits (Some reason) list h = by i.by
  where
    row : Option User → Option VerbTold → Option BrokenItem
    row o verb = option_and_then (λ (user : User). option_map (λ (v : VerbTold). record { number = i.number; user = user; verb = v; mailbox = mailbox_in i.deed; reason = reason }) verb) o

    by : (o : Option User) → AllByRecursion FitsBroken (cons_option (row o (verb_of i.deed)) list)
    by None = h
    by (Some u) = each (verb_of i.deed)
      where
        each : (verb : Option VerbTold) → AllByRecursion FitsBroken (cons_option (row (Some u) verb) list)
        each None = h
        each (Some v) = ((fits.number, (deed_fits i.deed fits.again.deed).mailbox), h)

judged_fits : (drops : List ℕ) (items : List Item) (now : List Shown) → AllByRecursion Fits items → AllByRecursion FitsBroken (judged drops items now)
judged_fits drops [] now all = tt
judged_fits drops (i ∷ items) now all = by (is_among drops i.number) (judged_fits drops items now all.1) (judged_fits drops items (drop 1 now) all.1)
  where
    by : (b : Bool) → AllByRecursion FitsBroken (judged drops items now) → AllByRecursion FitsBroken (judged drops items (drop 1 now))
        → AllByRecursion FitsBroken (cond b (with_told i (Some Withdrawn) (judged drops items now)) (with_told i (reason_by i now) (judged drops items (drop 1 now))))
    by true one two = told_fits i all.0 (Some Withdrawn) (judged drops items now) one
    by false one two = told_fits i all.0 (reason_by i now) (judged drops items (drop 1 now)) two

-- ---- numbers

pub notices_fit : (number at : ℕ) (ns : List (User × List ℕ)) → number + length ns ≤ 4294967295 → AllByRecursion IsFour (numbers_of (notice_items number at ns))
notices_fit number at [] le = tt
notices_fit number at (n ∷ ns) le = (omega (arith, le), notices_fit (number + 1) at ns (omega (arith, le)))

missing_fit : (met numbers : List ℕ) → AllByRecursion IsFour numbers → AllByRecursion IsFour (missing met numbers)
missing_fit met numbers h = all_filtered IsFour (λ (n : ℕ). not (is_among met n)) numbers h

pub unmatched_fit : (ask : CycleAsk) (later : List Item) → AllByRecursion IsFour ask.drops → AllByRecursion (λ (r : ℕ × List ℕ). r.0 ≤ 4294967295) ask.replaces → AllByRecursion IsFour (unmatched ask later)
unmatched_fit ask later drops replaces =
    all_joined IsFour (missing (numbers_of (dropped ask later)) ask.drops) (missing (numbers_of (replaced ask later)) (map (λ (r : ℕ × List ℕ). r.0) ask.replaces))
    (missing_fit (numbers_of (dropped ask later)) ask.drops drops)
    (missing_fit (numbers_of (replaced ask later)) (map (λ (r : ℕ × List ℕ). r.0) ask.replaces)
    (all_mapped (λ (r : ℕ × List ℕ). r.0 ≤ 4294967295) IsFour (λ (r : ℕ × List ℕ). r.0) (λ r le. le) ask.replaces replaces))

-- ---- stamps

renewed_named : (before : List (BoxId × Mailbox)) (stamps : List (BoxId × ℕ)) (c : ℕ) (after : List (BoxId × Mailbox)) → AreRows after → AllByRecursion (λ (r : BoxId × ℕ). IsName r.0.name) (renewed before after stamps c)
renewed_named before stamps c after h =
    all_mapped FitsRow (λ (r : BoxId × ℕ). IsName r.0.name) (λ (r : BoxId × Mailbox). (r.0, stamp_after before stamps c r)) (λ r k. k.0) after h

renewed_by_fits : (c : ℕ) (stamps : List (BoxId × ℕ)) → c ≤ 4294967295 → AllByRecursion (λ (r : BoxId × ℕ). IsName r.0.name) stamps → AllByRecursion FitsStamp (renewed_by c stamps)
renewed_by_fits c [] le h = tt
renewed_by_fits c (r ∷ stamps) le h = by (r.1 == c) refl (renewed_by_fits c stamps le h.1)
  where
    by : (b : Bool) → (r.1 == c) ≡ b → AllByRecursion FitsStamp (renewed_by c stamps) → AllByRecursion FitsStamp (cond b (r ∷ renewed_by c stamps) (renewed_by c stamps))
    by true e rest = let same : r.1 ≡ c = eqb-true r.1 c e in ((h.0, omega (arith, same, le)), rest)
    by false e rest = rest

-- ---- a report

-- of a repair
pub report_fits : (k : Kept) (at : ℕ) (repair : Repair) → AllByRecursion Fits repair.before → AreRows (led_in k at repair).boxes → k.next ≤ 4294967295 → repair.point ≤ 4294967295 → repair.kept ≤ 4294967295 → AllByRecursion IsFour repair.unmatched
    → AllByRecursion IsFour (numbers_of (told_in k at repair)) → FitsReport (report_in k at repair)
report_fits k at repair before led cycle point kept unmatched notices = record {
  cycle = cycle;
  point = point;
  kept = kept;
  broken = judged_fits repair.drops repair.before (compared_in k repair) before;
  notices = notices;
  renewed = renewed_by_fits k.next (stamps_in k at repair) cycle (renewed_named (store_of k).boxes k.stamps k.next (led_in k at repair).boxes led);
  unmatched = unmatched;
}

-- among others
pub put_fits : (key : List ℕ) (report : Report) (reports : Reports) → IsName key → FitsReport report → AllByRecursion FitsKeyed reports → AllByRecursion FitsKeyed (with_report key report reports)
put_fits key report [] named own h = ((named, own), tt)
put_fits key report (r ∷ reports) named own h =
    elim (key_cmp key r.0) as (λ o. AllByRecursion FitsKeyed (rows.by_order o ((key, report) ∷ r ∷ reports) ((r.0, report) ∷ reports) (r ∷ with_report key report reports))) [
      | Less ↦ ((named, own), h)
      | Equal ↦ ((h.0.0, own), h.1)
      | Greater ↦ (h.0, put_fits key report reports named own h.1)
    ]
