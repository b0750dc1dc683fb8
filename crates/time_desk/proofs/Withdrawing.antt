-- What becomes of a withdrawal, from what it leaves in memory and what became of sealing it.
use Rattle.std.proofs.Common.{◌≡◌, ◌∙◌, ◌+◌, ◌-◌, ◌≤◌, ◌==◌, ◌&&◌, ℕ, Bool, true, false, cond, arith, ap, sym, subst, refl, List, [], ◌∷◌, ◌++◌, drop, length, map, take, Option, Some, None, Result, Ok, Err, inl, inr, ⊎_elim}
use Rattle.std.specs.Prelude.{IfErr, IsErrOf, OnOk, IsSome, IsTrue, if◌then◌else◌, is_none, option_and_then}
use Rattle.std.specs.Option.{option_map_or}
use Rattle.std.proofs.lemmas.Bool.{eq-eqb}
use Rattle.std.proofs.lemmas.Bool.Decides.{nat_tests}
use Rattle.std.proofs.lemmas.List.{length-append, length-drop, length-map, length-take-le}
use Rattle.undo_outside.specs.Calls.{RoseOnce}
use Rattle.undo_outside.specs.Disk.{DiskTold, IsHonest}
use Rattle.verb_core.specs.declared.bodies.BodiesFault.{BodiesFault}
use Rattle.verb_core.specs.declared.bodies.BodiesFault.TheVariants as bodies_faults
use Rattle.verb_core.specs.declared.item.Item.{Item}
use Rattle.verb_bytes.specs.declared.journal.JournalRecord.TheVariants.{Withdraw}
use Rattle.verb_bytes.specs.Spelling.{record_bytes}
use Rattle.paradox.specs.declared.reports.Report.{Report}
use Rattle.seal_log.specs.Causes.{FindsMemory, SealWants}
use Rattle.seal_log.specs.Journal.{LiesAt}
use Rattle.seal_log.specs.Settled.{ReadsAlone}
use Rattle.seal_log.specs.declared.fault.SealFault.{SealFault}
use Rattle.seal_log.specs.declared.fault.SealFault.TheVariants as log_faults
use Rattle.seal_log.specs.declared.log.Log.{Log}
use Rattle.seal_log.specs.declared.place.Place.{Place}
use Rattle.seal_log.proofs.Uses.{reads_joined, reads_none}
use Rattle.shelf.specs.Marks.{marks_at_or_before}
use Rattle.withdraw.specs.declared.undone.UndoneBehind.{UndoneBehind}
use Rattle.withdraw.specs.Unediting.{as_shown}
use Rattle.store_kept.specs.Coming.{ComesIf, HasUndone}
use Rattle.store_kept.specs.Bases.{HasBase}
use Rattle.store_kept.specs.Kept.{IsRun, Kept, newest_at, origin_of, report_of, undone_as, undone_of}
use Rattle.store_kept.specs.Texts.{items_asked, items_behind}
use Rattle.replay_crew.specs.Hearing.{TellsAll}
use Rattle.cycle_rules.specs.Asking.{Due, IsRewinds, NoNumbers, NoPoint, Repeats, Rewinds, due_by}
use Rattle.cycle_rules.specs.Repairing.{Cycled, broken_in, leaves_numbers_for, reworked, told_in}
use Rattle.cycle_rules.specs.Withdrawals.{after_withdrawal, restored_items, unedit_of, withdraw_due, withdraw_due_anew, withdraw_due_at, withdrawn_at}
use Rattle.mail_cycle.specs.declared.refused.CycleRefused.{CycleRefused}
use Rattle.mail_cycle.specs.declared.refused.CycleRefused.TheVariants as refusals
use Rattle.mail_cycle.specs.declared.settling.Rewound.{Rewound}
use Rattle.mail_cycle.specs.Comparing.{broken_by, compared_from, told_by}
use Rattle.mail_cycle.specs.Leaving.{IsMade, items_left}
use Rattle.mail_cycle.specs.Refusing.{IsRefusalBy, refused_by}
use Rattle.mail_cycle.specs.Tasks.{GoesWith, Task, withdrawal_task}
use Rattle.mail_cycle.proofs.Cycled.{few_told}
use Rattle.mail_cycle.proofs.Made.{made_whole}
use Rattle.mail_desk.specs.Held.{Held}
use Rattle.mail_desk.specs.Timeline.{SizesOf}
use Rattle.desk_journal.specs.Lasting.{JournalTold, Lasting, PastTold, journal_of, lasting}
use Rattle.desk_journal.specs.Permanence.{IsSound}
use Rattle.desk_journal.specs.Reading.{IsStill, ReadsWell}
use Rattle.desk_journal.specs.Records.{after_due, after_record, after_withdraw_record, is_spelled}
use Rattle.desk_journal.specs.Sealing.{IsRecordTo, Seals, SealsPayloads}
use Rattle.desk_journal.specs.Stored.{HoldsTexts, MarksLie, NotesNone, TextsNoted, TextsStored}
use Rattle.desk_journal.specs.Submitting.{SealsBytes, SealsNone, SealsNothing}
use Rattle.desk_journal.specs.Telling.{HoldsHeld, told_first}
use Rattle.desk_journal.proofs.Holding.{noted_later}
use Rattle.desk_journal.proofs.Truth.{true_as}
use Rattle.time_desk.specs.Cycling.{CanRework, DoesBy, IsFit, RedoesCause, Reworks, RunsOutOfMemoryBy, after_rewound, asked_then, most_begun, most_reworked}
use Rattle.time_desk.specs.Serving.{unmarked}
use Rattle.time_desk.specs.Withdrawing.{IsWithdrawn, Withdraws, WithdrawsInSteps}
use Rattle.time_desk.proofs.Bounding.{made_length}
use Rattle.time_desk.proofs.Marking.{withdrawn_marks}
use Rattle.time_desk.proofs.Repaired.{nothing_sealed, record_sealed, record_unsealed}
use Rattle.time_desk.proofs.Restored.{withdrawal_lies, withdrawal_noted}
use Rattle.time_desk.specs.Replaying.{ToldOr, repair_reads, withdrawal_reads}
use Rattle.time_desk.proofs.Delivering.{held_or}
use Rattle.time_desk.proofs.Rewinding.{after_withdrawal_is, made_weaker}
use Rattle.time_desk.proofs.Standings.{if_err}
use Rattle.time_desk.proofs.Undone.{undone_is}

-- and it has that number
pub number_is : (kept : Kept) (of : ℕ) (last : UndoneBehind) → undone_of kept of ≡ Some last → last.cycle ≡ of
number_is kept of last is = by kept.undone is
  where
    of_test : (u : UndoneBehind) (b : Bool) → (u.cycle == of) ≡ b → cond b (Some u) None ≡ Some last → last.cycle ≡ of
    of_test u true e is =
        let number : u.cycle ≡ of = grind (arith, nat_tests) in
        let same : u ≡ last = cc in
        subst (λ (x : UndoneBehind). x.cycle ≡ of) same number
    of_test u false e is = absurd (cc is)

    by : (o : Option UndoneBehind) → option_and_then (undone_as of) o ≡ Some last → last.cycle ≡ of
    by None is = absurd (cc is)
    by (Some u) is = of_test u (u.cycle == of) refl is

-- those through the point are among the items that come back
restored_long : (kept : Kept) (last : UndoneBehind) → last.position ≤ length kept.timeline → last.position ≤ length (restored_items kept last)
restored_long kept last le =
    let head = take last.position kept.timeline in
    let later = map (as_shown (drop last.position kept.timeline)) last.later in
    let rest = drop last.placed kept.timeline in
    omega (arith, le, length-take-le last.position kept.timeline le, length-append head (later ++ rest), length-append (head ++ later) rest, length-append head later)

-- the items that come back are no more than those whose texts may be asked for
pub restored_few : (kept : Kept) (of : ℕ) (last : UndoneBehind) → HasUndone kept → undone_of kept of ≡ Some last → length (restored_items kept last) ≤ length (items_asked kept)
restored_few kept of last comes is =
    let undone = undone_is kept of last is in
    let back = (subst (ComesIf (origin_of kept) kept.timeline kept.next) undone comes).back in
    let front = take last.position kept.timeline in
    let later = map (as_shown (drop last.position kept.timeline)) last.later in
    let rest = drop last.placed kept.timeline in
    let within : last.position ≤ length kept.timeline = omega (arith, back.position, back.placed) in
    let few : length (restored_items kept last) ≤ length (kept.timeline ++ last.later) =
    omega (
      arith,
      back.position,
      back.placed,
      length-append front (later ++ rest),
      length-append later rest,
      length-append (front ++ later) rest,
      length-append front later,
      length-take-le last.position kept.timeline within,
      length-map last.later (as_shown (drop last.position kept.timeline)),
      length-drop last.placed kept.timeline,
      length-append kept.timeline last.later,
    ) in
    subst (λ (o : Option UndoneBehind). length (restored_items kept last) ≤ length (kept.timeline ++ items_behind o)) (sym undone) few

-- what was made has no more items but a notice for each account
pub withdrawn_few : (kept : Kept) (at of : ℕ) (honest : Type 0) (made : Rewound) → IsWithdrawn kept at of honest made → HasUndone kept → length (items_left kept.timeline made) ≤ length (items_asked kept) + length kept.house.accounts
withdrawn_few kept at of honest made is comes =
    let repair = unedit_of kept is.last in
    let made_from = is.is_made.made_from in
    let now = compared_from repair is.is_made.first is.is_made.count made_from.heard in
    let few : length (restored_items kept is.last) ≤ length (items_asked kept) = restored_few kept of is.last comes is.is_last in
    let through : is.last.position ≤ length (restored_items kept is.last) = restored_long kept is.last is.is_made.place in
    let long : length (restored_items kept is.last) ≡ is.last.position + 0 + length (drop is.last.position (restored_items kept is.last)) =
    omega (arith, through, length-drop is.last.position (restored_items kept is.last)) in
    let all : length (items_left kept.timeline made) ≡ is.last.position + 0 + made.report.kept + length made.report.notices = made_length kept at repair is.is_made.first is.is_made.count honest made long made_from in
    let stayed : made.report.kept ≡ length (drop is.last.position (restored_items kept is.last)) = ap (λ (r : Report). r.kept) made_from.leaves.report in
    let notices : length made.report.notices ≡ length (told_by kept at repair now) = ap (λ (r : Report). length r.notices) made_from.leaves.report ∙ length-map (told_by kept at repair now) (λ (i : Item). i.number) in
    let told : length (told_by kept at repair now) ≤ length kept.house.accounts = few_told kept.house (kept.next + 0) kept.next at (broken_by repair now) in
    omega (arith, few, long, all, stayed, notices, told)

-- what one performs where it is done is no more than where it is refused
pub withdrawal_most : (kept : Kept) (at : ℕ) (last : UndoneBehind) → most_reworked kept 0 (withdrawn_at kept at last) ≤ most_begun kept 0 (withdrawn_at kept at last)
withdrawal_most kept at last =
    let due = withdrawn_at kept at last in
    let repair = unedit_of kept last in
    let told : length (told_in kept at repair) ≤ length kept.house.accounts = few_told kept.house (kept.next + 0) kept.next at (broken_in kept repair) in
    let notices : length due.report.notices ≡ length (told_in kept at repair) = length-map (told_in kept at repair) (λ (i : Item). i.number) in
    more (due.place - newest_at due.place kept.marks.places) due.report.kept (length due.report.notices) (length kept.house.accounts) (omega (arith, told, notices))
  where
    more : (a c d e : ℕ) → d ≤ e → a + 0 + c + d ≤ a + 0 + c + e
    more a c d e le = omega arith

-- it is due where numbers are left
pub withdrawal_due : (kept : Kept) (at of : ℕ) (last : UndoneBehind) → undone_of kept of ≡ Some last → leaves_numbers_for kept 0 ≡ true → withdraw_due_anew kept at of ≡ Rewinds (withdrawn_at kept at last)
withdrawal_due kept at of last is left = ap (withdraw_due_at kept at) is ∙ ap (λ (b : Bool). cond b (Rewinds (withdrawn_at kept at last)) NoNumbers) left

-- what is to be read for it
reads_last : (kept : Kept) (of : ℕ) (last : UndoneBehind) → undone_of kept of ≡ Some last → withdrawal_reads kept of ≡ repair_reads kept [] (unedit_of kept last)
reads_last kept of last is = ap (λ (o : Option UndoneBehind). option_map_or (λ (u : UndoneBehind). repair_reads kept [] (unedit_of kept u)) o false) is

one_last : (a b : UndoneBehind) → Some a ≡ Some b → a ≡ b
one_last a b e = cc

module _ {D : Type 0} (told : D → DiskTold) (held : Held) (at of : ℕ) (last : UndoneBehind) (is_last : undone_of held.kept of ≡ Some last) (left : leaves_numbers_for held.kept 0 ≡ true) where
  rewinds_due : IsRewinds (withdraw_due_anew held.kept at of)
  rewinds_due = subst IsRewinds (sym (withdrawal_due held.kept at of last is_last left)) tt

  -- what came of one that is due
  pub withdrawal_redone : (t : Task) (old new : PastTold D) (same : Type 0) (before after : ℕ) (made : Rewound) → t ≡ withdrawal_task (unmarked held.kept) at last → Reworks told held t old new before after (Ok made)
      → WithdrawsInSteps told held at of old.disk new.disk same before after (Ok made)
  withdrawal_redone t old new same before after made is done = record {
    alone = record {
      withdrawn = record {
        last = last;
        is_last = is_last;
        due = withdrawal_due held.kept at of last is_last left;
        is_made = subst (λ (some : Bool). IsMade held.kept at (unedit_of held.kept last) (ToldOr (HoldsHeld (told old.disk) held) some) made) (sym (reads_last held.kept of last is_last))
            (subst (λ (u : Task). IsMade held.kept u.at u.repair (ToldOr (HoldsHeld (told old.disk) held) (repair_reads held.kept u.texts u.repair)) made) is done.made);
      };
      fit = done.fit;
      refused = tt;
      cause = done.cause;
      due = λ failed. absurd (cc failed);
    };
    untouched = tt;
    few = λ other other_is h.
        subst (λ (u : UndoneBehind). after ≤ before + most_reworked held.kept 0 (withdrawn_at held.kept at u)) (one_last last other (sym is_last ∙ other_is))
        (subst (λ (u : Task). after ≤ before + most_reworked held.kept u.repair.acts (reworked held.kept u.at u.repair)) is (done.few h));
    most = λ other other_is h. tt;
    any = tt;
    steps = done.steps;
  }

  -- how much of one that failed was performed
  most_failed : (t : Task) (old new : PastTold D) (before after : ℕ) (fault : BodiesFault) → t ≡ withdrawal_task (unmarked held.kept) at last → Reworks told held t old new before after (Err fault)
      → (other : UndoneBehind) → undone_of held.kept of ≡ Some other → HoldsHeld (told old.disk) held → after ≤ before + most_begun held.kept 0 (withdrawn_at held.kept at other)
  most_failed t old new before after fault is done other other_is h =
      subst (λ (u : UndoneBehind). after ≤ before + most_begun held.kept 0 (withdrawn_at held.kept at u)) (one_last last other (sym is_last ∙ other_is))
      (subst (λ (u : Task). after ≤ before + most_begun held.kept u.repair.acts (reworked held.kept u.at u.repair)) is (done.most h))

  any_failed : (t : Task) (old new : PastTold D) (before after : ℕ) (fault : BodiesFault) → HasUndone held.kept → t ≡ withdrawal_task (unmarked held.kept) at last → Reworks told held t old new before after (Err fault)
      → after ≤ before + length (items_asked held.kept) + length held.kept.house.accounts
  any_failed t old new before after fault comes is done =
      let all : after ≤ before + length (restored_items held.kept last) + length held.kept.house.accounts =
      subst (λ (u : Task). after ≤ before + length u.repair.items + length held.kept.house.accounts) is done.any in
      omega (arith, all, restored_few held.kept of last comes is_last)

  -- a read failed, or no memory was found
  withdrawal_failed : (t : Task) (old new : PastTold D) (same : Type 0) (before after : ℕ) → HasUndone held.kept → t ≡ withdrawal_task (unmarked held.kept) at last → Reworks told held t old new before after (Err bodies_faults.Failed)
      → WithdrawsInSteps told held at of old.disk new.disk same before after (Err refusals.Disk)
  withdrawal_failed t old new same before after comes is done = record {
    alone = record {
      withdrawn = tt;
      fit = tt;
      refused = rewinds_due;
      cause = done.cause;
      due = λ failed. reads_last held.kept of last is_last ∙ subst (λ (u : Task). repair_reads held.kept u.texts u.repair ≡ true) is (done.due refl);
    };
    untouched = λ undue. absurd (undue rewinds_due);
    few = λ other other_is h. tt;
    most = most_failed t old new before after bodies_faults.Failed is done;
    any = any_failed t old new before after bodies_faults.Failed comes is done;
    steps = tt;
  }

  withdrawal_wanting : (t : Task) (old new : PastTold D) (same : Type 0) (before after : ℕ) → HasUndone held.kept → t ≡ withdrawal_task (unmarked held.kept) at last → Reworks told held t old new before after (Err bodies_faults.NoMemory)
      → WithdrawsInSteps told held at of old.disk new.disk same before after (Err refusals.NoMemory)
  withdrawal_wanting t old new same before after comes is done = record {
    alone = record { withdrawn = tt; fit = tt; refused = rewinds_due; cause = done.cause; due = λ failed. absurd (cc failed) };
    untouched = λ undue. absurd (undue rewinds_due);
    few = λ other other_is h. tt;
    most = most_failed t old new before after bodies_faults.NoMemory is done;
    any = any_failed t old new before after bodies_faults.NoMemory comes is done;
    steps = tt;
  }

  -- it was not worked out
  pub withdrawal_broken : (t : Task) (old new : PastTold D) (same : Type 0) (before after : ℕ) (fault : BodiesFault) → HasUndone held.kept → t ≡ withdrawal_task (unmarked held.kept) at last → Reworks told held t old new before after (Err fault)
      → WithdrawsInSteps told held at of old.disk new.disk same before after (Err (refused_by fault))
  withdrawal_broken t old new same before after bodies_faults.Failed comes is done = withdrawal_failed t old new same before after comes is done
  withdrawal_broken t old new same before after bodies_faults.NoMemory comes is done = withdrawal_wanting t old new same before after comes is done

-- the same of a journal, before its gate
pub withdrawal_through : {D : Type 0} (told : D → DiskTold) (held : Held) (at of : ℕ) (old : JournalTold D) (past new : PastTold D) (log : Log) (before after : ℕ) (result : Result Rewound CycleRefused) → journal_of past log ≡ old
    → WithdrawsInSteps told held at of past.disk new.disk (new ≡ past) before after result → WithdrawsInSteps told held at of old.disk new.disk (journal_of new log ≡ old) before after result
withdrawal_through {D = D} told held at of old past new log before after result is redoes =
    subst (λ (j : JournalTold D). WithdrawsInSteps told held at of j.disk new.disk (journal_of new log ≡ j) before after result) is (record {
      alone = redoes.alone;
      untouched = if_err result _ _ (λ refused same undue. ap (λ (p : PastTold D). journal_of p log) (same undue)) redoes.untouched;
      few = redoes.few;
      most = redoes.most;
      any = redoes.any;
      steps = redoes.steps;
    })

-- it can be performed
pub withdrawal_can : {D : Type 0} (told : D → DiskTold) (held : Held) (gate at : ℕ) (last : UndoneBehind) (t : Task) → t ≡ withdrawal_task (unmarked held.kept) at last → GoesWith held.kept (unedit_of held.kept last)
    → ((disk : D) → TellsAll (told_first told (record { disk = disk; end = gate }) held held.kept.next []) (restored_items held.kept last)) → CanRework told held gate t
withdrawal_can told held gate at last t is goes tells = subst (CanRework told held gate) (sym is) (record { kept = refl; goes = goes; tells = tells })

-- where the same is known of more
pub withdrawn_weaker : (kept : Kept) (at of : ℕ) (told more : Type 0) (made : Rewound) → (more → told) → IsWithdrawn kept at of told made → IsWithdrawn kept at of more made
withdrawn_weaker kept at of told more made so is = record { last = is.last; is_last = is.is_last; due = is.due; is_made = made_weaker kept at (unedit_of kept is.last) told more made so is.is_made }

-- as it is where the disk holds the texts
pub held_withdrawn : (kept : Kept) (at of : ℕ) (told : Type 0) (made : Rewound) → IsWithdrawn kept at of (ToldOr told (withdrawal_reads kept of)) made → IsWithdrawn kept at of told made
held_withdrawn kept at of told made is = withdrawn_weaker kept at of (ToldOr told (withdrawal_reads kept of)) told made (λ h. inl h) is

-- ---- what is due

-- under a new key
pub withdraw_new : (kept : Kept) (at : ℕ) (key : List ℕ) (of : ℕ) → report_of kept.reports key ≡ None → withdraw_due kept at key of ≡ withdraw_due_anew kept at of
withdraw_new kept at key of new = ap (λ (r : Option Report). due_by r (withdraw_due_anew kept at of)) new

-- what the record comes to, where it has a spelling and the next number
withdraw_record : (kept : Kept) (at : ℕ) (key : List ℕ) (of : ℕ) → is_spelled (Withdraw kept.next at key of) ≡ true
    → after_record kept (Withdraw kept.next at key of) ≡ after_due (after_withdrawal kept key) (withdraw_due kept at key of)
withdraw_record kept at key of spelled =
    ap (λ (b : Bool). if b && (kept.next == kept.next) then after_due (after_withdrawal kept key) (withdraw_due kept at key of) else None) spelled
    ∙ ap (λ (b : Bool). if b then after_due (after_withdrawal kept key) (withdraw_due kept at key of) else None) (eq-eqb kept.next kept.next refl)

-- and a record that is read, with the next number, under a new key
pub withdrawal_follows : (kept : Kept) (number at : ℕ) (key : List ℕ) (of : ℕ) → IsTrue (is_spelled (Withdraw number at key of)) → (number == kept.next) ≡ true → is_none (report_of kept.reports key) ≡ true
    → after_withdraw_record kept number at key of ≡ after_due (after_withdrawal kept key) (withdraw_due_anew kept at of)
withdrawal_follows kept number at key of spelled next new =
    ap (λ (b : Bool). cond (b && (number == kept.next)) (after_due (after_withdrawal kept key) (withdraw_due kept at key of)) None) spelled
    ∙ ap (λ (b : Bool). cond b (after_due (after_withdrawal kept key) (withdraw_due kept at key of)) None) next
    ∙ ap (λ (o : Option Report). after_due (after_withdrawal kept key) (due_by o (withdraw_due_anew kept at of))) (none_is (report_of kept.reports key) new)
  where
    none_is : {A : Type 0} (o : Option A) → is_none o ≡ true → o ≡ None
    none_is None e = refl
    none_is (Some x) e = absurd (let wrong : ◌≡◌ {A = Bool} false true = e in cc)

-- ---- answers

module _ {D : Type 0} (told : D → DiskTold) where
  -- a withdrawal that was sealed and put in place
  pub withdrawn : (at : ℕ) (key : List ℕ) (of : ℕ) (first new : Lasting D) (made : Rewound) (report : Report)
      → report_of first.kept.reports key ≡ None → IsWithdrawn first.kept at of (ToldOr (HoldsTexts told first) (withdrawal_reads first.kept of)) made → first.closed ≡ false → report ≡ made.report
      → new.kept ≡ after_rewound first.kept key false made → Seals told (Withdraw first.kept.next at key of ∷ []) [] first new → Withdraws told at key of first new report
  withdrawn at key of first new made report anew is open_ report_is kept_is seals =
      let leaves = made_whole first.kept at (unedit_of first.kept is.last) (ToldOr (HoldsTexts told first) (withdrawal_reads first.kept of)) made is.is_made in
      subst (DoesBy told (Withdraw first.kept.next at key of) (withdrawal_reads first.kept of) (after_withdrawal first.kept key) first new report) (sym (withdraw_new first.kept at key of anew ∙ is.due)) (
        open_,
        λ holds. (report_is ∙ (leaves holds).report, kept_is ∙ sym (after_withdrawal_is first.kept key (withdrawn_at first.kept at is.last) made (leaves holds))),
        seals,
      )

-- ---- a withdrawal that is sealed

module _ {D : Type 0} (told : D → DiskTold) (disk : D) (before after : Held) (old new : JournalTold D) (at : ℕ) (key : List ℕ) (of : ℕ) (made : Rewound) (bytes : List ℕ) (reads : ReadsAlone (told disk) (told old.disk)) (open_ : old.closed ≡ false) where
  -- the desk before texts were read
  abbrev First : Lasting D
  First = lasting before (record old { disk = disk })

  abbrev Told : Type 0
  Told = ToldOr (HoldsTexts told First) (withdrawal_reads before.kept of)

  module _ (is : IsWithdrawn before.kept at of Told made) (anew : report_of before.kept.reports key ≡ None) (bytes_are : bytes ≡ record_bytes (Withdraw before.kept.next at key of))
      (spelled : is_spelled (Withdraw before.kept.next at key of) ≡ true) where
    pub withdrawal_record : IsRecordTo (Withdraw before.kept.next at key of) bytes before.kept (after_withdrawal before.kept key (withdrawn_at before.kept at is.last))
    withdrawal_record = record {
      bytes_are = sym bytes_are;
      can_stand = withdraw_record before.kept at key of spelled ∙ ap (after_due (after_withdrawal before.kept key)) (withdraw_new before.kept at key of anew ∙ is.due);
      truth = true_as before.kept (Withdraw before.kept.next at key of) refl;
    }

    -- its record was sealed, and what it leaves was put in place
    pub withdrawal_sealed : SealsPayloads (bytes ∷ []) [] (told old.disk) (told new.disk) old.gate new.gate → new.closed ≡ false → (IsRun before.kept → IsSound before.kept) → IsFit before.kept made
        → after.kept ≡ after_rewound before.kept key false made → after.marks ≡ marks_at_or_before made.place before.marks
        → NotesNone (record { gate = old.gate; length = length bytes }) before.notes before.kept.texts (asked_then before.kept false made) after.notes
        → Seals told (Withdraw before.kept.next at key of ∷ []) [] First (lasting after new)
    withdrawal_sealed seals still sound fit kept_is marks_are notes =
        record_sealed told disk before after old new (Withdraw before.kept.next at key of) bytes reads open_ (sym bytes_are) withdrawal_record.truth (λ none. let wrong : ◌≡◌ {A = Bool} true false = none in cc)
        (λ holds. withdrawal_record.can_stand ∙ ap Some (left_is holds)) (ap (λ (k : Kept). k.house) kept_is) seals still sound (λ holds. subst IsRun (left_is holds) refl) lies marked
      where
        left_is : HoldsTexts told First → after_withdrawal before.kept key (withdrawn_at before.kept at is.last) ≡ after.kept
        left_is holds =
            after_withdrawal_is before.kept key (withdrawn_at before.kept at is.last) made (made_whole before.kept at (unedit_of before.kept is.last) Told made is.is_made (inl holds)) ∙ sym kept_is

        marked : HoldsTexts told First → (payloads : List (List ℕ)) → LiesAt payloads old.gate (length bytes) bytes → IsRun before.kept → MarksLie payloads before.kept before.marks → MarksLie payloads after.kept after.marks
        marked holds payloads at_place runs all = subst (MarksLie payloads after.kept) (sym marks_are)
            (withdrawn_marks payloads before.kept after.kept at is.last Told made before.marks (inl holds) is.is_made (ap (λ (k : Kept). k.base) kept_is) (ap (λ (k : Kept). k.timeline) kept_is) all)

        lies : HoldsTexts told First → (payloads : List (List ℕ)) → LiesAt payloads old.gate (length bytes) bytes → TextsStored payloads before.notes before.kept → TextsStored payloads after.notes after.kept
        lies holds payloads at_place all =
            withdrawal_lies before after at is.last (undone_is before.kept of is.last is.is_last) Told made is.is_made fit.timeline.apart (sound holds.texts.runs).base notes.0 notes.3 key kept_is payloads (inl holds) all

-- the notes that it leaves lie before the gate behind it
pub withdrawal_notes : (gate next : ℕ) (before after : Held) (at of : ℕ) (honest : Type 0) (made : Rewound) (place : Place) → gate ≤ next → IsWithdrawn before.kept at of honest made → IsFit before.kept made
    → HasBase before.kept → (key : List ℕ) → after.kept ≡ after_rewound before.kept key false made → NotesNone place before.notes before.kept.texts (asked_then before.kept false made) after.notes
    → SizesOf after.notes before.kept.texts (asked_then before.kept false made)
    → TextsNoted gate before.notes before.kept → TextsNoted next after.notes after.kept
withdrawal_notes gate next before after at of honest made place later is fit base key put notes sizes noted =
    withdrawal_noted before after at is.last (undone_is before.kept of is.last is.is_last) honest made is.is_made fit.timeline.apart base notes.0 notes.3 key put next sizes
    (noted_later gate next before.notes before.kept later noted)
