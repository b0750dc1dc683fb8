-- What comes of a request: of its answers, by what is due to it, what came of it in memory and what became of sealing it.
use Rattle.std.proofs.Common.{◌≡◌, ◌∙◌, ◌⊎◌, ◌+◌, ◌<◌, ◌≤◌, ◌∷◌, [], ℕ, Bool, true, false, cond, List, Option, Some, None, Result, Ok, Err, IfErr, IfOk, OnOk, inl, inr, refl, ap, sym, subst, arith}
use Rattle.std.specs.Prelude.{IsErrOf, IsSome, IsTrue, OnErr, length}
use Rattle.std.specs.List.{AllByRecursion}
use Rattle.undo_base.specs.declared.memory.NoMemory.{NoMemory}
use Rattle.undo_outside.specs.Disk.{DiskTold, IsHonest}
use Rattle.verb_core.specs.declared.item.Item.{Item}
use Rattle.verb_core.specs.declared.mailbox.Body.{Body}
use Rattle.verb_core.specs.Items.{NumbersApart}
use Rattle.verb_bytes.specs.declared.journal.CycleAsk.{CycleAsk}
use Rattle.verb_bytes.specs.declared.journal.JournalRecord.{JournalRecord}
use Rattle.verb_bytes.specs.Spelling.{record_bytes}
use Rattle.paradox.specs.declared.reports.Report.{Report}
use Rattle.withdraw.specs.declared.undone.UndoneBehind.{UndoneBehind}
use Rattle.store_kept.specs.Bases.{HasBase}
use Rattle.store_kept.specs.Coming.{HasUndone}
use Rattle.store_kept.specs.Kept.{IsRun, Kept, report_of, undone_of}
use Rattle.store_kept.specs.Texts.{items_asked}
use Rattle.seal_log.specs.declared.place.Place.{Place}
use Rattle.shelf.specs.declared.note.Note.{Note}
use Rattle.shelf.specs.Marks.{marks_at_or_before}
use Rattle.seal_log.specs.declared.fault.SealFault.{SealFault}
use Rattle.seal_log.specs.declared.fault.SealFault.TheVariants as log_faults
use Rattle.seal_log.specs.Causes.{FindsMemory}
use Rattle.seal_log.specs.Settled.{ReadsAlone}
use Rattle.seal_log.proofs.Uses.{reads_none}
use Rattle.repair_desk.specs.Repairs.{position}
use Rattle.cycle_rules.specs.Asking.{Due, IsRewinds, NoNumbers, NoPoint, Repeats, Rewinds, due_at, due_by}
use Rattle.cycle_rules.specs.Cycles.{cycled_at, leaves_numbers}
use Rattle.cycle_rules.specs.Repairing.{Cycled, leaves_numbers_for}
use Rattle.cycle_rules.specs.Withdrawals.{withdraw_due_at, withdrawn_at}
use Rattle.mail_cycle.specs.Leaving.{items_left}
use Rattle.mail_cycle.specs.Refusing.{IsRefusalBy}
use Rattle.mail_cycle.specs.declared.refused.CycleRefused.{CycleRefused}
use Rattle.mail_cycle.specs.declared.refused.CycleRefused.TheVariants as refusals
use Rattle.mail_cycle.specs.declared.settling.Rewound.{Rewound}
use Rattle.mail_desk.specs.declared.noting.Fresh.{Fresh}
use Rattle.mail_desk.specs.Held.{Held}
use Rattle.mail_desk.specs.Timeline.{SizesOf}
use Rattle.desk_journal.specs.Lasting.{JournalTold, Lasting, lasting}
use Rattle.desk_journal.specs.Reading.{IsStill, ReadsWell}
use Rattle.desk_journal.specs.Permanence.{IsSound}
use Rattle.desk_journal.specs.Records.{is_spelled}
use Rattle.desk_journal.specs.Sealing.{IsRecordTo, SealsPayloads}
use Rattle.desk_journal.specs.Stored.{HoldsTexts, Renotes, TextsNoted}
use Rattle.desk_journal.specs.Submitting.{SealsBytes, SealsNone, SealsNothing}
use Rattle.desk_journal.specs.Telling.{HoldsHeld, IsOnlyRead}
use Rattle.desk_journal.proofs.Runs.{seals_still}
use Rattle.desk_journal.proofs.Sealed.{still_read}
use Rattle.time_desk.specs.declared.fault.CycleFault.{CycleFault}
use Rattle.time_desk.specs.declared.fault.CycleFault.TheVariants as faults
use Rattle.time_desk.specs.declared.request.Request.{Request}
use Rattle.time_desk.specs.declared.request.Request.TheVariants.{Cycle, Withdrawal}
use Rattle.time_desk.specs.Cycling.{CanBeUndone, CycleWants, DoesBy, IsFit, IsTold, NoneBy, RedoesCause, RunsOutOfMemoryBy, after_rewound, asked_then, most_begun, most_reworked, seal_told}
use Rattle.time_desk.specs.Replaying.{ToldOr}
use Rattle.time_desk.specs.Requests.{Answered, AreFew, Does, DoesNot, IsFreshOf, IsKnown, IsMadeFor, NotesFor, RedoesFor, WhereDue, acts_of, after_of, anew_of, due_of, key_of, reads_of, record_of, undoes_of, wanted_of}
use Rattle.time_desk.proofs.Bounding.{any_err, made_few, performed_few}
use Rattle.time_desk.proofs.Delivering.{held_or}
use Rattle.time_desk.proofs.Repaired.{nothing_sealed, record_unsealed}
use Rattle.time_desk.proofs.Rewinding.{any_ok, cycle_notes, cycle_sealed, cycled, cycled_weaker, read_from, record_is, steps_kept}
use Rattle.time_desk.proofs.Wants.{fed_later, reading_wants, wants_later}
use Rattle.time_desk.proofs.Withdrawing.{withdrawal_most, withdrawal_notes, withdrawal_record, withdrawal_sealed, withdrawn, withdrawn_few, withdrawn_weaker}

-- ---- what is due

-- under a new key
pub due_is_new : (kept : Kept) (at : ℕ) (asked : Request) → report_of kept.reports (key_of asked) ≡ None → due_of kept at asked ≡ anew_of kept at asked
due_is_new kept at asked new = ap (λ (r : Option Report). due_by r (anew_of kept at asked)) new

-- no earlier report is
anew_never : (kept : Kept) (at : ℕ) (asked : Request) (report : Report) → anew_of kept at asked ≡ Repeats report → ⊥
anew_never kept at (Cycle ask) report is = by_place (position kept.timeline ask.now.point) is
  where
    by_test : (place : ℕ) (b : Bool) → cond b (Rewinds (cycled_at kept at ask.now place)) NoNumbers ≡ Repeats report → ⊥
    by_test place true e = cc e
    by_test place false e = cc e

    by_place : (o : Option ℕ) → due_at kept at ask.now o ≡ Repeats report → ⊥
    by_place None e = cc e
    by_place (Some place) e = by_test place (leaves_numbers kept ask.now) e
anew_never kept at (Withdrawal key of) report is = by_last (undone_of kept of) is
  where
    by_test : (last : UndoneBehind) (b : Bool) → cond b (Rewinds (withdrawn_at kept at last)) NoNumbers ≡ Repeats report → ⊥
    by_test last true e = cc e
    by_test last false e = cc e

    by_last : (o : Option UndoneBehind) → withdraw_due_at kept at o ≡ Repeats report → ⊥
    by_last None e = cc e
    by_last (Some last) e = by_test last (leaves_numbers_for kept 0) e

-- under a new key none is
pub never_repeats : (kept : Kept) (at : ℕ) (asked : Request) → report_of kept.reports (key_of asked) ≡ None → (earlier : Report) → due_of kept at asked ≡ Repeats earlier → ⊥
never_repeats kept at asked new earlier is = anew_never kept at asked earlier (sym (due_is_new kept at asked new) ∙ is)

-- what is due is due under a new key
pub due_new : (found : Option Report) (anew : Due) (due : Cycled) → due_by found anew ≡ Rewinds due → anew ≡ Rewinds due
due_new None anew due is = is
due_new (Some report) anew due is = absurd (cc is)

-- what holds of all holds of it
where_any : (kept : Kept) (at : ℕ) (asked : Request) (Holds : Cycled → Type 0) → ((due : Cycled) → Holds due) → WhereDue kept at asked Holds
where_any kept at (Cycle ask) Holds all = λ due is. all due
where_any kept at (Withdrawal key of) Holds all = λ last is. all (withdrawn_at kept at last)

where_more : (kept : Kept) (at : ℕ) (asked : Request) (Holds Then : Cycled → Type 0) → ((due : Cycled) → Holds due → Then due) → WhereDue kept at asked Holds → WhereDue kept at asked Then
where_more kept at (Cycle ask) Holds Then more holds = λ due is. more due (holds due is)
where_more kept at (Withdrawal key of) Holds Then more holds = λ last is. more (withdrawn_at kept at last) (holds last is)

few_anyway : (kept : Kept) (asked : Request) (steps : ℕ) → AreFew kept asked steps steps
few_anyway kept (Cycle ask) steps = omega arith
few_anyway kept (Withdrawal key of) steps = omega arith

-- ---- what came of it in memory

module _ {D : Type 0} (told : D → DiskTold) (held : Held) (at : ℕ) where
  module _ (old new : D) (same : Type 0) (before after : ℕ) (made : Rewound) where
    pub made_for : (asked : Request) → RedoesFor told held at asked old new same before after (Ok made) → IsMadeFor held.kept at asked (ToldOr (HoldsHeld (told old) held) (reads_of held.kept at asked)) made
    made_for (Cycle ask) redoes = redoes.alone.cycled
    made_for (Withdrawal key of) redoes = redoes.alone.withdrawn

    pub fit_for : (asked : Request) → RedoesFor told held at asked old new same before after (Ok made) → IsFit held.kept made
    fit_for (Cycle ask) redoes = redoes.alone.fit
    fit_for (Withdrawal key of) redoes = redoes.alone.fit

    pub undone_for : (asked : Request) → RedoesFor told held at asked old new same before after (Ok made) → CanBeUndone held.kept (undoes_of asked) made
    undone_for (Cycle ask) redoes = redoes.alone.undone
    undone_for (Withdrawal key of) redoes = tt

    cause_for : (asked : Request) → RedoesFor told held at asked old new same before after (Ok made) → (told new).failed_reads ≡ (told old).failed_reads
    cause_for (Cycle ask) redoes = redoes.alone.cause
    cause_for (Withdrawal key of) redoes = redoes.alone.cause

    few_for : (asked : Request) → RedoesFor told held at asked old new same before after (Ok made) → WhereDue held.kept at asked (λ due. HoldsHeld (told old) held → after ≤ before + most_reworked held.kept (acts_of asked) due)
    few_for (Cycle ask) redoes = redoes.few
    few_for (Withdrawal key of) redoes = redoes.few

    -- so is what it would have performed where it is refused
    tried_for : (asked : Request) → RedoesFor told held at asked old new same before after (Ok made) → WhereDue held.kept at asked (λ due. HoldsHeld (told old) held → after ≤ before + most_begun held.kept (acts_of asked) due)
    tried_for (Cycle ask) redoes = λ due is h. omega (arith, redoes.few due is h, performed_few held.kept at ask.now due is)
    tried_for (Withdrawal key of) redoes = λ last is h. omega (arith, redoes.few last is h, withdrawal_most held.kept at last)

    steps_for : (asked : Request) → RedoesFor told held at asked old new same before after (Ok made) → after ≤ before + length (items_left held.kept.timeline made)
    steps_for (Cycle ask) redoes = redoes.steps
    steps_for (Withdrawal key of) redoes = redoes.steps

    all_for : (asked : Request) → HasUndone held.kept → RedoesFor told held at asked old new same before after (Ok made) → AreFew held.kept asked before after
    all_for (Cycle ask) undone redoes = omega (arith, redoes.steps, made_few held.kept at ask.now _ made redoes.alone.cycled)
    all_for (Withdrawal key of) undone redoes = omega (arith, redoes.steps, withdrawn_few held.kept at of _ made redoes.alone.withdrawn undone)

  module _ (old new : D) (same : Type 0) (before after : ℕ) (why : CycleRefused) where
    refused_for : (asked : Request) → RedoesFor told held at asked old new same before after (Err why) → IsRefusalBy held.kept (wanted_of asked) (anew_of held.kept at asked) why
    refused_for (Cycle ask) redoes = redoes.alone.refused
    refused_for (Withdrawal key of) redoes = redoes.alone.refused

    why_for : (asked : Request) → RedoesFor told held at asked old new same before after (Err why) → RedoesCause {T = Rewound} (told old) (told new) (Err why)
    why_for (Cycle ask) redoes = redoes.alone.cause
    why_for (Withdrawal key of) redoes = redoes.alone.cause

    read_for : (asked : Request) → RedoesFor told held at asked old new same before after (Err why) → IsErrOf {T = Rewound} (Err why) refusals.Disk → IsTrue (reads_of held.kept at asked)
    read_for (Cycle ask) redoes = redoes.alone.due
    read_for (Withdrawal key of) redoes = redoes.alone.due

    untouched_for : (asked : Request) → RedoesFor told held at asked old new same before after (Err why) → (IsRewinds (anew_of held.kept at asked) → ⊥) → same
    untouched_for (Cycle ask) redoes = redoes.untouched
    untouched_for (Withdrawal key of) redoes = redoes.untouched

    most_for : (asked : Request) → RedoesFor told held at asked old new same before after (Err why) → WhereDue held.kept at asked (λ due. HoldsHeld (told old) held → after ≤ before + most_begun held.kept (acts_of asked) due)
    most_for (Cycle ask) redoes = redoes.most
    most_for (Withdrawal key of) redoes = redoes.most

    any_for : (asked : Request) → RedoesFor told held at asked old new same before after (Err why) → AreFew held.kept asked before after
    any_for (Cycle ask) redoes = redoes.any
    any_for (Withdrawal key of) redoes = redoes.any

-- as it was made from a first desk on
weaker_for : (kept : Kept) (at : ℕ) (asked : Request) (was more : Type 0) (made : Rewound) → (more → was) → IsMadeFor kept at asked was made → IsMadeFor kept at asked more made
weaker_for kept at (Cycle ask) was more made so is = cycled_weaker kept at ask.now was more made so is
weaker_for kept at (Withdrawal key of) was more made so is = withdrawn_weaker kept at of was more made so is

pub unread_for : (kept : Kept) (at : ℕ) (asked : Request) (was : Type 0) (made : Rewound) → IsMadeFor kept at asked was made → IsMadeFor kept at asked ⊥ made
unread_for kept at asked was made is = weaker_for kept at asked was ⊥ made (λ never. absurd never) is

-- ---- why there is no report

module _ {D : Type 0} (told : D → DiskTold) (what : JournalRecord) (some : Bool) (key : List ℕ) (wanted : ℕ) (old new : Lasting D) where
  -- it is due, and was not sealed
  pub none_sealed : (asked : Due) (due : Cycled) (fault : SealFault) → asked ≡ Rewinds due → old.closed ≡ false → SealsNone told what old new fault → ReadsWell told old new → NoneBy told what some key wanted old new asked (seal_told fault)
  none_sealed asked due log_faults.Disk is open_ none well = (open_, inl (due, is, none, well))
  none_sealed asked due log_faults.NoMemory is open_ none well = subst (RunsOutOfMemoryBy told old new) (sym is) (open_, none, well)
  none_sealed asked due log_faults.Closed is open_ none well = absurd none

  -- it was not worked out, or none is due
  pub none_reworked : (asked : Due) (why : CycleRefused) (out : CycleFault) → IsStill told old new → SealsNothing told old new → ((IsRewinds asked → ⊥) → new ≡ old) → old.closed ≡ false → IsRefusalBy old.kept wanted asked why
      → RedoesCause {T = Rewound} (told old.disk) (told new.disk) (Err why) → (IsErrOf {T = Rewound} (Err why) refusals.Disk → IsTrue some) → IsTold why out → NoneBy told what some key wanted old new asked out
  none_reworked asked (refusals.Point given) out still nothing untouched open_ refusal cause read is =
      subst (NoneBy told what some key wanted old new asked) (sym is) (open_, refusal.0, refusal.1, untouched (λ due. subst IsRewinds refusal.0 due))
  none_reworked asked (refusals.Numbers next) out still nothing untouched open_ refusal cause read is =
      subst (NoneBy told what some key wanted old new asked) (sym is) (open_, refusal.0, refusal.1, untouched (λ due. subst IsRewinds refusal.0 due))
  none_reworked asked refusals.Disk out still nothing untouched open_ refusal cause read is =
      subst (NoneBy told what some key wanted old new asked) (sym is) (open_, inr (refusal, read refl, still, cause))
  none_reworked asked refusals.NoMemory out still nothing untouched open_ refusal cause read is =
      subst (NoneBy told what some key wanted old new asked) (sym is) (by_due asked refusal)
    where
      by_due : (due : Due) → IsRewinds due → RunsOutOfMemoryBy told old new due
      by_due (Repeats report) wanted = absurd wanted
      by_due NoPoint wanted = absurd wanted
      by_due NoNumbers wanted = absurd wanted
      by_due (Rewinds due) wanted = (open_, nothing, cause)

-- ---- what comes of it

module _ {D : Type 0} (told : D → DiskTold) (at : ℕ) (asked : Request) where
  -- an earlier request had its key
  pub answered_again : (old : Lasting D) (steps : ℕ) (report : Report) → report_of old.kept.reports (key_of asked) ≡ Some report → Answered told at asked old old steps steps (Ok report)
  answered_again old steps report had = record {
    done = subst (DoesBy told (record_of old.kept.next at asked) (reads_of old.kept at asked) (after_of old.kept asked) old old report) (sym (ap (λ (r : Option Report). due_by r (anew_of old.kept at asked)) had)) (refl, refl);
    why = tt;
    kept = tt;
    notes = tt;
    marks = tt;
    few = where_any old.kept at asked _ (λ due h. omega arith);
    most = where_any old.kept at asked _ (λ due h. tt);
    any = tt;
    same = refl;
    finds_memory = refl;
    wants = tt;
    steps = omega arith;
    once = λ earlier is. refl;
  }

  -- and there was no memory for a copy of its report
  pub answered_without : (old : Lasting D) (steps : ℕ) (report : Report) → ((d : D) → (told d).honest → IsHonest (told d)) → report_of old.kept.reports (key_of asked) ≡ Some report → Answered told at asked old old steps steps (Err faults.NoMemory)
  answered_without old steps report truth had = record {
    done = tt;
    why = subst (RunsOutOfMemoryBy told old old) (sym (ap (λ (r : Option Report). due_by r (anew_of old.kept at asked)) had)) refl;
    kept = refl;
    notes = refl;
    marks = refl;
    few = where_any old.kept at asked _ (λ due h. tt);
    most = where_any old.kept at asked _ (λ due h. omega arith);
    any = few_anyway old.kept asked steps;
    same = tt;
    finds_memory = tt;
    wants = inl (reads_none (told old.disk) (truth old.disk));
    steps = tt;
    once = λ earlier is. refl;
  }

  -- the desk was closed
  pub answered_closed : (old : Lasting D) (steps : ℕ) → report_of old.kept.reports (key_of asked) ≡ None → old.closed ≡ true → Answered told at asked old old steps steps (Err faults.Closed)
  answered_closed old steps new closed = record {
    done = tt;
    why = (closed, new, refl);
    kept = refl;
    notes = refl;
    marks = refl;
    few = where_any old.kept at asked _ (λ due h. tt);
    most = where_any old.kept at asked _ (λ due h. omega arith);
    any = few_anyway old.kept asked steps;
    same = tt;
    finds_memory = tt;
    wants = refl;
    steps = tt;
    once = λ earlier is. refl;
  }

  -- it was not worked out, or none is due
  pub answered_none : (held : Held) (old new : JournalTold D) (before after : ℕ) (why : CycleRefused) (out : CycleFault) → report_of held.kept.reports (key_of asked) ≡ None → old.closed ≡ false → IsOnlyRead told old new
      → RedoesFor told held at asked old.disk new.disk (new ≡ old) before after (Err why) → IsTold why out → Answered told at asked (lasting held old) (lasting held new) before after (Err out)
  answered_none held old new before after why out anew open_ still redoes is = record {
    done = tt;
    why = none_reworked told (record_of held.kept.next at asked) (reads_of held.kept at asked) (key_of asked) (wanted_of asked) (lasting held old) (lasting held new) (due_of held.kept at asked) why out
        was (seals_still told (lasting held old) (lasting held new) was)
        (λ none. ap (lasting held) (untouched_for told held at old.disk new.disk (new ≡ old) before after why asked redoes (λ due. none (subst IsRewinds (sym (due_is_new held.kept at asked anew)) due)))) open_
        (subst (λ (d : Due). IsRefusalBy held.kept (wanted_of asked) d why) (sym (due_is_new held.kept at asked anew)) (refused_for told held at old.disk new.disk (new ≡ old) before after why asked redoes))
        (why_for told held at old.disk new.disk (new ≡ old) before after why asked redoes) (read_for told held at old.disk new.disk (new ≡ old) before after why asked redoes) is;
    kept = refl;
    notes = refl;
    marks = refl;
    few = where_any held.kept at asked _ (λ due h. tt);
    most = where_more held.kept at asked _ _ (λ due most h. most (h.payloads, h.texts)) (most_for told held at old.disk new.disk (new ≡ old) before after why asked redoes);
    any = any_for told held at old.disk new.disk (new ≡ old) before after why asked redoes;
    same = tt;
    finds_memory = tt;
    wants = reading_wants told old.disk new.disk out still.reads;
    steps = tt;
    once = λ earlier repeats. absurd (never_repeats held.kept at asked anew earlier repeats);
  }
    where
      was : IsStill told (lasting held old) (lasting held new)
      was = still_read told held old new still

  -- it was made in memory, and sealed or not
  pub answered_made : (held held' : Held) (old mid new : JournalTold D) (before after : ℕ) (made : Rewound) (result : Result Report CycleFault) → report_of held.kept.reports (key_of asked) ≡ None → HasUndone held.kept → IsOnlyRead told old mid
      → RedoesFor told held at asked old.disk mid.disk (mid ≡ old) before after (Ok made)
      → ((disk : D) → ReadsAlone (told disk) (told mid.disk) → IsMadeFor held.kept at asked (ToldOr (HoldsTexts told (lasting held (record mid { disk = disk }))) (reads_of held.kept at asked)) made
      → IfOk result (λ report. Does told at asked (lasting held (record mid { disk = disk })) (lasting held' new) report))
      → ((disk : D) → ReadsAlone (told disk) (told mid.disk) → (told mid.disk).failed_reads ≡ (told disk).failed_reads
      → IsMadeFor held.kept at asked (ToldOr (HoldsTexts told (lasting held (record mid { disk = disk }))) (reads_of held.kept at asked)) made
      → IfErr result (λ fault. DoesNot told at asked (lasting held (record mid { disk = disk })) (lasting held' new) fault))
      → OnOk result (held'.kept.timeline ≡ items_left held.kept.timeline made) → OnErr result (held'.kept ≡ held.kept) → OnErr result (held'.notes ≡ held.notes) → OnErr result (held'.marks ≡ held.marks)
      → (told new.disk).failed_reads ≡ (told mid.disk).failed_reads → OnOk result (FindsMemory (told mid.disk) (told new.disk)) → IfErr result (λ fault. CycleWants told mid.disk new.disk fault)
      → Answered told at asked (lasting held old) (lasting held' new) before after result
  answered_made held held' old mid new before after made result anew undone still redoes done why timeline kept notes marks reads finds_memory wants = record {
    done = subst (λ (l : Lasting D). IfOk result (λ report. Does told at asked l (lasting held' new) report)) (read_from told held old mid still) (done old.disk still.reads from_first);
    why = subst (λ (l : Lasting D). IfErr result (λ fault. DoesNot told at asked l (lasting held' new) fault)) (read_from told held old mid still) (why old.disk still.reads cause from_first);
    kept = kept;
    notes = notes;
    marks = marks;
    few = where_more held.kept at asked _ _ (λ due few h. any_ok result (few (h.payloads, h.texts))) (few_for told held at old.disk mid.disk (mid ≡ old) before after made asked redoes);
    most = where_more held.kept at asked _ _ (λ due most h. any_err result (most (h.payloads, h.texts))) (tried_for told held at old.disk mid.disk (mid ≡ old) before after made asked redoes);
    any = any_err result (all_for told held at old.disk mid.disk (mid ≡ old) before after made asked undone redoes);
    same = any_ok result (reads ∙ cause);
    finds_memory = fed_later told old.disk mid.disk new.disk result still.reads finds_memory;
    wants = wants_later told old.disk mid.disk new.disk result still.reads wants;
    steps = steps_kept result before after held.kept.timeline made held'.kept.timeline (steps_for told held at old.disk mid.disk (mid ≡ old) before after made asked redoes) timeline;
    once = λ earlier repeats. absurd (never_repeats held.kept at asked anew earlier repeats);
  }
    where
      cause : (told mid.disk).failed_reads ≡ (told old.disk).failed_reads
      cause = cause_for told held at old.disk mid.disk (mid ≡ old) before after made asked redoes

      from_first : IsMadeFor held.kept at asked (ToldOr (HoldsTexts told (lasting held (record mid { disk = old.disk }))) (reads_of held.kept at asked)) made
      from_first =
          weaker_for held.kept at asked (ToldOr (HoldsHeld (told old.disk) held) (reads_of held.kept at asked)) (ToldOr (HoldsTexts told (lasting held (record mid { disk = old.disk }))) (reads_of held.kept at asked)) made
          (held_or told held (record mid { disk = old.disk }) (reads_of held.kept at asked ≡ false))
          (made_for told held at old.disk mid.disk (mid ≡ old) before after made asked redoes)

-- ---- its record

-- what is due to it
due_for : (kept : Kept) (at : ℕ) (asked : Request) (told : Type 0) (made : Rewound) → IsMadeFor kept at asked told made → (due : Cycled) × (anew_of kept at asked ≡ Rewinds due)
due_for kept at (Cycle ask) told made is = (cycled_at kept at ask.now is.place, is.due)
due_for kept at (Withdrawal key of) told made is = (withdrawn_at kept at is.last, is.due)

-- the notes that it leaves lie before the gate behind it
pub noted_for : (gate next : ℕ) (before after : Held) (at : ℕ) (asked : Request) (told : Type 0) (made : Rewound) (bytes : List ℕ) → next ≡ gate + 5 + length bytes → bytes ≡ record_bytes (record_of before.kept.next at asked)
    → IsMadeFor before.kept at asked told made → IsFit before.kept made → after.kept ≡ after_rewound before.kept (key_of asked) (undoes_of asked) made
    → SizesOf before.notes before.kept.texts (items_asked before.kept) → HasBase before.kept → NumbersApart before.kept.timeline → AllByRecursion (λ (i : Item). i.number < before.kept.next) before.kept.timeline → HasUndone before.kept
    → NotesFor before at asked (record { gate = gate; length = length bytes }) made after.notes → SizesOf after.notes before.kept.texts (asked_then before.kept (undoes_of asked) made)
    → TextsNoted gate before.notes before.kept → TextsNoted next after.notes after.kept
noted_for gate next before after at (Cycle ask) told made bytes next_is bytes_are is fit put sizes base apart below undone notes sizes' noted =
    cycle_notes gate next before after at ask.now told made bytes next_is bytes_are is fit ask.now.key put sizes base apart below undone notes sizes' noted
noted_for gate next before after at (Withdrawal key of) told made bytes next_is bytes_are is fit put sizes base apart below undone notes sizes' noted =
    withdrawal_notes gate next before after at of told made (record { gate = gate; length = length bytes }) (omega (arith, next_is)) is fit base key.now put notes sizes' noted

-- where its record brings texts, or none
pub notes_of : (old : Held) (at : ℕ) (asked : Request) (place : Place) (made : Rewound) (fresh : Fresh) (undoes : Bool) (notes : List (Body × Note)) → undoes ≡ undoes_of asked → IsFreshOf old.kept.next at asked place fresh
    → Renotes old.notes fresh old.kept.texts (asked_then old.kept undoes made) notes → NotesFor old at asked place made notes
notes_of old at (Cycle ask) place made fresh undoes notes same is renotes =
    record { fresh = fresh; is_fresh = is; renotes = subst (λ (b : Bool). Renotes old.notes fresh old.kept.texts (asked_then old.kept b made) notes) same renotes }
notes_of old at (Withdrawal key of) place made fresh undoes notes same is renotes =
    (fresh, is.0, is.1, subst (λ (b : Bool). Renotes old.notes fresh old.kept.texts (asked_then old.kept b made) notes) same renotes)

pub notes_for : {T : Type 0} (old : Held) (at : ℕ) (asked : Request) (place : Place) (made : Rewound) (fresh : Fresh) (undoes : Bool) (result : Result T NoMemory) (notes_in : T → List (Body × Note)) → undoes ≡ undoes_of asked → IsFreshOf old.kept.next at asked place fresh
    → IfOk result (λ found. Renotes old.notes fresh old.kept.texts (asked_then old.kept undoes made) (notes_in found)) → IfOk result (λ found. NotesFor old at asked place made (notes_in found))
notes_for old at asked place made fresh undoes (Ok found) notes_in same is renotes = notes_of old at asked place made fresh undoes (notes_in found) same is renotes
notes_for old at asked place made fresh undoes (Err why) notes_in same is renotes = tt

module _ {D : Type 0} (told : D → DiskTold) (disk : D) (before after : Held) (old new : JournalTold D) (at : ℕ) (asked : Request) (made : Rewound) (bytes : List ℕ) (reads : ReadsAlone (told disk) (told old.disk)) (open_ : old.closed ≡ false) where
  -- the desk before texts were read
  abbrev First : Lasting D
  First = lasting before (record old { disk = disk })

  abbrev FirstTold : Type 0
  FirstTold = ToldOr (HoldsTexts told First) (reads_of before.kept at asked)

  -- there was no memory for what is to be put in place
  pub out_of_memory_for : IsMadeFor before.kept at asked FirstTold made → report_of before.kept.reports (key_of asked) ≡ None → ((d : D) → (told d).honest → IsHonest (told d)) → (told old.disk).failed_reads ≡ (told disk).failed_reads
      → after.kept ≡ before.kept → after.notes ≡ before.notes → after.marks ≡ before.marks → DoesNot told at asked First (lasting after old) faults.NoMemory
  out_of_memory_for is anew truth well kept notes marks =
      subst (RunsOutOfMemoryBy told First (lasting after old)) (sym (due_is_new before.kept at asked anew ∙ (due_for before.kept at asked FirstTold made is).1))
      (open_, nothing_sealed told disk before after old old (record_of before.kept.next at asked) bytes reads open_ truth kept notes marks, well)

-- what its record comes to
record_for : {D : Type 0} (told : D → DiskTold) (disk : D) (before after : Held) (old new : JournalTold D) (at : ℕ) (asked : Request) (made : Rewound) (bytes : List ℕ) (reads : ReadsAlone (told disk) (told old.disk)) → old.closed ≡ false
    → (is : IsMadeFor before.kept at asked (ToldOr (HoldsTexts told (lasting before (record old { disk = disk }))) (reads_of before.kept at asked)) made) → report_of before.kept.reports (key_of asked) ≡ None
    → bytes ≡ record_bytes (record_of before.kept.next at asked) → is_spelled (record_of before.kept.next at asked) ≡ true → IsKnown before.kept asked
    → (due : Cycled) × (anew_of before.kept at asked ≡ Rewinds due) × IsRecordTo (record_of before.kept.next at asked) bytes before.kept (after_of before.kept asked due)
record_for told disk before after old new at (Cycle ask) made bytes reads open_ is anew bytes_are spelled known =
    (cycled_at before.kept at ask.now is.place, is.due, record_is before.kept at ask.now (cycled_at before.kept at ask.now is.place) bytes anew is.due bytes_are spelled known)
record_for told disk before after old new at (Withdrawal key of) made bytes reads open_ is anew bytes_are spelled known =
    (withdrawn_at before.kept at is.last, is.due, withdrawal_record told disk before after old new at key.now of made bytes reads open_ is anew bytes_are spelled)

-- it was not sealed
pub unsealed_for : {D X : Type 0} (told : D → DiskTold) (disk : D) (before after : Held) (old new : JournalTold D) (at : ℕ) (asked : Request) (made : Rewound) (bytes : List ℕ) (reads : ReadsAlone (told disk) (told old.disk)) → old.closed ≡ false
    → IsMadeFor before.kept at asked (ToldOr (HoldsTexts told (lasting before (record old { disk = disk }))) (reads_of before.kept at asked)) made → report_of before.kept.reports (key_of asked) ≡ None
    → bytes ≡ record_bytes (record_of before.kept.next at asked) → is_spelled (record_of before.kept.next at asked) ≡ true → IsKnown before.kept asked
    → (fault : SealFault) → SealsBytes {X = X} told bytes old new (Err fault) → (told old.disk).failed_reads ≡ (told disk).failed_reads → after.kept ≡ before.kept → after.notes ≡ before.notes → after.marks ≡ before.marks
    → DoesNot told at asked (lasting before (record old { disk = disk })) (lasting after new) (seal_told fault)
unsealed_for told disk before after old new at asked made bytes reads open_ is anew bytes_are spelled known fault sealed well kept notes marks =
    let what = record_of before.kept.next at asked in
    let made_to = record_for told disk before after old new at asked made bytes reads open_ is anew bytes_are spelled known in
    none_sealed told what (reads_of before.kept at asked) (key_of asked) (wanted_of asked) (lasting before (record old { disk = disk })) (lasting after new) (due_of before.kept at asked) made_to.0 fault
    (due_is_new before.kept at asked anew ∙ made_to.1) open_ (record_unsealed told disk before after old new what bytes reads open_ (after_of before.kept asked made_to.0) fault made_to.2 sealed kept notes marks) (sealed.reads ∙ well)

-- it was sealed, and what it leaves was put in place
pub sealed_for : {D : Type 0} (told : D → DiskTold) (disk : D) (before after : Held) (old new : JournalTold D) (at : ℕ) (asked : Request) (made : Rewound) (bytes : List ℕ) (report : Report) → ReadsAlone (told disk) (told old.disk) → old.closed ≡ false
    → IsMadeFor before.kept at asked (ToldOr (HoldsTexts told (lasting before (record old { disk = disk }))) (reads_of before.kept at asked)) made → report_of before.kept.reports (key_of asked) ≡ None
    → bytes ≡ record_bytes (record_of before.kept.next at asked) → is_spelled (record_of before.kept.next at asked) ≡ true → IsKnown before.kept asked
    → SealsPayloads (bytes ∷ []) [] (told old.disk) (told new.disk) old.gate new.gate → new.closed ≡ false → (IsRun before.kept → IsSound before.kept) → SizesOf before.notes before.kept.texts (items_asked before.kept) → IsFit before.kept made
    → report ≡ made.report → after.kept ≡ after_rewound before.kept (key_of asked) (undoes_of asked) made → after.marks ≡ marks_at_or_before made.place before.marks → NotesFor before at asked (record { gate = old.gate; length = length bytes }) made after.notes
    → Does told at asked (lasting before (record old { disk = disk })) (lasting after new) report
sealed_for told disk before after old new at (Cycle ask) made bytes report reads open_ is anew bytes_are spelled known seals still sound sizes fit report_is kept_is marks_are notes =
    cycled told at ask.now (lasting before (record old { disk = disk })) (lasting after new) made report anew is open_ report_is kept_is
    (cycle_sealed told disk before after old new at ask.now made bytes reads is anew bytes_are spelled known open_ seals still sound sizes fit kept_is marks_are notes)
sealed_for told disk before after old new at (Withdrawal key of) made bytes report reads open_ is anew bytes_are spelled known seals still sound sizes fit report_is kept_is marks_are notes =
    withdrawn told at key.now of (lasting before (record old { disk = disk })) (lasting after new) made report anew is open_ report_is kept_is
    (withdrawal_sealed told disk before after old new at key.now of made bytes reads open_ is anew bytes_are spelled seals still sound fit kept_is marks_are notes)

-- of the desk that was seen as another
pub seen_as : {D : Type 0} (told : D → DiskTold) (at : ℕ) (asked : Request) (old old' new : Lasting D) (before after : ℕ) (result : Result Report CycleFault) → old ≡ old' → Answered told at asked old new before after result → Answered told at asked old' new before after result
seen_as {D = D} told at asked old old' new before after result same is = subst (λ (l : Lasting D). Answered told at asked l new before after result) same is
