-- Requests that go back in the past as turns: a cycle, a withdrawal, and a cycle that is only tried.
use Rattle.std.proofs.Common.{◌≡◌, ◌||◌, ℕ, Bool, true, false, true≢false, List, [], ◌∷◌, Option, Some, None, refl, sym, ap, ◌∙◌, subst, inl, inr}
use Rattle.std.specs.Prelude.{◌⊎◌, Ok}
use Rattle.undo_outside.specs.Disk.{DiskTold, ReadFailed, WriteOutOfMemory}
use Rattle.seal_log.specs.Causes.{FindsMemory}
use Rattle.seal_log.specs.Settled.{ReadsAlone}
use Rattle.verb_core.specs.declared.conf.House.{House}
use Rattle.verb_bytes.specs.declared.journal.CycleAsk.{CycleAsk}
use Rattle.verb_bytes.specs.declared.journal.JournalRecord.{JournalRecord}
use Rattle.verb_bytes.specs.declared.journal.JournalRecord.TheVariants.{Cycle, Withdraw}
use Rattle.paradox.specs.declared.reports.Report.{Report}
use Rattle.store_kept.specs.Kept.{report_of, Kept}
use Rattle.cycle_rules.specs.Asking.{Due, IsRewinds, Repeats, NoPoint, NoNumbers, Rewinds as IsDue, after_cycle, cycle_due, due_anew, due_by}
use Rattle.cycle_rules.specs.Cycles.{Cycled}
use Rattle.cycle_rules.specs.Withdrawals.{after_withdrawal, withdraw_due, withdraw_due_anew}
use Rattle.time_desk.specs.declared.fault.CycleFault.{CycleFault}
use Rattle.time_desk.specs.declared.fault.CycleFault.TheVariants as cycle_fault
use Rattle.time_desk.specs.declared.fault.WithdrawFault.{WithdrawFault}
use Rattle.time_desk.specs.declared.fault.WithdrawFault.TheVariants as withdraw_fault
use Rattle.time_desk.specs.Cycling.{CycleWants, Cycles, CyclesNone, DoesBy, FailsToReadFor, FailsToSeal, RunsOutOfMemoryBy, Tries, TriesNone}
use Rattle.time_desk.specs.Replaying.{ToldOr, cycle_reads, withdrawal_reads}
use Rattle.time_desk.specs.Withdrawing.{WithdrawalWants, Withdraws, WithdrawsNone}
use Rattle.desk_journal.specs.Lasting.{Lasting}
use Rattle.desk_journal.specs.Reading.{IsStill, ReadsWell}
use Rattle.desk_journal.specs.Sealing.{Seals}
use Rattle.desk_journal.specs.Stored.{HoldsTexts}
use Rattle.console_http.specs.declared.request.Asked.TheVariants.{Whole}
use Rattle.console_http.specs.declared.request.Route.TheVariants as route
use Rattle.console_replies.specs.Bodies.{numbers_data}
use Rattle.console_replies.specs.Reports.{report_data}
use Rattle.console_session.specs.declared.reply.After.TheVariants.{Closes, Rewinds}
use Rattle.console_session.specs.declared.reply.Reply.{Reply}
use Rattle.console_session.specs.Answers.{Answer, answer, answer_text, pointless, uncycled}
use Rattle.console_session.specs.ConsoleTurn.{ConsoleTurn, failed, gone_back, rewound, tells}
use Rattle.console_session.specs.Hindrance.{Hindrance, Clear, Unanswered, Unsealed, Untold, Unread, UnreadRefused, UnreadUnheard, Misread, gone_back_under, rewound_under, told_under, tried_under, unanswered, where_read}
use Rattle.console_session.specs.Hearing.{AnswersRequest, RunsOutOfMemory, Tells, TellsCycleFault, TellsDiskFault, TellsOnly, TellsRead, TellsUnread, TellsWithdrawFault, reply}
use Rattle.console_session.proofs.Deciding.{IsSame, kept_decided, text_decided}
use Rattle.console_session.proofs.Numbering.{record_is_not, IsNew, fresh_is_new, fresh_withdrawal_is_new}
use Rattle.console_session.proofs.Turns.{Still, Truth, IsQuiet, as_it_was, reads_well, reads_wrong, none_out_of_memory, Wants, Under, turn_at, told_turn, unread_turn, out_of_memory_unread, lost_unread, read_turn, under_as, serves_told, unsealed_turn, rewound_wants, out_of_memory_turn, kept_stays, not_closed}

module _ {D : Type 0} (told : D → DiskTold) where
  -- ---- by what is due

  -- a request for a cycle or a withdrawal was served, by what was due to it
  abbrev pub ServesDue : Bool → Answer → JournalRecord → (Cycled → Kept) → Due → Lasting D → Lasting D → Reply → Type 0
  ServesDue some missing what left due old new r =
      Under told (λ h. gone_back_under some h old.kept missing what left due) old new r × ((gone_back old.kept missing what left due).sealed ≡ [] → IsStill told old new)

  due_as : (some : Bool) (missing : Answer) (what : JournalRecord) (left : Cycled → Kept) (asked due : Due) (old new : Lasting D) (r : Reply) → asked ≡ due
      → ServesDue some missing what left due old new r → ServesDue some missing what left asked old new r
  due_as some missing what left asked due old new r e s = subst (λ (d : Due). ServesDue some missing what left d old new r) (sym e) s

  due_told : Still told → (some : Bool) (missing : Answer) (what : JournalRecord) (left : Cycled → Kept) (due : Due) (a : Answer) (old new : Lasting D) (r : Reply) → IsQuiet told old new
      → ((h : Hindrance) → gone_back_under some h old.kept missing what left due ≡ told_under h old.kept (tells a Closes old.kept)) → Tells a Closes r
      → ServesDue some missing what left due old new r
  due_told still some missing what left due a old new r same as_told says = (under_as told _ _ old new r as_told (told_turn told still a Closes old new r same says), λ e. same.still)

  -- one that is due is to be sealed
  due_sealed : (some : Bool) (missing : Answer) (what : JournalRecord) (left : Cycled → Kept) (due : Cycled) (old new : Lasting D) (r : Reply)
      → Under told (λ h. rewound_under (where_read some h) old.kept (rewound old.kept what left due) (failed old.kept what)) old new r → ServesDue some missing what left (IsDue due) old new r
  due_sealed some missing what left due old new r under = (under, λ e. absurd (record_is_not what [] e))

  -- its key was used
  due_known : Still told → Truth told → (some : Bool) (missing : Answer) (what : JournalRecord) (left : Cycled → Kept) (asked : Due) (report : Report) (old : Lasting D) (r : Reply) → asked ≡ Repeats report
      → Tells (answer 200 (report_data old.kept.house report)) Closes r → ServesDue some missing what left asked old old r
  due_known still truth some missing what left asked report old r e says =
      due_as some missing what left asked (Repeats report) old old r e
      (due_told still some missing what left (Repeats report) (answer 200 (report_data old.kept.house report)) old old r (as_it_was told truth old old refl) (λ h. refl) says)

  -- what it goes back to is not there
  due_missing : Still told → Truth told → (some : Bool) (missing : Answer) (what : JournalRecord) (left : Cycled → Kept) (asked : Due) (old new : Lasting D) (r : Reply) → asked ≡ NoPoint → new ≡ old
      → Tells missing Closes r → ServesDue some missing what left asked old new r
  due_missing still truth some missing what left asked old new r e same says =
      due_as some missing what left asked NoPoint old new r e (due_told still some missing what left NoPoint missing old new r (as_it_was told truth old new same) (λ h. refl) says)

  -- too few numbers are left
  due_numberless : Still told → Truth told → (some : Bool) (missing : Answer) (what : JournalRecord) (left : Cycled → Kept) (asked : Due) (next : ℕ) (old new : Lasting D) (r : Reply) → asked ≡ NoNumbers
      → next ≡ old.kept.next → new ≡ old → Tells (answer 507 (numbers_data next)) Closes r → ServesDue some missing what left asked old new r
  due_numberless still truth some missing what left asked next old new r e is_next same says =
      due_as some missing what left asked NoNumbers old new r e
      (due_told still some missing what left NoNumbers (answer 507 (numbers_data old.kept.next)) old new r (as_it_was told truth old new same) (λ h. refl)
      (subst (λ (n : ℕ). Tells (answer 507 (numbers_data n)) Closes r) is_next says))

  -- ---- one that is done

  -- where the texts were read as they were stored, or none was to be read, this is told and kept of it
  abbrev IsMade : Bool → (Cycled → Kept) → Cycled → Report → Lasting D → Lasting D → Type 0
  IsMade some left due report old new = ToldOr (HoldsTexts told old) some → (report ≡ due.report) × (new.kept ≡ left due)

  abbrev report_text : Lasting D → Report → List ℕ
  report_text old report = answer_text (answer 200 (report_data old.kept.house report))

  -- how it goes where it is sealed
  abbrev Goes : Bool → JournalRecord → (Cycled → Kept) → Cycled → Lasting D → Lasting D → Reply → Type 0
  Goes some what left due old new r = Under told (λ h. rewound_under (where_read some h) old.kept (rewound old.kept what left due) (failed old.kept what)) old new r

  clear_is : (some : Bool) (kept : Kept) (t u : ConsoleTurn) → rewound_under (where_read some Clear) kept t u ≡ t
  clear_is true kept t u = refl
  clear_is false kept t u = refl

  unanswered_is : (some : Bool) (kept : Kept) (t u : ConsoleTurn) → rewound_under (where_read some Unanswered) kept t u ≡ unanswered t
  unanswered_is true kept t u = refl
  unanswered_is false kept t u = refl

  unsealed_is : (some : Bool) (kept : Kept) (t u : ConsoleTurn) → rewound_under (where_read some Unsealed) kept t u ≡ u
  unsealed_is true kept t u = refl
  unsealed_is false kept t u = refl

  untold_is : (some : Bool) (kept : Kept) (t u : ConsoleTurn) → rewound_under (where_read some Untold) kept t u ≡ unanswered u
  untold_is true kept t u = refl
  untold_is false kept t u = refl

  -- it was sealed, over texts that are not those that were stored
  misread_turn : (some : Bool) (what : JournalRecord) (left : Cycled → Kept) (due : Cycled) (said : List ℕ) (old new : Lasting D) (r : Reply) → Seals told (what ∷ []) [] old new → ReadsWell told old new
      → FindsMemory (told old.disk) (told new.disk) → r ≡ reply said Rewinds → (ToldOr (HoldsTexts told old) some → ⊥) → Goes some what left due old new r
  misread_turn true what left due said old new r seals well finds_memory e not =
      (Misread said new.kept, record { reply_is = e; kept = refl; seals = seals; read = reads_wrong told old new well (λ h. not (inl h)); out_of_memory = none_out_of_memory told old new finds_memory })
  misread_turn false what left due said old new r seals well finds_memory e not = absurd (not (inr refl))

  -- it was sealed, and what is kept is what it leaves: its report is told, or nothing is said
  made_turn : (some : Bool) (what : JournalRecord) (left : Cycled → Kept) (due : Cycled) (report : Report) (old new : Lasting D) (r : Reply) → IsMade some left due report old new
      → Seals told (what ∷ []) [] old new → ReadsWell told old new → FindsMemory (told old.disk) (told new.disk) → new.kept ≡ left due → TellsOnly (answer 200 (report_data old.kept.house report)) Rewinds r
      → IsSame (report_text old report) (report_text old due.report) → Goes some what left due old new r
  made_turn some what left due report old new r made seals well finds_memory kept (inl e) (inl same) = (
    Clear,
    turn_at told _ _ old new r (clear_is some old.kept (rewound old.kept what left due) (failed old.kept what))
        (record { reply_is = e ∙ ap (λ (t : List ℕ). reply t Rewinds) same; kept = kept; seals = seals; read = reads_well told old new well; out_of_memory = none_out_of_memory told old new finds_memory }),
  )
  made_turn some what left due report old new r made seals well finds_memory kept (inl e) (inr other) =
      misread_turn some what left due (report_text old report) old new r seals well finds_memory e (λ h. other (ap (report_text old) (made h).0))
  made_turn some what left due report old new r made seals well finds_memory kept (inr e) same = (
    Unanswered,
    turn_at told _ _ old new r (unanswered_is some old.kept (rewound old.kept what left due) (failed old.kept what))
        (record { reply_is = e; kept = kept; seals = seals; read = reads_well told old new well; out_of_memory = none_out_of_memory told old new finds_memory }),
  )

  rewound_turn : (some : Bool) (what : JournalRecord) (left : Cycled → Kept) (due : Cycled) (report : Report) (old new : Lasting D) (r : Reply) → IsMade some left due report old new
      → Seals told (what ∷ []) [] old new → ReadsWell told old new → FindsMemory (told old.disk) (told new.disk) → TellsOnly (answer 200 (report_data old.kept.house report)) Rewinds r → IsSame new.kept (left due)
      → Goes some what left due old new r
  rewound_turn some what left due report old new r made seals well finds_memory says (inl kept) =
      made_turn some what left due report old new r made seals well finds_memory kept says (text_decided (report_text old report) (report_text old due.report))
  rewound_turn some what left due report old new r made seals well finds_memory (inl e) (inr other) = misread_turn some what left due (report_text old report) old new r seals well finds_memory e (λ h. other (made h).1)
  rewound_turn some what left due report old new r made seals well finds_memory (inr e) (inr other) = misread_turn some what left due [] old new r seals well finds_memory e (λ h. other (made h).1)

  due_done : (some : Bool) (missing : Answer) (what : JournalRecord) (left : Cycled → Kept) (due : Due) (report : Report) (old new : Lasting D) (r : Reply) → IsNew due → DoesBy told what some left old new report due
      → ReadsWell told old new → FindsMemory (told old.disk) (told new.disk) → TellsOnly (answer 200 (report_data new.kept.house report)) Rewinds r → ServesDue some missing what left due old new r
  due_done some missing what left (Repeats earlier) report old new r is_new by well finds_memory says = absurd is_new
  due_done some missing what left NoPoint report old new r is_new by well finds_memory says = absurd by
  due_done some missing what left NoNumbers report old new r is_new by well finds_memory says = absurd by
  due_done some missing what left (IsDue due) report old new r is_new by well finds_memory says =
      let of_old = subst (λ (h : House). TellsOnly (answer 200 (report_data h report)) Rewinds r) by.2.house says in
      due_sealed some missing what left due old new r (rewound_turn some what left due report old new r by.1 by.2 well finds_memory of_old (kept_decided new.kept (left due)))

  -- ---- one that is not done

  -- no memory was found
  due_out_of_memory : Still told → Truth told → (some : Bool) (missing : Answer) (what : JournalRecord) (left : Cycled → Kept) (due : Due) (old new : Lasting D) (r : Reply) → RunsOutOfMemoryBy told old new due
      → ReadsAlone (told old.disk) (told new.disk) ⊎ WriteOutOfMemory (told old.disk) (told new.disk) → RunsOutOfMemory r → ServesDue some missing what left due old new r
  due_out_of_memory still truth some missing what left (Repeats report) old new r by wants says =
      due_told still some missing what left (Repeats report) (answer 200 (report_data old.kept.house report)) old new r (as_it_was told truth old new by) (λ h. refl) (inr says)
  due_out_of_memory still truth some missing what left NoPoint old new r by wants says = absurd by
  due_out_of_memory still truth some missing what left NoNumbers old new r by wants says = absurd by
  due_out_of_memory still truth some missing what left (IsDue due) old new r by wants says =
      due_sealed some missing what left due old new r
      (out_of_memory_turn told _ old new r (rewound_wants some old.kept (rewound old.kept what left due) (failed old.kept what)) (kept_stays told old new (by.1.kept (inr refl))) by.1 by.2 (by_wants wants) says)
    where
      by_wants : ReadsAlone (told old.disk) (told new.disk) ⊎ WriteOutOfMemory (told old.disk) (told new.disk) → Wants told old new
      by_wants (inl read) = inl read.finds_memory
      by_wants (inr out_of_memory) = inr out_of_memory

  -- one that is due
  rewinds_is : (due : Due) → IsRewinds due → (c : Cycled) × (due ≡ IsDue c)
  rewinds_is (Repeats report) is = absurd is
  rewinds_is NoPoint is = absurd is
  rewinds_is NoNumbers is = absurd is
  rewinds_is (IsDue due) is = (due, refl)

  -- a text could not be read
  due_unread : Still told → (some : Bool) (missing : Answer) (what : JournalRecord) (left : Cycled → Kept) (due : Cycled) (old new : Lasting D) (r : Reply) → some ≡ true → IsStill told old new
      → ReadFailed (told old.disk) (told new.disk) → TellsUnread r → ServesDue some missing what left (IsDue due) old new r
  due_unread still true missing what left due old new r is same failed (inl e) = due_sealed true missing what left due old new r (Unread, unread_turn told still old new r same failed e)
  due_unread still true missing what left due old new r is same failed (inr (inl e)) = due_sealed true missing what left due old new r (UnreadRefused, out_of_memory_unread told still old new r same failed e)
  due_unread still true missing what left due old new r is same failed (inr (inr e)) = due_sealed true missing what left due old new r (UnreadUnheard, lost_unread told still old new r same failed e)
  due_unread still false missing what left due old new r is same failed says = absurd (true≢false (sym is))

  -- the disk failed: the record of one that is due could not be sealed, or a text could not be read for it
  due_failed : Still told → (some : Bool) (missing : Answer) (what : JournalRecord) (left : Cycled → Kept) (asked : Due) (old new : Lasting D) (r : Reply) → old.closed ≡ false
      → FailsToSeal told what old new asked ⊎ FailsToReadFor told some old new asked → FindsMemory (told old.disk) (told new.disk) → TellsDiskFault new.closed r → ServesDue some missing what left asked old new r
  due_failed still some missing what left asked old new r open_is (inl fails) finds_memory says =
      let closed_is : new.closed ≡ true = fails.2.closed ∙ ap (λ (b : Bool). b || true) open_is in
      due_as some missing what left asked (IsDue fails.0) old new r fails.1
      (due_sealed some missing what left fails.0 old new r
      (unsealed_turn told _ what old new r (unsealed_is some old.kept (rewound old.kept what left fails.0) (failed old.kept what)) (untold_is some old.kept (rewound old.kept what left fails.0) (failed old.kept what))
      (subst (λ (b : Bool). TellsDiskFault b r) closed_is says) (kept_stays told old new (fails.2.kept (inr refl))) fails.2 fails.3 finds_memory))
  due_failed still some missing what left asked old new r open_is (inr fails) finds_memory says =
      let due = rewinds_is asked fails.0 in
      due_as some missing what left asked (IsDue due.0) old new r due.1
      (due_unread still some missing what left due.0 old new r fails.1 fails.2 fails.3 (subst (λ (b : Bool). TellsDiskFault b r) (fails.2.closed ∙ open_is) says))

  -- ---- cycles

  cycles : (at : ℕ) (ask : CycleAsk) (old new : Lasting D) (r : Reply)
      → ServesDue (cycle_reads old.kept at ask) (pointless ask.point) (Cycle old.kept.next at ask) (after_cycle old.kept ask) (cycle_due old.kept at ask) old new r → AnswersRequest told at (Ok (Whole (route.Cycle ask))) old new r
  cycles at ask old new r s = record { hindrance = s.0.0; turn_is = s.0.1; still = s.1 }

  -- a key that a cycle or a withdrawal had
  pub cycle_known : Still told → Truth told → (at : ℕ) (ask : CycleAsk) (report : Report) (old : Lasting D) (r : Reply) → report_of old.kept.reports ask.key ≡ Some report
      → Tells (answer 200 (report_data old.kept.house report)) Closes r → AnswersRequest told at (Ok (Whole (route.Cycle ask))) old old r
  cycle_known still truth at ask report old r e says =
      cycles at ask old old r
      (due_known still truth (cycle_reads old.kept at ask) (pointless ask.point) (Cycle old.kept.next at ask) (after_cycle old.kept ask) (cycle_due old.kept at ask) report old r
      (ap (λ (o : Option Report). due_by o (due_anew old.kept at ask)) e) says)

  -- a cycle under a new key is done
  pub cycle_done : (at : ℕ) (ask : CycleAsk) (report : Report) (old new : Lasting D) (r : Reply) → report_of old.kept.reports ask.key ≡ None
      → Cycles told at ask old new report → ReadsWell told old new → FindsMemory (told old.disk) (told new.disk) → TellsOnly (answer 200 (report_data new.kept.house report)) Rewinds r
      → AnswersRequest told at (Ok (Whole (route.Cycle ask))) old new r
  cycle_done at ask report old new r fresh by well finds_memory says =
      cycles at ask old new r
      (due_done (cycle_reads old.kept at ask) (pointless ask.point) (Cycle old.kept.next at ask) (after_cycle old.kept ask) (cycle_due old.kept at ask) report old new r (fresh_is_new old.kept at ask fresh) by well finds_memory says)

  pub cycle_not_done : Still told → Truth told → (at : ℕ) (ask : CycleAsk) (old new : Lasting D) (f : CycleFault) (r : Reply) → old.closed ≡ false → CyclesNone told at ask old new f
      → CycleWants told old.disk new.disk f → TellsCycleFault new.closed f r → AnswersRequest told at (Ok (Whole (route.Cycle ask))) old new r
  cycle_not_done still truth at ask old new (cycle_fault.Point given) r open_ none wants says =
      cycles at ask old new r
      (due_missing still truth (cycle_reads old.kept at ask) (pointless ask.point) (Cycle old.kept.next at ask) (after_cycle old.kept ask) (cycle_due old.kept at ask) old new r none.1 none.3
      (subst (λ (n : ℕ). Tells (pointless n) Closes r) none.2 says))
  cycle_not_done still truth at ask old new (cycle_fault.Numbers next) r open_ none wants says =
      cycles at ask old new r
      (due_numberless still truth (cycle_reads old.kept at ask) (pointless ask.point) (Cycle old.kept.next at ask) (after_cycle old.kept ask) (cycle_due old.kept at ask) next old new r none.1 none.2 none.3 says)
  cycle_not_done still truth at ask old new cycle_fault.Disk r open_ none finds_memory says =
      cycles at ask old new r
      (due_failed still (cycle_reads old.kept at ask) (pointless ask.point) (Cycle old.kept.next at ask) (after_cycle old.kept ask) (cycle_due old.kept at ask) old new r none.0 none.1 finds_memory says)
  cycle_not_done still truth at ask old new cycle_fault.NoMemory r open_ none wants says =
      cycles at ask old new r
      (due_out_of_memory still truth (cycle_reads old.kept at ask) (pointless ask.point) (Cycle old.kept.next at ask) (after_cycle old.kept ask) (cycle_due old.kept at ask) old new r none wants says)
  cycle_not_done still truth at ask old new cycle_fault.Closed r open_ none wants says = absurd (not_closed open_ none.0)

  -- ---- withdrawals

  withdrawals : (at : ℕ) (key : List ℕ) (of : ℕ) (old new : Lasting D) (r : Reply)
      → ServesDue (withdrawal_reads old.kept of) (uncycled of) (Withdraw old.kept.next at key of) (after_withdrawal old.kept key) (withdraw_due old.kept at key of) old new r
      → AnswersRequest told at (Ok (Whole (route.Withdraw key of))) old new r
  withdrawals at key of old new r s = record { hindrance = s.0.0; turn_is = s.0.1; still = s.1 }

  -- a key that a cycle or a withdrawal had
  pub withdrawal_known : Still told → Truth told → (at : ℕ) (key : List ℕ) (of : ℕ) (report : Report) (old : Lasting D) (r : Reply) → report_of old.kept.reports key ≡ Some report
      → Tells (answer 200 (report_data old.kept.house report)) Closes r → AnswersRequest told at (Ok (Whole (route.Withdraw key of))) old old r
  withdrawal_known still truth at key of report old r e says =
      withdrawals at key of old old r
      (due_known still truth (withdrawal_reads old.kept of) (uncycled of) (Withdraw old.kept.next at key of) (after_withdrawal old.kept key) (withdraw_due old.kept at key of) report old r
      (ap (λ (o : Option Report). due_by o (withdraw_due_anew old.kept at of)) e) says)

  -- a withdrawal under a new key is done
  pub withdrawal_done : (at : ℕ) (key : List ℕ) (of : ℕ) (report : Report) (old new : Lasting D) (r : Reply) → report_of old.kept.reports key ≡ None
      → Withdraws told at key of old new report → ReadsWell told old new → FindsMemory (told old.disk) (told new.disk) → TellsOnly (answer 200 (report_data new.kept.house report)) Rewinds r
      → AnswersRequest told at (Ok (Whole (route.Withdraw key of))) old new r
  withdrawal_done at key of report old new r fresh by well finds_memory says =
      withdrawals at key of old new r
      (due_done (withdrawal_reads old.kept of) (uncycled of) (Withdraw old.kept.next at key of) (after_withdrawal old.kept key) (withdraw_due old.kept at key of) report old new r
      (fresh_withdrawal_is_new old.kept at key of fresh) by well finds_memory says)

  pub withdrawal_not_done : Still told → Truth told → (at : ℕ) (key : List ℕ) (of : ℕ) (old new : Lasting D) (f : WithdrawFault) (r : Reply) → old.closed ≡ false → WithdrawsNone told at key of old new f
      → WithdrawalWants told old.disk new.disk f → TellsWithdrawFault new.closed f r → AnswersRequest told at (Ok (Whole (route.Withdraw key of))) old new r
  withdrawal_not_done still truth at key of old new (withdraw_fault.Cycle given) r open_ none wants says =
      withdrawals at key of old new r
      (due_missing still truth (withdrawal_reads old.kept of) (uncycled of) (Withdraw old.kept.next at key of) (after_withdrawal old.kept key) (withdraw_due old.kept at key of) old new r none.1 none.3
      (subst (λ (n : ℕ). Tells (uncycled n) Closes r) none.2 says))
  withdrawal_not_done still truth at key of old new (withdraw_fault.Numbers next) r open_ none wants says =
      withdrawals at key of old new r
      (due_numberless still truth (withdrawal_reads old.kept of) (uncycled of) (Withdraw old.kept.next at key of) (after_withdrawal old.kept key) (withdraw_due old.kept at key of) next old new r none.1 none.2 none.3 says)
  withdrawal_not_done still truth at key of old new withdraw_fault.Disk r open_ none finds_memory says =
      withdrawals at key of old new r
      (due_failed still (withdrawal_reads old.kept of) (uncycled of) (Withdraw old.kept.next at key of) (after_withdrawal old.kept key) (withdraw_due old.kept at key of) old new r none.0 none.1 finds_memory says)
  withdrawal_not_done still truth at key of old new withdraw_fault.NoMemory r open_ none wants says =
      withdrawals at key of old new r
      (due_out_of_memory still truth (withdrawal_reads old.kept of) (uncycled of) (Withdraw old.kept.next at key of) (after_withdrawal old.kept key) (withdraw_due old.kept at key of) old new r none wants says)
  withdrawal_not_done still truth at key of old new withdraw_fault.Closed r open_ none wants says = absurd (not_closed open_ none.0)

  -- ---- trials

  -- what is tried, by what is due to it
  tried_told : Still told → (at : ℕ) (ask : CycleAsk) (due : Due) (a : Answer) (old new : Lasting D) (r : Reply) → IsQuiet told old new → due_anew old.kept at ask ≡ due
      → ((h : Hindrance) → tried_under (cycle_reads old.kept at ask) h old.kept ask due ≡ told_under h old.kept (tells a Closes old.kept)) → Tells a Closes r → AnswersRequest told at (Ok (Whole (route.Try ask))) old new r
  tried_told still at ask due a old new r same e as_told says =
      serves_told told still at (Ok (Whole (route.Try ask))) a Closes old new r same (λ h. ap (λ (d : Due). tried_under (cycle_reads old.kept at ask) h old.kept ask d) e ∙ as_told h) says

  -- the same of a cycle that is due, whose texts are read
  tried_read : Still told → (at : ℕ) (ask : CycleAsk) (due : Cycled) (old new : Lasting D) (r : Reply) → IsStill told old new → due_anew old.kept at ask ≡ IsDue due
      → TellsRead told (cycle_reads old.kept at ask) (answer 200 (report_data old.kept.house due.report)) old new r → AnswersRequest told at (Ok (Whole (route.Try ask))) old new r
  tried_read still at ask due old new r same e says =
      let u = read_turn told still (cycle_reads old.kept at ask) (answer 200 (report_data old.kept.house due.report)) old new r same says in
      record { hindrance = u.0; turn_is = turn_at told _ _ old new r (ap (λ (d : Due). tried_under (cycle_reads old.kept at ask) u.0 old.kept ask d) e) u.1; still = λ x. same }

  pub try_told : Still told → (at : ℕ) (ask : CycleAsk) (report : Report) (old new : Lasting D) (r : Reply) → IsStill told old new → Tries old.kept at ask (HoldsTexts told old) report → ReadsWell told old new
      → Tells (answer 200 (report_data new.kept.house report)) Closes r → AnswersRequest told at (Ok (Whole (route.Try ask))) old new r
  try_told still at ask report old new r same tries well says =
      let of_old = subst (λ (k : Kept). Tells (answer 200 (report_data k.house report)) Closes r) same.kept says in
      tried_read still at ask tries.0 old new r same tries.1
      (inl (answer 200 (report_data old.kept.house report), λ h. ap (λ (p : Report). answer 200 (report_data old.kept.house p)) (tries.2 h), well, of_old))

  pub try_not_told : Still told → (at : ℕ) (ask : CycleAsk) (old new : Lasting D) (f : CycleFault) (r : Reply) → IsStill told old new
      → TriesNone old.kept at ask (told old.disk) (told new.disk) f → TellsCycleFault false f r → AnswersRequest told at (Ok (Whole (route.Try ask))) old new r
  try_not_told still at ask old new (cycle_fault.Point given) r same none says =
      tried_told still at ask NoPoint (pointless ask.point) old new r (record { still = same; well = none.2 }) none.0 (λ h. refl)
      (subst (λ (n : ℕ). Tells (pointless n) Closes r) none.1 says)
  try_not_told still at ask old new (cycle_fault.Numbers next) r same none says =
      tried_told still at ask NoNumbers (answer 507 (numbers_data old.kept.next)) old new r (record { still = same; well = none.2 }) none.0 (λ h. refl)
      (subst (λ (n : ℕ). Tells (answer 507 (numbers_data n)) Closes r) none.1 says)
  try_not_told still at ask old new cycle_fault.Disk r same none says =
      let due = rewinds_is (due_anew old.kept at ask) none.0 in
      tried_read still at ask due.0 old new r same due.1 (inr (none.1, none.2, says))
  try_not_told still at ask old new cycle_fault.NoMemory r same none says =
      let due = rewinds_is (due_anew old.kept at ask) none.0 in
      tried_read still at ask due.0 old new r same due.1 (inl (answer 200 (report_data old.kept.house due.0.report), λ h. refl, none.1, inr says))
  try_not_told still at ask old new cycle_fault.Closed r same none says = absurd none
