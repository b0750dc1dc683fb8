-- Replies as turns.
use Rattle.std.proofs.Common.{◌≡◌, ℕ, Bool, true, false, List, [], ◌∷◌, Option, Some, None, refl, sym, ap, ◌∙◌, subst, arith, inl, inr, true≢false}
use Rattle.std.specs.Option.{option_map_or}
use Rattle.std.specs.Prelude.{◌⊎◌, IsSome, IsTrue, length, nat_lt, option_map, Result, Ok, Err}
use Rattle.undo_outside.specs.Disk.{DiskTold, IsHonest, ReadFailed, WriteOutOfMemory}
use Rattle.seal_log.specs.Causes.{FindsMemory, SealWants, RunsOutOfMemory as FindsNone}
use Rattle.seal_log.proofs.Uses.{reads_none}
use Rattle.verb_core.specs.declared.item.Act.{Act}
use Rattle.verb_core.specs.declared.mailbox.Body.{Body}
use Rattle.store_kept.specs.Texts.{text_kept}
use Rattle.seal_log.specs.declared.fault.ReadFault.{ReadFault}
use Rattle.seal_log.specs.declared.fault.ReadFault.TheVariants as read_fault
use Rattle.seal_log.specs.declared.fault.SealFault.{SealFault}
use Rattle.seal_log.specs.declared.fault.SealFault.TheVariants as seal_fault
use Rattle.verb_bytes.specs.declared.journal.JournalRecord.{JournalRecord}
use Rattle.verb_bytes.specs.declared.journal.JournalRecord.TheVariants.{Operator, Upgrade}
use Rattle.store_kept.specs.Kept.{performed, snapshotted, upgraded, Kept}
use Rattle.repair_desk.specs.Repairs.{position}
use Rattle.desk_journal.specs.declared.fault.ActFault.{ActFault}
use Rattle.desk_journal.specs.declared.fault.ActFault.TheVariants as fault
use Rattle.time_desk.specs.declared.fault.CycleFault.{CycleFault}
use Rattle.time_desk.specs.declared.fault.CycleFault.TheVariants as cycle_fault
use Rattle.desk_journal.specs.Lasting.{Lasting}
use Rattle.time_desk.specs.Planning.{Plans, PlansNone, plan_at}
use Rattle.time_desk.specs.Replaying.{plan_reads, reads_behind}
use Rattle.desk_journal.specs.Reading.{Counted, HaveRead, IsStill, ReadsWell, failed_once, none_read, wrong_once}
use Rattle.verb_core.specs.Deeds.{act_item}
use Rattle.desk_journal.specs.Records.{after_records, snapshot_record}
use Rattle.desk_journal.specs.Sealing.{Seals}
use Rattle.desk_journal.specs.Stored.{HoldsTexts}
use Rattle.desk_journal.specs.Submitting.{ActWants, ActsNone, SnapshotsNone, UpgradesNone, UpgradesOnce}
use Rattle.console_http.specs.declared.request.Asked.{Asked}
use Rattle.console_http.specs.declared.request.Asked.TheVariants.{NotYet, Whole}
use Rattle.console_http.specs.declared.request.HttpRefused.{HttpRefused}
use Rattle.console_http.specs.declared.request.HttpRefused.TheVariants.{NoMemory}
use Rattle.console_http.specs.declared.request.Route.{Route as Taken}
use Rattle.console_http.specs.declared.request.Route.TheVariants as route
use Rattle.console_replies.specs.declared.bodies.ErrorWord.TheVariants.{Disk}
use Rattle.console_replies.specs.Bodies.{body_data, error_data, items_data, number_data, numbers_data, upgraded_data}
use Rattle.console_session.specs.declared.reply.After.{After}
use Rattle.console_session.specs.declared.reply.After.TheVariants.{Closes, Fails, Upgrades, Waits}
use Rattle.console_session.specs.declared.reply.Reply.{Reply}
use Rattle.console_session.specs.Answers.{Answer, answer, answer_text, plan_answer, planned, pointless, refused, text_answer, told_plainly}
use Rattle.console_session.specs.ConsoleTurn.{ConsoleTurn, done, failed, kept_as_it_is, tells, upgrade_done, upgraded_once}
use Rattle.console_session.specs.Hindrance.{Hindrance, Clear, Refused, Unheard, Unanswered, Unsealed, Untold, Unwritten, UnwrittenUnheard, Unread, UnreadRefused, UnreadUnheard, Misread, behind_a_read, behind_a_write, found_under, hindered, lost, misread, read_under, rewound_under, routed_under, sealed_under, out_of_memory, told_under, unanswered, unread, upgraded_under, where_read}
use Rattle.console_session.specs.Hearing.{IsTurn, AnswersRequest, RunsOutOfMemory, Tells, TellsCycleFault, TellsFault, TellsFound, TellsOnly, TellsRead, TellsReadFault, TellsSealFault, reply}
use Rattle.console_session.proofs.Deciding.{IsSame, text_decided}
use Rattle.console_session.proofs.Numbering.{number_left, act_with, act_without, record_is_not, act_seals, less_is}

-- a desk that is open is not closed
pub not_closed : {b : Bool} → b ≡ false → IsTrue b → ⊥
not_closed open_ closed = true≢false (sym closed ∙ open_)

-- where no memory is found a turn that seals a record is this
pub record WantsSo (f : Hindrance → ConsoleTurn) (kept : Kept) : Type 0 where
  pub told_is : f Refused ≡ out_of_memory kept
  pub lost_is : f Unheard ≡ lost kept
  pub written_is : f Unwritten ≡ behind_a_write (out_of_memory kept)
  pub unheard_is : f UnwrittenUnheard ≡ behind_a_write (lost kept)

-- one of a record that is sealed, and one of a cycle or a withdrawal
sealed_wants : (kept : Kept) (t u : ConsoleTurn) → WantsSo (λ h. sealed_under h kept t u) kept
sealed_wants kept t u = record { told_is = refl; lost_is = refl; written_is = refl; unheard_is = refl }

pub rewound_wants : (some : Bool) (kept : Kept) (t u : ConsoleTurn) → WantsSo (λ h. rewound_under (where_read some h) kept t u) kept
rewound_wants true kept t u = record { told_is = refl; lost_is = refl; written_is = refl; unheard_is = refl }
rewound_wants false kept t u = record { told_is = refl; lost_is = refl; written_is = refl; unheard_is = refl }

module _ {D : Type 0} (told : D → DiskTold) where
  -- a desk of which the disk was only read sealed nothing
  abbrev pub Still : Type 0
  Still = (a b : Lasting D) → IsStill told a b → Seals told [] [] a b

  -- what an honest disk tells fits together
  abbrev pub Truth : Type 0
  Truth = (disk : D) → (told disk).honest → IsHonest (told disk)

  -- a desk of which the disk was only read, and no read failed
  pub record IsQuiet (old new : Lasting D) : Type 0 where
    pub still : IsStill told old new
    pub well : ReadsWell told old new

  -- a desk that nothing was done to
  pub as_it_was : Truth → (old new : Lasting D) → new ≡ old → IsQuiet old new
  as_it_was truth old new e =
      subst (λ (n : Lasting D). IsQuiet old n) (sym e)
      (record { still = record { kept = refl; notes = refl; marks = refl; room = refl; gate = refl; closed = refl; reads = reads_none (told old.disk) (truth old.disk) }; well = refl })

  -- ---- reads

  counted_none : (a b : ℕ) → b ≡ a → Counted 0 a b
  counted_none a b e = (e, omega (arith, e))

  pub reads_well : (old new : Lasting D) → ReadsWell told old new → HaveRead told old new none_read
  reads_well old new well = record { failed = counted_none _ _ well; reliable = λ e. refl; honest = λ h. refl }

  reads_ill : (old new : Lasting D) → ReadFailed (told old.disk) (told new.disk) → HaveRead told old new failed_once
  reads_ill old new f = record { failed = (f.0, f.1); reliable = λ e. absurd (true≢false (sym e ∙ f.3)); honest = λ h. refl }

  pub reads_wrong : (old new : Lasting D) → ReadsWell told old new → (HoldsTexts told old → ⊥) → HaveRead told old new wrong_once
  reads_wrong old new well not = record { failed = counted_none _ _ well; reliable = λ e. refl; honest = λ h. absurd (not h) }

  -- ---- writes that found no memory

  -- each write found memory, or the last one that was made found none
  abbrev pub Wants : Lasting D → Lasting D → Type 0
  Wants old new = FindsMemory (told old.disk) (told new.disk) ⊎ WriteOutOfMemory (told old.disk) (told new.disk)

  pub none_out_of_memory : (old new : Lasting D) → FindsMemory (told old.disk) (told new.disk) → Counted 0 (told old.disk).out_of_memory (told new.disk).out_of_memory
  none_out_of_memory old new finds_memory = counted_none _ _ finds_memory

  -- where no memory was found
  pub wants_of : (old new : Lasting D) → FindsNone told old.disk new.disk → Wants old new
  wants_of old new (inl same) = inl (ap (λ (d : D). (told d).out_of_memory) same)
  wants_of old new (inr out_of_memory) = inr out_of_memory

  -- ---- turns

  abbrev pub Under : (Hindrance → ConsoleTurn) → Lasting D → Lasting D → Reply → Type 0
  Under turn old new r = (h : Hindrance) × IsTurn told (turn h) old new r

  abbrev pub turn_at : (t s : ConsoleTurn) (old new : Lasting D) (r : Reply) → t ≡ s → IsTurn told s old new r → IsTurn told t old new r
  turn_at t s old new r e turn = subst (λ (u : ConsoleTurn). IsTurn told u old new r) (sym e) turn

  same_turn : Still → (said : List ℕ) (after : After) (old new : Lasting D) (r : Reply) → IsQuiet old new → r ≡ reply said after
      → IsTurn told (record { said = said; kept = old.kept; after = after; sealed = []; unsealed = []; reads = none_read; out_of_memory = 0 }) old new r
  same_turn still said after old new r same e = record { reply_is = e; kept = same.still.kept; seals = still old new same.still; read = reads_well old new same.well; out_of_memory = none_out_of_memory old new same.still.reads.finds_memory }

  -- an answer that changes nothing
  pub told_turn : Still → (a : Answer) (after : After) (old new : Lasting D) (r : Reply) → IsQuiet old new → Tells a after r
      → Under (λ h. told_under h old.kept (tells a after old.kept)) old new r
  told_turn still a after old new r same (inl e) = (Clear, same_turn still (answer_text a) after old new r same e)
  told_turn still a after old new r same (inr (inl e)) = (Refused, same_turn still (answer_text (refused NoMemory)) Closes old new r same e)
  told_turn still a after old new r same (inr (inr e)) = (Unheard, same_turn still [] Closes old new r same e)

  -- another answer than the one that is due, over texts that are not those that were stored
  other_turn : Still → (due a : Answer) (old new : Lasting D) (r : Reply) → IsQuiet old new → (HoldsTexts told old → a ≡ due) → r ≡ reply (answer_text a) Closes
      → (answer_text a ≡ answer_text due → ⊥) → IsTurn told (misread (answer_text a) old.kept (tells due Closes old.kept)) old new r
  other_turn still due a old new r same holds e other =
      record { reply_is = e; kept = same.still.kept; seals = still old new same.still; read = reads_wrong old new same.well (λ h. other (ap answer_text (holds h))); out_of_memory = none_out_of_memory old new same.still.reads.finds_memory }

  -- an answer that is made of texts: the one that is due, or another
  answer_turn : Still → (due a : Answer) (old new : Lasting D) (r : Reply) → IsQuiet old new → (HoldsTexts told old → a ≡ due) → r ≡ reply (answer_text a) Closes
      → IsSame (answer_text a) (answer_text due) → Under (λ h. read_under h old.kept (tells due Closes old.kept)) old new r
  answer_turn still due a old new r same holds e (inl is) = (Clear, same_turn still (answer_text due) Closes old new r same (e ∙ ap (λ (t : List ℕ). reply t Closes) is))
  answer_turn still due a old new r same holds e (inr other) = (Misread (answer_text a) old.kept, other_turn still due a old new r same holds e other)

  -- the same of texts in memory: no other is told
  memory_turn : Still → (due a : Answer) (old new : Lasting D) (r : Reply) → IsQuiet old new → a ≡ due → r ≡ reply (answer_text a) Closes
      → Under (λ h. read_under (where_read false h) old.kept (tells due Closes old.kept)) old new r
  memory_turn still due a old new r same is e = (Clear, same_turn still (answer_text due) Closes old new r same (e ∙ ap (λ (b : Answer). reply (answer_text b) Closes) is))

  pub unread_turn : Still → (old new : Lasting D) (r : Reply) → IsStill told old new → ReadFailed (told old.disk) (told new.disk) → r ≡ reply (unread old.kept).said Closes
      → IsTurn told (unread old.kept) old new r
  unread_turn still old new r same failed e = record { reply_is = e; kept = same.kept; seals = still old new same; read = reads_ill old new failed; out_of_memory = none_out_of_memory old new same.reads.finds_memory }

  -- and no memory was found for telling that, or for telling anything
  pub out_of_memory_unread : Still → (old new : Lasting D) (r : Reply) → IsStill told old new → ReadFailed (told old.disk) (told new.disk) → r ≡ reply (out_of_memory old.kept).said Closes
      → IsTurn told (behind_a_read (out_of_memory old.kept)) old new r
  out_of_memory_unread still old new r same failed e = record { reply_is = e; kept = same.kept; seals = still old new same; read = reads_ill old new failed; out_of_memory = none_out_of_memory old new same.reads.finds_memory }

  pub lost_unread : Still → (old new : Lasting D) (r : Reply) → IsStill told old new → ReadFailed (told old.disk) (told new.disk) → r ≡ reply [] Closes
      → IsTurn told (behind_a_read (lost old.kept)) old new r
  lost_unread still old new r same failed e = record { reply_is = e; kept = same.kept; seals = still old new same; read = reads_ill old new failed; out_of_memory = none_out_of_memory old new same.reads.finds_memory }

  -- an answer that is made of texts, or a text that could not be read
  pub read_turn : Still → (some : Bool) (due : Answer) (old new : Lasting D) (r : Reply) → IsStill told old new → TellsRead told some due old new r
      → Under (λ h. read_under (where_read some h) old.kept (tells due Closes old.kept)) old new r
  read_turn still true due old new r same (inl (a, holds, well, inl e)) =
      answer_turn still due a old new r (record { still = same; well = well }) (λ h. holds (inl h)) e (text_decided (answer_text a) (answer_text due))
  read_turn still true due old new r same (inl (a, holds, well, inr (inl e))) =
      (Refused, same_turn still (answer_text (refused NoMemory)) Closes old new r (record { still = same; well = well }) e)
  read_turn still true due old new r same (inl (a, holds, well, inr (inr e))) = (Unheard, same_turn still [] Closes old new r (record { still = same; well = well }) e)
  read_turn still true due old new r same (inr (is, failed, inl e)) = (Unread, unread_turn still old new r same failed e)
  read_turn still true due old new r same (inr (is, failed, inr (inl e))) = (UnreadRefused, out_of_memory_unread still old new r same failed e)
  read_turn still true due old new r same (inr (is, failed, inr (inr e))) = (UnreadUnheard, lost_unread still old new r same failed e)
  read_turn still false due old new r same (inl (a, holds, well, inl e)) =
      memory_turn still due a old new r (record { still = same; well = well }) (holds (inr refl)) e
  read_turn still false due old new r same (inl (a, holds, well, inr (inl e))) =
      (Refused, same_turn still (answer_text (refused NoMemory)) Closes old new r (record { still = same; well = well }) e)
  read_turn still false due old new r same (inl (a, holds, well, inr (inr e))) = (Unheard, same_turn still [] Closes old new r (record { still = same; well = well }) e)
  read_turn still false due old new r same (inr (wrong, failed, says)) = absurd (true≢false (sym wrong))

  -- texts are read where there is what they are read for
  pub found_turn : Still → {A : Type 0} → (some : Bool) (o : Option A) (due : Answer) (old new : Lasting D) (r : Reply) → IsStill told old new → TellsFound told some o due old new r
      → Under (λ h. found_under some h old.kept o (tells due Closes old.kept)) old new r
  found_turn still some None due old new r same says = told_turn still due Closes old new r (record { still = same; well = says.0 }) says.1
  found_turn still some (Some x) due old new r same says = read_turn still some due old new r same says

  pub under_as : (f g : Hindrance → ConsoleTurn) (old new : Lasting D) (r : Reply) → ((h : Hindrance) → f h ≡ g h) → Under g old new r → Under f old new r
  under_as f g old new r same u = (u.0, turn_at _ _ old new r (same u.0) u.1)

  -- what is asked for and is told over the desk as it is
  pub serves_told : Still → (at : ℕ) (asked : Result Asked HttpRefused) (a : Answer) (after : After) (old new : Lasting D) (r : Reply) → IsQuiet old new
      → ((h : Hindrance) → hindered h at old.kept asked ≡ told_under h old.kept (tells a after old.kept)) → Tells a after r → AnswersRequest told at asked old new r
  serves_told still at asked a after old new r unchanged same says =
      let u = told_turn still a after old new r unchanged says in
      record { hindrance = u.0; turn_is = turn_at _ _ old new r (same u.0) u.1; still = λ e. unchanged.still }

  -- the same of a route
  pub serves_route : Still → Truth → (at : ℕ) (t s : Taken) (a : Answer) (after : After) (old : Lasting D) (r : Reply) → t ≡ s
      → ((h : Hindrance) → routed_under h at old.kept s ≡ told_under h old.kept (tells a after old.kept)) → Tells a after r → AnswersRequest told at (Ok (Whole t)) old old r
  serves_route still truth at t s a after old r e same says =
      subst (λ (v : Taken). AnswersRequest told at (Ok (Whole v)) old old r) (sym e) (serves_told still at (Ok (Whole s)) a after old old r (as_it_was truth old old refl) same says)

  -- the same of a route that reads texts
  pub serves_found : Still → {A : Type 0} → (at : ℕ) (t s : Taken) (some : Bool) (o : Option A) (due : Answer) (old new : Lasting D) (r : Reply) → t ≡ s → IsStill told old new
      → ((h : Hindrance) → routed_under h at old.kept s ≡ found_under some h old.kept o (tells due Closes old.kept)) → TellsFound told some o due old new r
      → AnswersRequest told at (Ok (Whole t)) old new r
  serves_found still at t s some o due old new r e unchanged same says =
      let u = found_turn still some o due old new r unchanged says in
      subst (λ (v : Taken). AnswersRequest told at (Ok (Whole v)) old new r) (sym e)
      (record { hindrance = u.0; turn_is = turn_at _ _ old new r (same u.0) u.1; still = λ e. unchanged })

  pub serves_refusal : Still → Truth → (at : ℕ) (asked : Result Asked HttpRefused) (why : HttpRefused) (old : Lasting D) (r : Reply) → asked ≡ Err why
      → Tells (refused why) Closes r → AnswersRequest told at asked old old r
  serves_refusal still truth at asked why old r e says =
      subst (λ (v : Result Asked HttpRefused). AnswersRequest told at v old old r) (sym e)
      (serves_told still at (Err why) (refused why) Closes old old r (as_it_was truth old old refl) (λ h. refl) says)

  -- bytes that are not yet a request
  pub serves_waiting : Still → Truth → (at : ℕ) (asked : Result Asked HttpRefused) (yet : Asked) (old : Lasting D) (r : Reply) → asked ≡ Ok yet → yet ≡ NotYet → r ≡ reply [] Waits
      → AnswersRequest told at asked old old r
  serves_waiting still truth at asked yet old r e f says =
      let same : IsQuiet old old = as_it_was truth old old refl in
      subst (λ (v : Result Asked HttpRefused). AnswersRequest told at v old old r) (sym (e ∙ ap (λ (y : Asked). Ok y) f))
      (record { hindrance = Clear; turn_is = same_turn still [] Waits old old r same says; still = λ e. same.still })

  -- ---- turns that seal a record

  -- a record could not be sealed, and that is told or nothing is said
  pub unsealed_turn : (f : Hindrance → ConsoleTurn) (what : JournalRecord) (old new : Lasting D) (r : Reply) → f Unsealed ≡ failed old.kept what → f Untold ≡ unanswered (failed old.kept what)
      → TellsOnly (answer 500 (error_data Disk)) Fails r → new.kept ≡ old.kept → Seals told [] (what ∷ []) old new → ReadsWell told old new
      → FindsMemory (told old.disk) (told new.disk) → Under f old new r
  unsealed_turn f what old new r told_is untold_is (inl e) kept seals well finds_memory =
      (Unsealed, turn_at _ _ old new r told_is (record { reply_is = e; kept = kept; seals = seals; read = reads_well old new well; out_of_memory = none_out_of_memory old new finds_memory }))
  unsealed_turn f what old new r told_is untold_is (inr e) kept seals well finds_memory =
      (Untold, turn_at _ _ old new r untold_is (record { reply_is = e; kept = kept; seals = seals; read = reads_well old new well; out_of_memory = none_out_of_memory old new finds_memory }))

  -- no memory was found before anything was sealed, or in a write of it
  pub out_of_memory_turn : (f : Hindrance → ConsoleTurn) (old new : Lasting D) (r : Reply) → WantsSo f old.kept → new.kept ≡ old.kept → Seals told [] [] old new → ReadsWell told old new
      → Wants old new → RunsOutOfMemory r → Under f old new r
  out_of_memory_turn f old new r so kept seals well (inl finds_memory) (inl e) =
      (Refused, turn_at _ _ old new r so.told_is (record { reply_is = e; kept = kept; seals = seals; read = reads_well old new well; out_of_memory = none_out_of_memory old new finds_memory }))
  out_of_memory_turn f old new r so kept seals well (inl finds_memory) (inr e) =
      (Unheard, turn_at _ _ old new r so.lost_is (record { reply_is = e; kept = kept; seals = seals; read = reads_well old new well; out_of_memory = none_out_of_memory old new finds_memory }))
  out_of_memory_turn f old new r so kept seals well (inr wants) (inl e) =
      (Unwritten, turn_at _ _ old new r so.written_is (record { reply_is = e; kept = kept; seals = seals; read = reads_well old new well; out_of_memory = wants.0 }))
  out_of_memory_turn f old new r so kept seals well (inr wants) (inr e) =
      (UnwrittenUnheard, turn_at _ _ old new r so.unheard_is (record { reply_is = e; kept = kept; seals = seals; read = reads_well old new well; out_of_memory = wants.0 }))

  -- where nothing was sealed, what was kept is kept
  pub kept_stays : (old new : Lasting D) → after_records old.kept [] ≡ Some new.kept → new.kept ≡ old.kept
  kept_stays old new e = sym (ap (λ (o : Option Kept). or_old o) e)
    where
      or_old : Option Kept → Kept
      or_old None = old.kept
      or_old (Some k) = k

  -- ---- acts

  acts : (at : ℕ) (act : Act) (old new : Lasting D) (r : Reply) → nat_lt old.kept.next 4194304 ≡ true
      → Under (λ h. sealed_under h old.kept (done at old.kept act) (failed old.kept (Operator old.kept.next at act))) old new r → AnswersRequest told at (Ok (Whole (route.Act act))) old new r
  acts at act old new r left under =
      let u = under_as _ _ old new r (λ h. act_with h at old.kept act left) under in
      record { hindrance = u.0; turn_is = u.1; still = λ e. absurd (act_seals at old.kept act left e) }

  -- it was sealed, and that is told or nothing is said
  done_turn : (at : ℕ) (act : Act) (old new : Lasting D) (r : Reply) → TellsOnly (answer 200 (number_data old.kept.next)) Closes r
      → new.kept ≡ performed old.kept (act_item old.kept.next at act) → Seals told (Operator old.kept.next at act ∷ []) [] old new → ReadsWell told old new
      → FindsMemory (told old.disk) (told new.disk) → Under (λ h. sealed_under h old.kept (done at old.kept act) (failed old.kept (Operator old.kept.next at act))) old new r
  done_turn at act old new r (inl e) kept seals well finds_memory = (Clear, record { reply_is = e; kept = kept; seals = seals; read = reads_well old new well; out_of_memory = none_out_of_memory old new finds_memory })
  done_turn at act old new r (inr e) kept seals well finds_memory = (Unanswered, record { reply_is = e; kept = kept; seals = seals; read = reads_well old new well; out_of_memory = none_out_of_memory old new finds_memory })

  pub act_done : (at : ℕ) (act : Act) (old new : Lasting D) (r : Reply) → TellsOnly (answer 200 (number_data old.kept.next)) Closes r
      → new.kept ≡ performed old.kept (act_item old.kept.next at act) → Seals told (Operator old.kept.next at act ∷ []) [] old new → ReadsWell told old new
      → FindsMemory (told old.disk) (told new.disk) → AnswersRequest told at (Ok (Whole (route.Act act))) old new r
  act_done at act old new r says kept seals well finds_memory = acts at act old new r (number_left old.kept new.kept at act (seals.kept (inr refl))) (done_turn at act old new r says kept seals well finds_memory)

  none_left : Still → Truth → (at next : ℕ) (act : Act) (old new : Lasting D) (r : Reply) → next ≡ old.kept.next → old.kept.next ≡ 4194304 → new ≡ old
      → Tells (answer 507 (numbers_data next)) Closes r → AnswersRequest told at (Ok (Whole (route.Act act))) old new r
  none_left still truth at next act old new r is_next e same says =
      serves_told still at (Ok (Whole (route.Act act))) (answer 507 (numbers_data old.kept.next)) Closes old new r (as_it_was truth old new same) (λ h. act_without h at old.kept act e)
      (subst (λ (n : ℕ). Tells (answer 507 (numbers_data n)) Closes r) is_next says)

  pub act_not_done : Still → Truth → (at : ℕ) (act : Act) (old new : Lasting D) (f : ActFault) (r : Reply) → old.closed ≡ false → ActsNone told at act old new f → new.kept ≡ old.kept → ReadsWell told old new
      → ActWants told old.disk new.disk f → TellsFault f r → AnswersRequest told at (Ok (Whole (route.Act act))) old new r
  act_not_done still truth at act old new (fault.Numbers next) r open_ none kept well wants says = none_left still truth at next act old new r none.1 none.2 none.3 says
  act_not_done still truth at act old new fault.Disk r open_ none kept well finds_memory says =
      acts at act old new r (less_is old.kept.next none.1) (unsealed_turn _ (Operator old.kept.next at act) old new r refl refl says kept none.2 well finds_memory)
  act_not_done still truth at act old new fault.NoMemory r open_ none kept well wants says =
      acts at act old new r (less_is old.kept.next none.1)
      (out_of_memory_turn _ old new r (sealed_wants old.kept (done at old.kept act) (failed old.kept (Operator old.kept.next at act))) kept none.2 well (wants_of old new wants) says)
  act_not_done still truth at act old new fault.Closed r open_ none kept well wants says = absurd (not_closed open_ none.0)

  -- ---- snapshots

  abbrev Snapping : Lasting D → Lasting D → Reply → Type 0
  Snapping old new r = Under (λ h. sealed_under h old.kept (kept_as_it_is old.kept) (failed old.kept (snapshot_record old.kept))) old new r

  -- a snapshot is to be sealed
  snaps : (at : ℕ) (old new : Lasting D) (r : Reply) → Snapping old new r → AnswersRequest told at (Ok (Whole route.Snapshot)) old new r
  snaps at old new r under = record { hindrance = under.0; turn_is = under.1; still = λ e. absurd (record_is_not (snapshot_record old.kept) [] e) }

  -- it was sealed, and that is told or nothing is said
  kept_turn : (old new : Lasting D) (r : Reply) → TellsOnly (answer 200 (items_data (length old.kept.timeline))) Closes r
      → new.kept ≡ snapshotted old.kept → Seals told (snapshot_record old.kept ∷ []) [] old new → ReadsWell told old new → FindsMemory (told old.disk) (told new.disk) → Snapping old new r
  kept_turn old new r (inl e) kept seals well finds_memory = (Clear, record { reply_is = e; kept = kept; seals = seals; read = reads_well old new well; out_of_memory = none_out_of_memory old new finds_memory })
  kept_turn old new r (inr e) kept seals well finds_memory = (Unanswered, record { reply_is = e; kept = kept; seals = seals; read = reads_well old new well; out_of_memory = none_out_of_memory old new finds_memory })

  pub snapshot_done : (at items : ℕ) (old new : Lasting D) (r : Reply) → TellsOnly (answer 200 (items_data items)) Closes r → items ≡ length old.kept.timeline
      → new.kept ≡ snapshotted old.kept → Seals told (snapshot_record old.kept ∷ []) [] old new → ReadsWell told old new → FindsMemory (told old.disk) (told new.disk)
      → AnswersRequest told at (Ok (Whole route.Snapshot)) old new r
  snapshot_done at items old new r says count kept seals well finds_memory =
      snaps at old new r (kept_turn old new r (subst (λ (n : ℕ). TellsOnly (answer 200 (items_data n)) Closes r) count says) kept seals well finds_memory)

  pub snapshot_not_done : {X : Type 0} → (at : ℕ) (old new : Lasting D) (f : SealFault) (r : Reply) → old.closed ≡ false → SnapshotsNone told old new f → ReadsWell told old new → SealWants {T = X} told old.disk new.disk (Err f)
      → TellsSealFault f r → AnswersRequest told at (Ok (Whole route.Snapshot)) old new r
  snapshot_not_done at old new seal_fault.Disk r open_ none well wants says =
      snaps at old new r (unsealed_turn _ (snapshot_record old.kept) old new r refl refl says (kept_stays old new (none.1.kept (inr refl))) none.1 well (wants.disk refl))
  snapshot_not_done at old new seal_fault.NoMemory r open_ none well wants says =
      snaps at old new r
      (out_of_memory_turn _ old new r (sealed_wants old.kept (kept_as_it_is old.kept) (failed old.kept (snapshot_record old.kept))) (kept_stays old new (none.1.kept (inr refl))) none.1 well
      (wants_of old new (wants.no_memory refl)) says)
  snapshot_not_done at old new seal_fault.Closed r open_ none well wants says = absurd (not_closed open_ none.0)

  -- ---- upgrades

  -- what becomes of an upgrade where the store was upgraded before, and where it was not
  upgrade_again : (h : Hindrance) (at : ℕ) (kept : Kept) → kept.deep ≡ true → upgraded_under h at kept ≡ told_under h kept (tells (answer 200 upgraded_data) Closes kept)
  upgrade_again h at kept e = rw e refl

  upgrade_first : (h : Hindrance) (at : ℕ) (kept : Kept) → kept.deep ≡ false → upgraded_under h at kept ≡ sealed_under h kept (upgrade_done at kept) (failed kept (Upgrade at))
  upgrade_first h at kept e = rw e refl

  -- then its record is to be sealed
  upgrade_seals : (at : ℕ) (kept : Kept) → kept.deep ≡ false → (upgraded_once at kept).sealed ≡ [] → ⊥
  upgrade_seals at kept flat e = record_is_not (Upgrade at) [] (rw flat at e)

  abbrev Upgrading : ℕ → Lasting D → Lasting D → Reply → Type 0
  Upgrading at old new r = Under (λ h. sealed_under h old.kept (upgrade_done at old.kept) (failed old.kept (Upgrade at))) old new r

  upgrades : (at : ℕ) (old new : Lasting D) (r : Reply) → old.kept.deep ≡ false → Upgrading at old new r → AnswersRequest told at (Ok (Whole route.Upgrade)) old new r
  upgrades at old new r flat under =
      let u = under_as _ _ old new r (λ h. upgrade_first h at old.kept flat) under in
      record { hindrance = u.0; turn_is = u.1; still = λ e. absurd (upgrade_seals at old.kept flat e) }

  -- the store was upgraded before, and that is told
  pub upgrade_told : Still → Truth → (at : ℕ) (old : Lasting D) (r : Reply) → old.kept.deep ≡ true → Tells (answer 200 upgraded_data) Closes r
      → AnswersRequest told at (Ok (Whole route.Upgrade)) old old r
  upgrade_told still truth at old r deep says =
      serves_told still at (Ok (Whole route.Upgrade)) (answer 200 upgraded_data) Closes old old r (as_it_was truth old old refl) (λ h. upgrade_again h at old.kept deep) says

  -- it was sealed, and that is told or nothing is said
  upgraded_turn : (at : ℕ) (old new : Lasting D) (r : Reply) → TellsOnly (answer 200 upgraded_data) Upgrades r
      → new.kept ≡ upgraded old.kept → Seals told (Upgrade at ∷ []) [] old new → ReadsWell told old new → FindsMemory (told old.disk) (told new.disk) → Upgrading at old new r
  upgraded_turn at old new r (inl e) kept seals well finds_memory = (Clear, record { reply_is = e; kept = kept; seals = seals; read = reads_well old new well; out_of_memory = none_out_of_memory old new finds_memory })
  upgraded_turn at old new r (inr e) kept seals well finds_memory = (Unanswered, record { reply_is = e; kept = kept; seals = seals; read = reads_well old new well; out_of_memory = none_out_of_memory old new finds_memory })

  -- a store that was not upgraded before is
  pub upgrade_sealed : (at : ℕ) (old new : Lasting D) (r : Reply) → old.kept.deep ≡ false → UpgradesOnce told at old new → ReadsWell told old new → FindsMemory (told old.disk) (told new.disk)
      → TellsOnly (answer 200 upgraded_data) Upgrades r → AnswersRequest told at (Ok (Whole route.Upgrade)) old new r
  upgrade_sealed at old new r flat (inl again) well finds_memory says = absurd (true≢false (sym again.0 ∙ flat))
  upgrade_sealed at old new r flat (inr once) well finds_memory says = upgrades at old new r flat (upgraded_turn at old new r says once.1.1 once.1.2 well finds_memory)

  pub upgrade_not_sealed : {X : Type 0} → (at : ℕ) (old new : Lasting D) (f : SealFault) (r : Reply) → old.closed ≡ false → old.kept.deep ≡ false → UpgradesNone told at old new f → ReadsWell told old new
      → SealWants {T = X} told old.disk new.disk (Err f) → TellsSealFault f r → AnswersRequest told at (Ok (Whole route.Upgrade)) old new r
  upgrade_not_sealed at old new seal_fault.Disk r open_ flat none well wants says =
      upgrades at old new r flat (unsealed_turn _ (Upgrade at) old new r refl refl says (kept_stays old new (none.1.kept (inr refl))) none.1 well (wants.disk refl))
  upgrade_not_sealed at old new seal_fault.NoMemory r open_ flat none well wants says =
      upgrades at old new r flat
      (out_of_memory_turn _ old new r (sealed_wants old.kept (upgrade_done at old.kept) (failed old.kept (Upgrade at))) (kept_stays old new (none.1.kept (inr refl))) none.1 well
      (wants_of old new (wants.no_memory refl)) says)
  upgrade_not_sealed at old new seal_fault.Closed r open_ flat none well wants says = absurd (not_closed open_ none.0)

  -- ---- plans

  abbrev PlanFound : Kept → ℕ → Lasting D → Lasting D → Reply → Option ℕ → Type 0
  PlanFound kept point old new r place = TellsFound told (option_map_or (reads_behind kept) place false) place (planned point (option_map (plan_at kept) place)) old new r

  -- a plan that is made is told
  pub plan_told : (point : ℕ) (text : List ℕ) (old new : Lasting D) (r : Reply) → Plans old.kept point (HoldsTexts told old) text → ReadsWell told old new → Tells (told_plainly text) Closes r
      → TellsFound told (plan_reads old.kept point) (position old.kept.timeline point) (plan_answer old.kept point) old new r
  plan_told point text old new r plans well says =
      subst (λ (o : Option ℕ). PlanFound old.kept point old new r o) (sym plans.1) (inl (told_plainly text, λ h. ap told_plainly (plans.2 h), well, says))

  there_is : {A : Type 0} → (o : Option A) → IsSome o → (x : A) × (o ≡ Some x)
  there_is None is = absurd (true≢false (sym is))
  there_is (Some x) is = (x, refl)

  there_reads : {A : Type 0} → (reads : A → Bool) (o : Option A) → option_map_or reads o false ≡ true → (x : A) × (o ≡ Some x) × (reads x ≡ true)
  there_reads reads None is = absurd (true≢false (sym is))
  there_reads reads (Some x) is = (x, refl, is)

  -- why none is made is told
  pub plan_not_told : (point : ℕ) (f : CycleFault) (old new : Lasting D) (r : Reply) → PlansNone old.kept point (told old.disk) (told new.disk) f → TellsCycleFault false f r
      → TellsFound told (plan_reads old.kept point) (position old.kept.timeline point) (plan_answer old.kept point) old new r
  plan_not_told point (cycle_fault.Point given) old new r none says =
      subst (λ (o : Option ℕ). PlanFound old.kept point old new r o) (sym none.0) (none.2, subst (λ (n : ℕ). Tells (pointless n) Closes r) none.1 says)
  plan_not_told point (cycle_fault.Numbers next) old new r none says = absurd none
  plan_not_told point cycle_fault.Disk old new r none says =
      let there = there_reads (reads_behind old.kept) (position old.kept.timeline point) none.0 in
      subst (λ (o : Option ℕ). PlanFound old.kept point old new r o) (sym there.1) (inr (there.2, none.1, says))
  plan_not_told point cycle_fault.NoMemory old new r none says =
      let there = there_is (position old.kept.timeline point) none.0 in
      subst (λ (o : Option ℕ). PlanFound old.kept point old new r o) (sym there.1) (inl (told_plainly (plan_at old.kept there.0), λ h. refl, none.1, inr says))
  plan_not_told point cycle_fault.Closed old new r none says = absurd none

  -- ---- texts

  -- a text that was read, or is in memory, is told
  pub text_told : (body : Body) (read : Option (List ℕ)) (old new : Lasting D) (r : Reply) → (HoldsTexts told old → read ≡ text_kept old.kept body) → (some : Bool) → (some ≡ false → read ≡ text_kept old.kept body)
      → ReadsWell told old new → Tells (text_answer read body.rev) Closes r → (text : List ℕ) → text_kept old.kept body ≡ Some text → TellsRead told some (answer 200 (body_data text body.rev)) old new r
  text_told body read old new r holds some memory well says text is =
      inl (text_answer read body.rev, due, well, says)
    where
      as_answer : read ≡ text_kept old.kept body → text_answer read body.rev ≡ answer 200 (body_data text body.rev)
      as_answer e = ap (λ (o : Option (List ℕ)). text_answer o body.rev) (e ∙ is)

      due : HoldsTexts told old ⊎ (some ≡ false) → text_answer read body.rev ≡ answer 200 (body_data text body.rev)
      due (inl h) = as_answer (holds h)
      due (inr none) = as_answer (memory none)

  -- why it was not read is told
  pub text_not_told : (f : ReadFault) (some : Bool) (due : Answer) (old new : Lasting D) (r : Reply) → (f ≡ read_fault.Disk → some ≡ true) → (f ≡ read_fault.Disk → ReadFailed (told old.disk) (told new.disk))
      → (f ≡ read_fault.NoMemory → ReadsWell told old new) → TellsReadFault f r → TellsRead told some due old new r
  text_not_told read_fault.Disk some due old new r is failed well says = inr (is refl, failed refl, says)
  text_not_told read_fault.NoMemory some due old new r is failed well says = inl (due, λ h. refl, well refl, inr says)
