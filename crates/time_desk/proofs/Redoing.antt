-- What comes of a request whose record is read, performed again and put in place.
use Rattle.std.proofs.Common.{◌≡◌, ◌∙◌, ◌+◌, ◌<◌, ◌≤◌, ◌==◌, ℕ, Bool, true, List, Some, Result, Ok, Err, IfOk, arith, ap, sym, subst}
use Rattle.std.specs.Prelude.{is_none, length}
use Rattle.std.specs.Cmp.{first_so, second_so}
use Rattle.std.specs.List.{AllByRecursion}
use Rattle.std.proofs.lemmas.Bool.Decides.{nat_tests}
use Rattle.undo_base.specs.declared.memory.NoMemory.{NoMemory}
use Rattle.undo_outside.specs.Disk.{DiskTold}
use Rattle.verb_core.specs.Items.{NumbersApart}
use Rattle.verb_core.specs.declared.item.Item.{Item}
use Rattle.verb_bytes.specs.declared.journal.CycleAsk.{CycleAsk}
use Rattle.verb_bytes.specs.declared.journal.JournalRecord.TheVariants as records
use Rattle.verb_bytes.specs.Spelling.{HasSpelling, record_bytes}
use Rattle.seal_log.specs.Journal.{LiesAt}
use Rattle.seal_log.specs.declared.fault.ReadFault.{ReadFault}
use Rattle.seal_log.specs.declared.place.Place.{Place}
use Rattle.shelf.specs.Marks.{marks_at_or_before}
use Rattle.store_kept.specs.Bases.{HasBase}
use Rattle.store_kept.specs.Coming.{HasUndone}
use Rattle.store_kept.specs.Kept.{Kept, report_of}
use Rattle.store_kept.specs.Texts.{items_asked}
use Rattle.cycle_rules.specs.Asking.{after_cycle}
use Rattle.cycle_rules.specs.Cycles.{repair_of}
use Rattle.cycle_rules.specs.Withdrawals.{after_withdrawal, unedit_of, withdrawn_at}
use Rattle.mail_cycle.specs.declared.settling.Rewound.{Rewound}
use Rattle.mail_cycle.proofs.Made.{made_whole}
use Rattle.mail_desk.specs.Held.{Held}
use Rattle.mail_desk.specs.Timeline.{SizesOf}
use Rattle.desk_journal.specs.Records.{after_due, after_record}
use Rattle.desk_journal.specs.Stored.{AreNoted, IsBefore, IsStored, KeepsMarks, MarkedBefore, MarksLie, NotesTexts, TextsHeld, TextsNoted, TextsStored}
use Rattle.desk_journal.specs.Telling.{HoldsHeld}
use Rattle.desk_journal.proofs.Marking.{marks_kept}
use Rattle.time_desk.specs.declared.request.Request.{Request}
use Rattle.time_desk.specs.declared.request.Request.TheVariants.{Cycle, Withdrawal}
use Rattle.time_desk.specs.Cycling.{CanBeUndone, IsFit, after_rewound}
use Rattle.time_desk.specs.Requests.{IsKnown, NotesFor, RedoesAloneFor, after_of, anew_of, key_of, knows_acts, record_of, redoes, undoes_of}
use Rattle.time_desk.specs.Standing.{AsksAlike}
use Rattle.time_desk.proofs.Holding.{noted_alike}
use Rattle.time_desk.proofs.Marking.{made_marks, withdrawn_marks}
use Rattle.time_desk.proofs.Renoting.{cycle_follows, put_lies, put_noted}
use Rattle.time_desk.proofs.Restored.{withdrawal_lies, withdrawal_noted}
use Rattle.time_desk.proofs.Rewinding.{after_is, after_withdrawal_is, held_cycled}
use Rattle.time_desk.proofs.Undone.{undone_is}
use Rattle.time_desk.proofs.Withdrawing.{held_withdrawn, withdrawal_follows}

-- ---- whether it can follow

-- its moment is one that can be spelled
pub has_moment : (last : ℕ) → ((number at : ℕ) (ask : CycleAsk) → HasSpelling (records.Cycle number at ask) → at ≤ last) → ((number at : ℕ) (key : List ℕ) (of : ℕ) → HasSpelling (records.Withdraw number at key of) → at ≤ last)
    → (number at : ℕ) (asked : Request) → HasSpelling (record_of number at asked) → at ≤ last
has_moment last cycles withdrawals number at (Cycle ask) spelled = cycles number at ask.now spelled
has_moment last cycles withdrawals number at (Withdrawal key of) spelled = withdrawals number at key.now of spelled

-- the users of its acts are known
pub knows_them : (kept : Kept) (number : ℕ) (asked : Request) → true ≡ redoes kept number asked → IsKnown kept asked
knows_them kept number (Cycle ask) can = second_so (number == kept.next) (knows_acts kept.house (Cycle ask)) (sym can)
knows_them kept number (Withdrawal key of) can = tt

-- it has the next number
pub has_next : (kept : Kept) (number : ℕ) (asked : Request) → true ≡ redoes kept number asked → number ≡ kept.next
has_next kept number asked can =
    let same : (number == kept.next) ≡ true = first_so (number == kept.next) (knows_acts kept.house asked) (sym can) in
    grind (arith, nat_tests)

-- what its record leaves is what is due under a new key
pub redo_follows : (kept : Kept) (number at : ℕ) (asked : Request) → HasSpelling (record_of number at asked) → true ≡ redoes kept number asked → (key : List ℕ) → key ≡ key_of asked → true ≡ is_none (report_of kept.reports key)
    → after_record kept (record_of number at asked) ≡ after_due (after_of kept asked) (anew_of kept at asked)
redo_follows kept number at (Cycle ask) spelled can key same new = cycle_follows kept number at ask.now spelled (sym can) (subst (λ (k : List ℕ). is_none (report_of kept.reports k) ≡ true) same (sym new))
redo_follows kept number at (Withdrawal mine of) spelled can key same new =
    withdrawal_follows kept number at mine.now of spelled (first_so (number == kept.next) true (sym can)) (subst (λ (k : List ℕ). is_none (report_of kept.reports k) ≡ true) same (sym new))

-- ---- what came of it

module _ {D : Type 0} (told : D → DiskTold) (held : Held) (at : ℕ) (old new : D) where
  pub fit_alone : (made : Rewound) (asked : Request) → RedoesAloneFor told held at asked old new (Ok made) → IsFit held.kept made
  fit_alone made (Cycle ask) redoes = redoes.fit
  fit_alone made (Withdrawal key of) redoes = redoes.fit

  pub undone_alone : (made : Rewound) (asked : Request) → RedoesAloneFor told held at asked old new (Ok made) → CanBeUndone held.kept (undoes_of asked) made
  undone_alone made (Cycle ask) redoes = redoes.undone
  undone_alone made (Withdrawal key of) redoes = tt

-- ---- put in place

module _ {D : Type 0} (told : D → DiskTold) (old new : Held) (at : ℕ) (disk disk' : D) (made : Rewound) where
  abbrev Honest : Type 0
  Honest = HoldsHeld (told disk) old

  -- what is due is what is kept then
  pub redone_is : (asked : Request) (payloads : List (List ℕ)) → TextsHeld (told disk) payloads old.kept old.notes old.marks → RedoesAloneFor told old at asked disk disk' (Ok made)
      → new.kept ≡ after_rewound old.kept (key_of asked) (undoes_of asked) made → after_due (after_of old.kept asked) (anew_of old.kept at asked) ≡ Some new.kept
  redone_is (Cycle ask) payloads texts redoes put =
      let is = held_cycled old.kept at ask.now Honest made redoes.cycled in
      let leaves = made_whole old.kept at (repair_of old.kept at ask.now is.place) Honest made is.is_made (payloads, texts) in
      ap (after_due (after_cycle old.kept ask.now)) is.due ∙ ap Some (after_is old.kept at ask.now is.place made leaves ∙ sym put)
  redone_is (Withdrawal key of) payloads texts redoes put =
      let is = held_withdrawn old.kept at of Honest made redoes.withdrawn in
      let leaves = made_whole old.kept at (unedit_of old.kept is.last) Honest made is.is_made (payloads, texts) in
      ap (after_due (after_withdrawal old.kept key.now)) is.due ∙ ap Some (after_withdrawal_is old.kept key.now (withdrawn_at old.kept at is.last) made leaves ∙ sym put)

  -- the snapshots that stay lie where they are marked
  pub redone_marks : (asked : Request) (payloads : List (List ℕ)) → TextsHeld (told disk) payloads old.kept old.notes old.marks → RedoesAloneFor told old at asked disk disk' (Ok made)
      → new.kept ≡ after_rewound old.kept (key_of asked) (undoes_of asked) made → new.marks ≡ marks_at_or_before made.place old.marks → MarksLie payloads new.kept new.marks
  redone_marks (Cycle ask) payloads texts redoes put marks =
      subst (MarksLie payloads new.kept) (sym marks)
      (made_marks payloads old.kept new.kept at ask.now Honest made old.marks (payloads, texts) (held_cycled old.kept at ask.now Honest made redoes.cycled) (ap (λ (k : Kept). k.base) put) (ap (λ (k : Kept). k.timeline) put) texts.marks)
  redone_marks (Withdrawal key of) payloads texts redoes put marks =
      let is = held_withdrawn old.kept at of Honest made redoes.withdrawn in
      subst (MarksLie payloads new.kept) (sym marks)
      (withdrawn_marks payloads old.kept new.kept at is.last Honest made old.marks (payloads, texts) is.is_made (ap (λ (k : Kept). k.base) put) (ap (λ (k : Kept). k.timeline) put) texts.marks)

  module _ (place : Place) (sizes : SizesOf old.notes old.kept.texts (items_asked old.kept)) (base : HasBase old.kept) (apart : NumbersApart old.kept.timeline)
      (below : AllByRecursion (λ (i : Item). i.number < old.kept.next) old.kept.timeline) (undone : HasUndone old.kept) where
    -- each text lies where it is noted
    pub redone_lies : (asked : Request) (payloads : List (List ℕ)) → TextsHeld (told disk) payloads old.kept old.notes old.marks → RedoesAloneFor told old at asked disk disk' (Ok made)
        → LiesAt payloads place.gate place.length (record_bytes (record_of old.kept.next at asked)) → new.kept ≡ after_rewound old.kept (key_of asked) (undoes_of asked) made → NotesFor old at asked place made new.notes
        → TextsStored payloads new.notes new.kept
    redone_lies (Cycle ask) payloads texts redoes lies put notes =
        put_lies old new at ask.now Honest made place (record_bytes (records.Cycle old.kept.next at ask.now)) notes.fresh notes.is_fresh (held_cycled old.kept at ask.now Honest made redoes.cycled) redoes.fit.timeline.apart ask.now.key put sizes base apart below undone
        notes.renotes payloads lies (payloads, texts) texts.revs texts.back texts.lie
    redone_lies (Withdrawal key of) payloads texts redoes lies put notes =
        let is = held_withdrawn old.kept at of Honest made redoes.withdrawn in
        withdrawal_lies old new at is.last (undone_is old.kept of is.last is.is_last) Honest made is.is_made redoes.fit.timeline.apart base notes.0 notes.3 key.now put payloads (payloads, texts) texts.lie

    -- and each is noted before a gate
    pub redone_noted : (asked : Request) (gate : ℕ) → RedoesAloneFor told old at asked disk disk' (Ok made) → place.gate + 5 + place.length ≤ gate → place.length ≡ length (record_bytes (record_of old.kept.next at asked))
        → new.kept ≡ after_rewound old.kept (key_of asked) (undoes_of asked) made → NotesFor old at asked place made new.notes → SizesOf new.notes new.kept.texts (items_asked new.kept) → TextsNoted gate old.notes old.kept → TextsNoted gate new.notes new.kept
    redone_noted (Cycle ask) gate redoes within long put notes sizes' noted =
        put_noted old new at ask.now Honest made place (record_bytes (records.Cycle old.kept.next at ask.now)) notes.fresh notes.is_fresh (held_cycled old.kept at ask.now Honest made redoes.cycled) redoes.fit.timeline.apart ask.now.key put sizes base apart below undone
        notes.renotes gate within long (subst (λ (k : Kept). SizesOf new.notes k.texts (items_asked k)) put sizes') noted
    redone_noted (Withdrawal key of) gate redoes within long put notes sizes' noted =
        let is = held_withdrawn old.kept at of Honest made redoes.withdrawn in
        withdrawal_noted old new at is.last (undone_is old.kept of is.last is.is_last) Honest made is.is_made redoes.fit.timeline.apart base notes.0 notes.3 key.now put gate
        (subst (λ (k : Kept). SizesOf new.notes k.texts (items_asked k)) put sizes') noted

-- ---- a record that asks nothing

-- a record that brings no texts leaves those that are there where they are noted
pub notes_alike : (end : ℕ) (place : Place) (bytes : List ℕ) (old new : Held) → AsksAlike old new → NotesTexts end place bytes old new
notes_alike end place bytes old new alike = record {
  before = noted_alike (IsBefore end) old new alike;
  lie = λ payloads lies all. noted_alike (IsStored payloads) old new alike all;
}

-- and one that sets no marks leaves these
pub marks_alike : (end : ℕ) (place : Place) (bytes : List ℕ) (old new : Held) → new.marks ≡ old.marks → new.kept.base ≡ old.kept.base → new.kept.timeline ≡ old.kept.timeline → KeepsMarks end place bytes old new
marks_alike end place bytes old new same base timeline = record {
  before = λ all. subst (MarkedBefore end) (sym same) all;
  lie = λ payloads lies runs all. subst (MarksLie payloads new.kept) (sym same) (marks_kept payloads old.kept new.kept old.marks base timeline all);
}

-- ---- what is told of one answer is told of the other, which hands it on

pub handed_on : (A : Bool → Type 0) (r : Result Bool NoMemory) (s : Result Bool ReadFault) → IfOk s (λ b. r ≡ Ok b) → IfOk r A → IfOk s A
handed_on A r (Ok b) same told = subst (λ (x : Result Bool NoMemory). IfOk x A) same told
handed_on A r (Err why) same told = tt

-- what was noted before a gate is, behind a record that stood
pub both_kept : (end gate : ℕ) (old new : Held) (bytes : List ℕ) (place : Place) (r : Result Bool NoMemory) (s : Result Bool ReadFault) → IfOk s (λ b. r ≡ Ok b) → end ≡ gate → AreNoted gate old
    → IfOk r (λ stood. stood ≡ true → NotesTexts end place bytes old new) → IfOk r (λ stood. stood ≡ true → KeepsMarks end place bytes old new) → IfOk s (λ stood. stood ≡ true → AreNoted gate new)
both_kept end gate old new bytes place r (Ok stood) is same noted notes marks =
    let told = subst (λ (x : Result Bool NoMemory). IfOk x (λ b. b ≡ true → NotesTexts end place bytes old new)) is notes in
    let kept = subst (λ (x : Result Bool NoMemory). IfOk x (λ b. b ≡ true → KeepsMarks end place bytes old new)) is marks in
    λ e.
    subst (λ (n : ℕ). AreNoted n new) same (record {
      noted = (told e).before (subst (λ (n : ℕ). TextsNoted n old.notes old.kept) (sym same) noted.noted);
      marked = (kept e).before (subst (λ (n : ℕ). MarkedBefore n old.marks) (sym same) noted.marked);
    })
both_kept end gate old new bytes place r (Err why) is same noted notes marks = tt
