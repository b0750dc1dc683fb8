-- What it comes to that mail was served to the end over an honest disk.
use Rattle.std.proofs.Common.{◌==◌, ◌≡◌, ◌≢◌, ◌⊎◌, ◌^◌, ◌++◌, ℕ, zero, suc, Bool, true, false, List, [], length, take, MatchBool, nat_lt, if◌then◌else◌, Option, None, Some, Result, Ok, Err, refl, ap, subst, sym, ◌∙◌, inl, inr, arith}
use Rattle.std.proofs.lemmas.Bool.Decides.{nat_tests}
use Rattle.std.proofs.lemmas.List.{append-nil}
use Rattle.undo_outside.specs.declared.event.Event.{Event}
use Rattle.undo_outside.specs.declared.event.LinkNote.{LinkNote}
use Rattle.undo_outside.specs.declared.fault.Fault.{Fault}
use Rattle.undo_outside.specs.declared.fault.Fault.TheVariants.{Failed, NoMemory as SinkOutOfMemory}
use Rattle.undo_outside.specs.Calls.{LinkTold, SinkTold, SourceTold, then_told}
use Rattle.undo_outside.specs.Disk.{DiskTold}
use Rattle.undo_outside.specs.Moments.{LeavesOnly}
use Rattle.seal_log.specs.Journal.{StandsFor, StandsForFront}
use Rattle.verb_bytes.specs.declared.journal.JournalRecord.{JournalRecord}
use Rattle.time_desk.specs.declared.fault.StartFault.TheVariants as start
use Rattle.time_desk.specs.Opening.{Starts}
use Rattle.desk_journal.specs.Lasting.{Lasting}
use Rattle.desk_journal.specs.Records.{payloads_of}
use Rattle.desk_journal.proofs.Runs.{state_then}
use Rattle.mail_loop.specs.declared.serve.ServeFault.{ServeFault}
use Rattle.mail_loop.specs.declared.serve.ServeFault.TheVariants as serve
use Rattle.mail_loop.specs.Serving.{Ends, Served, Serves, Step, events_of, unsealed_in}
use Rattle.script_link.specs.Script.{script_of}
use Rattle.script_link.specs.Transcript.{transcript_of}
use Rattle.base_cut.specs.Writing.{SinkTook, WritesAll}
use Rattle.command_words.specs.declared.commands.Command.{Command}
use Rattle.command_words.specs.declared.commands.Command.TheVariants.{Init, Serve, Script, Play, Grow, Check, Cut, Audit}
use Rattle.command_words.specs.Usage.{command_of}
use Rattle.journal_laws.specs.Keeping.{KeepsMail}
use Rattle.mail_proxy.specs.Answers.{Answers, Does}
use Rattle.mail_proxy.specs.Causes.{Outside}
use Rattle.mail_proxy.specs.Headline.{IsServed, ServedLink, ServedScript, ServedToEnd}
use Rattle.mail_proxy.specs.Lines.{bad_line, no_memory, too_long}
use Rattle.mail_proxy.specs.Opening.{OpensNone}
use Rattle.mail_proxy.specs.Promises.{HonestDisk, IsLasting, ServesDesk}
use Rattle.mail_proxy.specs.Script.{RunsScript, Scripts, ServesEvents, last_line, or_no_memory, status_of}
use Rattle.mail_proxy.specs.Serve.{ServesStore}
use Rattle.mail_proxy.specs.Shows.{Shows, first_fault, status_after}
use Rattle.mail_proxy.specs.Texts.{End, IsText, ending}

take_none : (n : ℕ) → ◌≡◌ {A = List (List ℕ)} (take n []) []
take_none zero = refl
take_none (suc n) = refl

-- where none failed the image stands for all
all_stand : (payloads : List (List ℕ)) (failed : List JournalRecord) (image : List ℕ) → failed ≡ [] → StandsForFront payloads (payloads_of failed) image → StandsFor image payloads
all_stand payloads failed image none front =
    let alone : StandsForFront payloads [] image = subst (λ (rs : List JournalRecord). StandsForFront payloads (payloads_of rs) image) none front in
    let stands : StandsFor image (payloads ++ []) = subst (λ (ps : List (List ℕ)). StandsFor image (payloads ++ ps)) (take_none alone.count) alone.stands in
    subst (StandsFor image) (append-nil payloads) stands

-- what was sealed and then what failed, where nothing did
none_behind : (added failed : List JournalRecord) → failed ≡ [] → added ++ failed ≡ added
none_behind added failed none = ap (λ (rs : List JournalRecord). added ++ rs) none ∙ append-nil added

-- serving over a desk that went to the end
to_end : {D : Type 0} (told : D → DiskTold) (steps : List Step) (outcome : Result (Unit {0}) ServeFault) (first last : Lasting D) (served : ServesDesk told steps outcome first last)
    (old new : DiskTold) (notes : List LinkNote) → IsLasting told steps outcome first last served old new → Serves steps first.kept notes last.kept → Ends steps first.kept
    → unsealed_in steps first.kept ≡ [] → ServedToEnd old new (events_of steps) notes
to_end told steps outcome first last served old new notes lasts serves ends none =
    let j = lasts.journals in
    let failed = unsealed_in steps first.kept in
    let same = none_behind served.added failed none in
    record {
      records = j.records;
      stood = j.stands;
      first = first.kept;
      first_is = j.state_is;
      steps = steps;
      events_are = refl;
      ends = ends;
      notes_are = serves.notes_are;
      added = served.added;
      last = last.kept;
      last_is = serves.kept_is;
      leave = state_then j.records served.added first.kept last.kept j.state_is (served.seals.kept (inl lasts.texts));
      stands = all_stand (payloads_of (j.records ++ served.added)) failed new.content none j.reads;
      now = λ image here. all_stand (payloads_of (j.records ++ served.added)) failed image none (j.now image here);
      any_moment = λ resting. subst (λ (rs : List JournalRecord). LeavesOnly old new (StandsForFront (payloads_of j.records) (payloads_of rs))) same (j.any_moment resting);
      kept = lasts.kept;
      mail = subst (λ (rs : List JournalRecord). KeepsMail j.records rs) same lasts.mail;
    }

-- a status of 0 where none came before is no fault's
no_fault : (planned later : ℕ) → later ≢ 0 → first_fault planned later ≢ 0
no_fault zero later some e = some e
no_fault (suc n) later some e =
    let test : (suc n == 0) ≡ false = grind (arith, nat_tests) in
    let wrong : suc n ≡ 0 = sym (ap (λ (b : Bool). if b then later else suc n) test) ∙ e in
    omega (arith, wrong)

ended_well : (outcome : Result (Unit {0}) ServeFault) → status_of outcome ≡ 0 → outcome ≡ Ok tt
ended_well (Ok x) e = refl
ended_well (Err serve.Link) e = absurd (omega (arith, e))
ended_well (Err serve.Disk) e = absurd (omega (arith, e))
ended_well (Err serve.Turns) e = absurd (omega (arith, e))
ended_well (Err serve.NoMemory) e = absurd (omega (arith, e))

module _ {D : Type 0} (told : D → DiskTold) (disk : D) (end : End D) (text text' : SourceTold) (link link' : LinkTold) (out out' : SinkTold) where
  abbrev before : Outside
  before = record { text = text; link = link; disk = told disk; out = out }

  abbrev after : Outside
  after = record { text = text'; link = link'; disk = told end.disk; out = out' }

  not_opened : OpensNone told disk end → end.status ≢ 0
  not_opened (start.NotFormatted, starts, is, line) good = omega (arith, is, good)
  not_opened (start.Damaged place, starts, is, line) good = omega (arith, is, good)
  not_opened (start.Disk, starts, is, line) good = omega (arith, is, good)
  not_opened (start.NoMemory, starts, is, line) good = omega (arith, is, good)

  other_end : (status : ℕ) (line : List ℕ) → end ≡ ending status line disk → status ≢ 0 → end.status ≢ 0
  other_end status line e some good = some (sym (ap (λ (x : End D). x.status) e) ∙ good)

  served_link : ServesStore told link link' disk end → end.status ≡ 0 → HonestDisk (told disk) → ServedLink before after
  served_link (inl (none, still)) good honest = absurd (not_opened none good)
  served_link (inr (desk, starts, (last, r, disk_is, lasts))) good honest =
      let well = ended_well r.outcome (sym r.status_is ∙ good) in
      let to : Served (2 ^ 40) r.over.wants r.steps desk.kept r.notes last.kept (Ok tt) =
      subst (λ (o : Result (Unit {0}) ServeFault). Served (2 ^ 40) r.over.wants r.steps desk.kept r.notes last.kept o) well r.over.served in
      record {
        events = events_of r.steps;
        notes = r.notes;
        served = to_end told r.steps r.outcome desk last r.desk (told disk) (told end.disk) r.notes (lasts honest) to.0 to.1 to.2;
        came = r.over.order;
        did = λ tells. r.over.log ∙ ap (λ (o : Option (List LinkNote)). then_told o r.notes) tells.told;
      }

  -- the transcript was planned, and nothing more
  transcript_alone : (outcome : Result (Unit {0}) ServeFault) (notes : List LinkNote) → outcome ≡ Ok tt → end.status ≡ 0
      → ((end.status ≡ status_of outcome) × (end.output ≡ transcript_of notes ++ last_line outcome)) ⊎ ((end.status ≡ status_of (or_no_memory outcome)) × (end.output ≡ last_line (or_no_memory outcome)))
      → end.output ≡ transcript_of notes
  transcript_alone outcome notes well good (inl (status, line)) =
      line ∙ ap (λ (o : Result (Unit {0}) ServeFault). transcript_of notes ++ last_line o) well ∙ append-nil (transcript_of notes)
  transcript_alone outcome notes well good (inr (status, line)) =
      let eight : end.status ≡ 8 = status ∙ ap (λ (o : Result (Unit {0}) ServeFault). status_of (or_no_memory o)) well in
      absurd (omega (arith, eight, good))

  served_events : (t : List ℕ) → IsText text.left t → nat_lt 67108864 (length t) ≡ false → (events : List Event) → script_of t ≡ Ok events → (desk : Lasting D)
      → ServesEvents told disk events desk end → end.status ≡ 0 → SinkTook out out' end.output → HonestDisk (told disk) → ServedScript before after
  served_events t is_text short events is desk (last, r, disk_is, lasts) good took honest =
      let planned = sym (outcome_zero r.outcome r.notes r.tells good) in
      let well = ended_well r.outcome (sym planned) in
      let to : Served (2 ^ 40) r.played.wants r.steps desk.kept r.notes last.kept (Ok tt) =
      subst (λ (o : Result (Unit {0}) ServeFault). Served (2 ^ 40) r.played.wants r.steps desk.kept r.notes last.kept o) (r.played.whole well).0 r.played.served in
      record {
        script = events;
        is_script = record { text = t; is_text = is_text; short = short; events_are = is };
        events = events_of r.steps;
        are_first = r.played.events_are;
        notes = r.notes;
        served = to_end told r.steps r.outcome desk last r.desk (told disk) (told end.disk) r.notes (lasts honest) to.0 to.1 to.2;
        wrote = subst (SinkTook out out') (transcript_alone r.outcome r.notes well good r.tells) took;
      }
    where
      outcome_zero : (outcome : Result (Unit {0}) ServeFault) (notes : List LinkNote)
          → ((end.status ≡ status_of outcome) × (end.output ≡ transcript_of notes ++ last_line outcome)) ⊎ ((end.status ≡ status_of (or_no_memory outcome)) × (end.output ≡ last_line (or_no_memory outcome)))
          → end.status ≡ 0 → status_of outcome ≡ 0
      outcome_zero outcome notes (inl (status, line)) good = sym status ∙ good
      outcome_zero (Ok x) notes (inr (status, line)) good = refl
      outcome_zero (Err e) notes (inr (status, line)) good = sym status ∙ good

  served_script : Scripts told text text' disk end → end.status ≡ 0 → SinkTook out out' end.output → HonestDisk (told disk) → ServedScript before after
  served_script (inl (t, (is_text, clean), read)) good took honest = by_length (nat_lt 67108864 (length t)) refl read
    where
      by_script : (script : Result (List Event) ℕ) → script_of t ≡ script → nat_lt 67108864 (length t) ≡ false → RunsScript told disk script end → ServedScript before after
      by_script (Err n) is short e = absurd (other_end 2 (bad_line n) e (λ z. omega (arith, z)) good)
      by_script (Ok events) is short (inl none) = absurd (not_opened none good)
      by_script (Ok events) is short (inr (desk, starts, serves)) = served_events t is_text short events is desk serves good took honest

      by_length : (b : Bool) → nat_lt 67108864 (length t) ≡ b → MatchBool b (end ≡ ending 2 too_long disk) (RunsScript told disk (script_of t) end) → ServedScript before after
      by_length true long e = absurd (other_end 2 too_long e (λ z. omega (arith, z)) good)
      by_length false short runs = by_script (script_of t) refl short runs
  served_script (inr (inl (e, fails))) good took honest = absurd (other_end 6 _ e (λ z. omega (arith, z)) good)
  served_script (inr (inr (e, clean))) good took honest = absurd (other_end 8 _ e (λ z. omega (arith, z)) good)

  module _ (s : ℕ) where
    by_command : (command : Option Command) → Does told command text text' link link' s out out' disk end → end.status ≡ 0 → SinkTook out out' end.output → HonestDisk (told disk)
        → IsServed command before after
    by_command None does good took honest = tt
    by_command (Some Init) does good took honest = tt
    by_command (Some (Serve smtp imap http pop)) (same, serves) good took honest = served_link serves good honest
    by_command (Some Script) scripts good took honest = served_script scripts good took honest
    by_command (Some Play) does good took honest = tt
    by_command (Some (Grow rounds)) does good took honest = tt
    by_command (Some Check) does good took honest = tt
    by_command (Some (Cut point)) does good took honest = tt
    by_command (Some Audit) does good took honest = tt

    by_answers : (words : List (List ℕ)) → Answers told words text text' link link' s out out' disk end → end.status ≡ 0 → SinkTook out out' end.output → HonestDisk (told disk)
        → IsServed (command_of words) before after
    by_answers words (inl does) good took honest = by_command (command_of words) does good took honest
    by_answers words (inr (kept, (same, e))) good took honest = absurd (other_end 8 no_memory e (λ z. omega (arith, z)) good)

    -- what the words come to with status 0
    pub served_of : (words : List (List ℕ)) → Answers told words text text' link link' s out out' disk end → Shows end.status end.output s out out' → s ≡ 0 → HonestDisk (told disk)
        → IsServed (command_of words) before after
    served_of words answers (wrote, writes, status) nought honest = by_wrote wrote writes status
      where
        by_wrote : (wrote : Result (Unit {0}) Fault) → WritesAll out out' end.output wrote → s ≡ status_after end.status wrote → IsServed (command_of words) before after
        by_wrote (Ok x) took e = by_answers words answers (sym e ∙ nought) took honest
        by_wrote (Err Failed) fails e = absurd (no_fault end.status 9 (λ z. omega (arith, z)) (sym e ∙ nought))
        by_wrote (Err SinkOutOfMemory) lacks e = absurd (no_fault end.status 8 (λ z. omega (arith, z)) (sym e ∙ nought))
