-- What a disk stands for after events were served over it.
use Rattle.std.proofs.Common.{◌≡◌, ℕ, List, ◌++◌, Some, Result, Ok, subst, sym, inl, arith}
use Rattle.std.proofs.lemmas.List.{append-nil, map-append}
use Rattle.undo_outside.specs.Disk.{DiskTold, IsHonest}
use Rattle.undo_outside.specs.Moments.{LeavesOnly}
use Rattle.undo_outside.proofs.Moments.{joined}
use Rattle.seal_log.specs.Journal.{StandsFor, StandsForFront}
use Rattle.seal_log.specs.Settled.{IsSettled}
use Rattle.verb_bytes.specs.declared.journal.JournalRecord.{JournalRecord}
use Rattle.verb_bytes.specs.Spelling.{record_bytes}
use Rattle.desk_journal.specs.Lasting.{Lasting}
use Rattle.time_desk.specs.Opening.{Starts}
use Rattle.desk_journal.specs.Records.{payloads_of, state}
use Rattle.desk_journal.specs.Sealing.{Seals}
use Rattle.desk_journal.specs.Stored.{HoldsTexts}
use Rattle.mail_loop.specs.Acknowledged.{AnswersLast, Course, Stretch}
use Rattle.mail_loop.specs.declared.serve.ServeFault.{ServeFault}
use Rattle.mail_loop.specs.Serving.{Step, at_first, unsealed_in}
use Rattle.journal_laws.specs.Keeping.{IsJournalRun}
use Rattle.journal_laws.specs.Premises.{IsDeskRun}
use Rattle.mail_proxy.specs.Promises.{HonestDisk, IsLasting, Journals, ServesDesk}
use Rattle.mail_proxy.proofs.Served.{RunsKeepMail}

-- none of those that are sealed is there
none_of : (payloads sealing : List (List ℕ)) (image : List ℕ) → StandsFor image payloads → StandsForFront payloads sealing image
none_of payloads sealing image stands = record { count = 0; few = omega arith; stands = subst (StandsFor image) (sym (append-nil payloads)) stands }

-- what was answered over a desk stays, as a law of mail_loop has it
abbrev pub AnswersStay : {D : Type 0} → (D → DiskTold) → Type 0
AnswersStay {D} told = (records : List JournalRecord) (old new : Lasting D) (course : List (Stretch D)) → IsSettled (told old.disk) old.gate (payloads_of records)
    → state records ≡ Some old.kept → HoldsTexts told old → Course told (at_first old.kept) old course new → AnswersLast told records old.kept course (told new.disk)

-- the store was opened, and then these were sealed
pub journals : {D : Type 0} (told : D → DiskTold) (truth : (d : D) → (told d).honest → IsHonest (told d)) → AnswersStay told → (disk : D) (first last : Lasting D) (added failed : List JournalRecord) (course : List (Stretch D))
    → Starts (told disk) (told first.disk) (Ok (first.kept, first.gate)) → Seals told added failed first last → Course told (at_first first.kept) first course last → HoldsTexts told first
    → (told disk).honest → (j : Journals (told disk) first.kept added failed (told last.disk)) × AnswersLast told j.records first.kept course (told last.disk)
journals told truth stay disk first last added failed course starts seals goes texts honest =
    let started = starts.found honest in
    let sealed = seals.on_disk in
    let before = payloads_of started.records in
    let now : (image : List ℕ) → (told last.disk).images image → StandsForFront (payloads_of (started.records ++ added)) (payloads_of failed) image =
    λ image here. subst (λ (ps : List (List ℕ)). StandsForFront ps (payloads_of failed) image) (sym (map-append record_bytes started.records added)) (sealed.front before started.settled image here) in (
      record {
        records = started.records;
        stands = started.stands;
        state_is = started.state_is;
        now = now;
        reads = now (told last.disk).content ((truth last.disk (sealed.honest started.settled.honest)).content_is_image);
        any_moment = λ resting.
            subst (λ (ps : List (List ℕ)). LeavesOnly (told disk) (told last.disk) (StandsForFront before ps)) (sym (map-append record_bytes added failed))
            (joined (told disk) (told first.disk) (told last.disk) (told disk).images (StandsForFront before (payloads_of added ++ payloads_of failed))
            (StandsForFront before (payloads_of added ++ payloads_of failed)) (starts.any_moment honest) (sealed.any_moment before started.settled)
            (λ image here. none_of before (payloads_of added ++ payloads_of failed) image (subst (λ (i : List ℕ). StandsFor i before) (sym (resting.rests image here)) started.stands))
            (λ image here. here));
      },
      stay started.records first last course started.settled started.state_is texts goes,
    )

-- what a desk seals is a run, as a law of journal_laws has it
abbrev pub DesksRun : {D : Type 0} → (D → DiskTold) → Type 0
DesksRun {D} told = (records added failed : List JournalRecord) (old new : Lasting D) → IsDeskRun told records added failed old new → IsJournalRun records (added ++ failed) old.kept

-- what lasts of serving over a desk that was opened on an honest disk
pub lasting : {D : Type 0} (told : D → DiskTold) (truth : (d : D) → (told d).honest → IsHonest (told d)) → AnswersStay told → DesksRun told → RunsKeepMail
    → (disk : D) (steps : List Step) (outcome : Result (Unit {0}) ServeFault) (first last : Lasting D) (served : ServesDesk told steps outcome first last)
    → Starts (told disk) (told first.disk) (Ok (first.kept, first.gate)) → ((told disk).honest → HoldsTexts told first) → HonestDisk (told disk)
    → IsLasting told steps outcome first last served (told disk) (told last.disk)
lasting told truth stay runs keep disk steps outcome first last served starts texts premise =
    let honest = premise.honest in
    let held = texts honest in
    let failed = unsealed_in steps first.kept in
    let both = journals told truth stay disk first last served.added failed served.through.0 starts served.seals served.through.2 held honest in
    record {
      journals = both.0;
      texts = held;
      kept = served.well held;
      right = served.read.honest held;
      answers = both.1;
      mail = keep both.0.records (served.added ++ failed) first.kept (runs both.0.records served.added failed first last (record { began = both.0.state_is; texts = inl held; seals = served.seals }));
    }
