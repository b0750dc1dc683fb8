-- What was answered stays: the desks that serving goes through, step after step, and what each crash leaves since a step's turns were sealed, before
-- whose strings the machine seals no snapshot.
use Rattle.std.specs.Prelude.{◌≡◌, ℕ, true, false, List, [], ◌∷◌, ◌++◌, map, Some, if◌then◌else◌}
use Rattle.undo_outside.specs.Disk.{DiskTold}
use Rattle.verb_bytes.specs.declared.journal.JournalRecord.{JournalRecord}
use Rattle.store_kept.specs.Kept.{Kept}
use Rattle.desk_journal.specs.Crashing.{LeavesFront}
use Rattle.desk_journal.specs.Lasting.{Lasting}
use Rattle.desk_journal.specs.Reading.{Counted, HaveRead, none_read}
use Rattle.desk_journal.specs.Records.{state}
use Rattle.desk_journal.specs.Sealing.{Seals}
use Rattle.mail_loop.specs.State.{State}
use Rattle.mail_loop.specs.Machine.{Answered, answered, happens, unwritten_by}
use Rattle.mail_loop.specs.Did.{is_due_on}
use Rattle.mail_loop.specs.Serving.{Step, at_first, run}

-- what the turns of a step leave
abbrev pub turned : State → Step → Answered
turned s step = answered step.hindrances.unfed step.hindrances.turns step.hindrances.stage s step.event

-- the state behind a step
abbrev pub behind : State → Step → State
behind s step = (happens step.hindrances s step.event).state

-- A step of serving over a desk. Behind its turns the desk is `telling`, and these records of theirs are sealed; at its end the desk is `after`, and
-- the snapshot that was due is sealed, or nothing. That the strings are sent between the two no clause says, since a link tells no moment of a disk.
-- The machine's definition has them there (`happens`), and its log is the link's.
pub record Stretch (D : Type 0) : Type 0 where
  pub step : Step
  pub sealed : List JournalRecord
  pub telling : Lasting D
  pub snapshot : List JournalRecord
  pub after : Lasting D

-- From an open desk on a step went so. Its turns sealed these records, in order, but for the one of them whose sealing failed. What the desk kept
-- behind them is what the machine keeps before its strings. In these turns just as many reads failed as the machine says that texts were not read in
-- them. So a client is told of a failed read in no step without one. And just as many writes found no memory as the machine says that turns were
-- hindered by that (`Unwritten`): so in a step without one the disk's count of them stands. Behind these turns a snapshot was sealed, or nothing, or
-- its sealing failed, and no read failed. A write found no memory only where the machine says that the snapshot was due and left out for that. A desk
-- that was closed by then sealed nothing more.
pub record Went {D : Type 0} (told : D → DiskTold) (s : State) (old : Lasting D) (w : Stretch D) : Type 0 where
  pub is_open : old.closed ≡ false
  pub turns : Seals told w.sealed (turned s w.step).unsealed old w.telling
  pub telling_is : w.telling.kept ≡ (turned s w.step).state.kept
  pub read : HaveRead told old w.telling (turned s w.step).counts.reads
  pub out_of_memory : Counted (turned s w.step).counts.out_of_memory (told old.disk).out_of_memory (told w.telling.disk).out_of_memory
  pub unkept : List JournalRecord
  pub keeps : Seals told w.snapshot unkept w.telling w.after
  pub unread : HaveRead told w.telling w.after none_read
  pub out_of_memory_behind : Counted (if is_due_on w.telling then unwritten_by w.step.hindrances.keeping else 0) (told w.telling.disk).out_of_memory (told w.after.disk).out_of_memory
  pub stays : w.telling.closed ≡ true → (w.after ≡ w.telling) × (w.snapshot ≡ [])

-- from old to new a desk goes through this step
abbrev pub GoesThrough : {D : Type 0} → (D → DiskTold) → State → Step → Lasting D → Lasting D → Type 0
GoesThrough {D} told s step old new = (w : Stretch D) × (w.step ≡ step) × Went told s old w × (w.after ≡ new)

-- From old to new serving went through these steps, one behind the other, each from the state that the machine has then; behind each the desk keeps
-- what the machine keeps.
abbrev pub Course : {D : Type 0} → (D → DiskTold) → State → Lasting D → List (Stretch D) → Lasting D → Type 0
Course told s old [] new = new ≡ old
Course told s old (w ∷ more) new = Went told s old w × (w.after.kept ≡ (behind s w.step).kept) × Course told (behind s w.step) w.after more new

abbrev pub steps_of : {D : Type 0} → List (Stretch D) → List Step
steps_of {D} course = map (λ (w : Stretch D). w.step) course

-- the records that were sealed in these steps, in order
abbrev pub sealed_in : {D : Type 0} → List (Stretch D) → List JournalRecord
sealed_in [] = []
sealed_in (w ∷ more) = (w.sealed ++ w.snapshot) ++ sealed_in more

-- serving went through these steps, and no connection was open at first
abbrev pub WentThrough : {D : Type 0} → (D → DiskTold) → List Step → Lasting D → Lasting D → Type 0
WentThrough {D} told steps old new = (course : List (Stretch D)) × (steps ≡ steps_of course) × Course told (at_first old.kept) old course new

-- Since a moment each image that a crash may leave stands for these records, in order, and maybe for more behind them, and all of them can stand. These
-- leave what was kept at that moment.
pub record Lasts (records : List JournalRecord) (kept : Kept) (disk : DiskTold) (moment : ℕ) : Type 0 where
  pub state_is : state records ≡ Some kept
  pub more : List JournalRecord
  pub each : (image : List ℕ) → disk.since moment image → LeavesFront records more image

-- what the machine keeps behind the turns of a step, behind other steps
abbrev pub kept_at : Kept → List Step → Step → Kept
kept_at first before step = (turned (run before (at_first first)).state step).state.kept

-- What was answered before a moment is in every image of that moment and of each later one. For each step, since the moment behind its
-- turns, that is the records at first and all that were sealed by then, which leave what the machine keeps then.
abbrev pub AnswersLast : {D : Type 0} → (D → DiskTold) → List JournalRecord → Kept → List (Stretch D) → DiskTold → Type 0
AnswersLast {D} told records first course disk =
    (before : List (Stretch D)) (w : Stretch D) (after : List (Stretch D)) → course ≡ before ++ w ∷ after
    → Lasts (records ++ sealed_in before ++ w.sealed) (kept_at first (steps_of before) w.step) disk (told w.telling.disk).moment
