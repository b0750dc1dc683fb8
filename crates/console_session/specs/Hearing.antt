-- What contracts say of a console connection's session.
use Rattle.std.specs.Prelude.{◌≡◌, ◌⊎◌, ℕ, Bool, true, false, List, [], ◌++◌, Option, None, Some, Result}
use Rattle.undo_outside.specs.Disk.{DiskTold, ReadFailed}
use Rattle.seal_log.specs.declared.fault.ReadFault.{ReadFault}
use Rattle.seal_log.specs.declared.fault.ReadFault.TheVariants as read_fault
use Rattle.seal_log.specs.declared.fault.SealFault.{SealFault}
use Rattle.seal_log.specs.declared.fault.SealFault.TheVariants as seal_fault
use Rattle.desk_journal.specs.declared.fault.ActFault.{ActFault}
use Rattle.desk_journal.specs.declared.fault.ActFault.TheVariants as fault
use Rattle.time_desk.specs.declared.fault.CycleFault.{CycleFault}
use Rattle.time_desk.specs.declared.fault.CycleFault.TheVariants as cycle_fault
use Rattle.time_desk.specs.declared.fault.WithdrawFault.{WithdrawFault}
use Rattle.time_desk.specs.declared.fault.WithdrawFault.TheVariants as withdraw_fault
use Rattle.desk_journal.specs.Lasting.{Lasting}
use Rattle.desk_journal.specs.Reading.{Counted, HaveRead, IsStill, ReadsWell}
use Rattle.desk_journal.specs.Sealing.{Seals}
use Rattle.desk_journal.specs.Stored.{HoldsTexts}
use Rattle.console_head.specs.declared.request.Coming.{Coming}
use Rattle.console_head.specs.Coming.{IsKnown}
use Rattle.console_head.specs.Request.{Stage, Says}
use Rattle.console_http.specs.declared.request.Asked.{Asked}
use Rattle.console_http.specs.declared.request.HttpRefused.{HttpRefused}
use Rattle.console_http.specs.declared.request.HttpRefused.TheVariants.{NoMemory}
use Rattle.console_replies.specs.declared.bodies.ErrorWord.TheVariants.{Disk}
use Rattle.console_replies.specs.Bodies.{error_data, numbers_data}
use Rattle.console_session.specs.declared.reply.After.{After}
use Rattle.console_session.specs.declared.reply.After.TheVariants.{Waits, Closes, Stops, Fails, Rewinds, Upgrades}
use Rattle.console_session.specs.declared.reply.Reply.{Reply}
use Rattle.console_session.specs.Answers.{Answer, answer, answer_text, pointless, refused, uncycled}
use Rattle.console_session.specs.ConsoleTurn.{ConsoleTurn, asked_of, turn}
use Rattle.console_session.specs.Hindrance.{Hindrance, hindered}

-- what is known of bytes stays known whatever follows them
abbrev pub StaysKnown : Coming → List ℕ → Type 0
StaysKnown coming bytes = (more : List ℕ) → IsKnown coming (bytes ++ more)

-- ---- replies

abbrev pub reply : List ℕ → After → Reply
reply said after = record { said = said; after = after }

-- want of memory is told, or nothing is said
abbrev pub RunsOutOfMemory : Reply → Type 0
RunsOutOfMemory r = (r ≡ reply (answer_text (refused NoMemory)) Closes) ⊎ (r ≡ reply [] Closes)

-- an answer is told, or want of memory
abbrev pub Tells : Answer → After → Reply → Type 0
Tells a after r = (r ≡ reply (answer_text a) after) ⊎ RunsOutOfMemory r

-- an answer is told, or nothing is said
abbrev pub TellsOnly : Answer → After → Reply → Type 0
TellsOnly a after r = (r ≡ reply (answer_text a) after) ⊎ (r ≡ reply [] after)

-- why an act was not done is told; a desk is closed since a record could not be sealed, and that is told then
abbrev pub TellsFault : ActFault → Reply → Type 0
TellsFault (fault.Numbers next) r = Tells (answer 507 (numbers_data next)) Closes r
TellsFault fault.Disk r = TellsOnly (answer 500 (error_data Disk)) Fails r
TellsFault fault.NoMemory r = RunsOutOfMemory r
TellsFault fault.Closed r = TellsOnly (answer 500 (error_data Disk)) Fails r

-- why the record of a snapshot or an upgrade was not sealed is told
abbrev pub TellsSealFault : SealFault → Reply → Type 0
TellsSealFault seal_fault.Disk r = TellsOnly (answer 500 (error_data Disk)) Fails r
TellsSealFault seal_fault.NoMemory r = RunsOutOfMemory r
TellsSealFault seal_fault.Closed r = TellsOnly (answer 500 (error_data Disk)) Fails r

-- that a text could not be read is told, or want of memory
abbrev pub TellsUnread : Reply → Type 0
TellsUnread r = Tells (answer 500 (error_data Disk)) Closes r

-- why a text was not read is told
abbrev pub TellsReadFault : ReadFault → Reply → Type 0
TellsReadFault read_fault.Disk r = TellsUnread r
TellsReadFault read_fault.NoMemory r = RunsOutOfMemory r

-- a fault of the disk is told: serving ends where a record could not be sealed, so that the desk is closed, and goes on where a text could not be read
abbrev pub TellsDiskFault : Bool → Reply → Type 0
TellsDiskFault true r = TellsOnly (answer 500 (error_data Disk)) Fails r
TellsDiskFault false r = TellsUnread r

-- why a cycle was not done, or not tried, or a plan not made is told, over a desk that is closed then or is not
abbrev pub TellsCycleFault : Bool → CycleFault → Reply → Type 0
TellsCycleFault closed (cycle_fault.Point given) r = Tells (pointless given) Closes r
TellsCycleFault closed (cycle_fault.Numbers next) r = Tells (answer 507 (numbers_data next)) Closes r
TellsCycleFault closed cycle_fault.Disk r = TellsDiskFault closed r
TellsCycleFault closed cycle_fault.NoMemory r = RunsOutOfMemory r
TellsCycleFault closed cycle_fault.Closed r = TellsDiskFault true r

-- why a cycle was not withdrawn is told, over a desk that is closed then or is not
abbrev pub TellsWithdrawFault : Bool → WithdrawFault → Reply → Type 0
TellsWithdrawFault closed (withdraw_fault.Cycle given) r = Tells (uncycled given) Closes r
TellsWithdrawFault closed (withdraw_fault.Numbers next) r = Tells (answer 507 (numbers_data next)) Closes r
TellsWithdrawFault closed withdraw_fault.Disk r = TellsDiskFault closed r
TellsWithdrawFault closed withdraw_fault.NoMemory r = RunsOutOfMemory r
TellsWithdrawFault closed withdraw_fault.Closed r = TellsDiskFault true r

-- ---- turns

-- whether serving ends since a record could not be sealed
abbrev pub is_failure : After → Bool
is_failure Waits = false
is_failure Closes = false
is_failure Stops = false
is_failure Fails = true
is_failure Rewinds = false
is_failure Upgrades = false

module _ {D : Type 0} (told : D → DiskTold) where
  -- What is told of texts, each of them: the answer that is due where the disk holds them, or where none is to be read. Or, where some may be to be read, a
  -- read failed, and that is told. Or want of memory.
  abbrev pub TellsRead : Bool → Answer → Lasting D → Lasting D → Reply → Type 0
  TellsRead some due old new r =
      ((a : Answer) × (HoldsTexts told old ⊎ (some ≡ false) → a ≡ due) × ReadsWell told old new × Tells a Closes r)
      ⊎ ((some ≡ true) × ReadFailed (told old.disk) (told new.disk) × TellsUnread r)

  -- the same where there is what texts are read for; else the answer is told, and no read fails
  abbrev pub TellsFound : {A : Type 0} → Bool → Option A → Answer → Lasting D → Lasting D → Reply → Type 0
  TellsFound some None due old new r = ReadsWell told old new × Tells due Closes r
  TellsFound some (Some x) due old new r = TellsRead some due old new r

  -- a turn was said and sealed, its texts were read, and just so many of its writes found no memory
  pub record IsTurn (t : ConsoleTurn) (old new : Lasting D) (r : Reply) : Type 0 where
    pub reply_is : r ≡ reply t.said t.after
    pub kept : new.kept ≡ t.kept
    pub seals : Seals told t.sealed t.unsealed old new
    pub read : HaveRead told old new t.reads
    pub out_of_memory : Counted t.out_of_memory (told old.disk).out_of_memory (told new.disk).out_of_memory

  -- a turn, hindered or not; where nothing is to be sealed the desk is as it was, and the disk was only read
  pub record AnswersRequest (at : ℕ) (asked : Result Asked HttpRefused) (old new : Lasting D) (r : Reply) : Type 0 where
    pub hindrance : Hindrance
    pub turn_is : IsTurn (hindered hindrance at old.kept asked) old new r
    pub still : (turn at old.kept asked).sealed ≡ [] → IsStill told old new

  -- no memory was found for the bytes that came; or they and those before are served as what they are
  pub data Hears (at : ℕ) (unserved bytes : List ℕ) (old new : Lasting D) (r : Reply) : Type 0 where
    IsUnfed : r ≡ reply [] Closes → new ≡ old → Hears at unserved bytes old new r
    AreServed : (stage : Stage) → Says (unserved ++ bytes) stage → AnswersRequest at (asked_of old.kept.house stage) old new r → Hears at unserved bytes old new r
