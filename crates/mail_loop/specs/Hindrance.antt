-- How a turn may go otherwise: one table, with what licenses each hindrance and what follows.
--
-- On a disk that is not honest a turn that reads texts may be given others (`Misread`, `Misled`). A console's turn still ends,
-- seals and closes as the clear turn; only what it says, and for a cycle what is kept, is free. Whether a turn is such a one is
-- decided by comparing what came with what is due, so it is told only where they differ.
--
-- A hindrance that a turn does not meet hinders nothing: want of memory for texts, where none are wanted, leaves the turn as it
-- is. So one table serves all sessions of mail programs.
--
-- Want of memory in a write is a hindrance of its own (`Unwritten`, of a snapshot `IsOutOfMemory`), since the disk counts it, and
-- any other want nobody does. What is hindered so may be an ask that would be refused: what was due to an ask that found no
-- memory the desk does not say.
--
-- A QUIT of marked messages is two turns, and the hindrance of the second is part of the first's (`Halfway`): the others of the
-- table speak of the first ask. Where nothing is said of the second it goes as it should.
use Rattle.std.specs.Prelude.{◌≡◌, ℕ, Bool, true, false, if◌then◌else◌, List, [], ◌∷◌, Result, Ok, Err}
use Rattle.std.specs.List.{list_any}
use Rattle.seal_log.specs.declared.fault.ReadFault.{ReadFault}
use Rattle.seal_log.specs.declared.fault.ReadFault.TheVariants.{Disk, NoMemory as NoneForTexts}
use Rattle.verb_core.specs.declared.mailbox.Body.{Body}
use Rattle.desk_journal.specs.Reading.{Reads, failed_once, none_read, wrong_once}
use Rattle.desk_journal.specs.Stored.{is_recorded}
use Rattle.desk_journal.specs.Telling.{with_memory}
use Rattle.store_kept.specs.Kept.{Kept}
use Rattle.store_kept.specs.Texts.{texts_kept}
use Rattle.mail_loop.specs.Asked.{Asking, does, fails, runs_out_of_memory, unwritten}
use Rattle.mail_loop.specs.Turn.{Turn, lost, unanswered}

-- How a turn may go otherwise.
pub data Hindrance : Type 0 where
  -- it goes as it should
  Clear : Hindrance
  -- the session found no memory for a unit of its stream, and the client is told where that can be
  Refused : Hindrance
  -- no memory was found for the texts that a unit wants, and the client is told
  Textless : Hindrance
  -- the disk did not read a text that a unit wants and that a record has, and the client is told: nothing is done
  Unread : Hindrance
  -- the same, and no memory was found for telling that: the client is told of want of memory
  UnreadRefused : Hindrance
  -- the same, and no memory was found for telling the client anything
  UnreadUnheard : Hindrance
  -- the disk gave these texts, which are not those that were stored, of a unit of which a record has some; beside that it goes so
  Misread : List (List ℕ) → Hindrance → Hindrance
  -- the disk gave a console's request another text than was stored: so this is said, and where a cycle or a withdrawal is done this is kept
  Misled : List ℕ → Kept → Hindrance
  -- no memory was found for what is asked of the desk, or for telling why that is refused, and the client is told
  Unstored : Hindrance
  -- no memory was found for a unit, or for telling the client of want of memory
  Unheard : Hindrance
  -- no memory was found for the answer to what is stored
  Unanswered : Hindrance
  -- what was asked could not be sealed; the client is told, and serving ends
  Unsealed : Hindrance
  -- the same, and no memory was found for telling the client
  Untold : Hindrance
  -- a write of what is asked found no memory, as the disk says, and the client is told; serving goes on
  Unwritten : Hindrance
  -- the same, and no memory was found for telling the client
  UnwrittenUnheard : Hindrance
  -- what the outcome of an ask led to asking further goes so: that is a turn of its own, and the first stays done
  Halfway : Hindrance → Hindrance

-- What licenses a hindrance. Want of memory is free, but for that in a write, which the disk tells; the others are counted in the turn.
pub data Licence : Type 0 where
  Free : Licence
  -- the count of failed reads rose
  FailedRead : Licence
  -- the count of failed writes rose
  FailedWrite : Licence
  -- a disk that is not honest gave another text than was stored
  WrongRead : Licence
  -- the count of writes that found no memory rose
  OutOfMemoryWrite : Licence

-- a row of the table: what licenses a hindrance, and the turn that follows
pub record Row (D : Type 0) : Type 0 where
  pub licence : List Licence
  pub follows : Turn D

abbrev pub is_failed_read : Licence → Bool
is_failed_read Free = false
is_failed_read FailedRead = true
is_failed_read FailedWrite = false
is_failed_read WrongRead = false
is_failed_read OutOfMemoryWrite = false

abbrev pub is_failed_write : Licence → Bool
is_failed_write Free = false
is_failed_write FailedRead = false
is_failed_write FailedWrite = true
is_failed_write WrongRead = false
is_failed_write OutOfMemoryWrite = false

abbrev pub is_wrong_read : Licence → Bool
is_wrong_read Free = false
is_wrong_read FailedRead = false
is_wrong_read FailedWrite = false
is_wrong_read WrongRead = true
is_wrong_read OutOfMemoryWrite = false

abbrev pub is_out_of_memory_write : Licence → Bool
is_out_of_memory_write Free = false
is_out_of_memory_write FailedRead = false
is_out_of_memory_write FailedWrite = false
is_out_of_memory_write WrongRead = false
is_out_of_memory_write OutOfMemoryWrite = true

-- A row says nothing that its licence does not let it say: with none it is the turn as it should be. Only where that is licensed was a record not
-- sealed, a text not read or another, or found a write no memory.
pub record IsLicensed {D : Type 0} (clear : Turn D) (r : Row D) : Type 0 where
  pub goes : r.licence ≡ [] → r.follows ≡ clear
  pub writes : list_any is_failed_write r.licence ≡ false → r.follows.unsealed ≡ []
  pub reads : list_any is_failed_read r.licence ≡ false → r.follows.counts.reads.failed ≡ 0
  pub wrong : list_any is_wrong_read r.licence ≡ false → r.follows.counts.reads.wrong ≡ 0
  pub out_of_memory : list_any is_out_of_memory_write r.licence ≡ false → r.follows.counts.out_of_memory ≡ 0

-- ---- the desk

-- How the desk serves a unit: the texts that it gives of bodies, whether it could not read them or gave others, and what becomes of an ask. And at
-- which moment, and what hinders a further ask, to which the outcome of the first leads.
pub record Service : Type 0 where
  pub texts : List Body → Result (List (List ℕ)) ReadFault
  pub reads : List Body → Reads
  pub asked : Asking
  pub at : ℕ
  pub further : Hindrance

-- it gives the texts of the items in force, and does what is asked
abbrev pub service : ℕ → Kept → Service
service at kept = record { texts = λ bodies. Ok (texts_kept kept bodies); reads = λ bodies. none_read; asked = does at kept; at = at; further = Clear }

-- ---- what the desk does otherwise

-- it finds no memory for texts
abbrev pub without_texts : Service → Service
without_texts desk = record desk { texts = λ bodies. Err NoneForTexts }

-- whether a record has one of the texts of bodies: then they are read, and else they are in memory
abbrev pub some_recorded : Kept → List Body → Bool
some_recorded kept bodies = list_any (is_recorded kept kept.timeline) bodies

-- texts that a record has are not had for this cause, and a read failed for them; those in memory are given
abbrev pub unread_for : ReadFault → Kept → Service → Service
unread_for why kept desk = record desk {
  texts = λ bodies. if some_recorded kept bodies then Err why else desk.texts bodies;
  reads = λ bodies. if some_recorded kept bodies then failed_once else desk.reads bodies;
}

-- the disk does not read the texts
abbrev pub unread : Kept → Service → Service
unread kept desk = unread_for Disk kept desk

-- the disk does not read the texts, and no memory is found for telling that
abbrev pub unread_unsaid : Kept → Service → Service
unread_unsaid kept desk = unread_for NoneForTexts kept desk

-- the disk gives these texts of those that a record has, which are not those that were stored; those in memory are given as they are kept
abbrev pub misread : Kept → List (List ℕ) → Service → Service
misread kept texts desk = record desk {
  texts = λ bodies. Ok (if some_recorded kept bodies then with_memory kept bodies texts else texts_kept kept bodies);
  reads = λ bodies. if some_recorded kept bodies then wrong_once else none_read;
}

-- it finds no memory for what is asked, and nothing changes
abbrev pub without_items : Kept → Service → Service
without_items kept desk = record desk { asked = runs_out_of_memory kept }

-- a write of what is asked finds no memory, and nothing changes
abbrev pub without_writes : Kept → Service → Service
without_writes kept desk = record desk { asked = unwritten kept }

-- it seals nothing of what is asked
abbrev pub without_seals : ℕ → Kept → Service → Service
without_seals at kept desk = record desk { asked = fails at kept }

-- a further ask leads to no other
abbrev pub last_hindrance : Hindrance → Hindrance
last_hindrance (Halfway h) = Clear
last_hindrance h = h

-- a further ask is hindered
abbrev pub halfway : Hindrance → Service → Service
halfway h desk = record desk { further = last_hindrance h }

-- the session finds no memory for the outcome: nothing further is asked
abbrev pub stopped : Service → Service
stopped desk = record desk { further = Unheard }

-- ---- the table

-- A turn over what the desk serves, hindered or not, where `told` comes of want of memory that the session finds. A hindrance that a turn does not meet,
-- as one of texts where none are wanted, or where no record has one of them, hinders nothing.
abbrev pub row : {D : Type 0} → Hindrance → ℕ → Kept → Turn D → (Service → Turn D) → Row D
row Clear at kept told turn = record { licence = []; follows = turn (service at kept) }
row Refused at kept told turn = record { licence = Free ∷ []; follows = told }
row Textless at kept told turn = record { licence = Free ∷ []; follows = turn (without_texts (service at kept)) }
row Unread at kept told turn = record { licence = FailedRead ∷ []; follows = turn (unread kept (service at kept)) }
row UnreadRefused at kept told turn = record { licence = FailedRead ∷ Free ∷ []; follows = turn (unread_unsaid kept (service at kept)) }
row UnreadUnheard at kept told turn = record { licence = FailedRead ∷ Free ∷ []; follows = unanswered (turn (stopped (unread kept (service at kept)))) }
row (Misread texts h) at kept told turn =
    let other = row h at kept (lost kept) (λ desk. turn (misread kept texts desk)) in record { licence = WrongRead ∷ other.licence; follows = other.follows }
row (Misled said left) at kept told turn = record { licence = WrongRead ∷ []; follows = turn (service at kept) }
row Unstored at kept told turn = record { licence = Free ∷ []; follows = turn (without_items kept (service at kept)) }
row Unheard at kept told turn = record { licence = Free ∷ []; follows = lost kept }
row Unanswered at kept told turn = record { licence = Free ∷ []; follows = unanswered (turn (stopped (service at kept))) }
row Unsealed at kept told turn = record { licence = FailedWrite ∷ []; follows = turn (without_seals at kept (service at kept)) }
row Untold at kept told turn = record { licence = FailedWrite ∷ Free ∷ []; follows = unanswered (turn (stopped (without_seals at kept (service at kept)))) }
row Unwritten at kept told turn = record { licence = OutOfMemoryWrite ∷ []; follows = turn (without_writes kept (service at kept)) }
row UnwrittenUnheard at kept told turn = record { licence = OutOfMemoryWrite ∷ Free ∷ []; follows = unanswered (turn (stopped (without_writes kept (service at kept)))) }
row {D} (Halfway h) at kept told turn =
    let other : Row D = row h at kept (lost kept) (λ desk. lost kept) in record { licence = other.licence; follows = turn (halfway h (service at kept)) }

-- a turn that began, hindered or not: the session has found its memory
abbrev pub under : {D : Type 0} → Hindrance → ℕ → Kept → (Service → Turn D) → Turn D
under h at kept turn = (row h at kept (lost kept) turn).follows

abbrev pub first_hindrance : List Hindrance → Hindrance
first_hindrance [] = Clear
first_hindrance (h ∷ hs) = h

abbrev pub other_hindrances : List Hindrance → List Hindrance
other_hindrances [] = []
other_hindrances (h ∷ hs) = hs
