-- What becomes of what is asked of the desk.
use Rattle.std.specs.Prelude.{ℕ, List, [], ◌∷◌, Option, Result, Ok, Err}
use Rattle.undo_base.specs.declared.keys.User.{User}
use Rattle.verb_core.specs.declared.ask.Ask.{Ask}
use Rattle.verb_core.specs.declared.ask.Refused.{Refused}
use Rattle.verb_core.specs.declared.ask.Refused.TheVariants.{NoMemory}
use Rattle.verb_core.specs.declared.ask.SubmitFault.{SubmitFault}
use Rattle.verb_core.specs.declared.ask.SubmitFault.TheVariants.{Refused as IsRefused, Disk}
use Rattle.verb_core.specs.declared.item.Item.{Item}
use Rattle.verb_core.specs.Live.{live}
use Rattle.verb_bytes.specs.declared.journal.JournalRecord.{JournalRecord}
use Rattle.verb_bytes.specs.declared.journal.JournalRecord.TheVariants.{Verb}
use Rattle.undo_outside.specs.Disk.{DiskTold}
use Rattle.desk_journal.specs.Lasting.{Lasting}
use Rattle.desk_journal.specs.Sealing.{Seals}
use Rattle.store_kept.specs.Kept.{Kept, store_of}
use Rattle.mail_desk.specs.Desk.{submitted}
use Rattle.mail_loop.specs.TurnCounts.{TurnCounts, HaveCounted}

-- the item or why there is none, what is kept, the record whose sealing failed, where one did, and how many writes found no memory
pub record Asked : Type 0 where
  pub outcome : Result Item SubmitFault
  pub kept : Kept
  pub unsealed : List JournalRecord
  pub out_of_memory : ℕ

-- what becomes of each ask, by who asks
abbrev pub Asking : Type 0
Asking = Option User → Ask → Asked

-- what became of an ask whose record was sealed, or that has none
abbrev pub asked_as : Result Item SubmitFault → Kept → Asked
asked_as outcome kept = record { outcome = outcome; kept = kept; unsealed = []; out_of_memory = 0 }

-- it is done, or refused
abbrev pub does : ℕ → Kept → Asking
does at kept by ask = let s = submitted kept at by ask in asked_as s.outcome s.kept

-- no memory is found for it, and nothing changes
abbrev pub runs_out_of_memory : Kept → Asking
runs_out_of_memory kept by ask = asked_as (Err (IsRefused NoMemory)) kept

-- a write of it finds no memory, and nothing changes
abbrev pub unwritten : Kept → Asking
unwritten kept by ask = record { outcome = Err (IsRefused NoMemory); kept = kept; unsealed = []; out_of_memory = 1 }

-- the item's record is not sealed, and nothing is kept of it
abbrev pub unsealed_as : Kept → Result Item Refused → Asked
unsealed_as kept (Ok item) = record { outcome = Err Disk; kept = kept; unsealed = Verb item ∷ []; out_of_memory = 0 }
unsealed_as kept (Err why) = asked_as (Err (IsRefused why)) kept

-- its sealing fails, unless it is refused
abbrev pub fails : ℕ → Kept → Asking
fails at kept by ask = unsealed_as kept (live (store_of kept) kept.next at by ask kept.deep)

-- From old to new the desk sealed some records, and the sealing of these failed. So many turns could not read or were given other texts, and just so
-- many writes found no memory.
abbrev pub HaveSealed : {D : Type 0} → (D → DiskTold) → Lasting D → Lasting D → List JournalRecord → TurnCounts → Type 0
HaveSealed told old new failed counts = (added : List JournalRecord) × Seals told added failed old new × HaveCounted told old new counts
