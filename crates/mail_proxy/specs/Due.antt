-- Which status is due, where the text and the disk tell what they hold.
use Rattle.std.specs.Prelude.{◌≡◌, ◌≢◌, ◌⊎◌, ℕ, false, List, length, nat_lt, Option, Some, is_some, Ok, Err, if◌then◌else◌}
use Rattle.undo_outside.specs.declared.event.Event.{Event}
use Rattle.undo_outside.specs.Disk.{DiskTold}
use Rattle.verb_core.specs.declared.conf.Conf.{Conf}
use Rattle.verb_core.specs.declared.conf.House.{House}
use Rattle.verb_bytes.specs.declared.journal.JournalRecord.{JournalRecord}
use Rattle.store_kept.specs.Kept.{Kept}
use Rattle.repair_desk.specs.Repairs.{position}
use Rattle.desk_journal.specs.Records.{are_true}
use Rattle.script_link.specs.Script.{script_of}
use Rattle.time_desk.specs.declared.fault.StartFault.TheVariants.{NotFormatted, Damaged}
use Rattle.time_desk.specs.Opening.{OpensAs}
use Rattle.command_words.specs.declared.commands.Command.{Command}
use Rattle.command_words.specs.declared.commands.Command.TheVariants.{Cut, Audit}
use Rattle.mail_proxy.specs.Causes.{IsBadText, Outside}
use Rattle.mail_proxy.specs.Init.{IsConfig}
use Rattle.mail_proxy.specs.Profiles.{TextUse, DeskUse, NoText, Configuration, EventScript, NoDesk, Formatted, Opened, Begun, profile_of}

-- an empty disk is formatted, and no other
abbrev pub IsDueInit : DiskTold → ℕ → Type 0
IsDueInit disk k = ((disk.size ≡ 0) × (k ≡ 0)) ⊎ ((disk.size ≢ 0) × (k ≡ 3))

-- What is due of a store that was opened, which these records leave. To cut it at a point that it does not have ends with 11, and to audit
-- records that are not true with 12.
abbrev pub due_of : Option Command → List JournalRecord → Kept → ℕ
due_of (Some (Cut point)) records kept = if is_some (position kept.timeline point) then 0 else 11
due_of (Some Audit) records kept = if are_true records then 0 else 12
due_of command records kept = 0

-- An empty disk is no store, also one of which nothing more is known. An honest one is opened where its records can stand; else it is no store, or
-- damaged.
abbrev pub IsDueStore : Option Command → DiskTold → ℕ → Type 0
IsDueStore command disk k =
    ((disk.size ≡ 0) × (k ≡ 3))
    ⊎ (disk.honest
    × (((kept : Kept) × (leaves : OpensAs disk.content (Ok kept)) × (k ≡ due_of command leaves.records kept))
    ⊎ (OpensAs disk.content (Err NotFormatted) × (k ≡ 3))
    ⊎ ((place : ℕ) × OpensAs disk.content (Err (Damaged place)) × (k ≡ 10))))

-- what is due where the disk is used so
abbrev pub IsDueDesk : Option Command → DeskUse → DiskTold → ℕ → Type 0
IsDueDesk command NoDesk disk k = ⊥
IsDueDesk command Formatted disk k = IsDueInit disk k
IsDueDesk command Opened disk k = IsDueStore command disk k
IsDueDesk command Begun disk k = k ≡ 0

-- what is due for a text in the grammar of its use
abbrev pub IsDueUse : Option Command → TextUse → DeskUse → List ℕ → DiskTold → ℕ → Type 0
IsDueUse command NoText desk text disk k = ⊥
IsDueUse command Configuration desk text disk k = (house : House) × (conf : Conf) × IsConfig text house conf × IsDueDesk command desk disk k
IsDueUse command EventScript desk text disk k = (events : List Event) × (script_of text ≡ Ok events) × IsDueDesk command desk disk k

-- what is due for a text in the grammar of the command
abbrev pub IsDueFor : Option Command → List ℕ → DiskTold → ℕ → Type 0
IsDueFor command = IsDueUse command (profile_of command).text (profile_of command).desk

-- what is due where no text is read
abbrev pub IsDueUnread : Option Command → TextUse → DeskUse → DiskTold → ℕ → Type 0
IsDueUnread command NoText desk disk k = IsDueDesk command desk disk k
IsDueUnread command Configuration desk disk k = ⊥
IsDueUnread command EventScript desk disk k = ⊥

-- what is due for a command that reads no text
abbrev pub IsDueAlone : Option Command → DiskTold → ℕ → Type 0
IsDueAlone command = IsDueUnread command (profile_of command).text (profile_of command).desk

-- The status that is due: 1 for words of no stated shape; 2 for a bad text; else that of the disk.
abbrev pub IsDue : Option Command → Outside → ℕ → Type 0
IsDue command old k =
    ((is_some command ≡ false) × (k ≡ 1))
    ⊎ ((text : List ℕ) × (line : List ℕ) × (old.text.left ≡ Some text) × IsBadText command text line × (k ≡ 2))
    ⊎ ((text : List ℕ) × (old.text.left ≡ Some text) × (nat_lt 67108864 (length text) ≡ false) × IsDueFor command text old.disk k)
    ⊎ IsDueAlone command old.disk k

-- a call failed, memory was wanted, or no end came within 2^40 events
abbrev pub IsHindered : ℕ → Type 0
IsHindered s = (s ≡ 5) ⊎ (s ≡ 6) ⊎ (s ≡ 7) ⊎ (s ≡ 8) ⊎ (s ≡ 9) ⊎ (s ≡ 4)
