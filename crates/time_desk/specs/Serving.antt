-- What a cycle begins with.
use Rattle.std.specs.Prelude.{◌≡◌, ◌⊎◌, ◌≤◌, ◌+◌, ◌==◌, ℕ, Bool, ◌&&◌, List, ◌∷◌, ◌++◌, Option, None, Some, option_and_then, take, IsTrue, if◌then◌else◌, false}
use Rattle.std.specs.List.{AllByRecursion, slice_range}
use Rattle.undo_outside.specs.Disk.{DiskTold}
use Rattle.verb_core.specs.declared.conf.Conf.{Conf}
use Rattle.verb_core.specs.declared.mailbox.BoxId.{BoxId}
use Rattle.verb_core.specs.declared.mailbox.Mailbox.{Mailbox}
use Rattle.verb_core.specs.Store.{IsValid, MailStore}
use Rattle.verb_bytes.specs.declared.journal.JournalRecord.{JournalRecord}
use Rattle.verb_bytes.specs.Spelling.{Spells}
use Rattle.box_store.specs.Making.{makes_store, store_of_rows}
use Rattle.seal_log.specs.declared.place.Place.{Place}
use Rattle.shelf.specs.Marks.{marks_at_or_before, newest}
use Rattle.mail_cycle.specs.declared.beginning.Beginning.{Beginning}
use Rattle.mail_desk.specs.Held.{Held}
use Rattle.store_kept.specs.Kept.{Kept, newest_at, no_marks}
use Rattle.store_kept.specs.Texts.{all_bodies, has_text_among}
use Rattle.desk_journal.specs.Records.{snapshot_in}
use Rattle.desk_journal.specs.Stored.{store_at}

-- A store can stand for what so many of the first items in force left: it is valid, and of the house, and each body in it has
-- a text among them. Whether it is what they left is not said.
pub record CanServe (kept : Kept) (count : ℕ) (store : MailStore) : Type 0 where
  pub valid : IsValid store
  pub house : store.house ≡ kept.house
  pub texts : IsTrue (all_bodies (has_text_among kept (take count kept.timeline)) store.boxes)

-- it stands behind no item that is later than a place
pub record CanBegin (kept : Kept) (place : ℕ) (first : Beginning) : Type 0 where
  pub few : first.count ≤ place
  pub serves : CanServe kept first.count first.store.store

-- it is that of the newest snapshot at or before the place, or the store before the first item; and it is what the items led to
pub record IsNewest (kept : Kept) (place : ℕ) (first : Beginning) : Type 0 where
  pub count : first.count ≡ newest_at place kept.marks.places
  pub store : first.store.store ≡ store_at kept first.count

-- the last of the snapshots that are marked is found, where there is one, with the store that so many items left
abbrev pub FindsLast : Kept → List (ℕ × Place) → Option Beginning → Type 0
FindsLast kept marks None = newest marks ≡ None
FindsLast kept marks (Some first) = (place : Place) × (newest marks ≡ Some (first.count, place)) × (first.store.store ≡ store_at kept first.count)

-- what a cycle is told of what is kept: all but the snapshots, whether names may have superiors, and what can be withdrawn
abbrev pub unmarked : Kept → Kept
unmarked kept = record kept { marks = no_marks; deep = false; undone = None }

-- ---- what reads give of a snapshot

-- the configuration and the rows of a record that is a snapshot of so many items
abbrev pub rows_in : ℕ → JournalRecord → Option (Conf × List (BoxId × Mailbox))
rows_in count what =
    option_and_then (λ (parts : ℕ × Conf × List (BoxId × Mailbox)). if parts.0 == count then Some (parts.1, parts.2) else None) (snapshot_in what)

-- whether rows make a store of the house, and each body in it has a text among so many of the first items in force
abbrev pub can_serve : Kept → ℕ → Conf → List (BoxId × Mailbox) → Bool
can_serve kept count conf rows = makes_store kept.house conf rows && all_bodies (has_text_among kept (take count kept.timeline)) rows

-- the store of rows that can serve
abbrev pub store_from : Kept → ℕ → Conf → List (BoxId × Mailbox) → Option MailStore
store_from kept count conf rows = if can_serve kept count conf rows then Some (store_of_rows kept.house conf rows) else None

-- the store of a record that is a snapshot of so many items, where it can serve
abbrev pub store_in : Kept → ℕ → JournalRecord → Option MailStore
store_in kept count what = option_and_then (λ (parts : Conf × List (BoxId × Mailbox)). store_from kept count parts.0 parts.1) (rows_in count what)

-- the bytes of a payload at a place, as a disk gives them
abbrev pub bytes_at : DiskTold → Place → List ℕ
bytes_at disk place = slice_range disk.content (place.gate + 5) (place.gate + 5 + place.length)

-- what bytes spell, if anything
abbrev pub SpelledBy : List ℕ → Option JournalRecord → Type 0
SpelledBy bytes None = (what : JournalRecord) → Spells what bytes → ⊥
SpelledBy bytes (Some what) = Spells what bytes

-- the store that bytes give behind so many items, or they give none that can serve
abbrev pub ServesBy : Kept → ℕ → List ℕ → Option MailStore → Type 0
ServesBy kept count bytes None = (what : JournalRecord) → Spells what bytes → store_in kept count what ≡ None
ServesBy kept count bytes (Some store) = (what : JournalRecord) × Spells what bytes × (store_in kept count what ≡ Some store)

-- of none of the snapshots that are marked the disk gives a store that can serve
abbrev pub NoneServes : DiskTold → Kept → List (ℕ × Place) → Type 0
NoneServes disk kept marks = AllByRecursion (λ (m : ℕ × Place). ServesBy kept m.0 (bytes_at disk m.1) None) marks

-- it is of the last of those that are marked of which the disk gives one: each later one is passed over
pub record IsLastToServe (disk : DiskTold) (kept : Kept) (marks : List (ℕ × Place)) (first : Beginning) : Type 0 where
  pub older : List (ℕ × Place)
  pub place : Place
  pub passed : List (ℕ × Place)
  pub split : marks ≡ older ++ (first.count, place) ∷ passed
  pub serves : ServesBy kept first.count (bytes_at disk place) (Some first.store.store)
  pub others : NoneServes disk kept passed

abbrev pub FindsNewest : DiskTold → Kept → List (ℕ × Place) → Option Beginning → Type 0
FindsNewest disk kept marks None = NoneServes disk kept marks
FindsNewest disk kept marks (Some first) = IsLastToServe disk kept marks first

-- at or before a place it is the newest of which the disk gives a store, and at last the store before the first item
abbrev pub BeginsBy : DiskTold → Held → ℕ → Beginning → Type 0
BeginsBy disk desk place first =
    IsLastToServe disk desk.kept (marks_at_or_before place desk.marks) first
    ⊎ (NoneServes disk desk.kept (marks_at_or_before place desk.marks) × (first.count ≡ 0) × (first.store.store ≡ desk.kept.base))
