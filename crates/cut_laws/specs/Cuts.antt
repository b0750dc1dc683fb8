-- What can be founded again, as it is, by the records that a journal opens with; and the bytes of the records of a cut.
use Rattle.std.specs.Prelude.{◌≡◌, ◌+◌, ◌≤◌, ◌<◌, ℕ, false, true, List, drop, length, map, None, Some, IsTrue, Result, Ok, Err}
use Rattle.std.specs.List.{AllByRecursion, list_all}
use Rattle.std.specs.FinMap.Entries as rows
use Rattle.undo_base.specs.declared.limits.TheConstants.{END_OF_NUMBERS}
use Rattle.undo_base.specs.declared.keys.Key.{Key}
use Rattle.undo_base.specs.declared.keys.User.{User}
use Rattle.seal_log.specs.Journal.{IsPayload}
use Rattle.verb_core.specs.declared.item.Item.{Item}
use Rattle.verb_core.specs.declared.mailbox.Body.{Body}
use Rattle.verb_core.specs.Fates.{places_of, takers}
use Rattle.verb_core.specs.Items.{IsTimeline}
use Rattle.verb_bytes.specs.declared.journal.JournalRecord.TheVariants.{Format, Kept as KeptRecord}
use Rattle.verb_bytes.specs.Spelling.{HasSpelling}
use Rattle.store_kept.specs.Founding.{are_reports, base_stands, based_on, has_text_of, names_body, names_number, stamps_name}
use Rattle.store_kept.specs.Kept.{IsRun, Kept, body_cmp, no_marks, store_of}
use Rattle.store_kept.specs.Texts.{all_bodies}
use Rattle.cycle_rules.specs.Cutting.{cut}
use Rattle.base_cut.specs.Cutting.{closed_journal}
use Rattle.mail_desk.specs.Counting.{bare_item}
use Rattle.desk_journal.specs.Founding.{cut_records, first_fore, founding_records}
use Rattle.desk_journal.specs.Formed.{is_spelled}
use Rattle.desk_journal.specs.Records.{payloads_of}
use Rattle.time_desk.specs.declared.fault.StartFault.{StartFault}
use Rattle.time_desk.specs.declared.fault.StartFault.TheVariants.{NotFormatted, Damaged, Disk, NoMemory}
use Rattle.time_desk.specs.Cutting.{base_record}

-- each of the records of what is kept has a spelling
abbrev pub AreSpelled : Kept → Type 0
AreSpelled s = IsTrue (list_all is_spelled (founding_records s))

-- an item can be kept behind the base of what is kept: its number and its rev are below the next number, and no entry of the base
-- names its number
pub record CanBeKept (s : Kept) (i : Item) : Type 0 where
  pub number : i.number < s.next
  pub rev : i.rev < s.next
  pub unnamed : names_number s.base.boxes i.number ≡ false

-- What is kept has a Format that a journal can begin with and a base that can stand. The base's texts stand by body, each of a body
-- that it names, and each body that it names has one. Each item can be kept behind it, and the stamps name the mailboxes. And there
-- is nothing that a journal which was just opened does not have.
pub record CanBeFounded (s : Kept) : Type 0 where
  pub begins : first_fore (Format s.house s.opening) ≡ Some (record { house = s.house; opening = s.opening; based = None })
  pub base : IsTrue (base_stands s.house (based_on s.next s.deep s.base.conf s.base.boxes s.stamps s.reports))
  pub rising : IsTrue (rows.is_sorted body_cmp s.texts)
  pub named : AllByRecursion (λ (t : Body × List ℕ). names_body s.base.boxes t.0 ≡ true) s.texts
  pub whole : IsTrue (all_bodies (has_text_of s.texts) s.base.boxes)
  pub timeline : IsTimeline s.house s.timeline
  pub items : AllByRecursion (CanBeKept s) s.timeline
  pub stamps : IsTrue (stamps_name s.stamps (store_of s))
  pub house : s.base.house ≡ s.house
  pub runs : IsRun s
  pub first : s.first ≡ s.next
  pub marks : s.marks ≡ no_marks
  pub undone : s.undone ≡ None

-- What a cut wants of what is kept beside that it is sound. Its Format is one that a journal can begin with, its next number is one that
-- a journal can have, and its reports stand by key and name known users.
pub record CanBeCut (s : Kept) : Type 0 where
  pub begins : first_fore (Format s.house s.opening) ≡ Some (record { house = s.house; opening = s.opening; based = None })
  pub next : s.next ≤ END_OF_NUMBERS
  pub reports : IsTrue (are_reports s.house s.reports)

-- ---- the bytes of a cut

-- The records of a cut can be written as its parts are given. Its Base has a spelling, and so has the Kept of each later item without
-- its text; and each payload has a frame.
pub record CanBeWritten (kept : Kept) (place : ℕ) : Type 0 where
  pub base : HasSpelling (base_record (cut kept place))
  pub items : AllByRecursion (λ (i : Item). HasSpelling (KeptRecord i)) (map bare_item (drop place kept.timeline))
  pub framed : AllByRecursion IsPayload (payloads_of (cut_records kept place))

-- the journal of a cut, byte for byte
abbrev pub cut_journal : Kept → ℕ → List ℕ
cut_journal kept place = closed_journal (payloads_of (cut_records kept place))

-- a start leads to what is kept, but for a call on the disk that failed and for want of memory
abbrev pub StartsAs : Kept → Result (Kept × ℕ) StartFault → Type 0
StartsAs kept (Ok started) = started.0 ≡ kept
StartsAs kept (Err NotFormatted) = ⊥
StartsAs kept (Err (Damaged place)) = ⊥
StartsAs kept (Err Disk) = Unit {0}
StartsAs kept (Err NoMemory) = Unit {0}

-- ---- messages of a base

-- what became of a message that lies in the base with a user: it lies in one mailbox of that user under one UID, or one of the items
-- took it out
abbrev pub IsAccountedFor : Kept → User → Key → Type 0
IsAccountedFor kept u key = length (places_of u key (store_of kept).boxes) + length (takers u key kept.base kept.timeline) ≡ 1
