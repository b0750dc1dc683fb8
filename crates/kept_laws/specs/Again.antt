-- What a cut can record again of what a journal's records leave.
use Rattle.std.specs.Prelude.{◌≤◌}
use Rattle.std.specs.List.{AllByRecursion}
use Rattle.verb_core.specs.declared.item.Item.{Item}
use Rattle.verb_core.specs.declared.mailbox.BoxId.{BoxId}
use Rattle.verb_core.specs.declared.mailbox.Mailbox.{Mailbox}
use Rattle.verb_core.specs.Store.{MailStore}
use Rattle.verb_bytes.specs.declared.journal.JournalRecord.{JournalRecord}
use Rattle.verb_bytes.specs.declared.journal.JournalRecord.TheVariants.{Kept as KeptRecord}
use Rattle.verb_bytes.specs.Spelling.{HasSpelling, record_bytes}
use Rattle.seal_log.specs.Journal.{IsPayload}
use Rattle.mail_desk.specs.Counting.{bare_item}

-- the record takes no more bytes than a frame can hold, 4,294,967,295
abbrev pub HasFrame : JournalRecord → Type 0
HasFrame what = IsPayload (record_bytes what)

-- the Kept of the item without its text has a spelling
abbrev pub CanBeKeptAgain : Item → Type 0
CanBeKeptAgain i = HasSpelling (KeptRecord (bare_item i))

-- eight bytes hold the next UID of each mailbox
abbrev pub UidsFit : MailStore → Type 0
UidsFit s = AllByRecursion (λ (r : BoxId × Mailbox). r.1.next ≤ 18446744073709551615) s.boxes
