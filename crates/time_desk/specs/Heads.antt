-- Records that stand in memory with an empty text, while their own lies on the disk.
use Rattle.std.specs.Prelude.{◌≡◌, ℕ, Bool, true, false, List, [], Some}
use Rattle.verb_core.specs.Deeds.{is_notice}
use Rattle.verb_bytes.specs.declared.journal.JournalRecord.{JournalRecord}
use Rattle.verb_bytes.specs.declared.journal.JournalRecord.TheVariants.{Verb, Kept}
use Rattle.verb_bytes.specs.Holes.{filled, own_text}
use Rattle.verb_bytes.specs.Places.{IsTextAt}
use Rattle.verb_bytes.specs.Spelling.{HasSpelling, record_bytes}
use Rattle.time_desk.specs.declared.heads.HeadOf.{HeadOf}

-- whether it has a notice, whose text is kept in memory
abbrev pub has_notice : JournalRecord → Bool
has_notice (Verb i) = is_notice i.deed
has_notice (Kept i) = is_notice i.deed
has_notice what = false

-- whether it has an item that was kept
abbrev pub brings_kept : JournalRecord → Bool
brings_kept (Kept i) = true
brings_kept what = false

-- the record that it is the head of
abbrev pub headed : HeadOf → JournalRecord
headed head = filled head.what head.text

-- with an empty text it has a spelling, and so it has with its own, which lies there; it has no notice
pub record IsHead (head : HeadOf) : Type 0 where
  pub bare : HasSpelling head.what
  pub empty : own_text head.what ≡ Some []
  pub plain : has_notice head.what ≡ false
  pub spelled : HasSpelling (headed head)
  pub lies : IsTextAt (record_bytes (headed head)) head.from head.text
