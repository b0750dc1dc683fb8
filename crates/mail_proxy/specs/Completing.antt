-- Completeness: where no call of the outside failed and an end came in time, the status that is due comes, or that of want of memory.
use Rattle.std.specs.Prelude.{Option}
use Rattle.undo_outside.specs.Calls.{Rose}
use Rattle.command_words.specs.declared.commands.Command.{Command}
use Rattle.mail_proxy.specs.Causes.{EndsLate, Outside}

-- No read of the text, no call of the disk, no `next` of the link and no write failed: no count rose.
pub record NoneFailed (old new : Outside) : Type 0 where
  pub text : Rose old.text.faults new.text.faults → ⊥
  pub link : Rose old.link.faults new.link.faults → ⊥
  pub reads : Rose old.disk.failed_reads new.disk.failed_reads → ⊥
  pub writes : Rose old.disk.failed_writes new.disk.failed_writes → ⊥
  pub out : Rose old.out.faults new.out.faults → ⊥

-- an end or a stop came within 2^40 events
abbrev pub EndsInTime : Option Command → Outside → Outside → Type 0
EndsInTime command old new = EndsLate command old new → ⊥
