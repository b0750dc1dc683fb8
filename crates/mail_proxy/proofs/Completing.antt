-- Where no call of the outside failed, the status that is due comes, or that of want of memory.
use Rattle.std.proofs.Common.{◌≡◌, ◌⊎◌, ℕ, List, Option, None, Some, Err, subst, inl, inr}
use Rattle.undo_outside.specs.Calls.{Rose, SinkTold, SourceTold}
use Rattle.undo_outside.specs.Disk.{ReadFailed, WriteFailed}
use Rattle.time_desk.specs.declared.fault.StartFault.TheVariants as start
use Rattle.time_desk.specs.Opening.{Starts}
use Rattle.command_words.specs.declared.commands.Command.{Command}
use Rattle.command_words.specs.declared.commands.Command.TheVariants.{Init, Serve, Script, Play, Grow, Check, Cut, Audit}
use Rattle.mail_proxy.specs.Causes.{Comes, EndsFailed, FailsAtFirst, Outside}
use Rattle.mail_proxy.specs.Completing.{EndsInTime, NoneFailed}
use Rattle.mail_proxy.specs.Due.{IsHindered}
use Rattle.base_cut.specs.Writing.{WriteFails}
use Rattle.mail_proxy.specs.Reading.{ReadFails}

read_rose : (old new : SourceTold) → ReadFails old new → Rose old.faults new.faults
read_rose old new (before, text, gave, failed) = subst (λ n. Rose n new.faults) gave.faults failed.1

write_rose : (old new : SinkTold) (bytes : List ℕ) → WriteFails old new bytes → Rose old.faults new.faults
write_rose old new bytes (front, back, is, more, before, took, failed) = subst (λ n. Rose n new.faults) took.faults failed.1

module _ (old new : Outside) (none : NoneFailed old new) where
  no_read : ReadFailed old.disk new.disk → ⊥
  no_read failed = none.reads failed.0

  no_write : WriteFailed old.disk new.disk → ⊥
  no_write failed = none.writes failed.0

  no_call : ReadFailed old.disk new.disk ⊎ WriteFailed old.disk new.disk → ⊥
  no_call (inl failed) = no_read failed
  no_call (inr failed) = no_write failed

  starts : Starts old.disk new.disk (Err start.Disk) → ⊥
  starts s = no_call s.counts

  at_first : (command : Option Command) → FailsAtFirst command old new → ⊥
  at_first None failed = absurd failed
  at_first (Some Init) (house, conf, (inl failed, finds_memory)) = no_read failed.0
  at_first (Some Init) (house, conf, (inr failed, finds_memory)) = no_write failed.1
  at_first (Some (Serve smtp imap http pop)) failed = starts failed.0
  at_first (Some Script) failed = starts failed
  at_first (Some Play) failed = absurd failed
  at_first (Some (Grow rounds)) failed = absurd failed
  at_first (Some Check) failed = starts failed
  at_first (Some (Cut point)) failed = starts failed
  at_first (Some Audit) failed = starts failed

  no_fault : (command : Option Command) → EndsFailed command old new → ⊥
  no_fault command (inl failed) = at_first command failed.0
  no_fault command (inr (inl (is, desk, failed, reads, line))) = no_write failed
  no_fault command (inr (inr (is, desk, inl (failed, line)))) = none.reads failed.0
  no_fault command (inr (inr (is, desk, inr (rose, short)))) = none.reads rose

  pub completes : (command : Option Command) (s k : ℕ) → Comes command old new s → EndsInTime command old new → (s ≡ k) ⊎ IsHindered s → (s ≡ k) ⊎ (s ≡ 8)
  completes command s k c time (inl e) = inl e
  completes command s k c time (inr (inl e)) = absurd (no_fault command (c.disk_fault e))
  completes command s k c time (inr (inr (inl e))) = absurd (none.text (read_rose old.text new.text (c.read_fault e).1))
  completes command s k c time (inr (inr (inr (inl e)))) = absurd (time (c.too_many e))
  completes command s k c time (inr (inr (inr (inr (inl e))))) = inr e
  completes command s k c time (inr (inr (inr (inr (inr (inl e)))))) = let failed = (c.write_fault e).2 in absurd (none.out (write_rose old.out new.out failed.0 failed.2))
  completes command s k c time (inr (inr (inr (inr (inr (inr e)))))) = absurd (none.link (c.link_fault e).2.0)
