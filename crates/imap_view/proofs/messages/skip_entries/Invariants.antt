use Rattle.std.proofs.Common.{length, ◌-◌, ◌≤◌}
use Rattle.verb_core.specs.declared.mailbox.Entry.{Entry}
use Rattle.imap_view.specs.Views.{AreBelow}
use Rattle.imap_view.proofs.messages.skip_entries.Given as goal

abbrev pub invariant-loop-at : goal.invariant-loop-at
invariant-loop-at l = record {
  within : l.at ≤ length l.entries;
  below : AreBelow (λ (e : Entry). e.uid) l.entries l.uid l.at;
}

abbrev pub decreases-loop-at : goal.decreases-loop-at
decreases-loop-at l = length l.entries - l.at
