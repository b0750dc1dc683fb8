use Rattle.std.proofs.Common.{length, ◌-◌, ◌≤◌}
use Rattle.imap_view.specs.declared.messages.Known.{Known}
use Rattle.imap_view.specs.Views.{AreBelow}
use Rattle.imap_view.proofs.messages.skip_known.Given as goal

abbrev pub invariant-loop-at : goal.invariant-loop-at
invariant-loop-at l = record {
  within : l.at ≤ length l.view;
  below : AreBelow (λ (k : Known). k.uid) l.view l.uid l.at;
}

abbrev pub decreases-loop-at : goal.decreases-loop-at
decreases-loop-at l = length l.view - l.at
