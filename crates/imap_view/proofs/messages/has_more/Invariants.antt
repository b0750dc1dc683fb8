use Rattle.std.proofs.Common.{◌≡◌, ℕ, ◌<◌, ◌≤◌, drop, get_or, length}
use Rattle.verb_core.specs.declared.mailbox.Entry.{Entry}
use Rattle.imap_view.specs.declared.messages.Known.{Known}
use Rattle.imap_view.specs.Views.{AreBelow, has_more}
use Rattle.imap_view.proofs.messages.has_more.Given as goal

abbrev pub invariant-loop-entry : goal.invariant-loop-entry
invariant-loop-entry l = record {
  more : has_more (drop l.entry-index l.entries) l.view ≡ has_more l.entries l.view;
  within : l.at ≤ length l.view;
  below : (k : ℕ) (d : Entry) → l.entry-index ≤ k → k < length l.entries → AreBelow (λ (known : Known). known.uid) l.view (get_or l.entries k d).uid l.at;
}
