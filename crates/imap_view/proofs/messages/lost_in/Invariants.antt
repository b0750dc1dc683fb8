use Rattle.std.proofs.Common.{◌≡◌, ℕ, ◌<◌, ◌≤◌, get_or, length, take}
use Rattle.verb_core.specs.declared.mailbox.Entry.{Entry}
use Rattle.imap_view.specs.declared.messages.Known.{Known}
use Rattle.imap_view.specs.Views.{AreBelow, lost_in}
use Rattle.imap_view.proofs.messages.lost_in.Given as goal

abbrev pub invariant-loop-place : goal.invariant-loop-place
invariant-loop-place l = record {
  lost : l.lost ≡ lost_in l.entries (take l.place l.view);
  within : l.at ≤ length l.entries;
  below : (k : ℕ) (d : Known) → l.place ≤ k → k < length l.view → AreBelow (λ (e : Entry). e.uid) l.entries (get_or l.view k d).uid l.at;
}
