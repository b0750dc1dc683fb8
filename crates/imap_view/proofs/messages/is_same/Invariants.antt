use Rattle.std.proofs.Common.{◌≡◌, drop}
use Rattle.std.specs.Cmp.Lexicographic.{pointwise}
use Rattle.imap_view.specs.Views.{is_message}
use Rattle.imap_view.proofs.messages.is_same.Given as goal

abbrev pub invariant-loop-place : goal.invariant-loop-place
invariant-loop-place l = pointwise is_message (drop l.place l.view) (drop l.place l.entries) ≡ pointwise is_message l.view l.entries
